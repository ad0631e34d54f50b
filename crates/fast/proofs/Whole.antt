-- A whole line. Assumes nothing.
use mathlib.Core.Path.{◌≡◌, refl, sym, ap, ◌∙◌}
use mathlib.Core.Bool.{Bool, true, false, cond, ◌||◌}
use mathlib.Core.Option.{Option, some, none, map, none-ne-some}
use mathlib.Core.List.{List, [], ◌∷◌, ◌++◌}
use Prim.Native.Nat.{ℕ, zero, suc, ◌*◌, ◌+◌, ◌-◌, ◌%◌, ◌<◌, ◌≤◌}
use native.Mathlib.Omega.{arith}
use borrow.Author.Tests.{le-ltb, ltb-true, eqb-true, eqb-false, leb-true}
use lib.Dec.{eqb, ltb, leb}
use lib.ListN.{length, get_or, take, length-append}
use lib.Seq.{take-take, take-nil, length-take-le}
use Rattle.std.specs.Prelude as rust
use Rattle.std.specs.Prelude.{None}
use Rattle.text.specs.Readers.{as_option, read_decimal, read_integer, read_word, upto, split, same, fields_from, end_from}
use Rattle.text.specs.Fields.{commas}
use Rattle.text.proofs.Answers.{first_field, no_field}
use Rattle.text.proofs.Joined.{join_split}
use Rattle.form.specs.Inner.Syntax.{Sort, number, integer, word, place, flag, Value, Values, sorts, names}
use Rattle.form.specs.Inner.Read.{first, both, kind_of, read_field, read_values, fields_say}
use Rattle.form.specs.Form.{form_of, formed}
use Rattle.form.specs.Inner.Parts.{shaped, shaped', named}
use Rattle.form.specs.declared.Kind.{Kind}
use Rattle.base.specs.Tests.{all}
use Rattle.form.proofs.Names.{named_is}
use Rattle.form.proofs.Shapes.{line_is, line_bad, not_ended, ended}
use Rattle.deck.proofs.Forms.{form_line_judged, line_law}
use Rattle.fast.specs.Inner.Fast.{only_order, order_said}
use Rattle.fast.specs.Inner.Packed.{pack}
use Rattle.form.specs.Inner.Names.{kind_code, coded}
use Rattle.fast.specs.Inner.Fields.{numeric, registers_of, bound_of, fields_packed}
use Rattle.fast.proofs.Fields.{none_left}
use Rattle.fast.proofs.Said.{says, nothing}

-- what a line says, by its form
by_form : (l : List ℕ) → order_said l ≡ only_order (form_line_judged false (form_of l))
by_form l = ap only_order (sym (line_law false l))

-- nothing is said
malformed : only_order (form_line_judged false None) ≡ none
unfolding form_line_judged
malformed = refl

unsaid : (l : List ℕ) → None ≡ form_of l → None ≡ as_option (map pack (order_said l))
unsaid l e = rw (by_form l, ← e, malformed)

-- ---- the first field

first_end : (s : List ℕ) → end_from s 0 ≡ upto s
unfolding end_from
first_end s = rw (le-ltb (length s) 0 (omega arith)) (omega arith)

-- the end among the first m bytes
near : (l : List ℕ) (m : ℕ) → upto l < m → upto (take m l) ≡ upto l
unfolding upto
near [] m h = rw (take-nil m)
near (c ∷ cs) zero h = absurd (omega arith)
near (c ∷ cs) (suc m) h = go (eqb c 44) h (near cs m)
  where
    go : (t : Bool) → cond t 0 (suc (upto cs)) < suc m → (upto cs < m → upto (take m cs) ≡ upto cs) → cond t 0 (suc (upto (take m cs))) ≡ cond t 0 (suc (upto cs))
    go true h r = refl
    go false h r = ap suc (r (omega arith))

far : (l : List ℕ) (m : ℕ) → m ≤ upto l → upto (take m l) ≡ m
unfolding upto
far l zero h = refl
far [] (suc m) h = absurd (omega arith)
far (c ∷ cs) (suc m) h = go (eqb c 44) h (far cs m)
  where
    go : (t : Bool) → suc m ≤ cond t 0 (suc (upto cs)) → (m ≤ upto cs → upto (take m cs) ≡ m) → cond t 0 (suc (upto (take m cs))) ≡ suc m
    go true h r = absurd (omega arith)
    go false h r = ap suc (r (omega arith))

module _ (l : List ℕ) (m e : ℕ) (he : e ≡ end_from l 0) where
  pub near_end : e < m → e ≡ end_from (take m l) 0
  near_end h =
      let z : e ≡ upto l = he ∙ first_end l in
      z ∙ sym (near l m (omega arith)) ∙ sym (first_end (take m l))

  pub far_end : m ≤ e → m ≡ end_from (take m l) 0
  far_end h =
      let z : e ≡ upto l = he ∙ first_end l in
      sym (far l m (omega arith)) ∙ sym (first_end (take m l))

module _ (s : List ℕ) (e : ℕ) (he : e ≡ end_from s 0) where
  pub body_said : fields_packed (coded (kind_of (take e s))) (fields_from s (e + 1)) ≡ map pack (only_order (form_line_judged false (formed (fields_say (split s)))))
  body_said = go (kind_of (take e s)) refl
    where
      go : (o : Option Kind) → kind_of (take e s) ≡ o → fields_packed (coded o) (fields_from s (e + 1)) ≡ map pack (only_order (form_line_judged false (formed (fields_say (split s)))))
      go none eo = rw (← line_bad s e he (ap named eo), malformed) (nothing (fields_from s (e + 1)) 255 (omega arith))
      go (some q) eo = rw (← line_is s e he q (ap named eo)) (says (fields_from s (e + 1)) q)

-- ---- no fields

nothing_behind : (c : ℕ) → fields_packed c [] ≡ none
unfolding fields_packed
nothing_behind c = rw (none_left (registers_of (c % 16)) (bound_of (c % 16))) (go (numeric (c % 16)) (ltb (c % 16) 7) (eqb (c % 16) 8))
  where
    go : (t u v : Bool) → cond {A = Option ℕ} t none (cond u none (cond v none none)) ≡ none
    go true u v = refl
    go false true v = refl
    go false false true = refl
    go false false false = refl

-- ---- a line of fewer than eight bytes says no order

nonempty : (q : Sort) → read_field q [] ≡ none
unfolding read_decimal read_integer read_word first same
nonempty number = refl
nonempty integer = refl
nonempty word = refl
nonempty place = refl
nonempty flag = refl

-- so each field has a byte, and a comma before it
has_bytes : (ss : List Sort) (fs : List (List ℕ)) (vs : Values ss) → read_values ss fs ≡ some vs → 2 * length ss ≤ length (commas fs)
unfolding read_values commas
has_bytes [] fs vs e = omega arith
has_bytes (q ∷ ss) [] vs e = absurd (none-ne-some vs e)
has_bytes (q ∷ ss) ([] ∷ fs) vs e = absurd (none-ne-some vs (rw (nonempty q) at e))
has_bytes (q ∷ ss) ((c ∷ f) ∷ fs) vs e = go (read_field q (c ∷ f)) (read_values ss fs) refl e (has_bytes ss fs)
  where
    go : (o : Option (Value q)) (p : Option (Values ss)) → read_values ss fs ≡ p → both o p ≡ some vs → ((ws : Values ss) → read_values ss fs ≡ some ws → 2 * length ss ≤ length (commas fs)) → 2 * suc (length ss) ≤ suc (suc (length (f ++ commas fs)))
    go none p ep e r = absurd (none-ne-some vs e)
    go (some v) none ep e r = absurd (none-ne-some vs e)
    go (some v) (some ws) ep e r = omega (arith, r ws ep, length-append f (commas fs))

-- an order's name and its fields have seven bytes
seven : all (λ m. leb 7 (length m.0 + 2 * length (sorts m.1)) || ltb 9 (kind_code m.1 % 16)) names ≡ true
seven = refl

module _ (s : List ℕ) (h : length s < 7) where
  abbrev first_word : List ℕ
  first_word = take (upto s) s

  abbrev rest : List (List ℕ)
  rest = fields_from s (upto s + 1)

  too_short : (q : Kind) → 7 ≤ length first_word + 2 * length (sorts q) → (vs : Values (sorts q)) → read_values (sorts q) rest ≡ some vs → ⊥
  too_short q g vs e =
      let j : first_word ++ commas rest ≡ s = join_split s first_word rest (first_field s) in
      let l : length (first_word ++ commas rest) ≡ length s = ap length j in
      omega (arith, has_bytes (sorts q) rest vs e, g, l, length-append first_word (commas rest))

  short_kind : (q : Kind) → kind_of first_word ≡ some q → fields_packed (kind_code q) rest ≡ none
  unfolding shaped
  short_kind q e = by (leb 7 (length first_word + 2 * length (sorts q))) refl (named_is (λ t k. leb 7 (length t + 2 * length (sorts k)) || ltb 9 (kind_code k % 16)) first_word names q seven e)
    where
      go : (o : Option (Values (sorts q))) → 7 ≤ length first_word + 2 * length (sorts q) → read_values (sorts q) rest ≡ o → map pack (only_order (form_line_judged false (shaped' q o))) ≡ none
      go none g f = ap (map pack) malformed
      go (some vs) g f = absurd (too_short q g vs f)

      by : (t : Bool) → leb 7 (length first_word + 2 * length (sorts q)) ≡ t → t || ltb 9 (kind_code q % 16) ≡ true → fields_packed (kind_code q) rest ≡ none
      by true f g = says rest q ∙ go (read_values (sorts q) rest) (leb-true 7 (length first_word + 2 * length (sorts q)) f) refl
      by false f g = nothing rest (kind_code q) (ltb-true 9 (kind_code q % 16) g)

  short_body : map pack (only_order (form_line_judged false (formed (fields_say (split s))))) ≡ none
  short_body = sym (body_said s (upto s) (sym (first_end s))) ∙ go (kind_of (take (upto s) s)) refl
    where
      go : (o : Option Kind) → kind_of (take (upto s) s) ≡ o → fields_packed (coded o) rest ≡ none
      go none e = nothing rest 255 (omega arith)
      go (some q) e = short_kind q e

-- ---- the ways through `order_in`

module _ (l : List ℕ) where
  pub short_line : length l < 8 → None ≡ as_option (map pack (order_said l))
  short_line h = go (eqb (get_or l (length l - 1) 0) 10) refl
    where
      go : (t : Bool) → eqb (get_or l (length l - 1) 0) 10 ≡ t → None ≡ as_option (map pack (order_said l))
      go true e =
          let k : length (take (length l - 1) l) < 7 = omega (arith, length-take-le (length l - 1) l (omega arith)) in
          rw (by_form l, ← (ended l (eqb-true (get_or l (length l - 1) 0) 10 e)), short_body (take (length l - 1) l) k)
      go false e = unsaid l (not_ended l (eqb-false (get_or l (length l - 1) 0) 10 e))

  module _ (m : ℕ) (hm : m ≡ length l - 1) where
    pub no_end : (get_or l m 0 ≡ 10 → ⊥) → None ≡ as_option (map pack (order_said l))
    no_end h = unsaid l (not_ended l (rw hm at h))

    module _ (h : 8 ≤ length l) (c : get_or l m 0 ≡ 10) (e : ℕ) (he : e ≡ end_from (take m l) 0) where
      part : m ≡ length (take m l)
      part = sym (length-take-le m l (omega arith))

      pub no_comma : m ≤ e → None ≡ as_option (map pack (order_said l))
      no_comma g =
          let b : fields_packed (coded (kind_of (take e (take m l)))) (fields_from (take m l) (e + 1)) ≡ none = rw (no_field (take m l) (e + 1) (omega (arith, part))) (nothing_behind (coded (kind_of (take e (take m l))))) in
          rw (by_form l, ← (ended l (rw hm at c)), ← hm, ← body_said (take m l) e he, b)

      module _ (g : e < m) where
        pub line_said : (k : ℕ) (r : rust.Option ℕ) → k ≡ coded (kind_of (take e l)) → r ≡ as_option (fields_packed k (fields_from (take m l) (e + 1))) → r ≡ as_option (map pack (order_said l))
        line_said k r ek er =
            let t : take e (take m l) ≡ take e l = take-take e m l (omega arith) in
            rw (by_form l, ← (ended l (rw hm at c)), ← hm, ← body_said (take m l) e he, t, ← ek) er

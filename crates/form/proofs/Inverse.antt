-- Reading a line's text gives the line back, and what reads to a line is its text.
use mathlib.Core.Path.{◌≡◌, refl, sym, ap, ◌∙◌, subst}
use mathlib.Core.Bool.{Bool, true, false, cond}
use mathlib.Core.Option
use mathlib.Core.Option.{Option, some, none, some-injective, none-ne-some}
use mathlib.Core.List.{List, [], ◌∷◌, ◌++◌, map}
use Prim.Native.Nat.{ℕ, suc, ◌-◌}
use native.Mathlib.Omega.{arith}
use borrow.Author.Tests.{eqb-true}
use lib.Dec.{eqb}
use lib.ListN.{length, get_or, take, length-append}
use lib.Seq.{take-suc, take_at, get_or_at, take_all}
use Rattle.ast.specs.declared.Place.TheVariants as Place
use Rattle.text.specs.Fields.{commas}
use Rattle.text.specs.Readers.{split, same}
use Rattle.text.proofs.Numerals.{decimal_back, decimal_read, integer_back, integer_read, word_back, word_read}
use Rattle.text.proofs.Answers.{first_field}
use Rattle.text.proofs.Joined.{free, all_free, split_join, join_split, free_decimal, free_integer, free_word, same_is}
use Rattle.form.specs.Inner.Syntax.{Sort, number, integer, word, place, flag, Value, Values, name, kinds, names, sorts, Syntax}
use Rattle.form.specs.Text.{place_name, flag_name}
use Rattle.form.specs.Inner.Read.{first, both, all_places, all_flags, kind_in, kind_of, read_field, read_values, with_values, read_kind, read_fields, read}
use Rattle.form.specs.declared.Kind.{Kind}
use Rattle.form.proofs.Names.{found_is, name_says}
use Rattle.form.proofs.SyntaxText.{field, fields, Holds, All, SyntaxFits, syntax_text}

-- ---- names

first_is : {A : Type 0} (f : A → List ℕ) (s : List ℕ) (xs : List A) (a : A) → first f s xs ≡ some a → s ≡ f a
unfolding first
first_is f s [] a e = absurd (none-ne-some a e)
first_is f s (x ∷ xs) a e = go (same s (f x)) refl e (first_is f s xs a)
  where
    go : (t : Bool) → same s (f x) ≡ t → cond t (some x) (first f s xs) ≡ some a → (first f s xs ≡ some a → s ≡ f a) → s ≡ f a
    go true h e r = same_is s (f x) h ∙ ap f (some-injective x a e)
    go false h e r = r e

-- each name is that of one kind, and has no comma
pub names_differ : (k : Kind) → (kind_of (name k) ≡ some k) × (free (name k) ≡ true)
names_differ k = let e = name_says k in (found_is (name k) names ∙ e.0, e.1)

-- the kind that s names is the first whose name is s
first_kind : (s : List ℕ) (ks : List Kind) → kind_in s (map (λ k. (name k, k)) ks) ≡ first name s ks
unfolding first
first_kind s [] = refl
first_kind s (k ∷ ks) = by (same s (name k)) (first_kind s ks)
  where
    by : (t : Bool) → kind_in s (map (λ j. (name j, j)) ks) ≡ first name s ks → Option.map (λ (m : List ℕ × Kind). m.1) (cond t (some (name k, k)) (first (λ (m : List ℕ × Kind). m.0) s (map (λ j. (name j, j)) ks))) ≡ cond t (some k) (first name s ks)
    by true e = refl
    by false e = e

pub kind_first : (s : List ℕ) → kind_of s ≡ first name s kinds
kind_first s = first_kind s kinds

-- ---- fields

pub field_back : (s : Sort) (v : Value s) → Holds s v → read_field s (field s v) ≡ some v
unfolding first same
field_back number n h = decimal_back n
field_back integer z h = integer_back z
field_back word n h = word_back n h
field_back place Place.Mem h = refl
field_back place Place.Stack h = refl
field_back place Place.Param h = refl
field_back flag false h = refl
field_back flag true h = refl

pub field_read : (s : Sort) (f : List ℕ) (v : Value s) → read_field s f ≡ some v → Holds s v × (field s v ≡ f)
field_read number f n e = (tt, decimal_read f n e)
field_read integer f z e = (tt, integer_read f z e)
field_read word f n e = word_read f n e
field_read place f p e = (tt, sym (first_is place_name f all_places p e))
field_read flag f b e = (tt, sym (first_is flag_name f all_flags b e))

pub field_free : (s : Sort) (v : Value s) → free (field s v) ≡ true
field_free number n = free_decimal n
field_free integer z = free_integer z
field_free word n = free_word n
field_free place Place.Mem = refl
field_free place Place.Stack = refl
field_free place Place.Param = refl
field_free flag false = refl
field_free flag true = refl

fields_free : (ss : List Sort) (vs : Values ss) → all_free (fields ss vs) ≡ true
fields_free [] vs = refl
fields_free (s ∷ ss) vs = rw (field_free s vs.0, fields_free ss vs.1)

values_back : (ss : List Sort) (vs : Values ss) → All ss vs → read_values ss (fields ss vs) ≡ some vs
unfolding read_values
values_back [] vs h = refl
values_back (s ∷ ss) vs h = rw (field_back s vs.0 h.0, values_back ss vs.1 h.1)

values_read : (ss : List Sort) (fs : List (List ℕ)) (vs : Values ss) → read_values ss fs ≡ some vs → All ss vs × (fields ss vs ≡ fs)
unfolding read_values
values_read [] [] vs e = (tt, refl)
values_read [] (f ∷ fs) vs e = absurd (none-ne-some vs e)
values_read (s ∷ ss) [] vs e = absurd (none-ne-some vs e)
values_read (s ∷ ss) (f ∷ fs) vs e = go (read_field s f) (read_values ss fs) refl refl e (values_read ss fs)
  where
    go : (o : Option (Value s)) (q : Option (Values ss)) → read_field s f ≡ o → read_values ss fs ≡ q → both o q ≡ some vs → ((ws : Values ss) → read_values ss fs ≡ some ws → All ss ws × (fields ss ws ≡ fs)) → (Holds s vs.0 × All ss vs.1) × (field s vs.0 ∷ fields ss vs.1 ≡ f ∷ fs)
    go none q g h e r = absurd (none-ne-some vs e)
    go (some a) none g h e r = absurd (none-ne-some vs e)
    go (some a) (some b) g h e r =
        let p : (a, b) ≡ vs = some-injective (a, b) vs e in
        let x = field_read s f vs.0 (g ∙ ap (λ (w : Value s × Values ss). some w.0) p) in
        let y = r vs.1 (h ∙ ap (λ (w : Value s × Values ss). some w.1) p) in
        ((x.0, y.0), rw (x.1, y.1))

-- ---- lines

pub read_text : (l : Syntax) → SyntaxFits l → read (syntax_text l) ≡ some l
unfolding read syntax_text
read_text l h =
    let b = name l.kind ++ commas (fields (sorts l.kind) l.values) in
    let n : length (b ++ (10 ∷ [])) - 1 ≡ length b = omega (arith, length-append b (10 ∷ [])) in
    let k = names_differ l.kind in
    rw (n, get_or_at b 10 [] 0 (length b) refl, take_at b (10 ∷ []) (length b) refl, split_join (name l.kind) (fields (sorts l.kind) l.values) k.1 (fields_free (sorts l.kind) l.values), k.0, values_back (sorts l.kind) l.values h)

ended : (s : List ℕ) → get_or s (length s - 1) 0 ≡ 10 → take (length s - 1) s ++ (10 ∷ []) ≡ s
ended [] e = absurd (omega arith)
ended (c ∷ cs) e =
    let n : suc (length cs) - 1 ≡ length cs = omega arith in
    let g : get_or (c ∷ cs) (length cs) 0 ≡ 10 = rw n at e in
    let t : take (suc (length cs)) (c ∷ cs) ≡ take (length cs) (c ∷ cs) ++ (10 ∷ []) = take-suc (c ∷ cs) (length cs) 0 (omega arith) ∙ rw g in
    rw n (sym t ∙ take_all (suc (length cs)) (c ∷ cs) (omega arith))

kind_read : (f : List ℕ) (fs : List (List ℕ)) (l : Syntax) → read_kind (kind_of f) fs ≡ some l → SyntaxFits l × (name l.kind ++ commas (fields (sorts l.kind) l.values) ≡ f ++ commas fs)
kind_read f fs l e = go (kind_of f) refl e
  where
    done : (k : Kind) (o : Option (Values (sorts k))) → f ≡ name k → read_values (sorts k) fs ≡ o → with_values k o ≡ some l → SyntaxFits l × (name l.kind ++ commas (fields (sorts l.kind) l.values) ≡ f ++ commas fs)
    done k none n v e = absurd (none-ne-some l e)
    done k (some vs) n v e =
        let r = values_read (sorts k) fs vs v in
        subst (λ (m : Syntax). SyntaxFits m × (name m.kind ++ commas (fields (sorts m.kind) m.values) ≡ f ++ commas fs)) (some-injective (record { kind = k; values = vs }) l e) (r.0, rw (r.1, n))

    go : (o : Option Kind) → kind_of f ≡ o → read_kind o fs ≡ some l → SyntaxFits l × (name l.kind ++ commas (fields (sorts l.kind) l.values) ≡ f ++ commas fs)
    go none h e = absurd (none-ne-some l e)
    go (some k) h e = done k (read_values (sorts k) fs) (first_is name f kinds k (sym (kind_first f) ∙ h)) refl e

pub text_read : (s : List ℕ) (l : Syntax) → read s ≡ some l → SyntaxFits l × (syntax_text l ≡ s)
unfolding read syntax_text
text_read s l e = go (eqb (get_or s (length s - 1) 0) 10) refl e (first_field (take (length s - 1) s))
  where
    go : {f : List ℕ} {fs : List (List ℕ)} (t : Bool) → eqb (get_or s (length s - 1) 0) 10 ≡ t → cond t (read_fields (split (take (length s - 1) s))) none ≡ some l → split (take (length s - 1) s) ≡ f ∷ fs → SyntaxFits l × (syntax_text l ≡ s)
    go {f} {fs} true h e g =
        let r = kind_read f fs l (rw g at e) in
        (r.0, rw (r.1, join_split (take (length s - 1) s) f fs g) (ended s (eqb-true (get_or s (length s - 1) 0) 10 h)))
    go {f} {fs} false h e g = absurd (none-ne-some l e)

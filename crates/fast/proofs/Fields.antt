-- Operands packed into one number, field by field. Assumes nothing.
use mathlib.Core.Path.{◌≡◌, refl, sym, ap, subst, ◌∙◌}
use mathlib.Core.Bool.{Bool, true, false, cond, ◌&&◌}
use mathlib.Core.Option.{Option, some, none, map, some-injective, none-ne-some}
use mathlib.Core.List.{List, [], ◌∷◌, append-nil}
use Prim.Native.Nat.{ℕ, zero, suc, ◌*◌, ◌/◌, ◌%◌, ◌+◌, ◌-◌, ◌^◌, ◌<◌, ◌≤◌}
use native.Mathlib.Nat.{mul-add, mul_assoc, mul-le-mul_left}
use native.Mathlib.Omega.{arith}
use borrow.Author.Tests.{eqb-true, lt-ltb, le-ltb, ltb-true, ltb-false, leb-true, leb-false, eq-eqb, ne_eqb}
use lib.Dec.{eqb, ltb, leb}
use lib.ListN.{length, take, drop, length-drop}
use Rattle.base.proofs.Tested.{tested}
use Rattle.std.specs.Prelude as rust
use Rattle.std.specs.Prelude.{Some, None}
use Rattle.std.proofs.lemmas.Option.{cond_some}
use Rattle.text.specs.Inner.Short.{below as small, short_of, short, near_number, near}
use Rattle.text.specs.Fields.{commas, onto as join_first}
use Rattle.text.specs.Readers.{as_option, split, upto, field, fields_from, end_from}
use Rattle.text.proofs.Answers.{as_some, as_none, field_is, next_is, no_field, first_field}
use Rattle.text.proofs.Joined.{join_split}
use Rattle.text.proofs.Once.{end_is, first as first_at, part, upto_within}
use Rattle.text.proofs.Short.{one_field, short_read, no_bytes}
use Rattle.ast.specs.declared.Place.{Place}
use Rattle.form.specs.Inner.Syntax.{flag}
use Rattle.form.specs.Text.{place_name}
use Rattle.form.specs.Inner.Read.{first, all_places, read_values}
use Rattle.form.specs.Inner.Parts.{only, placed, flagged}
use Rattle.fast.specs.Inner.Packed.{place_number, flag_number, below}
use Rattle.fast.specs.Inner.Fields.{bounded, register_read, onto, last, operands, numbers_packed, numeric, registers_of, bound_of, behind, with_place, cell, with_flag, branch, fields_packed}

-- ---- the shapes, as the bits of a constant

as_numbers : (t u : Bool) → eqb (cond t 1 0) (cond u 1 0) ≡ true → t ≡ u
as_numbers true true e = refl
as_numbers true false e = absurd (let z : ◌≡◌ {A = ℕ} 0 1 = cc in omega (arith, z))
as_numbers false true e = absurd (let z : ◌≡◌ {A = ℕ} 0 1 = cc in omega (arith, z))
as_numbers false false e = refl

pub shape_bit : (k : ℕ) → k < 16 → eqb (0x29f / 2 ^ k % 2) 1 ≡ numeric k
shape_bit k h = as_numbers (eqb (0x29f / 2 ^ k % 2) 1) (numeric k) (tested (λ i. eqb (cond (eqb (0x29f / 2 ^ i % 2) 1) 1 0) (cond (numeric i) 1 0)) 16 k refl h)

pub shape_registers : (k : ℕ) → k < 16 → (0x43e9 / 2 ^ (2 * k) % 4 ≡ registers_of k) × (0x43e9 / 2 ^ (2 * k) % 4 ≤ 3)
shape_registers k h = (eqb-true _ _ (tested (λ i. eqb (0x43e9 / 2 ^ (2 * i) % 4) (registers_of i)) 16 k refl h), omega arith)

-- 32 doubled by four bits of a constant; 16 less for shape 7
abbrev pub doubled : ℕ → ℕ
doubled k = (32 * 2 ^ (0x5555555557770000 / 2 ^ (4 * k) % 16)) % 2 ^ 64

shape_bound : (k : ℕ) → k < 16 → cond (eqb k 7) (doubled k - 16) (doubled k) ≡ bound_of k
shape_bound k h = eqb-true _ _ (tested (λ i. eqb (cond (eqb i 7) (doubled i - 16) (doubled i)) (bound_of i)) 16 k refl h)

bound_within : (k : ℕ) → bound_of k ≤ 4096
bound_within k = go (ltb k 7) (ltb k 4) (eqb k 7)
  where
    go : (t u v : Bool) → cond t (cond u 32 4096) (cond v 1008 1024) ≤ 4096
    go true true v = omega arith
    go true false v = omega arith
    go false u true = omega arith
    go false u false = omega arith

pub bound_fits : (k : ℕ) → bound_of k ≤ 10000
bound_fits k = omega (arith, bound_within k)

pub doubled_seven : (k : ℕ) → k ≡ 7 → 16 ≤ doubled k
doubled_seven k e = rw e (omega arith)

-- by whether the shape is 7
by_seven : (k : ℕ) (t : Bool) → k < 16 → eqb k 7 ≡ t → (cond t (doubled k - 16) (doubled k) ≡ bound_of k) × (cond t (doubled k - 16) (doubled k) ≤ 4096)
by_seven k t h e = let b = ap (λ (u : Bool). cond u (doubled k - 16) (doubled k)) (sym e) ∙ shape_bound k h in (b, omega (arith, b, bound_within k))

pub constant_bound : (k : ℕ) → k < 16 → k ≡ 7 → (doubled k - 16 ≡ bound_of k) × (doubled k - 16 ≤ 4096)
constant_bound k h e = by_seven k true h (eq-eqb k 7 e)

pub other_bound : (k : ℕ) → k < 16 → (k ≡ 7 → ⊥) → (doubled k ≡ bound_of k) × (doubled k ≤ 4096)
other_bound k h e = by_seven k false h (ne_eqb k 7 e)

-- ---- the last field

module _ (b x : ℕ) where
  pub bounded_no : b ≤ x → bounded b x ≡ none
  bounded_no h = rw (le-ltb x b h)

pub last_small : (b : ℕ) (fs : List (List ℕ)) (y : ℕ) → last b fs ≡ some y → y < b
last_small b [] y e = absurd (none-ne-some y e)
last_small b (f ∷ []) y e = go (ltb (short_of f) b) refl e
  where
    go : (t : Bool) → ltb (short_of f) b ≡ t → cond t (some (short_of f)) none ≡ some y → y < b
    go true h e = let z = some-injective (short_of f) y e in rw (← z) (ltb-true (short_of f) b h)
    go false h e = absurd (none-ne-some y e)
last_small b (f ∷ g ∷ fs) y e = absurd (none-ne-some y e)

module _ (t : List ℕ) (b x : ℕ) (e : x ≡ short_of t) (h : b ≤ 10000) where
  last_split : last b (split t) ≡ bounded b x
  unfolding commas
  last_split = go (split t) refl
    where
      two : (f g : List ℕ) (gs : List (List ℕ)) (u : Bool) → ltb x 10000 ≡ u → split t ≡ f ∷ g ∷ gs → none ≡ bounded b x
      two f g gs true l k =
          let d = one_field t x (rw e (short_read t (rw e at (ltb-true x 10000 l)))) in
          absurd (let z : ◌≡◌ {A = ℕ} 0 1 = cc in omega arith)
      two f g gs false l k = sym (bounded_no b x (omega (arith, ltb-false x 10000 l)))

      go : (fs : List (List ℕ)) → split t ≡ fs → last b fs ≡ bounded b x
      go [] k = absurd (let n = first_field t in let z : ◌≡◌ {A = ℕ} 0 1 = cc in omega arith)
      go (f ∷ []) k =
          let i : f ≡ t = sym (append-nil f) ∙ join_split t f [] k in
          rw (i, ← e)
      go (f ∷ g ∷ gs) k = two f g gs (ltb x 10000) refl k

few : (n x : ℕ) → small 10000 n ≡ Some x → x ≡ n
few n x e = sym (cond_some (ltb n 10000) n x e).1

many : (n : ℕ) → small 10000 n ≡ None → 10000 ≤ n
many n e = go (ltb n 10000) refl e
  where
    go : (t : Bool) → ltb n 10000 ≡ t → cond t (Some n) None ≡ None → 10000 ≤ n
    go true h f = absurd (let z : ◌≡◌ {A = ℕ} 0 1 = cc in omega arith)
    go false h f = ltb-false n 10000 h

module _ (s : List ℕ) (a b : ℕ) (h : a ≤ length s) (g : b ≤ 10000) where
  abbrev its : ℕ
  its = short_of (take (length s - a) (drop a s))

  last_is : operands 0 b (fields_from s a) ≡ bounded b its
  unfolding operands fields_from
  last_is = rw (le-ltb (length s) a h) (last_split (drop a s) b its (rw (part s a h)) g)

  pub last_none : small 10000 its ≡ None → None ≡ as_option (operands 0 b (fields_from s a))
  last_none e = rw (last_is, bounded_no b its (omega (arith, many its e)))

  module _ (x : ℕ) (e : small 10000 its ≡ Some x) where
    pub last_yes : x < b → Some x ≡ as_option (operands 0 b (fields_from s a))
    last_yes l = rw (last_is, ← (few its x e), lt-ltb x b l)

    pub last_no : b ≤ x → None ≡ as_option (operands 0 b (fields_from s a))
    last_no l = rw (last_is, ← (few its x e), le-ltb x b l)

pub last_below : (s : List ℕ) (a b z : ℕ) → as_option (operands 0 b (fields_from s a)) ≡ Some z → z < b
unfolding operands
last_below s a b z e = last_small b (fields_from s a) z (as_some (operands 0 b (fields_from s a)) z e)

-- ---- one field and those behind it

module _ (s : List ℕ) (a e : ℕ) (he : e ≡ end_from s a) (hs : a ≤ e) where
  -- a field that ends at a comma
  pub comma : e < length s → fields_from s a ≡ take (e - a) (drop a s) ∷ fields_from s (e + 1)
  comma hl = field_is s a (omega arith) ∙ rw (next_is s a (omega arith), ← he)

  -- the last one, or none
  no_more : length s ≤ e → (a ≤ length s) → fields_from s a ≡ take (e - a) (drop a s) ∷ []
  no_more hl h = field_is s a h ∙ rw (next_is s a h, ← he, no_field s (e + 1) (omega arith))

  pub too_few : {X : Type 0} (f : List (List ℕ) → X) (n : X) → length s ≤ e → f [] ≡ n → ((g : List ℕ) → f (g ∷ []) ≡ n) → f (fields_from s a) ≡ n
  too_few f n hl p q = go (ltb (length s) a) refl
    where
      go : (t : Bool) → ltb (length s) a ≡ t → f (fields_from s a) ≡ n
      go true h = rw (no_field s a (ltb-true (length s) a h)) p
      go false h = rw (no_more hl (ltb-false (length s) a h)) (q _)

pub onto_none : (x : ℕ) → onto x none ≡ none
onto_none x = go (ltb x 32)
  where
    go : (t : Bool) → cond t (map (below x) none) none ≡ none
    go true = refl
    go false = refl

pub none_left : (k b : ℕ) → operands k b [] ≡ none
unfolding operands
none_left zero b = refl
none_left (suc k) b = refl

-- ---- a field and its comma, within three bytes or more

module _ (s : List ℕ) (a : ℕ) (h : a ≤ length s) where
  -- any field
  field_at : fields_from s a ≡ field (drop a s) ∷ fields_from s (a + upto (drop a s) + 1)
  field_at = first_at s a h ∙ rw (next_is s a h, end_is s a h)

-- what has no answer for such fields: no field, one alone, a first that is no register, a last one that is empty
module _ (f : List (List ℕ) → Option ℕ) (p : f [] ≡ none) (q : (g : List ℕ) → f (g ∷ []) ≡ none) (r : (g : List ℕ) (gs : List (List ℕ)) → 32 ≤ short_of g → f (g ∷ gs) ≡ none)
    (t : (g : List ℕ) → f (g ∷ [] ∷ []) ≡ none) where
  empty_first : (gs : List (List ℕ)) → f ([] ∷ gs) ≡ none
  empty_first gs = r [] gs (omega (arith, no_bytes [] refl))

  two_bytes : (s : List ℕ) → length s ≤ 2 → f (split s) ≡ none
  unfolding split
  two_bytes [] h = q []
  two_bytes (c ∷ []) h = go (eqb c 44)
    where
      go : (u : Bool) → f (cond u ([] ∷ [] ∷ []) ((c ∷ []) ∷ [])) ≡ none
      go true = empty_first ([] ∷ [])
      go false = q (c ∷ [])
  two_bytes (c ∷ d ∷ []) h = go (eqb c 44) (eqb d 44)
    where
      go : (u v : Bool) → f (cond u ([] ∷ cond v ([] ∷ [] ∷ []) ((d ∷ []) ∷ [])) (join_first c (cond v ([] ∷ [] ∷ []) ((d ∷ []) ∷ [])))) ≡ none
      go true v = empty_first _
      go false true = t (c ∷ [])
      go false false = q (c ∷ d ∷ [])
  two_bytes (c ∷ d ∷ e ∷ s) h = absurd (omega arith)

  few_bytes : (s : List ℕ) (a : ℕ) → length s < a + 3 → f (fields_from s a) ≡ none
  unfolding fields_from
  few_bytes s a h = go (ltb (length s) a) refl
    where
      go : (u : Bool) → ltb (length s) a ≡ u → f (cond u [] (split (drop a s))) ≡ none
      go true e = p
      go false e = two_bytes (drop a s) (omega (arith, length-drop a s, ltb-false (length s) a e))

  not_near : (s : List ℕ) (a : ℕ) → 32 ≤ near_number s a → f (fields_from s a) ≡ none
  unfolding near_number
  not_near s a h = go (leb (a + 3) (length s)) (ltb (end_from s a) (length s)) (ltb (short_of (field (drop a s))) 100) refl refl refl h
    where
      first : 32 ≤ short_of (field (drop a s)) → a + 3 ≤ length s → f (fields_from s a) ≡ none
      first g l = rw (field_at s a (omega arith)) (r _ _ g)

      go : (u v w : Bool) → leb (a + 3) (length s) ≡ u → ltb (end_from s a) (length s) ≡ v → ltb (short_of (field (drop a s))) 100 ≡ w → 32 ≤ cond (u && (v && w)) (short_of (field (drop a s))) 100 → f (fields_from s a) ≡ none
      go false v w eu ev ew g = few_bytes s a (leb-false (a + 3) (length s) eu)
      go true false w eu ev ew g =
          let k = leb-true (a + 3) (length s) eu in
          too_few s a (end_from s a) refl (omega (arith, end_is s a (omega arith))) f none (ltb-false (end_from s a) (length s) ev) p q
      go true true false eu ev ew g = first (omega (arith, ltb-false (short_of (field (drop a s))) 100 ew)) (leb-true (a + 3) (length s) eu)
      go true true true eu ev ew g = first g (leb-true (a + 3) (length s) eu)

-- as `near_field` has it
pub near_parts : (s : List ℕ) (a x e : ℕ) → near s a ≡ Some (x, e) → (x ≡ near_number s a) × (e ≡ end_from s a) × (near_number s a < 100)
near_parts s a x e h =
    let g = cond_some (ltb (near_number s a) 100) (near_number s a, end_from s a) (x, e) h in
    (sym (ap (λ (p : ℕ × ℕ). p.0) g.1), sym (ap (λ (p : ℕ × ℕ). p.1) g.1), ltb-true (near_number s a) 100 g.0)

pub near_within : (s : List ℕ) (a : ℕ) → near_number s a < 100 → (a + 3 ≤ length s) × (end_from s a < length s) × (near_number s a ≡ short_of (field (drop a s)))
unfolding near_number
near_within s a h = go (leb (a + 3) (length s)) (ltb (end_from s a) (length s)) (ltb (short_of (field (drop a s))) 100) refl refl h
  where
    go : (u v w : Bool) → leb (a + 3) (length s) ≡ u → ltb (end_from s a) (length s) ≡ v → cond (u && (v && w)) (short_of (field (drop a s))) 100 < 100
        → (a + 3 ≤ length s) × (end_from s a < length s) × (cond (u && (v && w)) (short_of (field (drop a s))) 100 ≡ short_of (field (drop a s)))
    go true true true eu ev g = (leb-true (a + 3) (length s) eu, ltb-true (end_from s a) (length s) ev, refl)
    go true true false eu ev g = absurd (omega arith)
    go true false w eu ev g = absurd (omega arith)
    go false v w eu ev g = absurd (omega arith)

pub far_number : (s : List ℕ) (a : ℕ) → near s a ≡ None → 100 ≤ near_number s a
far_number s a e = go (ltb (near_number s a) 100) refl e
  where
    go : (t : Bool) → ltb (near_number s a) 100 ≡ t → cond {A = rust.Option (ℕ × ℕ)} t (Some (near_number s a, end_from s a)) None ≡ None → 100 ≤ near_number s a
    go true h f = absurd (let z : ◌≡◌ {A = ℕ} 0 1 = cc in omega arith)
    go false h f = ltb-false (near_number s a) 100 h

-- no register
pub not_register : (s : List ℕ) (a : ℕ) → register_read s a ≡ None → 32 ≤ near_number s a
not_register s a e = go (ltb (near_number s a) 32) refl e
  where
    go : (t : Bool) → ltb (near_number s a) 32 ≡ t → cond {A = rust.Option (ℕ × ℕ)} t (Some (near_number s a, end_from s a + 1)) None ≡ None → 32 ≤ near_number s a
    go true h f = absurd (let z : ◌≡◌ {A = ℕ} 0 1 = cc in omega arith)
    go false h f = ltb-false (near_number s a) 32 h

-- a register, and the fields behind it
module _ (s : List ℕ) (a x b : ℕ) (e : register_read s a ≡ Some (x, b)) where
  parts : (ltb (near_number s a) 32 ≡ true) × (◌≡◌ {A = ℕ × ℕ} (near_number s a, end_from s a + 1) (x, b))
  parts = cond_some (ltb (near_number s a) 32) (near_number s a, end_from s a + 1) (x, b) e

  its_number : x ≡ near_number s a
  its_number = sym (ap (λ (p : ℕ × ℕ). p.0) parts.1)

  behind_it : b ≡ end_from s a + 1
  behind_it = sym (ap (λ (p : ℕ × ℕ). p.1) parts.1)

  pub register_small : x < 32
  register_small = omega (arith, its_number, ltb-true (near_number s a) 32 parts.0)

  is_near : (a + 3 ≤ length s) × (end_from s a < length s) × (near_number s a ≡ short_of (field (drop a s)))
  is_near = near_within s a (omega (arith, its_number, register_small))

  register_is : x ≡ short_of (field (drop a s))
  register_is = its_number ∙ is_near.2

  pub register_within : b ≤ length s
  register_within = omega (arith, behind_it, is_near.1)

  near_first : fields_from s a ≡ field (drop a s) ∷ fields_from s b
  near_first =
      let g : a ≤ length s = omega (arith, is_near.0) in
      rw (behind_it, end_is s a g) (field_at s a g)

-- ---- the loop over registers

-- no scale is above this, where so many registers are left
abbrev pub most : ℕ → ℕ
most zero = 32768
most (suc left) = most left / 32

most_first : (n : ℕ) → n ≤ 3 → 1 ≤ most n
most_first zero h = omega arith
most_first (suc zero) h = omega arith
most_first (suc (suc zero)) h = omega arith
most_first (suc (suc (suc zero))) h = omega arith
most_first (suc (suc (suc (suc n)))) h = absurd (omega arith)

pub most_of_all : (n : ℕ) → most n ≤ 32768
most_of_all zero = omega arith
most_of_all (suc n) = omega (arith, most_of_all n)

pub product : (left scale x : ℕ) → scale ≤ most left → x < 4096 → scale * x ≤ 134184960
product left scale x h g =
    let a : scale * x ≤ scale * 4095 = mul-le-mul_left scale (omega arith) in
    omega (arith, most_of_all left)

-- the operands behind `at`, with the sum below them
abbrev joined : (sum scale : ℕ) → Option ℕ → Option ℕ
joined sum scale o = map (λ y. sum + scale * y) o

first_joined : (o : Option ℕ) → o ≡ joined 0 1 o
first_joined none = refl
first_joined (some y) = ap some (omega arith)

next_joined : (sum scale x : ℕ) (o : Option ℕ) → joined sum scale (map (below x) o) ≡ joined (sum + scale * x) (scale * 32) o
next_joined sum scale x none = refl
next_joined sum scale x (some y) = ap some (ap (λ (z : ℕ). sum + z) (mul-add scale x (32 * y)) ∙ omega (arith, mul_assoc scale 32 y))

abbrev pub Through : (s : List ℕ) (a n b at left scale sum : ℕ) → Type 0
Through s a n b at left scale sum =
    (operands n b (fields_from s a) ≡ joined sum scale (operands left b (fields_from s at))) × (scale ≤ most left) × (sum < scale) × (at ≤ length s)

module _ (s : List ℕ) (a n b : ℕ) where
  pub starts : (r : ℕ) → r ≡ n → r ≤ 3 → a ≤ length s → Through s a n b a r 1 0
  starts r e h g = (ap (λ (k : ℕ). operands k b (fields_from s a)) (sym e) ∙ first_joined (operands r b (fields_from s a)), most_first r h, omega arith, g)

  module _ (at left scale sum : ℕ) (c : Through s a n b at left scale sum) where
    pub goes_on : (x next : ℕ) → 0 < left → register_read s at ≡ Some (x, next) → Through s a n b next (left - 1) (scale * 32) (sum + scale * x)
    unfolding operands
    goes_on x next l e = go left c l
      where
        step : (k : ℕ) → operands (suc k) b (fields_from s at) ≡ map (below x) (operands k b (fields_from s next))
        step k = rw (near_first s at x next e, ← (register_is s at x next e), lt-ltb x 32 (register_small s at x next e))

        go : (k : ℕ) → Through s a n b at k scale sum → 0 < k → Through s a n b next (k - 1) (scale * 32) (sum + scale * x)
        go zero c l = absurd (omega arith)
        go (suc k) c l =
            let z : k ≡ suc k - 1 = omega arith in
            let y : scale * x ≤ scale * 31 = mul-le-mul_left scale (omega (arith, register_small s at x next e)) in
            subst (λ (j : ℕ). Through s a n b next j (scale * 32) (sum + scale * x)) z
            (c.0 ∙ rw (step k) (next_joined sum scale x (operands k b (fields_from s next))), omega (arith, c.1), omega (arith, c.2), register_within s at x next e)

    -- no operand, and so no number
    stops : operands left b (fields_from s at) ≡ none → operands n b (fields_from s a) ≡ none
    stops e = rw (c.0, e)

    pub no_register : b ≤ 10000 → 0 < left → register_read s at ≡ None → operands n b (fields_from s a) ≡ none
    unfolding operands
    no_register g l e = stops (go left l)
      where
        empty_last : (k : ℕ) (f : List ℕ) → operands (suc k) b (f ∷ [] ∷ []) ≡ none
        empty_last zero f = rw (bounded_no b (short_of []) (omega (arith, no_bytes [] refl))) (onto_none (short_of f))
        empty_last (suc k) f = rw (le-ltb (short_of []) 32 (omega (arith, no_bytes [] refl))) (onto_none (short_of f))

        go : (k : ℕ) → 0 < k → operands k b (fields_from s at) ≡ none
        go zero l = absurd (omega arith)
        go (suc k) l =
            not_near (operands (suc k) b) refl (λ f. rw (none_left k b) (onto_none (short_of f))) (λ f fs i. rw (le-ltb (short_of f) 32 i)) (empty_last k)
            s at (not_register s at e)

    module _ (l : left ≤ 0) where
      at_last : (o : Option ℕ) → operands 0 b (fields_from s at) ≡ o → operands n b (fields_from s a) ≡ joined sum scale o
      at_last o e = let z : left ≡ 0 = omega arith in c.0 ∙ rw (z, e)

      pub ends : (y : ℕ) → as_option (operands 0 b (fields_from s at)) ≡ Some y → operands n b (fields_from s a) ≡ some (sum + scale * y)
      ends y e = at_last (some y) (as_some (operands 0 b (fields_from s at)) y e)

      pub ends_badly : as_option (operands 0 b (fields_from s at)) ≡ None → operands n b (fields_from s a) ≡ none
      ends_badly e = at_last none (as_none (operands 0 b (fields_from s at)) e)

-- ---- numbers alone

-- none, or some behind a code
pub none_behind : (k : ℕ) (o : Option ℕ) → o ≡ none → None ≡ as_option (behind k o)
none_behind k o e = rw e

pub some_behind : (k x : ℕ) (o : Option ℕ) → o ≡ some x → Some (k + 256 * x) ≡ as_option (behind k o)
some_behind k x o e = rw e

-- the ways through `order_of`
module _ (c : ℕ) (fs : List (List ℕ)) (r : rust.Option ℕ) where
  pub is_numbers : numeric (c % 16) ≡ true → r ≡ as_option (behind c (numbers_packed (c % 16) fs)) → r ≡ as_option (fields_packed c fs)
  unfolding fields_packed
  is_numbers n e = rw n e

  module _ (n : numeric (c % 16) ≡ false) where
    pub is_cell : c % 16 < 7 → r ≡ as_option (cell c fs) → r ≡ as_option (fields_packed c fs)
    unfolding fields_packed
    is_cell h e = rw (n, lt-ltb (c % 16) 7 h) e

    pub is_branch : 7 ≤ c % 16 → c % 16 ≡ 8 → r ≡ as_option (branch c fs) → r ≡ as_option (fields_packed c fs)
    unfolding fields_packed
    is_branch g h e = rw (n, le-ltb (c % 16) 7 g, eq-eqb (c % 16) 8 h) e

    pub is_other : 7 ≤ c % 16 → (c % 16 ≡ 8 → ⊥) → None ≡ as_option (fields_packed c fs)
    unfolding fields_packed
    is_other g h = rw (n, le-ltb (c % 16) 7 g, ne_eqb (c % 16) 8 h)

-- ---- a cell, a branch: two fields that end at commas, and the last

none_there : (c : ℕ) (o : Option Place) → with_place c o none ≡ none
none_there c none = refl
none_there c (some p) = refl

none_flagged : (c : ℕ) (o : Option Bool) → with_flag c o none ≡ none
none_flagged c none = refl
none_flagged c (some b) = refl

module _ (s : List ℕ) (a c : ℕ) where
  module _ (h : register_read s a ≡ None) where
    pub cell_early : None ≡ as_option (cell c (fields_from s a))
    cell_early = rw (not_near (cell c) refl (λ g. refl) far (λ f. rw (onto_none (short_of f)) (none_there c (first place_name [] all_places))) s a (not_register s a h))
      where
        far : (f : List ℕ) (fs : List (List ℕ)) → 32 ≤ short_of f → cell c (f ∷ fs) ≡ none
        far f [] i = refl
        far f (g ∷ fs) i = rw (le-ltb (short_of f) 32 i) (none_there c (first place_name g all_places))

    pub branch_early : None ≡ as_option (branch c (fields_from s a))
    unfolding read_values
    branch_early = rw (not_near (branch c) refl (λ g. refl) far (λ f. refl) s a (not_register s a h))
      where
        far : (f : List ℕ) (fs : List (List ℕ)) → 32 ≤ short_of f → branch c (f ∷ fs) ≡ none
        far f [] i = refl
        far f (g ∷ fs) i = rw (le-ltb (short_of f) 32 i) (none_flagged c (only flag fs))

  module _ (x b : ℕ) (h : register_read s a ≡ Some (x, b)) where
    abbrev one : List ℕ
    one = field (drop a s)

    before : fields_from s a ≡ one ∷ fields_from s b
    before = near_first s a x b h

    onto_it : (o : Option ℕ) → onto (short_of one) o ≡ map (below x) o
    onto_it o = rw (← (register_is s a x b h), lt-ltb x 32 (register_small s a x b h))

    -- the second field ends at f
    module _ (f : ℕ) (hf : f ≡ end_from s b) (hb : b ≤ f) where
      abbrev two : List ℕ
      two = take (f - b) (drop b s)

      pub cell_short : length s ≤ f → None ≡ as_option (cell c (fields_from s a))
      cell_short l =
          let z : cell c (one ∷ fields_from s b) ≡ none = too_few s b f hf hb (λ gs. cell c (one ∷ gs)) none l refl (λ g. rw (onto_none (short_of one)) (none_there c (first place_name g all_places))) in
          rw (before, z)

      module _ (hm : f < length s) where
        fields : fields_from s a ≡ one ∷ two ∷ fields_from s (f + 1)
        fields = before ∙ rw (comma s b f hf hb hm)

        pub cell_no_place : placed (first place_name two all_places) ≡ None → None ≡ as_option (cell c (fields_from s a))
        cell_no_place e = rw (fields, as_none (first place_name two all_places) e)

        module _ (p : Place) (ep : placed (first place_name two all_places) ≡ Some p) where
          with_it : cell c (fields_from s a) ≡ behind (c + 16 * place_number p) (map (below x) (operands 0 4096 (fields_from s (f + 1))))
          unfolding operands
          with_it = rw (fields, as_some (first place_name two all_places) p ep, onto_it (last 4096 (fields_from s (f + 1))))

          pub cell_no_last : as_option (operands 0 4096 (fields_from s (f + 1))) ≡ None → None ≡ as_option (cell c (fields_from s a))
          cell_no_last e = rw (with_it, as_none (operands 0 4096 (fields_from s (f + 1))) e)

          pub cell_is : (y k : ℕ) → as_option (operands 0 4096 (fields_from s (f + 1))) ≡ Some y → k ≡ place_number p → Some (c + 16 * k + 256 * (x + 32 * y)) ≡ as_option (cell c (fields_from s a))
          cell_is y k e ek = rw (with_it, as_some (operands 0 4096 (fields_from s (f + 1))) y e, ek)

    -- the second field is read up to its end
    module _ (m : rust.Option ℕ × ℕ) (em : m ≡ short (take (length s - b) (drop b s))) where
      there : b ≤ length s
      there = register_within s a x b h

      label_is : m.0 ≡ small 10000 (short_of (field (drop b s)))
      label_is = ap (λ (p : rust.Option ℕ × ℕ). p.0) em ∙ ap (λ (l : List ℕ). small 10000 (short_of (field l))) (part s b there)

      stop_of : m.1 ≡ upto (drop b s)
      stop_of = ap (λ (p : rust.Option ℕ × ℕ). p.1) em ∙ ap upto (part s b there)

      pub stop_fits : b + m.1 ≤ length s
      stop_fits = omega (arith, stop_of, upto_within (drop b s), length-drop b s, there)

      both : fields_from s a ≡ one ∷ field (drop b s) ∷ fields_from s (b + m.1 + 1)
      both = before ∙ rw (field_at s b there, stop_of)

      great : 1024 ≤ short_of (field (drop b s)) → None ≡ as_option (branch c (fields_from s a))
      great l = rw (both, le-ltb (short_of (field (drop b s))) 1024 l, onto_none (short_of one), none_flagged c (only flag (fields_from s (b + m.1 + 1))))

      pub branch_no_number : m.0 ≡ None → None ≡ as_option (branch c (fields_from s a))
      branch_no_number e = great (omega (arith, many (short_of (field (drop b s))) (sym label_is ∙ e)))

      module _ (y : ℕ) (ey : m.0 ≡ Some y) where
        its_label : y ≡ short_of (field (drop b s))
        its_label = few (short_of (field (drop b s))) y (sym label_is ∙ ey)

        pub branch_no_label : 1024 ≤ y → None ≡ as_option (branch c (fields_from s a))
        branch_no_label l = great (omega (arith, its_label))

        pub branch_no_flag : flagged (only flag (fields_from s (b + m.1 + 1))) ≡ None → None ≡ as_option (branch c (fields_from s a))
        branch_no_flag e = rw (both, as_none (only flag (fields_from s (b + m.1 + 1))) e)

        pub branch_is : (k : ℕ) (e : Bool) → y < 1024 → flagged (only flag (fields_from s (b + m.1 + 1))) ≡ Some e → k ≡ flag_number e → Some (c + 16 * k + 256 * (x + 32 * y)) ≡ as_option (branch c (fields_from s a))
        branch_is k e l ee ek =
            rw (both, as_some (only flag (fields_from s (b + m.1 + 1))) e ee, ek, ← its_label, lt-ltb y 1024 l, onto_it (some y))

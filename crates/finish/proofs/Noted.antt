-- A jump noted in the memory is one more behind the others, with its tag; those before it stay. Assumes nothing.
use mathlib.Core.Path.{◌≡◌, refl, sym, ap, ◌∙◌}
use mathlib.Core.List.{List, [], ◌∷◌, ◌++◌, append_assoc}
use Prim.Native.Nat.{ℕ, zero, suc, ◌+◌, ◌*◌, ◌≤◌, ◌<◌}
use native.Mathlib.Omega.{arith}
use native.Mathlib.Numerals.{add-one}
use lib.ListN.{length, get_or, take, drop, get_or-append}
use lib.Seq.{sets, sets-eq, get_or-append-add, length-take-le, get_or-take}
use Rattle.assembler.specs.Memory.{Jump, jump_at, tag_at, jumps_of}
use Rattle.assembler.proofs.Tags.{tags_of}

jumps_last : (m : List ℕ) (i n : ℕ) → jumps_of m i (suc n) ≡ jumps_of m i n ++ (jump_at m (i + n) ∷ [])
unfolding jumps_of
jumps_last m i zero = let z : i + 0 ≡ i = omega arith in rw z
jumps_last m i (suc n) =
    let d : i + 1 + n ≡ i + suc n = omega arith in
    ap (λ (js : List Jump). jump_at m i ∷ js) (jumps_last m (i + 1) n ∙ ap (λ (x : ℕ). jumps_of m (i + 1) n ++ (jump_at m x ∷ [])) d)

tags_last : (m : List ℕ) (i n : ℕ) → tags_of m i (suc n) ≡ tags_of m i n ++ (tag_at m (i + n) ∷ [])
unfolding tags_of
tags_last m i zero = let z : i + 0 ≡ i = omega arith in rw z
tags_last m i (suc n) =
    let d : i + 1 + n ≡ i + suc n = omega arith in
    ap (λ (xs : List ℕ). tag_at m i ∷ xs) (tags_last m (i + 1) n ∙ ap (λ (x : ℕ). tags_of m (i + 1) n ++ (tag_at m x ∷ [])) d)

module _ (m : List ℕ) (n p l r k t : ℕ) (room : 5 * n + 5 ≤ length m) where
  abbrev five : List ℕ
  five = p ∷ l ∷ r ∷ k ∷ t ∷ []

  abbrev after : List ℕ
  after = sets m (5 * n) five

  before : List ℕ
  before = take (5 * n) m

  shape : after ≡ before ++ (five ++ drop (5 * n + 5) m)
  unfolding before
  shape = sets-eq five m (5 * n) room ∙ append_assoc (take (5 * n) m) five (drop (5 * n + 5) m)

  long : length before ≡ 5 * n
  unfolding before
  long = length-take-le (5 * n) m (omega arith)

  -- a number below those of the jump
  below : (x : ℕ) → x < 5 * n → get_or after x 0 ≡ get_or m x 0
  unfolding before
  below x h =
      ap (λ (y : List ℕ). get_or y x 0) shape ∙ get_or-append before (five ++ drop (5 * n + 5) m) 0 x (omega (arith, long)) ∙ get_or-take (5 * n) m x 0 h

  at : (j : ℕ) → get_or after (5 * n + j) 0 ≡ get_or (five ++ drop (5 * n + 5) m) j 0
  at j =
      ap (λ (y : List ℕ). get_or y (5 * n + j) 0) shape
      ∙ ap (λ (x : ℕ). get_or (before ++ (five ++ drop (5 * n + 5) m)) (x + j) 0) (sym long)
      ∙ get_or-append-add before (five ++ drop (5 * n + 5) m) j 0

  pub jump_new : jump_at after n ≡ record { word = p; label = l; reg = r; kind = k }
  jump_new =
      let z : 5 * n ≡ 5 * n + 0 = omega arith in
      let a0 : get_or after (5 * n) 0 ≡ p = ap (λ (x : ℕ). get_or after x 0) z ∙ at 0 in
      rw (a0, at 1, at 2, at 3)

  pub tag_new : tag_at after n ≡ t
  tag_new = at 4

  jump_old : (i : ℕ) → i < n → jump_at after i ≡ jump_at m i
  jump_old i h = rw (below (5 * i) (omega arith), below (5 * i + 1) (omega arith), below (5 * i + 2) (omega arith), below (5 * i + 3) (omega arith))

  jumps_old : (i c : ℕ) → i + c ≤ n → jumps_of after i c ≡ jumps_of m i c
  unfolding jumps_of
  jumps_old i zero h = refl
  jumps_old i (suc c) h = ap (λ (j : Jump). j ∷ jumps_of after (i + 1) c) (jump_old i (omega arith)) ∙ ap (λ (js : List Jump). jump_at m i ∷ js) (jumps_old (i + 1) c (omega arith))

  tags_old : (i c : ℕ) → i + c ≤ n → tags_of after i c ≡ tags_of m i c
  unfolding tags_of
  tags_old i zero h = refl
  tags_old i (suc c) h = ap (λ (x : ℕ). x ∷ tags_of after (i + 1) c) (below (5 * i + 4) (omega arith)) ∙ ap (λ (xs : List ℕ). tag_at m i ∷ xs) (tags_old (i + 1) c (omega arith))

  pub jumps_noted : jumps_of after 0 (n + 1) ≡ jumps_of m 0 n ++ (record { word = p; label = l; reg = r; kind = k } ∷ [])
  jumps_noted =
      let z : 0 + n ≡ n = omega arith in
      rw (add-one n) (jumps_last after 0 n ∙ ap (λ (js : List Jump). js ++ (jump_at after (0 + n) ∷ [])) (jumps_old 0 n (omega arith)) ∙ ap (λ (x : ℕ). jumps_of m 0 n ++ (jump_at after x ∷ [])) z ∙ ap (λ (j : Jump). jumps_of m 0 n ++ (j ∷ [])) jump_new)

  pub tags_noted : tags_of after 0 (n + 1) ≡ tags_of m 0 n ++ (t ∷ [])
  tags_noted =
      let z : 0 + n ≡ n = omega arith in
      rw (add-one n) (tags_last after 0 n ∙ ap (λ (xs : List ℕ). xs ++ (tag_at after (0 + n) ∷ [])) (tags_old 0 n (omega arith)) ∙ ap (λ (x : ℕ). tags_of m 0 n ++ (tag_at after x ∷ [])) z ∙ ap (λ (x : ℕ). tags_of m 0 n ++ (x ∷ [])) tag_new)

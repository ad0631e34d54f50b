-- The table of names: every row has its instruction's name. One test over the whole table, and what it says at each row. Assumes nothing.
use mathlib.Core.Path.{◌≡◌, refl, sym, ap, ◌∙◌}
use mathlib.Core.Bool.{Bool, true, ◌&&◌}
use mathlib.Core.List.{List, [], ◌∷◌, map}
use Prim.Native.Nat.{ℕ, zero, suc, ◌+◌, ◌*◌, ◌-◌, ◌<◌, ◌≤◌}
use native.Mathlib.Omega.{arith}
use borrow.Author.Tests.{leb-true}
use lib.Dec.{leb}
use lib.ListN.{length, get_or, take, drop, length-drop, get_or-map}
use lib.Seq.{length-take-le, drop-drop}
use Rattle.isa.specs.Instr.{Instr, R, F, C, M, R4, I, Shift, S, B, U, J, ADD}
use Rattle.encoder.specs.Table.{rows, row_of, bare}
use Rattle.text.specs.Ascii.{bytes}
use Rattle.base.proofs.Bools.{both}
use Rattle.print.specs.Listing.{name}
use Rattle.print.specs.Inner.Listing.{names, lengths, name_at}

abbrev name_bytes : Instr → List ℕ
name_bytes i = bytes (name i)

-- eight bytes for each length, of which so many count
abbrev chunks : (ls ns : List ℕ) → List (List ℕ)
chunks [] ns = []
chunks (l ∷ ls) ns = take l ns ∷ chunks ls (drop 8 ns)

-- the test, computed
table : map name_bytes rows ≡ chunks lengths names
table = refl

chunk_at : (ls ns : List ℕ) (n : ℕ) (d : List ℕ) → n < length ls → get_or (chunks ls ns) n d ≡ take (get_or ls n 0) (drop (8 * n) ns)
chunk_at [] ns n d h = absurd (omega arith)
chunk_at (l ∷ ls) ns zero d h = refl
chunk_at (l ∷ ls) ns (suc n) d h =
    let e : 8 + 8 * n ≡ 8 * suc n = omega arith in
    chunk_at ls (drop 8 ns) n d (omega arith) ∙ ap (take (get_or ls n 0)) (drop-drop (8 * n) 8 ns ∙ ap (λ (k : ℕ). drop k ns) e)

bare_name : (i : Instr) → name (bare i) ≡ name i
bare_name (R k d a b) = refl
bare_name (F k d a b m) = refl
bare_name (C k d a m) = refl
bare_name (M k d a) = refl
bare_name (R4 k d a b c m) = refl
bare_name (I k d a z) = refl
bare_name (Shift k d a z) = refl
bare_name (S k a b z) = refl
bare_name (B k a b z) = refl
bare_name (U k d z) = refl
bare_name (J k d z) = refl

pub named : (row : ℕ) (i : Instr) → row < 53 → row_of row ≡ bare i → name_at row ≡ bytes (name i)
unfolding name_at
named row i h e =
    let d : List ℕ = name_bytes (R ADD 0 0 0) in
    sym (chunk_at lengths names row d h) ∙ ap (λ (l : List (List ℕ)). get_or l row d) (sym table) ∙ get_or-map name_bytes rows row (R ADD 0 0 0)
    ∙ ap name_bytes e ∙ ap bytes (bare_name i)

-- ---- lengths

abbrev all_short : List ℕ → Bool
all_short [] = true
all_short (l ∷ ls) = leb l 8 && all_short ls

each_short : (ls : List ℕ) (n : ℕ) → all_short ls ≡ true → get_or ls n 0 ≤ 8
each_short [] n e = omega arith
each_short (l ∷ ls) zero e = leb-true l 8 (both (leb l 8) (all_short ls) e).0
each_short (l ∷ ls) (suc n) e = each_short ls n (both (leb l 8) (all_short ls) e).1

pub length_short : (row : ℕ) → get_or lengths row 0 ≤ 8
length_short row = each_short lengths row refl

pub length_name : (row : ℕ) → row < 53 → length (name_at row) ≡ get_or lengths row 0
unfolding name_at
length_name row h =
    let s = length_short row in
    let d = length-drop (8 * row) names in
    length-take-le (get_or lengths row 0) (drop (8 * row) names) (omega arith)

-- the part of the table from byte a up to byte e
pub name_part : (table : List ℕ) (row k : ℕ) → table ≡ names → k ≡ get_or lengths row 0 → take (8 * row + k - 8 * row) (drop (8 * row) table) ≡ name_at row
unfolding name_at
name_part table row k t e =
    let p : 8 * row + k - 8 * row ≡ get_or lengths row 0 = omega arith in
    rw (t, p)

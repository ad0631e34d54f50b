-- The table's rule: every base word is the encoding of its row. One test over the whole table, and what it says at each entry. Assumes nothing.
use mathlib.Core.Path.{◌≡◌, refl, ap, ◌∙◌}
use mathlib.Core.List.{List, [], ◌∷◌, map}
use Prim.Native.Nat.{ℕ, zero, suc, ◌<◌}
use native.Mathlib.Omega.{arith}
use lib.ListN.{length, get_or}
use Rattle.isa.specs.Encode.{encode, fields, join}
use Rattle.encoder.specs.Table.{rows, row_of}

abbrev pub bases : List ℕ
bases =
    0x00000033 ∷ 0x40000033 ∷ 0x00001033 ∷ 0x00004033 ∷ 0x00005033 ∷ 0x40005033 ∷ 0x00006033 ∷ 0x00007033 ∷
    0x22000053 ∷ 0x22001053 ∷ 0x22002053 ∷ 0x2a000053 ∷ 0x2a001053 ∷ 0xa2000053 ∷ 0xa2001053 ∷ 0xa2002053 ∷
    0x02000053 ∷ 0x0a000053 ∷ 0x12000053 ∷ 0x1a000053 ∷ 0x5a000053 ∷ 0xc2000053 ∷ 0xc2200053 ∷ 0xd2000053 ∷
    0xd2200053 ∷ 0xe2000053 ∷ 0xf2000053 ∷ 0x02000043 ∷ 0x02000047 ∷ 0x0200004b ∷ 0x0200004f ∷ 0x00000013 ∷
    0x00004013 ∷ 0x00006013 ∷ 0x00007013 ∷ 0x00000067 ∷ 0x00003003 ∷ 0x00003007 ∷ 0x0000001b ∷ 0x00001013 ∷ 0x00005013 ∷
    0x40005013 ∷ 0x00003023 ∷ 0x00003027 ∷ 0x00000063 ∷ 0x00001063 ∷ 0x00004063 ∷ 0x00005063 ∷ 0x00006063 ∷
    0x00007063 ∷ 0x00000037 ∷ 0x00000017 ∷ 0x0000006f ∷ []

-- the test, computed
table : bases ≡ map encode rows
unfolding encode fields join
table = refl

-- an entry of a mapped list
module _ {A : Type 0} (f : A → ℕ) (d : A) where
  at : (l : List A) (n : ℕ) → n < length l → get_or (map f l) n 0 ≡ f (get_or l n d)
  at [] n h = absurd (omega arith)
  at (x ∷ xs) zero h = refl
  at (x ∷ xs) (suc n) h = at xs n (omega arith)

pub base_word : (n : ℕ) → n < 53 → get_or bases n 0 ≡ encode (row_of n)
base_word n h = ap (λ (l : List ℕ). get_or l n 0) table ∙ at encode _ rows n h

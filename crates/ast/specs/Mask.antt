-- Preserved float registers of a mask, and the stack cells that hold them (document 01, "mod.rs, frames").
use Rattle.std.specs.Prelude.{Bool, true, not, ◌&&◌, ◌||◌, cond, List, [], ◌∷◌, map, ℕ, ◌-◌, ◌/◌, ◌%◌, ◌^◌, eqb, ltb, leb}
use Rattle.base.specs.Tests.{any, member}
use Rattle.ast.specs.declared.Place.{Place}
use Rattle.ast.specs.declared.Place.TheVariants.{Mem, Stack, Param}

-- fs0..fs11
abbrev pub preserved : List ℕ
preserved = 8 ∷ 9 ∷ 18 ∷ 19 ∷ 20 ∷ 21 ∷ 22 ∷ 23 ∷ 24 ∷ 25 ∷ 26 ∷ 27 ∷ []

-- bit r of the mask is set
abbrev pub in_mask : (mask r : ℕ) → Bool
in_mask mask r = eqb (mask / 2 ^ r % 2) 1

-- those that pass the test
abbrev pub chosen : (ℕ → Bool) → List ℕ → List ℕ
chosen p [] = []
chosen p (r ∷ rs) = cond (p r) (r ∷ chosen p rs) (chosen p rs)

-- the registers that are saved, upward; other bits of the mask do nothing
unfoldable pub saved : (mask : ℕ) → List ℕ
saved mask = chosen (in_mask mask) preserved

-- f8, f9 go to stack cells 4, 5 and f18..f27 to 6..15
abbrev pub save_cell : ℕ → ℕ
save_cell r = cond (ltb r 18) (r - 4) (r - 12)

-- one of fs0..fs11, by its number
abbrev pub is_preserved : ℕ → Bool
is_preserved r = (leb 8 r && leb r 9) || (leb 18 r && leb r 27)

-- the mask has a preserved register
unfoldable pub saves : (mask : ℕ) → Bool
saves mask = any (in_mask mask) preserved

-- a register that isn't preserved, or is in the mask
abbrev pub free : (mask r : ℕ) → Bool
free mask r = not (member r preserved) || in_mask mask r

-- no saved register's cell
abbrev pub open_cell : (mask : ℕ) → Place → ℕ → Bool
open_cell mask Mem i = true
open_cell mask Stack i = not (member i (map save_cell (saved mask)))
open_cell mask Param i = true

-- Saves and reloads of a mask are valid instructions.
use mathlib.Core.Path.{refl}
use mathlib.Core.List.{List, [], ◌∷◌, map, Memᴰ}
use Prim.Native.Nat.{ℕ}
use native.Mathlib.Omega.{arith}
use lib.Dec.{T}
use Rattle.isa.specs.Instr.{Instr}
use Rattle.isa.proofs.Validity.{Valid}
use Rattle.accesses.proofs.Collect.{AllValid}
use Rattle.ast.specs.Mask.{saved}
use Rattle.frame_code.specs.Items.{save, reload}
use Rattle.frame_code.proofs.Rows.{proper, saved_proper, proper_fits}

-- an instruction for each of a mask's registers, valid where each is for a register that is saved
list_valid : (f : ℕ → Instr) → ((r : ℕ) → T (proper r) → Valid (f r)) → (rs : List ℕ) → ((r : ℕ) → Memᴰ r rs → T (proper r)) → AllValid (map f rs)
list_valid f v [] g = tt
list_valid f v (r ∷ rs) g = (v r (g r (Memᴰ.head refl)), list_valid f v rs (λ q m. g q (Memᴰ.tail m)))

pub save_list_valid : (mask : ℕ) → AllValid (map save (saved mask))
save_list_valid mask = list_valid save (λ r h. omega (arith, proper_fits r h)) (saved mask) (saved_proper mask)

pub reload_list_valid : (mask : ℕ) → AllValid (map reload (saved mask))
reload_list_valid mask = list_valid reload (λ r h. omega (arith, proper_fits r h)) (saved mask) (saved_proper mask)

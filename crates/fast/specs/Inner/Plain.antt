-- Orders of instructions alone.
use Rattle.std.specs.Prelude.{◌≡◌, Bool, true, ◌&&◌, not, ℕ, ◌%◌, eqb, leb}
use Rattle.ast.specs.Uses.{saves_hold}
use Rattle.ast.specs.declared.Head.{Head}
use Rattle.assembler.specs.declared.Asm.{Asm}
use Rattle.fast.specs.Inner.Packed.{unpacked}

-- open, and sound but for its room
abbrev pub ready : Asm → Bool
ready a = not a.closed && (eqb (a.len % 4) 0 && leb a.jumps 4096)

-- what 11 asks of an order's number
abbrev pub Kept : Head → (q : ℕ) → Type 0
Kept H q = saves_hold H.mask (unpacked q) ≡ true

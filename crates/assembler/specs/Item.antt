-- What orders, accesses and frames are made of, piece by piece, in the order of the code.
use Rattle.std.specs.Prelude.{ℕ}
use Rattle.isa.specs.Instr.{Instr}
use Rattle.assembler.specs.declared.JumpKind.{JumpKind}

pub data Item : Type 0 where
  instr : Instr → Item  -- an instruction's word
  raw : ℕ → Item  -- a word of a constant
  jump : JumpKind → (label reg : ℕ) → Item  -- a zero word that finishing fills in
  label : ℕ → Item  -- a label at the place reached; no word

-- The plain reading of small decks on IEEE 754 binary64, computed, with what document 01 gives by hand.
use mathlib.Core.Path.{◌≡◌, refl}
use mathlib.Core.Bool.{true}
use mathlib.Core.List.{[], ◌∷◌}
use Prim.Native.Nat.{ℕ}
use lib.ListN.{get_or}
use Rattle.machine.specs.Word.{upd}
use Rattle.machine.specs.Floats.{one}
use Rattle.machine.proofs.Binary64.{binary64}
use Rattle.ast.specs.declared.Place.TheVariants.{Mem, Stack}
use Rattle.ast.specs.declared.Unary.TheVariants.{Recip}
use Rattle.ast.specs.declared.Binary.TheVariants.{Gt, Times}
use Rattle.ast.specs.declared.Order.TheVariants.{Unary, Binary, Ifelse, LoadConst, Load, Save, BranchIf, SetLabel}
use Rattle.ast.specs.declared.Constant.TheVariants.{Bits}
use Rattle.ast.specs.declared.Frame.TheVariants.{Fast}
use Rattle.reading.specs.Meaning.{meaning, binary, unary, choose}
use Rattle.reading.specs.Line.{order, constant}
use Rattle.reading.specs.Program.{Program, constants, label_line}
use Rattle.reading.specs.Plain.{Reading, with_cell, does, passes, Reads, none_read, line_read}

abbrev two : ℕ
two = 0x4000000000000000

abbrev three : ℕ
three = 0x4008000000000000

-- ---- the larger of two: `fast,0,2,0,0,0`, then

abbrev pub larger : Program
larger =
    record {
      head = record { frame = Fast; cap = 0; states = 2; obs = 0; last = 0; mask = 0 };
      lines =
          order (Load 0 Mem 0)  -- get,0,mem,0
          ∷ order (Load 1 Mem 1)  -- get,1,mem,1
          ∷ order (Binary Gt 2 0 1)  -- gt,2,0,1
          ∷ order (BranchIf 2 7 true)  -- branch,2,7,1
          ∷ order (Save 1 Mem 0)  -- put,1,mem,0
          ∷ order (SetLabel 7)  -- label,7
          ∷ [];
    }

abbrev at : Program → (a b : ℕ) → Reading
at p a b = record { line = 0; f = λ r. 0; rm = 0; cells = λ q i. get_or (a ∷ b ∷ []) i 0; obs = λ x. 0 }

-- what the reading comes to, by its orders in turn: the line, f2 and the first cell of `mem`
pub record Read (p : Program) (r : Reading) (n line f2 cell : ℕ) : Type 0 where
  pub end : Reading
  pub reads : Reads binary64 p r n end
  pub line_is : end.line ≡ line
  pub f2_is : end.f 2 ≡ f2
  pub cell_is : end.cells Mem 0 ≡ cell

-- 2.0 isn't above 3.0: the branch is passed, and 5 orders are read
pub smaller_first : Read larger (at larger two three) 5 6 0 three
unfolding meaning binary label_line with_cell upd binary64
smaller_first =
    record {
      end = _;
      reads = line_read refl (does refl) (line_read refl (does refl) (line_read refl (does refl) (line_read refl (does refl) (line_read refl (does refl) (line_read refl (does refl) none_read)))));
      line_is = refl;
      f2_is = refl;
      cell_is = refl;
    }

-- 3.0 is above 2.0: the branch goes to its label, past `put`, and 4 orders are read
pub larger_first : Read larger (at larger three two) 4 6 0xffffffffffffffff three
unfolding meaning binary label_line with_cell upd binary64
larger_first =
    record {
      end = _;
      reads = line_read refl (does refl) (line_read refl (does refl) (line_read refl (does refl) (line_read refl (does refl) (line_read refl (does refl) none_read))));
      line_is = refl;
      f2_is = refl;
      cell_is = refl;
    }

-- ---- a constant, which may come behind its order: `fast,0,1,0,0,0`, then

abbrev pub scaled : Program
scaled =
    record {
      head = record { frame = Fast; cap = 0; states = 1; obs = 0; last = 0; mask = 0 };
      lines =
          order (LoadConst 1 0)  -- load_const,1,0
          ∷ order (Load 0 Mem 0)  -- get,0,mem,0
          ∷ order (Binary Times 2 0 1)  -- times,2,0,1
          ∷ constant (Bits 0x3ff8000000000000)  -- bits,3ff8000000000000
          ∷ order (Save 2 Mem 0)  -- put,2,mem,0
          ∷ [];
    }

-- 2.0 × 1.5, in 4 orders
pub scaled_two : Read scaled (at scaled two 0) 4 5 three three
unfolding meaning binary constants with_cell upd binary64
scaled_two =
    record {
      end = _;
      reads = line_read refl (does refl) (line_read refl (does refl) (line_read refl (does refl) (line_read refl passes (line_read refl (does refl) none_read))));
      line_is = refl;
      f2_is = refl;
      cell_is = refl;
    }

-- ---- bits of a stack cell choose, and `recip` of f10: `fast,1,2,0,0,0`, then

abbrev pub chosen : Program
chosen =
    record {
      head = record { frame = Fast; cap = 1; states = 2; obs = 0; last = 0; mask = 0 };
      lines =
          order (Load 10 Mem 0)  -- get,10,mem,0
          ∷ order (Load 1 Mem 1)  -- get,1,mem,1
          ∷ order (Binary Gt 2 1 10)  -- gt,2,1,10
          ∷ order (Save 2 Stack 0)  -- put,2,stack,0
          ∷ order (Ifelse 3 1 10 0)  -- ifelse,3,1,10,0
          ∷ order (Save 3 Mem 0)  -- put,3,mem,0
          ∷ order (Unary Recip 2 10)  -- recip,2,10
          ∷ [];
    }

-- 3.0 is above 2.0, so all bits are 3.0's; `recip` has put 1.0 into f10 before it divides
pub chosen_two : Read chosen (at chosen two three) 7 7 one three
unfolding meaning binary unary choose with_cell upd binary64
chosen_two =
    record {
      end = _;
      reads = line_read refl (does refl) (line_read refl (does refl) (line_read refl (does refl) (line_read refl (does refl) (line_read refl (does refl) (line_read refl (does refl) (line_read refl (does refl) none_read))))));
      line_is = refl;
      f2_is = refl;
      cell_is = refl;
    }

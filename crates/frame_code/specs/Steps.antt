-- The words that the two frame ends run, by line 1 and a1.
use Rattle.std.specs.Prelude.{cond, ℕ, ◌+◌, ◌*◌, eqb, leb, pos, length}
use Rattle.isa.specs.Register.{t1, t2}
use Rattle.ast.specs.Mask.{saved}
use Rattle.ast.specs.declared.Frame.{Frame}
use Rattle.ast.specs.declared.Frame.TheVariants.{Fast, Indirect}
use Rattle.ast.specs.declared.Head.{Head}
use Rattle.accesses.specs.Code.{li_code, sub_stack_code, allocate_stack_code}
use Rattle.reading.specs.Size.{frame_size, stack_size}

-- the words run by `repeated`: those of `first`, then six a round, or eight in the loop
abbrev pub repeated_steps : ℕ → (first : ℕ) → ℕ
repeated_steps n first =
    cond (eqb n 0) 0 (cond (leb n 16) (first + 6 * n) (first + length (li_code t2 (pos n)) + 8 * n))

-- the words that prologue and saves run
abbrev pub prologue_steps : Head → Frame → (a1 : ℕ) → ℕ
prologue_steps H Fast a1 =
    8 + length (sub_stack_code (frame_size H)) + length (sub_stack_code (stack_size H)) + H.states
    + length (saved H.mask)
prologue_steps H Indirect a1 =
    14
    + cond (eqb a1 0) 0
    (length (sub_stack_code (frame_size H)) + 2 + repeated_steps H.states 1)
    + length (allocate_stack_code (stack_size H))
    + length (saved H.mask)

-- the words that reloads and epilogue run
abbrev pub epilogue_steps : Head → Frame → (a1 : ℕ) → ℕ
epilogue_steps H Fast a1 = 10 + length (saved H.mask)
epilogue_steps H Indirect a1 =
    13
    + cond (eqb a1 0) 0 (repeated_steps H.obs (length (li_code t1 (pos (8 * H.states))) + 1))
    + length (saved H.mask)

-- The items of prologues, saves, reloads and epilogues (document 01, "mod.rs, frames").
use Rattle.std.specs.Prelude.{cond, List, [], ◌∷◌, ◌++◌, map, ℕ, zero, suc, ◌+◌, ◌*◌, eqb, leb, pos, negsuc}
use Rattle.isa.specs.Register.{zero as x0, ra, sp, t0, t1, t2, s0, s1, s2, s3, s4, s5, a0, a1, a2, a3, fa0}
use Rattle.isa.specs.Instr.{Instr, R, I, Shift, S, ADD, XOR, ADDI, JALR, LD, FLD, SLLI, SD, FSD}
use Rattle.ast.specs.declared.Frame.{Frame}
use Rattle.ast.specs.declared.Frame.TheVariants.{Fast, Indirect}
use Rattle.ast.specs.declared.Head.{Head}
use Rattle.assembler.specs.Item.{Item, instr, jump, label}
use Rattle.assembler.specs.declared.JumpKind.TheVariants.{Beq, Bne}
use Rattle.accesses.specs.Code.{li_code, sub_stack_code, add_stack_code, allocate_stack_code}
use Rattle.reading.specs.Size.{frame_size, stack_size, save_size}
use Rattle.ast.specs.Mask.{saved, save_cell}

-- ---- labels: `@self`, `@main`, `@pro`, `@epi`, `@done`, `@success`, `@epilogue`

abbrev pub at_self : ℕ
at_self = 2032

abbrev pub at_main : ℕ
at_main = 2033

abbrev pub at_pro : ℕ
at_pro = 2034

abbrev pub at_epi : ℕ
at_epi = 2035

abbrev pub at_done : ℕ
at_done = 2036

abbrev pub at_success : ℕ
at_success = 2037

abbrev pub at_epilogue : ℕ
at_epilogue = 2038

-- ---- pieces

abbrev pub code : List Instr → List Item
code is = map instr is

abbrev pub mv : (d s : ℕ) → Instr
mv d s = R ADD d s x0

-- the whole-number registers that a frame keeps, in the order of their places
abbrev pub kept : Frame → List ℕ
kept Fast = ra ∷ s0 ∷ s1 ∷ s5 ∷ []
kept Indirect = ra ∷ s0 ∷ s1 ∷ s2 ∷ s3 ∷ s4 ∷ s5 ∷ []

-- to and from the places at sp, from place i on
abbrev pub stores_from : ℕ → List ℕ → List Instr
stores_from i [] = []
stores_from i (r ∷ rs) = S SD sp r (pos (8 * i)) ∷ stores_from (suc i) rs

abbrev pub loads_from : ℕ → List ℕ → List Instr
loads_from i [] = []
loads_from i (r ∷ rs) = I LD r sp (pos (8 * i)) ∷ loads_from (suc i) rs

-- registers to their places; s0 is where those start
abbrev pub opening : Frame → List Instr
opening F = sub_stack_code (save_size F) ++ (stores_from 0 (kept F) ++ (mv s0 sp ∷ []))

-- registers from their places, a0 = 0, and back to ra
abbrev pub closing : Frame → List Instr
closing F =
    mv sp s0
    ∷ (loads_from 0 (kept F) ++ (add_stack_code (save_size F) ++ (R XOR a0 a0 a0 ∷ I JALR x0 ra (pos 0) ∷ [])))

module _ {A : Type 0} where
  -- n times over
  abbrev pub times_over : ℕ → List A → List A
  times_over zero is = []
  times_over (suc n) is = is ++ times_over n is

-- one round less to go
abbrev pub count_down : Instr
count_down = I ADDI t2 t2 (negsuc 0)

-- `first`, then n times `each`: a loop that counts t2 down where n is above 16
unfoldable pub repeated : ℕ → (first each : List Instr) → (l : ℕ) → List Item
repeated n first each l =
    cond (eqb n 0) []
    (cond (leb n 16) (code (first ++ times_over n each))
    (code (first ++ li_code t2 (pos n)) ++ (label l ∷ (code (each ++ (count_down ∷ [])) ++ (jump Bne l 0 ∷ [])))))

-- ---- the two frames

-- float registers f10 and up to `mem`: n states from state i on
abbrev pub states_from : (i n : ℕ) → List Instr
states_from i zero = []
states_from i (suc n) = S FSD s1 (fa0 + i) (pos (8 * i)) ∷ states_from (suc i) n

-- A state cell, by its pointer, to the cell at t1; s2 and t1 go on.
abbrev pub state_copy : List Instr
state_copy =
    I LD t0 s2 (pos 0) ∷ R ADD t0 t0 s3 ∷ I FLD fa0 t0 (pos 0) ∷ S FSD t1 fa0 (pos 0) ∷ I ADDI s2 s2 (pos 16) ∷ I ADDI t1 t1 (pos 8) ∷ []

-- The cell at t1 to an observation cell.
abbrev pub obs_copy : List Instr
obs_copy =
    I LD t0 s2 (pos 0) ∷ R ADD t0 t0 s3 ∷ I FLD fa0 t1 (pos 0) ∷ S FSD t0 fa0 (pos 0) ∷ I ADDI s2 s2 (pos 16) ∷ I ADDI t1 t1 (pos 8) ∷ []

abbrev pub prologue_fast : Head → List Item
prologue_fast H =
    code
    (opening Fast
    ++ (sub_stack_code (frame_size H)
    ++ (mv s1 sp ∷ (sub_stack_code (stack_size H) ++ (mv s5 sp ∷ states_from 0 H.states)))))

abbrev pub prologue_indirect : Head → List Item
prologue_indirect H =
    label at_self
    ∷ (code (opening Indirect ++ (mv s1 a0 ∷ mv s2 a1 ∷ mv s3 a2 ∷ mv s4 a3 ∷ []))
    ++ (jump Beq at_main 0
    ∷ (code (sub_stack_code (frame_size H) ++ (mv s1 sp ∷ Shift SLLI s3 s3 (pos 3) ∷ []))
    ++ (repeated H.states (mv t1 s1 ∷ []) state_copy at_pro
    ++ (label at_main
    ∷ code (allocate_stack_code (stack_size H)))))))

abbrev pub epilogue_fast : Head → List Item
epilogue_fast H = code (I FLD fa0 s1 (pos (8 * H.last)) ∷ closing Fast)

abbrev pub epilogue_indirect : Head → List Item
epilogue_indirect H =
    jump Beq at_done 0
    ∷ (repeated H.obs (li_code t1 (pos (8 * H.states)) ++ (R ADD t1 t1 s1 ∷ [])) obs_copy at_epi
    ++ (label at_done
    ∷ code (closing Indirect)))

-- by the frame of line 1
abbrev pub by_frame : Frame → List Item → List Item → List Item
by_frame Fast is js = is
by_frame Indirect is js = js

unfoldable pub prologue : Head → List Item
prologue H = by_frame H.frame (prologue_fast H) (prologue_indirect H)

unfoldable pub epilogue : Head → List Item
epilogue H = by_frame H.frame (epilogue_fast H) (epilogue_indirect H)

-- ---- preserved float registers of the mask

abbrev pub save : ℕ → Instr
save r = S FSD s5 r (pos (8 * save_cell r))

abbrev pub reload : ℕ → Instr
reload r = I FLD r s5 (pos (8 * save_cell r))

unfoldable pub saves : (mask : ℕ) → List Item
saves mask = code (map save (saved mask))

unfoldable pub reloads : (mask : ℕ) → List Item
reloads mask = label at_success ∷ instr (I ADDI a0 x0 (pos 0)) ∷ label at_epilogue ∷ code (map reload (saved mask))

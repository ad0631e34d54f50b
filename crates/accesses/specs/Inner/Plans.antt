-- What private functions promise of plans and accesses.
use Rattle.std.specs.Prelude.{cond, List, [], ◌∷◌, ℕ, ◌+◌, pos, eqb}
use Rattle.isa.specs.Instr.{Instr}
use Rattle.assembler.specs.State.{State, Outcome}
use Rattle.assembler.specs.Put.{put}
use Rattle.assembler.specs.Plan.{plan_fault, plan_items}
use Rattle.assembler.specs.declared.Tail.TheVariants.{Nothing}
use Rattle.assembler.specs.declared.Plan.{Plan}
use Rattle.accesses.specs.Code.{access_code, near, near_pair}
use Rattle.accesses.specs.declared.Cell.{Cell}
use Rattle.accesses.specs.Plans.{access_instr}

-- ---- accesses by what they do; with the enum's cases these are the codes of `load_float` and the others

abbrev pub one_code : Cell → (r base offset : ℕ) → List Instr
one_code k r = access_code near (λ b n. access_instr k r b (pos n) ∷ [])

abbrev pub pair_code : Cell → (r base offset : ℕ) → List Instr
pair_code k r = access_code near_pair (λ b n. access_instr k r b (pos n) ∷ access_instr k (r + 1) b (pos (n + 8)) ∷ [])

-- ---- placed

-- a plan placed where its operands have no fault, else the fault
unfoldable pub settled_plan : (fault : ℕ) → Plan → State → Outcome
settled_plan fault p s = cond (eqb fault 0) (put 0 (plan_fault p Nothing) (plan_items p Nothing) s) (put 0 fault [] s)

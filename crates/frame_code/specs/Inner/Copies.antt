-- The copies of states and observations by one choice.
use Rattle.std.specs.Prelude.{Bool, true, false, List, [], ◌∷◌, ◌++◌, ℕ, ◌*◌, pos}
use Rattle.isa.specs.Register.{t1, s1}
use Rattle.isa.specs.Instr.{Instr, R, ADD}
use Rattle.assembler.specs.Item.{Item}
use Rattle.accesses.specs.Code.{li_code}
use Rattle.frame_code.specs.Items.{mv, state_copy, obs_copy, repeated, at_pro, at_epi}

-- States to `mem`, or out of `mem` to the observation cells

-- t1 is the first cell
abbrev pub copy_first : (out : Bool) → (states : ℕ) → List Instr
copy_first true states = li_code t1 (pos (8 * states)) ++ (R ADD t1 t1 s1 ∷ [])
copy_first false states = mv t1 s1 ∷ []

abbrev pub copy_each : (out : Bool) → List Instr
copy_each true = obs_copy
copy_each false = state_copy

abbrev pub copy_label : (out : Bool) → ℕ
copy_label true = at_epi
copy_label false = at_pro

-- n of them
abbrev pub copies : (out : Bool) → (states n : ℕ) → List Item
copies out states n = repeated n (copy_first out states) (copy_each out) (copy_label out)

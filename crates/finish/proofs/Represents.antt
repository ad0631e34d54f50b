-- A state represents the items that were placed in it, from an empty one: its words, jumps, tags and labels are theirs.
use mathlib.Core.Path.{◌≡◌}
use mathlib.Core.Bool.{false}
use mathlib.Core.List.{List, [], ◌∷◌}
use mathlib.Core.Option.{Option, none, some}
use Prim.Native.Nat.{ℕ, ◌+◌, ◌*◌, ◌^◌, ◌≤◌, ◌<◌}
use lib.IntN.{sub_ℕ}
use lib.ListN.{length, get_or}
use Rattle.isa.proofs.Validity.{Valid}
use Rattle.assembler.specs.Limit.{label_limit, jump_limit}
use Rattle.assembler.specs.Item.{Item, instr, raw, jump, label}
use Rattle.assembler.specs.Jump.{jump_instr}
use Rattle.assembler.specs.Bytes.{written, room}
use Rattle.assembler.specs.Memory.{jumps_of}
use Rattle.assembler.proofs.Tags.{tags_of}
use Rattle.assembler.specs.State.{State}
use Rattle.assembler.specs.Put.{words, jumps, targets, times}
use Rattle.assembler.specs.Resolved.{label_place, jumps_in, place_in}

-- label memory's entry for a place
abbrev pub entry : Option ℕ → ℕ
entry none = 0
entry (some p) = p + 1

-- and with it the number of jumps made to the label
abbrev pub entry_of : List Item → ℕ → ℕ
entry_of is l = entry (label_place l 0 is) + 2 ^ 32 * times l (targets is)

-- every label that is set or jumped to has an entry
abbrev pub Labelled : List Item → Type 0
Labelled [] = Unit {0}
Labelled (instr i ∷ is) = Labelled is
Labelled (raw w ∷ is) = Labelled is
Labelled (jump k l r ∷ is) = (l < label_limit) × Labelled is
Labelled (label l ∷ is) = (l < label_limit) × Labelled is

-- the items `is` placed over the buffer b, with the jumps' tags
pub record Represents (b : List ℕ) (is : List Item) (tags : List ℕ) (s : State) : Type 0 where
  pub unclosed : s.asm.closed ≡ false
  pub len : s.asm.len ≡ 4 * length (words is)
  pub within : 4 * length (words is) ≤ room (length b)
  pub buf : s.buf ≡ written b 0 (words is)
  pub count : s.asm.jumps ≡ jumps is
  pub few : jumps is ≤ jump_limit
  pub noted : jumps_of s.jumps 0 (jumps is) ≡ jumps_in 0 is
  pub tagged : tags_of s.jumps 0 (jumps is) ≡ tags
  pub wide_jumps : length s.jumps ≡ 20480
  pub set_labels : (l : ℕ) → l < label_limit → get_or s.labels l 0 ≡ entry_of is l
  pub wide_labels : length s.labels ≡ label_limit

-- each jump of items, of which the first is at `here`: its label is set by `all`, and its instruction is valid
abbrev pub Reaching : List Item → ℕ → List Item → Type 0
Reaching all here [] = Unit {0}
Reaching all here (instr i ∷ is) = Reaching all (here + 4) is
Reaching all here (raw w ∷ is) = Reaching all (here + 4) is
Reaching all here (jump k l r ∷ is) =
    (label_place l 0 all ≡ none → ⊥) × Valid (jump_instr k r (sub_ℕ (place_in all l) here)) × Reaching all (here + 4) is
Reaching all here (label l ∷ is) = Reaching all here is

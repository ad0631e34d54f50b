-- The code that finishing leaves: the words of the items, each jump at its label's place.
use Rattle.std.specs.Prelude.{cond, List, [], ◌∷◌, ℕ, ◌+◌, eqb}
use Rattle.std.proofs.Math.Option.{Option, none, some, get_or}
use Rattle.std.proofs.Math.IntN.{sub_ℕ}
use Rattle.isa.specs.Encode.{encode}
use Rattle.assembler.specs.Item.{Item, instr, raw, jump, label}
use Rattle.assembler.specs.Jump.{kind_number, jump_instr}
use Rattle.assembler.specs.Memory.{Jump}

-- the words of items of which the first is at `here`; `at l` is label l's place
unfoldable pub resolved : (ℕ → ℕ) → ℕ → List Item → List ℕ
resolved at here [] = []
resolved at here (instr i ∷ is) = encode i ∷ resolved at (here + 4) is
resolved at here (raw w ∷ is) = w ∷ resolved at (here + 4) is
resolved at here (jump k l r ∷ is) = encode (jump_instr k r (sub_ℕ (at l) here)) ∷ resolved at (here + 4) is
resolved at here (label l ∷ is) = resolved at here is

-- where the items set label l, if they do, the first of them being at `here`
unfoldable pub label_place : ℕ → ℕ → List Item → Option ℕ
label_place l here [] = none
label_place l here (instr i ∷ is) = label_place l (here + 4) is
label_place l here (raw w ∷ is) = label_place l (here + 4) is
label_place l here (jump k m r ∷ is) = label_place l (here + 4) is
label_place l here (label m ∷ is) = cond (eqb m l) (some here) (label_place l here is)

-- where the items set a label; 0 for one that they don't set
abbrev pub place_in : List Item → ℕ → ℕ
place_in is l = get_or (label_place l 0 is) 0

-- the jumps of items of which the first is at `here`
unfoldable pub jumps_in : ℕ → List Item → List Jump
jumps_in here [] = []
jumps_in here (instr i ∷ is) = jumps_in (here + 4) is
jumps_in here (raw w ∷ is) = jumps_in (here + 4) is
jumps_in here (jump k l r ∷ is) = record { word = here; label = l; reg = r; kind = kind_number k } ∷ jumps_in (here + 4) is
jumps_in here (label l ∷ is) = jumps_in here is

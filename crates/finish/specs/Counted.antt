-- The law of document 02, point 2: from a fresh record on the numbers "add up to the jump count".
use Rattle.std.specs.Prelude.{◌≡◌, false, List, [], ◌∷◌, ℕ, ◌+◌, replicate}
use Rattle.assembler.specs.Limit.{label_limit}
use Rattle.assembler.specs.Item.{Item}
use Rattle.assembler.specs.Label.{made}
use Rattle.assembler.specs.State.{State, state}
use Rattle.assembler.specs.Put.{put}
use Rattle.finish.specs.Finish.{finish}

-- the numbers of jumps made to labels, added up
unfoldable pub total : (memory : List ℕ) → ℕ
total [] = 0
total (e ∷ es) = made e + total es

-- a fresh record with zeroed label memory, whatever jump memory and buffer hold
abbrev pub fresh : (jumps buf : List ℕ) → State
fresh js b = state (record { len = 0; jumps = 0; closed = false }) (replicate label_limit 0) js b

-- What comes of it: every order, access, frame, label, jump and constant is a `put`, by its promise. Refused ones are among these.
pub data Since : State → Type 0 where
  start : (js b : List ℕ) → Since (fresh js b)
  placing : {s : State} → Since s → (tag fault : ℕ) (is : List Item) → Since (put tag fault is s).state
  finishing : {s : State} → Since s → Since (finish s).state

abbrev pub Adds : Type 0
Adds = (s : State) → Since s → total s.labels ≡ s.asm.jumps

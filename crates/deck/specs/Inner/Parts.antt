-- The parts of the judge: what only its own functions promise.
use Rattle.std.specs.Prelude.{◌≡◌, true, false, ℕ, Result, Ok, Err}
use Rattle.refusal.specs.declared.Refusal.{Refusal}
use Rattle.text.specs.declared.Number.{Number}
use Rattle.deck.specs.Inner.Forms.{below, value}

-- a number's value, if it is below a bound, else why it is refused
abbrev pub Bounds : ℕ → Refusal → Number → Result ℕ Refusal → Type 0
Bounds k why n (Ok v) = (below k n ≡ true) × (v ≡ value n)
Bounds k why n (Err e) = (below k n ≡ false) × (e ≡ why)

-- Document 02, point 5, of words and instructions: the laws that encoder and decoder keep together, as a statement; proved in `proofs`.
-- `encoded` is what each function of the encoder promises, `decode` what the decoder does.
use Rattle.std.specs.Prelude.{◌≡◌, ℕ}
use Rattle.std.proofs.Math.Option.{some}
use Rattle.isa.specs.Instr.{Instr}
use Rattle.isa.specs.Decode.{decode}
use Rattle.refusal.specs.Answer.{accepted}
use Rattle.encoder.specs.Answer.{encoded}

pub record Laws : Type 0 where
  -- "Every word the encoder writes reads back to its instruction"
  pub reads_back : (i : Instr) (w : ℕ) → encoded i ≡ accepted w → decode w ≡ some i
  -- "and that instruction writes the word again"
  pub writes_again : (w : ℕ) (i : Instr) → decode w ≡ some i → encoded i ≡ accepted w
  -- "No two different base instructions share a word"
  pub injective : (i j : Instr) (w : ℕ) → encoded i ≡ accepted w → encoded j ≡ accepted w → i ≡ j

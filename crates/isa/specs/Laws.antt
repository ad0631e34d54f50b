-- The laws of the encoding (document 01, demand 2), as a statement; it is proved in `proofs`, module Encodings.
-- By the first two laws `decode` needs no belief: it answers an instruction exactly where the word is a valid instruction's, and that one.
use Rattle.std.specs.Prelude.{◌≡◌, ℕ, ◌^◌, ◌<◌, T}
use Rattle.std.proofs.Math.Option.{some}
use Rattle.isa.specs.Instr.{Instr, valid}
use Rattle.isa.specs.Encode.{encode}
use Rattle.isa.specs.Decode.{decode}

pub record Encodings : Type 0 where
  pub decode_encode : (i : Instr) → T (valid i) → decode (encode i) ≡ some i
  pub encode_decode : (w : ℕ) (i : Instr) → decode w ≡ some i → T (valid i) × (encode i ≡ w)
  -- a word has 32 bits
  pub small : (i : Instr) → T (valid i) → encode i < 2 ^ 32
  -- two different instructions never share a word
  pub injective : (i j : Instr) → T (valid i) → T (valid j) → encode i ≡ encode j → i ≡ j

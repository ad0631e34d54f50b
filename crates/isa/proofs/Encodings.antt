-- The laws of the encoding, as stated. Assumes nothing.
use lib.Dec.{T}
use Rattle.base.proofs.Bools.{T_true, true_T}
use Rattle.isa.specs.Instr.{Instr, valid}
use Rattle.isa.specs.Laws.{Encodings}
use Rattle.isa.proofs.Validity.{Valid, valid_Valid, Valid_valid}
use Rattle.isa.proofs.Laws.{decode_encode, encode_decode, encode_small, encode_injective}

held : (i : Instr) → T (valid i) → Valid i
held i h = valid_Valid i (T_true (valid i) h)

pub encodings : Encodings
encodings =
    record {
      decode_encode = λ i h. decode_encode i (held i h);
      encode_decode = λ w i e. let q = encode_decode w i e in (true_T (valid i) (Valid_valid i q.0), q.1);
      small = λ i h. encode_small i (held i h);
      injective = λ i j h k. encode_injective i j (held i h) (held j k);
    }

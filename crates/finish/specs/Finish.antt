-- Finishing: all jumps are looked at, and only then written.
use Rattle.std.specs.Prelude.{Bool, true, not, ◌&&◌, ◌||◌, cond, List, [], ◌∷◌, ℕ, zero, suc, ◌+◌, ◌%◌, ltb, leb, eqb, ℤ, length, get_or, Result, Ok, Err}
use Rattle.std.proofs.Math.IntN.{sub_ℕ}
use Rattle.isa.specs.Instr.{holds, offset}
use Rattle.isa.specs.Encode.{encode}
use Rattle.refusal.specs.Answer.{Answer, accepted, refused}
use Rattle.refusal.specs.Number.{number_of}
use Rattle.refusal.specs.declared.Refusal.TheVariants.{Value, Unset, Far, Closed}
use Rattle.assembler.specs.Limit.{label_limit, jump_limit}
use Rattle.assembler.specs.Jump.{kind_of, jump_instr}
use Rattle.assembler.specs.Bytes.{written}
use Rattle.assembler.specs.Label.{is_set, place_of, made}
use Rattle.assembler.specs.Memory.{Jump, jump_at, tag_at, jumps_of}
use Rattle.assembler.specs.State.{State, state, sound}
use Rattle.assembler.specs.declared.Asm.{Asm}
use Rattle.finish.specs.declared.Unfinished.{Unfinished}

-- how many of the k numbers from i on stand before the first that passes the test: k if none does
unfoldable pub first : (ℕ → Bool) → ℕ → ℕ → ℕ
first test i zero = 0
first test i (suc k) = cond (test i) 0 (1 + first test (i + 1) k)

-- ---- labels

-- unset, or at a word no further than the end; and at most 4,096 jumps made to it (document 02, point 2: "finishing and the list at all")
abbrev pub label_good : ℕ → ℕ → Bool
label_good len e = leb (made e) jump_limit && (not (is_set e) || (leb (place_of e) len && eqb (place_of e % 4) 0))

unfoldable pub labels_good : ℕ → List ℕ → Bool
labels_good len labels = leb label_limit (first (λ i. not (label_good len (get_or labels i 0))) 0 label_limit)

-- ---- jumps

-- its word in the code and at a multiple of 4, and register, label and kind such as there are
abbrev pub jump_good : ℕ → Jump → Bool
jump_good len j =
    leb (j.word + 4) len
    && (eqb (j.word % 4) 0 && (ltb j.reg 32 && (ltb j.label label_limit && ltb j.kind 6)))

abbrev pub unset : List ℕ → Jump → Bool
unset labels j = not (is_set (get_or labels j.label 0))

-- from its word to its label's place, in bytes
abbrev pub way : List ℕ → Jump → ℤ
way labels j = sub_ℕ (place_of (get_or labels j.label 0)) j.word

-- a `beq` or `bne` beyond B
abbrev pub far : List ℕ → Jump → Bool
far labels j = leb 4 j.kind && not (holds (offset 13 (way labels j)))

-- what is wrong with a jump: 2, 5, 6, or 0 for nothing
unfoldable pub jump_number : List ℕ → ℕ → Jump → ℕ
jump_number labels len j =
    cond (jump_good len j)
    (cond (unset labels j) (number_of Unset) (cond (far labels j) (number_of Far) 0))
    (number_of Value)

abbrev pub jump_word : List ℕ → Jump → ℕ
jump_word labels j = encode (jump_instr (kind_of j.kind) j.reg (way labels j))

-- each jump's word written over the one reserved
unfoldable pub patched : List ℕ → List ℕ → List Jump → List ℕ
patched labels buf [] = buf
patched labels buf (j ∷ js) = patched labels (written buf j.word (jump_word labels j ∷ [])) js

-- ---- the whole

-- how many jumps of the state stand before the first with this number
unfoldable pub first_with : ℕ → State → ℕ
first_with number s =
    first (λ i. eqb (jump_number s.labels s.asm.len (jump_at s.jumps i)) number) 0 s.asm.jumps

-- The number of the refusal, 0 for none: 8, 2, then the first jump with 5, then the first with 6.
unfoldable pub finish_number : State → ℕ
finish_number s =
    cond s.asm.closed (number_of Closed)
    (cond (sound (length s.buf) s.asm)
    (cond (labels_good s.asm.len s.labels)
    (cond (ltb (first_with (number_of Value) s) s.asm.jumps) (number_of Value)
    (cond (ltb (first_with (number_of Unset) s) s.asm.jumps) (number_of Unset)
    (cond (ltb (first_with (number_of Far) s) s.asm.jumps) (number_of Far) 0)))
    (number_of Value))
    (number_of Value))

-- What finishing answers, the tag of the jump that 5 or 6 is about (else 0), and the state it leaves.
pub record FinishOutcome : Type 0 where
  pub answer : Answer (Unit {0})
  pub tag : ℕ
  pub state : State

-- refused about its first jump with this number
abbrev pub about : ℕ → State → FinishOutcome
about number s =
    record {
      answer = refused number (jump_at s.jumps (first_with number s)).word;
      tag = tag_at s.jumps (first_with number s);
      state = s;
    }

-- accepted: the words written, the record closed
abbrev pub finished : State → State
finished s =
    record {
      asm = record { len = s.asm.len; jumps = s.asm.jumps; closed = true };
      labels = s.labels;
      jumps = s.jumps;
      buf = patched s.labels s.buf (jumps_of s.jumps 0 s.asm.jumps);
    }

abbrev pub ended : ℕ → State → FinishOutcome
ended number s =
    cond (eqb number 0) (record { answer = accepted tt; tag = 0; state = finished s })
    (cond (eqb number (number_of Unset)) (about (number_of Unset) s)
    (cond (eqb number (number_of Far)) (about (number_of Far) s)
    (record { answer = refused number 0; tag = 0; state = s })))

unfoldable pub finish : State → FinishOutcome
finish s = ended (finish_number s) s

-- what a result says: its answer, and its tag
abbrev pub finish_answer : Result (Unit {0}) Unfinished → Answer (Unit {0})
finish_answer (Ok u) = accepted tt
finish_answer (Err e) = refused (number_of e.refused.why) e.refused.place

abbrev pub finish_tag : Result (Unit {0}) Unfinished → ℕ
finish_tag (Ok u) = 0
finish_tag (Err e) = e.tag

abbrev pub finish_outcome : Result (Unit {0}) Unfinished → Asm → List ℕ → List ℕ → List ℕ → FinishOutcome
finish_outcome r a ls js b = record { answer = finish_answer r; tag = finish_tag r; state = state a ls js b }

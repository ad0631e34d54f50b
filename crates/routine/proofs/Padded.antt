-- The nop before constants, where it is placed and where nothing is. Assumes nothing.
use mathlib.Core.Path.{◌≡◌, refl, sym, ap, ◌∙◌}
use mathlib.Core.List.{List, [], ◌∷◌}
use Prim.Native.Nat.{ℕ, zero, suc, ◌%◌, ◌<◌}
use native.Mathlib.Omega.{arith}
use borrow.Author.Tests.{eq-eqb, ne_eqb}
use Rattle.isa.specs.Encode.{encode}
use Rattle.encoder.specs.Answer.{Encoded, word_answer, encoded}
use Rattle.refusal.specs.Answer.{accepted}
use Rattle.assembler.specs.Item.{Item, instr, raw}
use Rattle.assembler.specs.State.{State}
use Rattle.assembler.specs.Put.{words, targets, labels, place, placed, put}
use Rattle.accesses.specs.Plans.{word_of}
use Rattle.accesses.proofs.Collect.{answered, word}
use Rattle.call.specs.Layout.{nop, padding}
use Rattle.routine.specs.Inner.Places.{Open}

pub padding_none : (n k : ℕ) → k ≡ 0 → padding n k ≡ []
unfolding padding
padding_none n k e = rw e

pub padding_even : (n k : ℕ) → n % 8 ≡ 0 → padding n k ≡ []
unfolding padding
padding_even n zero e = refl
padding_even n (suc k) e = rw (eq-eqb (n % 8) 0 e)

padding_odd : (n k : ℕ) → 0 < k → (n % 8 ≡ 0 → ⊥) → padding n k ≡ instr nop ∷ []
unfolding padding
padding_odd n zero h e = absurd (omega arith)
padding_odd n (suc k) h e = rw (ne_eqb (n % 8) 0 e)

-- the encoder's word for it
pub nop_word : (e : Encoded) (w : ℕ) → word_answer e ≡ encoded nop → w ≡ word_of e → w ≡ encode nop
nop_word e w t h = h ∙ ap word_of (answered e nop t ∙ word nop (omega arith, (omega arith, (omega arith, tt))))

-- a word is placed as its instruction is
pub word_placed : (w : ℕ) (s : State) (k : ℕ) → w ≡ encode nop → 0 < k → (s.asm.len % 8 ≡ 0 → ⊥) → put 0 0 (raw w ∷ []) s ≡ put 0 0 (padding s.asm.len k) s
unfolding put words targets labels place placed
word_placed w s k e h n = rw (padding_odd s.asm.len k h n, e)

-- nothing is placed
pub padded_none : (s : State) (k : ℕ) → Open s → padding s.asm.len k ≡ [] → record { answer = accepted tt; state = s } ≡ put 0 0 (padding s.asm.len k) s
padded_none s k o e = sym (ap (λ (is : List Item). put 0 0 is s) e ∙ o)

-- What every order does: all of its items are placed, or it is refused and nothing changes.
use Rattle.std.specs.Prelude.{Bool, false, ◌&&◌, ◌||◌, cond, List, [], ◌∷◌, ℕ, zero, suc, ◌+◌, ◌*◌, ltb, leb, eqb, length, get_or, set}
use Rattle.std.proofs.lemmas.List.Edits.{sets}
use Rattle.base.specs.Tests.{all, member}
use Rattle.isa.specs.Encode.{encode}
use Rattle.refusal.specs.Answer.{accepted, refused}
use Rattle.refusal.specs.Number.{number_of}
use Rattle.refusal.specs.declared.Refusal.TheVariants.{Register, Value, Label, Twice, Full, Closed}
use Rattle.assembler.specs.Item.{Item, instr, raw, jump, label}
use Rattle.assembler.specs.Jump.{kind_number}
use Rattle.assembler.specs.Bytes.{written}
use Rattle.assembler.specs.Limit.{label_limit, jump_limit}
use Rattle.assembler.specs.Label.{is_set, with_place, made, one_more}
use Rattle.assembler.specs.State.{State, Outcome, sound, fits}

-- ---- what the items ask for

-- their words; a jump's is 0 until finishing
unfoldable pub words : List Item → List ℕ
words [] = []
words (instr i ∷ is) = encode i ∷ words is
words (raw w ∷ is) = w ∷ words is
words (jump k l r ∷ is) = 0 ∷ words is
words (label l ∷ is) = words is

-- the labels that their jumps go to, one for each jump
unfoldable pub targets : List Item → List ℕ
targets [] = []
targets (instr i ∷ is) = targets is
targets (raw w ∷ is) = targets is
targets (jump k l r ∷ is) = l ∷ targets is
targets (label l ∷ is) = targets is

-- how many jumps
unfoldable pub jumps : List Item → ℕ
jumps is = length (targets is)

-- the labels they set
unfoldable pub labels : List Item → List ℕ
labels [] = []
labels (instr i ∷ is) = labels is
labels (raw w ∷ is) = labels is
labels (jump k l r ∷ is) = labels is
labels (label l ∷ is) = l ∷ labels is

-- one of the labels is set already, or comes twice
unfoldable pub twice : List ℕ → List ℕ → Bool
twice memory [] = false
twice memory (l ∷ ls) = is_set (get_or memory l 0) || (member l ls || twice memory ls)

-- ---- the numbers of jumps made to labels (document 02, point 2)

-- how often l is among them
abbrev pub times : ℕ → List ℕ → ℕ
times l [] = 0
times l (t ∷ ts) = cond (eqb l t) 1 0 + times l ts

-- l is a label, and its number with n jumps more is at most 4,096
abbrev pub number_holds : (memory : List ℕ) → (n l : ℕ) → Bool
number_holds memory n l = ltb l label_limit && leb (made (get_or memory l 0) + n) jump_limit

-- "a jump looks at its own label's": each is a label whose number is at most 4,096
abbrev pub numbers_sound : (memory targets : List ℕ) → Bool
numbers_sound memory ts = all (number_holds memory 0) ts

-- and with these jumps it is still ("at 4,096 the jump doesn't fit")
abbrev pub numbers_fit : (memory targets : List ℕ) → Bool
numbers_fit memory ts = all (λ l. number_holds memory (times l ts) l) ts

-- ---- one item placed

unfoldable pub with_word : ℕ → State → State
with_word w s =
    record {
      asm = record { len = s.asm.len + 4; jumps = s.asm.jumps; closed = s.asm.closed };
      labels = s.labels;
      jumps = s.jumps;
      buf = written s.buf s.asm.len (w ∷ []);
    }

-- a zero word, the jump's five numbers behind those of the others, and one jump more to its label
unfoldable pub with_jump : (kind label reg tag : ℕ) → State → State
with_jump k l r tag s =
    record {
      asm = record { len = s.asm.len + 4; jumps = s.asm.jumps + 1; closed = s.asm.closed };
      labels = set s.labels l (one_more (get_or s.labels l 0));
      jumps = sets s.jumps (5 * s.asm.jumps) (s.asm.len ∷ l ∷ r ∷ k ∷ tag ∷ []);
      buf = written s.buf s.asm.len (0 ∷ []);
    }

-- a label at the place reached
unfoldable pub with_label : ℕ → State → State
with_label l s =
    record {
      asm = s.asm;
      labels = set s.labels l (with_place (get_or s.labels l 0) s.asm.len);
      jumps = s.jumps;
      buf = s.buf;
    }

unfoldable pub place : ℕ → Item → State → State
place tag (instr i) s = with_word (encode i) s
place tag (raw w) s = with_word w s
place tag (jump k l r) s = with_jump (kind_number k) l r tag s
place tag (label l) s = with_label l s

unfoldable pub placed : ℕ → List Item → State → State
placed tag [] s = s
placed tag (i ∷ is) s = placed tag is (place tag i s)

-- ---- all or nothing

-- The number of the refusal, 0 for none, in document 01's order: 8, 1, 3, 2, 9, 10, 11, 4, 7.
-- `fault` is what is wrong with an operand: a number, 0 for nothing.
unfoldable pub ranked : (fault : ℕ) → (closed good taken roomy : Bool) → ℕ
ranked fault closed good taken roomy =
    cond closed (number_of Closed)
    (cond (eqb fault (number_of Register)) (number_of Register)
    (cond (eqb fault (number_of Label)) (number_of Label)
    (cond good
    (cond (eqb fault 0)
    (cond taken (number_of Twice) (cond roomy 0 (number_of Full)))
    fault)
    (number_of Value))))

-- of a whole that sets the labels ls, has a jump to each of ts, and so many words
abbrev pub verdict : (fault : ℕ) → (ls ts : List ℕ) → (words : ℕ) → State → ℕ
verdict fault ls ts words s =
    ranked fault s.asm.closed
    (numbers_sound s.labels ts && sound (length s.buf) s.asm)
    (twice s.labels ls)
    (numbers_fit s.labels ts && fits (length s.buf) s.asm words (length ts))

abbrev pub put_number : ℕ → List Item → State → ℕ
put_number fault is s = verdict fault (labels is) (targets is) (length (words is)) s

-- refused with this number and place 0, or done where the number is 0
unfoldable pub settled : ℕ → State → State → Outcome
settled zero s t = record { answer = accepted tt; state = t }
settled (suc n) s t = record { answer = refused (suc n) 0; state = s }

-- `tag` is the caller's own number, kept with each jump.
unfoldable pub put : (tag fault : ℕ) → List Item → State → Outcome
put tag fault is s = settled (put_number fault is s) s (placed tag is s)

-- what such a whole would be refused with; nothing changes
abbrev pub prechecked : (fault : ℕ) → (ls ts : List ℕ) → (words : ℕ) → State → Outcome
prechecked fault ls ts words s = settled (verdict fault ls ts words s) s s

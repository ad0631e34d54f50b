-- An order refused, an order done; and the numbers of those that a function places. Assumes nothing.
use mathlib.Core.Path.{◌≡◌, refl, sym, ap, ◌∙◌}
use mathlib.Core.Bool.{Bool, true, false, ◌&&◌, cond}
use mathlib.Core.List.{List, [], ◌∷◌, map}
use Prim.Native.Nat.{ℕ, zero, suc, ◌+◌, ◌*◌, ◌/◌, ◌%◌, ◌^◌, ◌≤◌, min}
use native.Mathlib.Omega.{arith}
use borrow.Author.Tests.{lt-ltb, le-leb, ne_eqb}
use lib.ListN.{length, take, length-append}
use lib.Seq.{length-take-le}
use Rattle.ast.specs.declared.Constant.{Constant}
use Rattle.refusal.specs.Answer.{Answer, accepted, refused}
use Rattle.refusal.specs.Number.{number_of}
use Rattle.refusal.specs.declared.Refusal.{Refusal}
use Rattle.refusal.specs.declared.Refused.{Refused}
use Rattle.std.specs.Prelude.{Result, Err, ltb}
use Rattle.assembler.proofs.Tests.{no, number_some}
use Rattle.assembler.specs.Item.{Item, raw}
use Rattle.assembler.specs.Bytes.{room}
use Rattle.assembler.specs.State.{State, Outcome, emit_answer, sound, fits}
use Rattle.assembler.specs.Inner.State.{with_words}
use Rattle.assembler.specs.Put.{targets, twice, with_label, place, placed, ranked, verdict, put_number, settled, put}
use Rattle.assembler.specs.Constant.{constant_items, constant_fault}
use Rattle.ast.specs.Constant.{constant_bits}
use Rattle.assembler.specs.Plan.{earlier, label_fault, sets_fault, tail_items, plan_words, plan_items, plan_fault}
use Rattle.assembler.specs.declared.Plan.{Plan}
use Rattle.assembler.specs.declared.Tail.{Tail}
use Rattle.assembler.proofs.Checks.{fits_last, v_good}
use Rattle.assembler.proofs.Items.{placed_append, placed_raw, words_append, targets_append, labels_append, words_raw, targets_raw, labels_raw, words_tail, labels_tail}

pub settled_no : (k : ℕ) (s t : State) → (k ≡ 0 → ⊥) → settled k s t ≡ record { answer = refused k 0; state = s }
unfolding settled
settled_no zero s t h = absurd (h refl)
settled_no (suc n) s t h = refl

pub settled_yes : (s t : State) → settled 0 s t ≡ record { answer = accepted tt; state = t }
unfolding settled
settled_yes s t = refl

-- what an answer says of its number
pub settled_by : (r : Refusal) (k : ℕ) (s t : State) → number_of r ≡ k → ◌≡◌ {A = Outcome} (record { answer = refused (number_of r) 0; state = s }) (settled k s t)
settled_by r k s t e = rw (← e) (sym (settled_no (number_of r) s t (λ z. omega (arith, number_some r, z))))

is_refused : Answer (Unit {0}) → Bool
is_refused (accepted x) = false
is_refused (refused n p) = true

number : Answer (Unit {0}) → ℕ
number (accepted x) = 0
number (refused n p) = n

pub none_refused : (k : ℕ) (s : State) → ◌≡◌ {A = Outcome} (record { answer = accepted tt; state = s }) (settled k s s) → k ≡ 0
unfolding settled number
none_refused zero s e = refl
none_refused (suc k) s e = sym (ap (λ (d : Outcome). number d.answer) e)

pub refused_still : (n p k : ℕ) (s t : State) → ◌≡◌ {A = Outcome} (record { answer = refused n p; state = s }) (settled k s s) → ◌≡◌ {A = Outcome} (record { answer = refused n p; state = s }) (settled k s t)
unfolding settled is_refused
refused_still n p zero s t e = absurd (other (ap (λ (d : Outcome). d.answer) e))
  where
    other : ◌≡◌ {A = Answer (Unit {0})} (refused n p) (accepted tt) → ⊥
    other e = no (sym (ap is_refused e))
refused_still n p (suc k) s t e = e

module _ (tag fault : ℕ) (is : List Item) (s : State) where
  pub put_refused : (r : Result (Unit {0}) Refused) (e : Refused) (k : ℕ) → k ≡ put_number fault is s → r ≡ Err e → ◌≡◌ {A = Outcome} (record { answer = refused (number_of e.why) e.place; state = s }) (settled k s s)
      → ◌≡◌ {A = Outcome} (record { answer = emit_answer r; state = s }) (put tag fault is s)
  unfolding put
  put_refused r e k g i h = rw (i, ← g) (refused_still (number_of e.why) e.place k s (placed tag is s) h)

  pub put_done : (t : State) → put_number fault is s ≡ 0 → t ≡ placed tag is s → ◌≡◌ {A = Outcome} (record { answer = accepted tt; state = t }) (put tag fault is s)
  unfolding put
  put_done t e g = rw (e, g) (sym (settled_yes s (placed tag is s)))

  pub put_taken : (k : ℕ) (t : State) → k ≡ put_number fault is s → ◌≡◌ {A = Outcome} (record { answer = accepted tt; state = s }) (settled k s s) → t ≡ placed tag is s
      → ◌≡◌ {A = Outcome} (record { answer = accepted tt; state = t }) (put tag fault is s)
  put_taken k t e h g = put_done t (sym e ∙ none_refused k s h) g

-- with a fault it doesn't matter whether labels are set, nor whether there is room
pub fault_first : (fault : ℕ) (c s t u f g : Bool) → (fault ≡ 0 → ⊥) → ranked fault c s t f ≡ ranked fault c s u g
unfolding ranked
fault_first fault c s t u f g h = simp (ne_eqb fault 0 h)

-- words alone, where the record is open and sound and they have room
pub put_raw : (tag : ℕ) (ws : List ℕ) (s : State) → s.asm.closed ≡ false → sound (length s.buf) s.asm ≡ true → s.asm.jumps ≤ 4096 → s.asm.len + 4 * length ws ≤ room (length s.buf)
    → put tag 0 (map raw ws) s ≡ record { answer = accepted tt; state = with_words ws s }
unfolding twice
put_raw tag ws s e g j h =
    let f : fits (length s.buf) s.asm (length ws) 0 ≡ true = sym (fits_last (length s.buf) s.asm (length ws) 0 (room (length s.buf)) refl h) ∙ le-leb (s.asm.jumps + 0) 4096 (omega arith) in
    let n : put_number 0 (map raw ws) s ≡ 0 = rw (words_raw, targets_raw, labels_raw) (sym (v_good 0 _ _ false _ e g refl refl f)) in
    sym (put_done tag 0 (map raw ws) s (with_words ws s) n (sym (placed_raw tag ws s)))

-- the number of a plan: its words, and its tail's jumps
pub plan_number : (f : ℕ) (p : Plan) (t : Tail) (s : State) → length p.w ≡ 12
    → put_number f (plan_items p t) s ≡ verdict f [] (targets (tail_items t)) (min p.n 12 + length (targets (tail_items t))) s
plan_number f p t s e =
    let n : length (plan_words p) ≡ min p.n 12 = length-take-le (min p.n 12) p.w (omega arith) in
    rw (words_append, targets_append, labels_append, words_raw, targets_raw, labels_raw, labels_tail, length-append, words_tail, n)

-- the same, as it was asked: the plan's fault f and n words
pub plan_told : (f n : ℕ) (p : Plan) (t : Tail) (s : State) → length p.w ≡ 12 → f ≡ plan_fault p t → n ≡ min p.n 12
    → verdict f [] (targets (tail_items t)) (n + length (targets (tail_items t))) s ≡ put_number (plan_fault p t) (plan_items p t) s
plan_told f n p t s e g h = rw (g, h) (sym (plan_number (plan_fault p t) p t s e))

-- the words laid, then the tail
pub plan_placed : (tag : ℕ) (p : Plan) (t : Tail) (s v u : State) (n : ℕ) → n ≡ min p.n 12 → v ≡ with_words (take n p.w) s → u ≡ placed tag (tail_items t) v → u ≡ placed tag (plan_items p t) s
plan_placed tag p t s v u n g e h =
    h ∙ rw (e, g) (sym (placed_append tag (map raw (plan_words p)) (tail_items t) s ∙ ap (placed tag (tail_items t)) (placed_raw tag (plan_words p) s)))

-- a constant's label marked, then its two words laid
pub constant_placed : (k b : ℕ) (c : Constant) (s v u : State) → b ≡ constant_bits c → v ≡ with_label (1024 + k) s → u ≡ with_words (b % 2 ^ 32 ∷ b / 2 ^ 32 ∷ []) v → u ≡ placed 0 (constant_items k c) s
unfolding placed place
constant_placed k b c s v u g e h = h ∙ rw (e, g) (sym (placed_raw 0 (constant_bits c % 2 ^ 32 ∷ constant_bits c / 2 ^ 32 ∷ []) (with_label (1024 + k) s)))

-- a label's fault, as one of a list
pub label_one : (l : ℕ) → earlier 0 (sets_fault (l ∷ [])) ≡ label_fault l
label_one l = by (ltb l 2039)
  where
    by : (b : Bool) → earlier 0 (cond (b && true) 0 2) ≡ cond b 0 2
    by true = refl
    by false = refl

-- a constant's, as its label's
pub constant_one : (k : ℕ) → k ≤ 1007 → earlier 0 (sets_fault ((1024 + k) ∷ [])) ≡ constant_fault k
constant_one k h = label_one (1024 + k) ∙ rw (lt-ltb (1024 + k) 2039 (omega arith), le-leb k 1007 h)

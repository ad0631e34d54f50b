-- A file that is accepted reads to one program, whatever the buffer's size.
use mathlib.Core.Path.{◌≡◌, sym, ap, ◌∙◌}
use mathlib.Core.Bool.{true, false}
use mathlib.Core.List.{List, [], ◌∷◌}
use Prim.Native.Nat.{ℕ}
use native.Mathlib.Omega.{arith}
use Rattle.refusal.specs.Answer.{accepted}
use Rattle.text.specs.Lines.{lines_of}
use Rattle.form.specs.Grammar.{said}
use Rattle.deck.specs.Judge.{Content, line_judged}
use Rattle.deck.specs.Judge as Deck
use Rattle.reading.specs.Line.{Line, order, constant}
use Rattle.reading.specs.Program.{Program}
use Rattle.call.specs.Layout.{entry}
use Rattle.routine.specs.Routine.{placed_at, next_line, with_line, only, room_number, order_number, constant_number, as_line, line_read, lines_read, as_head, head_read, file_read}
use Rattle.correctness.specs.Follows.{OneProgram}
use Rattle.correctness.proofs.Accepts.{same, unless_accepts, then_accepts}
use Rattle.correctness.proofs.Taken.{taken}

module _ (m n : ℕ) where
  line_same : (p : Program) (t : List ℕ) (k l : Line) → line_read m p t ≡ accepted k → line_read n p t ≡ accepted l → k ≡ l
  unfolding line_read
  line_same p t k l e f =
      let a = placed_at (next_line p) (line_judged false (said t)) in
      let x = then_accepts a (as_line m p) k e in
      let y = then_accepts a (as_line n p) l f in
      let z : x.0 ≡ y.0 = same x.0 y.0 (sym x.1 ∙ y.1) in
      by x.0 x.2 (ap (as_line n p) z ∙ y.2)
    where
      by : (c : Content) → as_line m p c ≡ accepted k → as_line n p c ≡ accepted l → k ≡ l
      by (Deck.head h) e f = let z : ◌≡◌ {A = ℕ} 0 1 = cc in absurd (omega arith)
      by (Deck.order o) e f =
          sym (unless_accepts (order_number m p o) (next_line p) (order o) k e).1 ∙ (unless_accepts (order_number n p o) (next_line p) (order o) l f).1
      by (Deck.constant c) e f =
          sym (unless_accepts (constant_number p) (next_line p) (constant c) k e).1 ∙ (unless_accepts (constant_number p) (next_line p) (constant c) l f).1

  lines_same : (ts : List (List ℕ)) (p q r : Program) → lines_read m p ts ≡ accepted q → lines_read n p ts ≡ accepted r → q ≡ r
  unfolding lines_read
  lines_same [] p q r e f = same q r (sym e ∙ f)
  lines_same (t ∷ ts) p q r e f =
      let x = then_accepts (line_read m p t) (λ l. lines_read m (with_line p l) ts) q e in
      let y = then_accepts (line_read n p t) (λ l. lines_read n (with_line p l) ts) r f in
      let z : x.0 ≡ y.0 = line_same p t x.0 y.0 x.1 y.1 in
      lines_same ts (with_line p x.0) q r x.2 (ap (λ (l : Line). lines_read n (with_line p l) ts) z ∙ y.2)

  head_same : (t : List ℕ) (p q : Program) → head_read m t ≡ accepted p → head_read n t ≡ accepted q → p ≡ q
  unfolding head_read
  head_same t p q e f =
      let a = placed_at 1 (line_judged true (said t)) in
      let x = then_accepts a (as_head m) p e in
      let y = then_accepts a (as_head n) q f in
      let z : x.0 ≡ y.0 = same x.0 y.0 (sym x.1 ∙ y.1) in
      by x.0 x.2 (ap (as_head n) z ∙ y.2)
    where
      by : (c : Content) → as_head m c ≡ accepted p → as_head n c ≡ accepted q → p ≡ q
      by (Deck.head h) e f =
          sym (unless_accepts (room_number m [] (entry (only h))) 1 (only h) p e).1 ∙ (unless_accepts (room_number n [] (entry (only h))) 1 (only h) q f).1
      by (Deck.order o) e f = let z : ◌≡◌ {A = ℕ} 0 1 = cc in absurd (omega arith)
      by (Deck.constant c) e f = let z : ◌≡◌ {A = ℕ} 0 1 = cc in absurd (omega arith)

  file_same : (ts : List (List ℕ)) (p q : Program) → file_read m ts ≡ accepted p → file_read n ts ≡ accepted q → p ≡ q
  file_same [] p q e f = let z : ◌≡◌ {A = ℕ} 0 1 = cc in absurd (omega arith)
  file_same (t ∷ ts) p q e f =
      let x = then_accepts (head_read m t) (λ r. lines_read m r ts) p e in
      let y = then_accepts (head_read n t) (λ r. lines_read n r ts) q f in
      let z : x.0 ≡ y.0 = head_same t x.0 y.0 x.1 y.1 in
      lines_same ts x.0 p q x.2 (ap (λ (r : Program). lines_read n r ts) z ∙ y.2)

pub program_same : OneProgram
program_same m n file p q e f = file_same m n (lines_of file) p q (taken m file p e).read (taken n file q f).read

-- An accepted file's program is what its lines say, line by line; it has at most 1,008 constants. Assumes nothing.
use mathlib.Core.Path.{◌≡◌, refl, sym, ap, subst, ◌∙◌}
use mathlib.Core.Bool.{Bool, true, false}
use mathlib.Core.List.{List, [], ◌∷◌, ◌++◌, map, append_assoc, append-nil}
use mathlib.Core.Option.{Option, some, none}
use Prim.Native.Nat.{ℕ, ◌≤◌}
use native.Mathlib.Omega.{arith}
use borrow.Author.Tests.{ltb-true}
use lib.Dec.{ltb, leb}
use lib.Ieee.{of_int, binary64}
use lib.IntN.{nat_abs}
use lib.ListN.{length, drop, length-append}
use Rattle.base.proofs.Bools.{T_true, passed}
use Rattle.refusal.specs.Answer.{Answer, accepted, refused}
use Rattle.refusal.specs.declared.Refusal.{Refusal}
use Rattle.ast.specs.Uses.{uses, registers_fit}
use Rattle.ast.specs.declared.Operand.{Operand}
use Rattle.ast.specs.declared.Constant.TheVariants.{Float, Bits}
use Rattle.ast.specs.Constant.{constant_bits}
use Rattle.text.specs.Lines.{lines_of}
use Rattle.form.specs.Text.{DeckLine, text}
use Rattle.form.specs.Text as Text
use Rattle.form.specs.Grammar.{said}
use Rattle.form.proofs.Grammar.{grammar}
use Rattle.deck.specs.Judge.{Content, demand, operand_judged, judged, line_judged}
use Rattle.deck.specs.Judge as Deck
use Rattle.reading.specs.Line.{Line, order, constant}
use Rattle.reading.specs.Program.{Program, constants}
use Rattle.call.specs.Layout.{entry}
use Rattle.routine.specs.Routine.{placed_at, next_line, with_line, only, room_number, order_number, constant_number, as_line, line_read, lines_read, as_head, head_read, file_read, program_of}
use Rattle.routine.proofs.LawLines.{constants_order, constants_last}
use Rattle.correctness.proofs.Accepts.{same, unless_accepts, placed_accepts, then_accepts, operand_cases}
use Rattle.correctness.proofs.Taken.{taken}

-- what a line behind line 1 says
abbrev pub says : List ℕ → Answer Content
says t = line_judged false (said t)

abbrev pub content : Line → Answer Content
content (order o) = accepted (Deck.order o)
content (constant c) = accepted (Deck.constant c)

abbrev Few : Program → Type 0
Few p = length (constants p.lines) ≤ 1008

module _ (size : ℕ) where
  line_lined : (p : Program) (t : List ℕ) (l : Line) → Few p → line_read size p t ≡ accepted l → (says t ≡ content l) × Few (with_line p l)
  unfolding line_read
  line_lined p t l f e =
      let x = then_accepts (placed_at (next_line p) (says t)) (as_line size p) l e in
      by x.0 (placed_accepts (next_line p) (says t) x.0 x.1) x.2
    where
      by : (c : Content) → says t ≡ accepted c → as_line size p c ≡ accepted l → (says t ≡ content l) × Few (with_line p l)
      by (Deck.head h) s e = let z : ◌≡◌ {A = ℕ} 0 1 = cc in absurd (omega arith)
      by (Deck.order o) s e =
          let u = (unless_accepts (order_number size p o) (next_line p) (order o) l e).1 in
          subst (λ (k : Line). (says t ≡ content k) × Few (with_line p k)) u (s, rw (constants_order p.lines o) f)
      by (Deck.constant c) s e =
          let u = unless_accepts (constant_number p) (next_line p) (constant c) l e in
          let v = ltb-true (length (constants p.lines)) 1008 (T_true _ (passed (ltb (length (constants p.lines)) 1008) 0 8 u.0).0) in
          subst (λ (k : Line). (says t ≡ content k) × Few (with_line p k)) u.1 (s, rw (constants_last p.lines c) (omega (arith, length-append (constants p.lines) (constant_bits c ∷ []))))

  lines_lined : (ts : List (List ℕ)) (p q : Program) → Few p → lines_read size p ts ≡ accepted q → Few q × (ls : List Line) × (q.lines ≡ p.lines ++ ls) × (map says ts ≡ map content ls)
  unfolding lines_read
  lines_lined [] p q f e = let z = same p q e in (subst Few z f, [], rw (append-nil p.lines) (ap (λ (r : Program). r.lines) (sym z)), refl)
  lines_lined (t ∷ ts) p q f e =
      let x = then_accepts (line_read size p t) (λ l. lines_read size (with_line p l) ts) q e in
      let s = line_lined p t x.0 f x.1 in
      let y = lines_lined ts (with_line p x.0) q s.1 x.2 in
      (y.0, x.0 ∷ y.1, y.2 ∙ append_assoc p.lines (x.0 ∷ []) y.1, rw (s.0, y.3))

  head_lined : (t : List ℕ) (p : Program) → head_read size t ≡ accepted p → p.lines ≡ []
  unfolding head_read
  head_lined t p e =
      let x = then_accepts (placed_at 1 (line_judged true (said t))) (as_head size) p e in
      by x.0 x.2
    where
      by : (c : Content) → as_head size c ≡ accepted p → p.lines ≡ []
      by (Deck.head h) e = ap (λ (q : Program). q.lines) (sym (unless_accepts (room_number size [] (entry (only h))) 1 (only h) p e).1)
      by (Deck.order o) e = let z : ◌≡◌ {A = ℕ} 0 1 = cc in absurd (omega arith)
      by (Deck.constant c) e = let z : ◌≡◌ {A = ℕ} 0 1 = cc in absurd (omega arith)

  file_lined : (ts : List (List ℕ)) (p : Program) → file_read size ts ≡ accepted p → Few p × (map says (drop 1 ts) ≡ map content p.lines)
  unfolding constants
  file_lined [] p e = let z : ◌≡◌ {A = ℕ} 0 1 = cc in absurd (omega arith)
  file_lined (t ∷ ts) p e =
      let x = then_accepts (head_read size t) (λ q. lines_read size q ts) p e in
      let h = head_lined t x.0 x.1 in
      let y = lines_lined ts x.0 p (rw h (omega arith)) x.2 in
      let n : p.lines ≡ y.1 = y.2 ∙ ap (λ (ls : List Line). ls ++ y.1) h in
      (y.0, y.3 ∙ ap (map content) (sym n))

pub lined : (size : ℕ) (file : List ℕ) (p : Program) → program_of size file ≡ accepted p → (length (constants p.lines) ≤ 1008) × (map says (drop 1 (lines_of file)) ≡ map content p.lines)
lined size file p e = file_lined size (lines_of file) p (taken size file p e).read

-- ---- one line

-- the program's line that the text of a line is read as
abbrev pub ReadAs : DeckLine → Line → Type 0
ReadAs (Text.head H) l = ⊥
ReadAs (Text.order o) l = l ≡ order o
ReadAs (Text.float z) l = l ≡ constant (Float (of_int binary64 z))
ReadAs (Text.bits n) l = l ≡ constant (Bits n)

not_refused : {n place : ℕ} (l : Line) → refused n place ≡ content l → ⊥
not_refused (order o) e = let z : ◌≡◌ {A = ℕ} 0 1 = cc in omega arith
not_refused (constant c) e = let z : ◌≡◌ {A = ℕ} 0 1 = cc in omega arith

demand_met : (b : Bool) (r : Refusal) (a : Answer Content) (l : Line) → demand b r a ≡ content l → a ≡ content l
demand_met true r a l e = e
demand_met false r a l e = absurd (not_refused l e)

operand_met : (x : Operand) (a : Answer Content) (l : Line) → operand_judged x a ≡ content l → a ≡ content l
operand_met x a l = operand_cases (λ b. b ≡ content l → a ≡ content l) a (λ e. e) (λ t. demand_met t Refusal.Count a l) (λ t. demand_met t Refusal.Label a l) x

same_line : (k l : Line) → content k ≡ content l → l ≡ k
same_line (order o) (order q) e = cc
same_line (order o) (constant c) e = let z : ◌≡◌ {A = ℕ} 0 1 = cc in absurd (omega arith)
same_line (constant c) (order o) e = let z : ◌≡◌ {A = ℕ} 0 1 = cc in absurd (omega arith)
same_line (constant c) (constant d) e = cc

pub read_as : (t : List ℕ) (l : Line) → says t ≡ content l → (d : DeckLine) × (text d ≡ t) × ReadAs d l
unfolding line_judged judged
read_as t l e = by (said t) refl e
  where
    by : (o : Option DeckLine) → said t ≡ o → line_judged false o ≡ content l → (d : DeckLine) × (text d ≡ t) × ReadAs d l
    by none s e = absurd (not_refused l e)
    by (some (Text.head H)) s e = absurd (not_refused l e)
    by (some (Text.order o)) s e =
        let a : Answer Content = operand_judged (uses o).operand (accepted (Deck.order o)) in
        let f = demand_met (registers_fit (uses o).registers) Refusal.Register a l e in
        (Text.order o, (grammar.0 t (Text.order o) s).1, same_line (order o) l (operand_met (uses o).operand (accepted (Deck.order o)) l f))
    by (some (Text.float z)) s e =
        let k : Line = constant (Float (of_int binary64 z)) in
        (Text.float z, (grammar.0 t (Text.float z) s).1, same_line k l (demand_met (leb (nat_abs z) 9007199254740992) Refusal.Value (content k) l e))
    by (some (Text.bits n)) s e = (Text.bits n, (grammar.0 t (Text.bits n) s).1, same_line (constant (Bits n)) l e)

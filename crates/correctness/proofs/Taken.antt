-- What an accepted file's lines have, taken in order.
use mathlib.Core.Path.{◌≡◌, refl, sym, subst, ◌∙◌}
use mathlib.Core.Bool.{true, false}
use mathlib.Core.List.{List, [], ◌∷◌, ◌++◌}
use mathlib.Core.Option.{Option, some, none}
use Prim.Native.Nat.{ℕ, ◌^◌, ◌<◌}
use native.Mathlib.Omega.{arith}
use lib.Dec.{T, leb}
use lib.ListN.{length}
use Rattle.ast.specs.Uses.{index_holds, saves_hold}
use Rattle.refusal.specs.Answer.{Answer, accepted}
use Rattle.ast.specs.declared.Head.{Head}
use Rattle.text.specs.Lines.{lines_of}
use Rattle.form.specs.Grammar.{said}
use Rattle.deck.specs.Judge.{Content, line_judged}
use Rattle.deck.specs.Judge as Deck
use Rattle.ast.specs.Constant.{constant_bits}
use Rattle.base.proofs.Bools.{passed}
use Rattle.reading.specs.Line.{Line, order, constant}
use Rattle.orders.specs.Fault.{fault}
use Rattle.assembler.specs.Resolved.{jumps_in}
use Rattle.reading.specs.Program.{Program}
use Rattle.call.specs.Layout.{body, entry, exit, data_items, items}
use Rattle.routine.specs.Routine.{then, next_line, last_line, with_line, only, order_number, constant_number, room_number, as_line, line_read, lines_read, as_head, head_read, file_read, closed_off, jump_lines, first_line, unset, far, refused_at, finished, program_of, placed_at}
use Rattle.correctness.proofs.Accepts.{same, unless_accepts, placed_accepts, cond_accepts, then_accepts}
use Rattle.correctness.proofs.Contents.{Fit, line_fits}

abbrev pub FitLine : Head → Line → Type 0
FitLine H (order o) = (fault o ≡ 0) × T (index_holds H o) × T (saves_hold H.mask o)
FitLine H (constant c) = constant_bits c < 2 ^ 64

abbrev pub FitLines : Head → List Line → Type 0
FitLines H [] = Unit {0}
FitLines H (l ∷ ls) = FitLine H l × FitLines H ls

abbrev pub Fitting : Program → Type 0
Fitting p = Fit (Deck.head p.head) × FitLines p.head p.lines

one_more : (H : Head) (ls : List Line) (l : Line) → FitLines H ls → FitLine H l → FitLines H (ls ++ (l ∷ []))
one_more H [] l f g = (g, tt)
one_more H (k ∷ ls) l f g = (f.0, one_more H ls l f.1 g)

module _ (size : ℕ) where
  line_fit : (p : Program) (t : List ℕ) (l : Line) → line_read size p t ≡ accepted l → FitLine p.head l
  unfolding line_read
  line_fit p t l e =
      let x = then_accepts (placed_at (next_line p) (line_judged false (said t))) (as_line size p) l e in
      by x.0 (line_fits false t x.0 (placed_accepts (next_line p) (line_judged false (said t)) x.0 x.1)) x.2
    where
      by : (c : Content) → Fit c → as_line size p c ≡ accepted l → FitLine p.head l
      by (Deck.head h) f e = let z : ◌≡◌ {A = ℕ} 0 1 = cc in absurd (omega arith)
      by (Deck.order o) f e =
          let u = unless_accepts (order_number size p o) (next_line p) (order o) l e in
          let v = passed (index_holds p.head o) _ 8 u.0 in
          let w = passed (saves_hold p.head.mask o) _ 10 v.1 in
          subst (FitLine p.head) u.1 (f, v.0, w.0)
      by (Deck.constant c) f e = subst (FitLine p.head) (unless_accepts (constant_number p) (next_line p) (constant c) l e).1 f

  lines_fit : (ts : List (List ℕ)) (p q : Program) → Fitting p → lines_read size p ts ≡ accepted q → Fitting q
  unfolding lines_read
  lines_fit [] p q f e = subst Fitting (same p q e) f
  lines_fit (t ∷ ts) p q f e =
      let x = then_accepts (line_read size p t) (λ l. lines_read size (with_line p l) ts) q e in
      lines_fit ts (with_line p x.0) q (f.0, one_more p.head p.lines x.0 f.1 (line_fit p t x.0 x.1)) x.2

  head_fit : (t : List ℕ) (p : Program) → head_read size t ≡ accepted p → Fitting p
  unfolding head_read
  head_fit t p e =
      let x = then_accepts (placed_at 1 (line_judged true (said t))) (as_head size) p e in
      by x.0 (line_fits true t x.0 (placed_accepts 1 (line_judged true (said t)) x.0 x.1)) x.2
    where
      by : (c : Content) → Fit c → as_head size c ≡ accepted p → Fitting p
      by (Deck.head h) f e = subst Fitting (unless_accepts (room_number size [] (entry (only h))) 1 (only h) p e).1 (f, tt)
      by (Deck.order o) f e = let z : ◌≡◌ {A = ℕ} 0 1 = cc in absurd (omega arith)
      by (Deck.constant c) f e = let z : ◌≡◌ {A = ℕ} 0 1 = cc in absurd (omega arith)

  pub file_fit : (ts : List (List ℕ)) (p : Program) → file_read size ts ≡ accepted p → Fitting p
  file_fit [] p e = let z : ◌≡◌ {A = ℕ} 0 1 = cc in absurd (omega arith)
  file_fit (t ∷ ts) p e =
      let x = then_accepts (head_read size t) (λ q. lines_read size q ts) p e in
      lines_fit ts x.0 p (head_fit t x.0 x.1) x.2

-- ---- finishing

none_refused : (n : ℕ) (o : Option ℕ) (a : Answer Program) (p : Program) → refused_at n o a ≡ accepted p → (o ≡ none) × (a ≡ accepted p)
none_refused n none a p e = (refl, e)
none_refused n (some k) a p e = let z : ◌≡◌ {A = ℕ} 0 1 = cc in absurd (omega arith)

-- no jump's label is unset
abbrev pub AllSet : Program → Type 0
AllSet p = first_line (unset (items p)) (jumps_in 0 (items p)) (jump_lines p) ≡ none

finished_set : (p q : Program) → finished p ≡ accepted q → (p ≡ q) × AllSet p
unfolding finished
finished_set p q e =
    let x = none_refused 5 (first_line (unset (items p)) (jumps_in 0 (items p)) (jump_lines p)) _ q e in
    let y = none_refused 6 (first_line (far (items p)) (jumps_in 0 (items p)) (jump_lines p)) (accepted p) q x.1 in
    (same p q y.1, x.0)

-- ---- the whole

pub record Taken (size : ℕ) (file : List ℕ) (p : Program) : Type 0 where
  pub read : file_read size (lines_of file) ≡ accepted p
  pub fitting : Fitting p
  pub roomy : room_number size (entry p ++ body p.lines) (exit p ++ data_items p) ≡ 0
  pub set : AllSet p

pub taken : (size : ℕ) (file : List ℕ) (p : Program) → program_of size file ≡ accepted p → Taken size file p
unfolding program_of closed_off
taken size file p e =
    let a = (cond_accepts (leb (length file) 65536) 7 1 _ p e).1 in
    let x = then_accepts (file_read size (lines_of file)) (λ q. then (closed_off size q) finished) p a in
    let q : Program = x.0 in
    let y = then_accepts (closed_off size q) finished p x.2 in
    let u = unless_accepts (room_number size (entry q ++ body q.lines) (exit q ++ data_items q)) (last_line q) q y.0 y.1 in
    let v = finished_set y.0 p y.2 in
    subst (Taken size file) (u.1 ∙ v.0)
    (record {
      read = x.1;
      fitting = file_fit size (lines_of file) q x.1;
      roomy = u.0;
      set = subst AllSet (sym u.1) v.1;
    })

-- The marks that the file's lines give are those of its program's constants. Assumes nothing.
use mathlib.Core.Path.{◌≡◌, refl, sym, ap, ◌∙◌, fun_ext}
use mathlib.Core.Bool.{Bool, true, false, ◌&&◌}
use mathlib.Core.List.{List, [], ◌∷◌, map}
use Rattle.std.specs.declared.option.Option.{Option}
use Rattle.std.specs.declared.option.Option.TheVariants.{Some, None}
use Prim.Native.Nat.{ℕ, zero, suc, ◌≤◌}
use native.Mathlib.Omega.{arith}
use borrow.Author.Tests.{ltb-false}
use lib.Dec.{ltb}
use lib.ListN.{length, drop}
use Rattle.ast.specs.declared.Constant.TheVariants.{Float, Bits}
use Rattle.ast.specs.declared.Unary.TheVariants.{Fmov, Recip, Round, Floor, Not}
use Rattle.ast.specs.declared.Scratched.TheVariants.{Sign, Frac}
use Rattle.ast.specs.declared.Binary.TheVariants.{Minus, Times, Divide, Gt, Neq, And, Andnot, Or, Xor}
use Rattle.ast.specs.declared.Fused.TheVariants.{MulAdd, MulSub, NegMulAdd, NegMulSub}
use Rattle.ast.specs.declared.Order.{Order}
use Rattle.ast.specs.declared.Order.TheVariants.{Unary, Scratched, Binary, Fused, Ifelse, LoadConst, Load, Save, BranchIf, SetLabel}
use Rattle.text.specs.Fields.{commas}
use Rattle.text.specs.Lines.{lines_of}
use Rattle.text.specs.Readers.{same}
use Rattle.form.specs.Text.{DeckLine, text}
use Rattle.form.specs.Text as Text
use Rattle.reading.specs.Line.{Line, order, constant}
use Rattle.reading.specs.Program.{Program, constants}
use Rattle.refusal.specs.Answer.{accepted}
use Rattle.routine.specs.Routine.{program_of}
use Rattle.correctness.proofs.Lined.{says, content, lined, ReadAs, read_as}
use Rattle.print.specs.Listing.{marked}
use Rattle.listing.specs.Views.{hidden_in}
use Rattle.listing.specs.Inner.Marks.{mark_of, marks_of, hidden_by}
use Rattle.listing.specs.declared.View.{View}
use Rattle.listing.specs.declared.View.TheVariants.{Maintainer, Attendant}
use Rattle.listing.proofs.Noted.{not_marked, one_mark}

-- ---- a line's text

order_mark : (o : Order) → mark_of (text (Text.order o)) ≡ None
unfolding text commas same
order_mark (Unary Fmov d s) = refl
order_mark (Unary Recip d s) = refl
order_mark (Unary Round d s) = refl
order_mark (Unary Floor d s) = refl
order_mark (Unary Not d s) = refl
order_mark (Scratched Sign d s t) = refl
order_mark (Scratched Frac d s t) = refl
order_mark (Binary Minus d a b) = refl
order_mark (Binary Times d a b) = refl
order_mark (Binary Divide d a b) = refl
order_mark (Binary Gt d a b) = refl
order_mark (Binary Neq d a b) = refl
order_mark (Binary And d a b) = refl
order_mark (Binary Andnot d a b) = refl
order_mark (Binary Or d a b) = refl
order_mark (Binary Xor d a b) = refl
order_mark (Fused MulAdd d a b c) = refl
order_mark (Fused MulSub d a b c) = refl
order_mark (Fused NegMulAdd d a b c) = refl
order_mark (Fused NegMulSub d a b c) = refl
order_mark (Ifelse d a b i) = refl
order_mark (LoadConst d k) = refl
order_mark (Load d p i) = refl
order_mark (Save s p i) = refl
order_mark (BranchIf c l e) = refl
order_mark (SetLabel l) = refl

-- none for an order, 0 for `float`, 1 for `bits`
abbrev kind : Line → Option ℕ
kind (order o) = None
kind (constant (Float x)) = Some 0
kind (constant (Bits n)) = Some 1

text_mark : (d : DeckLine) (l : Line) → ReadAs d l → mark_of (text d) ≡ kind l
unfolding text commas same
text_mark (Text.head H) l e = absurd e
text_mark (Text.order o) l e = order_mark o ∙ sym (ap kind e)
text_mark (Text.float z) l e = sym (ap kind e)
text_mark (Text.bits n) l e = sym (ap kind e)

line_mark : (t : List ℕ) (l : Line) → says t ≡ content l → mark_of t ≡ kind l
line_mark t l e = let x = read_as t l e in ap mark_of (sym x.1) ∙ text_mark x.0 l x.2

-- ---- all lines

lines_marked : (ts : List (List ℕ)) (ls : List Line) → map says ts ≡ map content ls → (k : ℕ) → marked (marks_of ts) k ≡ hidden_in Attendant ls k
unfolding marks_of hidden_in
lines_marked [] [] e k = refl
lines_marked [] (l ∷ ls) e k = let z : ◌≡◌ {A = ℕ} 0 1 = cc in absurd (omega arith)
lines_marked (t ∷ ts) [] e k = let z : ◌≡◌ {A = ℕ} 0 1 = cc in absurd (omega arith)
lines_marked (t ∷ ts) (l ∷ ls) e k =
    let h : says t ≡ content l = cc in
    let r : map says ts ≡ map content ls = cc in
    by l (line_mark t l h) k (lines_marked ts ls r)
  where
    by : (l : Line) → mark_of t ≡ kind l → (k : ℕ) → ((j : ℕ) → marked (marks_of ts) j ≡ hidden_in Attendant ls j) → marked (marks_of (t ∷ ts)) k ≡ hidden_in Attendant (l ∷ ls) k
    by (order o) m k r = rw (not_marked t ts m) (r k)
    by (constant (Float x)) m zero r = rw (one_mark t ts _ m)
    by (constant (Float x)) m (suc k) r = rw (one_mark t ts _ m) (r k)
    by (constant (Bits n)) m zero r = rw (one_mark t ts _ m)
    by (constant (Bits n)) m (suc k) r = rw (one_mark t ts _ m) (r k)

-- behind the last constant nothing is hidden
pub no_constant : (v : View) (ls : List Line) (k : ℕ) → length (constants ls) ≤ k → hidden_in v ls k ≡ false
unfolding hidden_in constants
no_constant v [] k h = refl
no_constant v (order o ∷ ls) k h = no_constant v ls k h
no_constant v (constant c ∷ ls) zero h = absurd (omega arith)
no_constant v (constant c ∷ ls) (suc k) h = no_constant v ls k (omega arith)

pub none_hidden : (ls : List Line) (k : ℕ) → hidden_in Maintainer ls k ≡ false
unfolding hidden_in
none_hidden [] k = refl
none_hidden (order o ∷ ls) k = none_hidden ls k
none_hidden (constant c ∷ ls) zero = refl
none_hidden (constant c ∷ ls) (suc k) = none_hidden ls k

module _ (size : ℕ) (file : List ℕ) (p : Program) (e : program_of size file ≡ accepted p) where
  hidden_as : (v : View) (k : ℕ) → hidden_by v file k ≡ hidden_in v p.lines k
  hidden_as Maintainer k = sym (none_hidden p.lines k)
  hidden_as Attendant k = by (ltb k 1008) refl
    where
      by : (t : Bool) → ltb k 1008 ≡ t → (t && marked (marks_of (drop 1 (lines_of file))) k) ≡ hidden_in Attendant p.lines k
      by true x = lines_marked (drop 1 (lines_of file)) p.lines (lined size file p e).1 k
      by false x = sym (no_constant Attendant p.lines k (omega (arith, (lined size file p e).0, ltb-false k 1008 x)))

  -- What the code hides of an accepted file is what the view hides of its program.
  pub hidden_same : (v : View) → hidden_by v file ≡ hidden_in v p.lines
  hidden_same v = fun_ext (hidden_as v)

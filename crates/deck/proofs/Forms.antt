-- The judge over forms is the judge over lines: a number below its bound is one of 64 bits, as itself; one that is not fails both tests.
-- Assumes nothing.
use mathlib.Core.Path.{◌≡◌, refl, sym, ◌∙◌}
use mathlib.Core.Bool.{Bool, true, false, ◌&&◌, cond, beq}
use mathlib.Core.List.{List, [], ◌∷◌}
use mathlib.Core.Option.{Option, some, none}
use Prim.Native.Nat.{ℕ, suc, ◌+◌, ◌^◌, ◌≤◌}
use native.Mathlib.Omega.{arith}
use borrow.Author.Tests.{lt-ltb, le-ltb, ltb-true, ltb-false, leb-true, leb-false}
use lib.Dec.{ltb, leb}
use lib.IntN.{ℤ, pos, negsuc, nat_abs}
use Rattle.base.proofs.Bools.{both, and_true}
use Rattle.refusal.specs.Answer.{Answer, accepted, refused}
use Rattle.std.specs.Prelude as rust
use Rattle.std.specs.Prelude.{Some, None}
use Rattle.refusal.specs.Number.{number_of}
use Rattle.refusal.specs.declared.Refusal.{Refusal}
use Rattle.ast.specs.Count.{cells}
use Rattle.ast.specs.Counts.{frame_holds, prologue_holds, result_holds, epilogue_holds, cap_holds, counts_hold}
use Rattle.ast.specs.Uses.{registers_fit}
use Rattle.ast.specs.declared.Frame.{Frame}
use Rattle.ast.specs.declared.Frame.TheVariants.{Fast, Indirect}
use Rattle.ast.specs.declared.Head.{Head}
use Rattle.ast.specs.declared.Order.{Order}
use Rattle.text.specs.Readers.{sized}
use Rattle.text.specs.declared.Number.{Number}
use Rattle.text.specs.declared.Number.TheVariants.{Value, TooBig}
use Rattle.form.specs.Text.{DeckLine}
use Rattle.form.specs.Text as Text
use Rattle.form.specs.Grammar.{said}
use Rattle.form.specs.Form.{is_negative, cut, formed, form_of}
use Rattle.form.specs.declared.Form.{Form}
use Rattle.deck.specs.Judge.{Content, head, demand, judged, is_head, line_judged}
use Rattle.deck.specs.Inner.Forms.{below, value, register, signed, head_of, form_judged, form_is_head}

-- ---- numbers below a bound

module _ (k n : ℕ) (h : k ≤ 2 ^ 64) where
  pub below_sized : below k (sized n) ≡ ltb n k
  below_sized = go (ltb n 18446744073709551616) refl
    where
      go : (t : Bool) → ltb n 18446744073709551616 ≡ t → below k (cond t (Value n) TooBig) ≡ ltb n k
      go true e = refl
      go false e = sym (le-ltb n k (omega (arith, ltb-false n 18446744073709551616 e)))

  pub value_sized : ltb n k ≡ true → value (sized n) ≡ n
  value_sized e = rw (lt-ltb n 18446744073709551616 (omega (arith, ltb-true n k e)))

-- below k + 1, and at most k
at_most : (n k : ℕ) → ltb n (suc k) ≡ leb n k
at_most n k = go (leb n k) refl
  where
    go : (t : Bool) → leb n k ≡ t → ltb n (suc k) ≡ t
    go true e = lt-ltb n (suc k) (omega (arith, leb-true n k e))
    go false e = le-ltb n (suc k) (omega (arith, leb-false n k e))

-- ---- tests

-- equal tests, and equal answers where they hold
demands : {t u : Bool} (r : Refusal) {a b : Answer Content} → t ≡ u → (u ≡ true → a ≡ b) → demand t r a ≡ demand u r b
demands {t} {u} r {a} {b} e f = rw e (go u refl)
  where
    go : (v : Bool) → u ≡ v → demand v r a ≡ demand v r b
    go true g = f g
    go false g = refl

module _ (n : ℕ) where
  is_register : register (sized n) ≡ ltb n 32
  is_register = below_sized 32 n (omega arith)

  its_value : ltb n 32 ≡ true → value (sized n) ≡ n
  its_value e = value_sized 32 n (omega arith) e

-- one to four registers: the test, and their values where it holds
one_fits : (d : ℕ) → register (sized d) ≡ registers_fit (d ∷ [])
one_fits d = rw (is_register d) (and_true (ltb d 32))

one_value : (d : ℕ) → registers_fit (d ∷ []) ≡ true → value (sized d) ≡ d
one_value d e = its_value d (both (ltb d 32) true e).0

module _ (d s : ℕ) where
  two_fit : (register (sized d) && register (sized s)) ≡ registers_fit (d ∷ s ∷ [])
  two_fit = rw (is_register d, one_fits s)

  two_values : registers_fit (d ∷ s ∷ []) ≡ true → (value (sized d) ≡ d) × (value (sized s) ≡ s)
  two_values e = let g = both (ltb d 32) (registers_fit (s ∷ [])) e in (its_value d g.0, one_value s g.1)

module _ (d s t : ℕ) where
  three_fit : (register (sized d) && (register (sized s) && register (sized t))) ≡ registers_fit (d ∷ s ∷ t ∷ [])
  three_fit = rw (is_register d, two_fit s t)

  three_values : registers_fit (d ∷ s ∷ t ∷ []) ≡ true → (value (sized d) ≡ d) × (value (sized s) ≡ s) × (value (sized t) ≡ t)
  three_values e =
      let g = both (ltb d 32) (registers_fit (s ∷ t ∷ [])) e in
      let v = two_values s t g.1 in
      (its_value d g.0, v.0, v.1)

module _ (d s t v : ℕ) where
  four_fit : (register (sized d) && (register (sized s) && (register (sized t) && register (sized v)))) ≡ registers_fit (d ∷ s ∷ t ∷ v ∷ [])
  four_fit = rw (is_register d, three_fit s t v)

  four_values : registers_fit (d ∷ s ∷ t ∷ v ∷ []) ≡ true → (value (sized d) ≡ d) × (value (sized s) ≡ s) × (value (sized t) ≡ t) × (value (sized v) ≡ v)
  four_values e =
      let g = both (ltb d 32) (registers_fit (s ∷ t ∷ v ∷ [])) e in
      let w = three_values s t v g.1 in
      (its_value d g.0, w.0, w.1, w.2)

-- a last number below a bound
last_demand : (k n : ℕ) → k ≤ 2 ^ 64 → (r : Refusal) {a b : Answer Content} → (value (sized n) ≡ n → a ≡ b) → demand (below k (sized n)) r a ≡ demand (ltb n k) r b
last_demand k n h r f = demands r (below_sized k n h) (λ e. f (value_sized k n h e))

label_demand : (n : ℕ) {a b : Answer Content} → (value (sized n) ≡ n → a ≡ b) → demand (below 1024 (sized n)) Refusal.Label a ≡ demand (leb n 1023) Refusal.Label b
label_demand n f = demands Refusal.Label (below_sized 1024 n (omega arith) ∙ at_most n 1023) (λ e. f (value_sized 1024 n (omega arith) (at_most n 1023 ∙ e)))

-- ---- orders

order_law : (o : Order) → form_judged (cut (Text.order o)) ≡ judged (Text.order o)
unfolding form_judged judged
order_law (Order.Unary u d s) = demands Refusal.Register (two_fit d s) (λ e. let v = two_values d s e in rw (v.0, v.1))
order_law (Order.Scratched u d s t) = demands Refusal.Register (three_fit d s t) (λ e. let v = three_values d s t e in rw (v.0, v.1, v.2))
order_law (Order.Binary u d a b) = demands Refusal.Register (three_fit d a b) (λ e. let v = three_values d a b e in rw (v.0, v.1, v.2))
order_law (Order.Fused u d a b c) = demands Refusal.Register (four_fit d a b c) (λ e. let v = four_values d a b c e in rw (v.0, v.1, v.2, v.3))
order_law (Order.Ifelse d a b i) =
    demands Refusal.Register (three_fit d a b) (λ e. let v = three_values d a b e in last_demand 4096 i (omega arith) Refusal.Count (λ w. rw (v.0, v.1, v.2, w)))
order_law (Order.LoadConst d k) = demands Refusal.Register (one_fits d) (λ e. last_demand 1008 k (omega arith) Refusal.Count (λ w. rw (one_value d e, w)))
order_law (Order.Load d p i) = demands Refusal.Register (one_fits d) (λ e. last_demand 4096 i (omega arith) Refusal.Count (λ w. rw (one_value d e, w)))
order_law (Order.Save s p i) = demands Refusal.Register (one_fits s) (λ e. last_demand 4096 i (omega arith) Refusal.Count (λ w. rw (one_value s e, w)))
order_law (Order.BranchIf c l b) = demands Refusal.Register (one_fits c) (λ e. label_demand l (λ w. rw (one_value c e, w)))
order_law (Order.SetLabel l) = label_demand l (λ w. rw w)

-- ---- line 1

-- four numbers below one bound
abbrev are_below : ℕ → (a b c d : Number) → Bool
are_below k a b c d = below k a && (below k b && (below k c && below k d))

grouped : (p q r s t : Bool) → p && (q && (r && (s && t))) ≡ (p && (q && (r && s))) && t
grouped true true true s t = refl
grouped true true false s t = refl
grouped true false r s t = refl
grouped false q r s t = refl

-- counts that hold are at most 4,096 each
module _ (H : Head) (e : counts_hold H ≡ true) where
  holds : epilogue_holds H ≡ true
  unfolding counts_hold
  holds = (both (epilogue_holds H) (cap_holds H) e).0

  low : (n : ℕ) → n ≤ 4096 → below 4097 (sized n) ≡ true
  low n h = below_sized 4097 n (omega arith) ∙ lt-ltb n 4097 (omega (arith, h))

  last_low : (f : Frame) → frame_holds H f ≡ true → result_holds H f ≡ true → H.last ≤ 4096
  last_low Fast p q = let g = both (leb H.last 255) (ltb H.last (cells H)) q in omega (arith, leb-true H.last 255 g.0)
  last_low Indirect p q = leb-true H.last 4096 p

  counts_low : are_below 4097 (sized H.cap) (sized H.states) (sized H.obs) (sized H.last) ≡ true
  counts_low =
      let a = both (prologue_holds H) (result_holds H H.frame) holds in
      let b = both (leb H.cap 4096) (leb (cells H) 4096 && frame_holds H H.frame) a.0 in
      let c = both (leb (cells H) 4096) (frame_holds H H.frame) b.1 in
      let n = leb-true (H.states + H.obs) 4096 c.0 in
      rw (low H.cap (leb-true H.cap 4096 b.0), low H.states (omega (arith, n)), low H.obs (omega (arith, n)), low H.last (last_low H.frame c.1 a.1))

module _ (H : Head) where
  -- the head of its numbers in 64 bits
  abbrev sized_head : Head
  sized_head = head_of H.frame (sized H.cap) (sized H.states) (sized H.obs) (sized H.last) (sized H.mask)

  abbrev four : Bool
  four = are_below 4097 (sized H.cap) (sized H.states) (sized H.obs) (sized H.last)

  count_value : (n : ℕ) → below 4097 (sized n) ≡ true → value (sized n) ≡ n
  count_value n e = value_sized 4097 n (omega arith) (sym (below_sized 4097 n (omega arith)) ∙ e)

  same_head : four ≡ true → value (sized H.mask) ≡ H.mask → sized_head ≡ H
  same_head e m =
      let a = both (below 4097 (sized H.cap)) (below 4097 (sized H.states) && (below 4097 (sized H.obs) && below 4097 (sized H.last))) e in
      let b = both (below 4097 (sized H.states)) (below 4097 (sized H.obs) && below 4097 (sized H.last)) a.1 in
      let c = both (below 4097 (sized H.obs)) (below 4097 (sized H.last)) b.1 in
      rw (count_value H.cap a.0, count_value H.states b.0, count_value H.obs c.0, count_value H.last c.1, m)

  -- a count that is too big fails both tests
  counted : value (sized H.mask) ≡ H.mask → demand (four && counts_hold sized_head) Refusal.Count (accepted (head sized_head)) ≡ demand (counts_hold H) Refusal.Count (accepted (head H))
  counted m = go four (counts_hold H) refl refl
    where
      go : (t u : Bool) → four ≡ t → counts_hold H ≡ u → demand (four && counts_hold sized_head) Refusal.Count (accepted (head sized_head)) ≡ demand (counts_hold H) Refusal.Count (accepted (head H))
      go true u e g = rw (e, same_head e m)
      go false false e g = rw (e, g)
      go false true e g = absurd (let z : true ≡ false = sym (counts_low H g) ∙ e in let y : ◌≡◌ {A = ℕ} 0 1 = cc in omega (arith, y))

  head_law : form_judged (cut (Text.head H)) ≡ judged (Text.head H)
  unfolding form_judged judged
  head_law =
      demands Refusal.Value (below_sized 4294967296 H.mask (omega arith))
      (λ e. rw (grouped (below 4097 (sized H.cap)) (below 4097 (sized H.states)) (below 4097 (sized H.obs)) (below 4097 (sized H.last)) (counts_hold sized_head)) (counted (value_sized 4294967296 H.mask (omega arith) e)))

-- ---- constants

signed_is : (z : ℤ) → signed (is_negative z) (nat_abs z) ≡ z
signed_is (pos n) = refl
signed_is (negsuc n) = refl

float_law : (z : ℤ) → form_judged (cut (Text.float z)) ≡ judged (Text.float z)
unfolding form_judged judged
float_law z =
    demands Refusal.Value (below_sized 9007199254740993 (nat_abs z) (omega arith) ∙ at_most (nat_abs z) 9007199254740992)
    (λ e. rw (value_sized 9007199254740993 (nat_abs z) (omega arith) (at_most (nat_abs z) 9007199254740992 ∙ e), signed_is z))

bits_law : (n : ℕ) → form_judged (cut (Text.bits n)) ≡ judged (Text.bits n)
unfolding form_judged judged
bits_law n = refl

-- ---- all lines

pub form_law : (l : DeckLine) → form_judged (cut l) ≡ judged l
form_law (Text.head H) = head_law H
form_law (Text.order o) = order_law o
form_law (Text.float z) = float_law z
form_law (Text.bits n) = bits_law n

order_no_head : (o : Order) → form_is_head (cut (Text.order o)) ≡ false
order_no_head (Order.Unary u d s) = refl
order_no_head (Order.Scratched u d s t) = refl
order_no_head (Order.Binary u d a b) = refl
order_no_head (Order.Fused u d a b c) = refl
order_no_head (Order.Ifelse d a b i) = refl
order_no_head (Order.LoadConst d k) = refl
order_no_head (Order.Load d p i) = refl
order_no_head (Order.Save s p i) = refl
order_no_head (Order.BranchIf c l b) = refl
order_no_head (Order.SetLabel l) = refl

same_kind : (l : DeckLine) → form_is_head (cut l) ≡ is_head l
same_kind (Text.head H) = refl
same_kind (Text.order o) = order_no_head o
same_kind (Text.float z) = refl
same_kind (Text.bits n) = refl

-- a file's line by its form
unfoldable pub form_line_judged : (first : Bool) → rust.Option Form → Answer Content
form_line_judged first None = refused (number_of Refusal.Line) 0
form_line_judged first (Some f) = demand (beq (form_is_head f) first) Refusal.Line (form_judged f)

pub formed_law : (first : Bool) (o : Option DeckLine) → form_line_judged first (formed o) ≡ line_judged first o
unfolding form_line_judged line_judged
formed_law first none = refl
formed_law first (some l) = rw (same_kind l, form_law l)

pub line_law : (first : Bool) (s : List ℕ) → form_line_judged first (form_of s) ≡ line_judged first (said s)
unfolding form_of
line_law first s = formed_law first (said s)

module _ (first : Bool) (s : List ℕ) where
  pub no_form : form_of s ≡ None → line_judged first (said s) ≡ refused (number_of Refusal.Line) 0
  unfolding form_line_judged
  no_form e = sym (line_law first s) ∙ rw e

  pub has_form : (f : Form) → form_of s ≡ Some f → line_judged first (said s) ≡ demand (beq (form_is_head f) first) Refusal.Line (form_judged f)
  unfolding form_line_judged
  has_form f e = sym (line_law first s) ∙ rw e

-- Where a routine's lines, labels and constants stand.
use mathlib.Core.Path.{◌≡◌, refl, ap, sym, subst, ◌∙◌}
use mathlib.Core.Bool.{Bool, true, false, cond}
use mathlib.Core.List.{List, [], ◌∷◌, ◌++◌}
use mathlib.Core.Option.{Option, some, none}
use Prim.Native.Nat.{ℕ, zero, suc, ◌+◌, ◌*◌, ◌/◌, ◌%◌, ◌^◌, ◌<◌}
use native.Mathlib.Nat.{add_assoc, add-zero}
use native.Mathlib.Omega.{arith}
use borrow.Author.Tests.{eq-eqb, ne_eqb, eqb-false}
use lib.Dec.{eqb}
use lib.ListN.{length, get_or, get_elem?, take}
use Rattle.machine.specs.Word.{w64, load8}
use Rattle.machine.specs.Step.{CodeAt}
use Rattle.machine.proofs.Memory.{wrap_l}
use Rattle.machine.proofs.Placed.{code_left, code_right, code_eight}
use Rattle.ast.specs.declared.Order.{Order}
use Rattle.ast.specs.declared.Order.TheVariants.{Unary, Scratched, Binary, Fused, Ifelse, LoadConst, Load, Save, BranchIf, SetLabel}
use Rattle.assembler.specs.Item.{label}
use Rattle.assembler.specs.Resolved.{resolved, label_place}
use Rattle.ast.specs.Constant.{constant_label}
use Rattle.reading.specs.Line.{Line, order, constant}
use Rattle.accesses.specs.Code.{load_int_code, load_float_code, save_float_code}
use Rattle.orders.specs.Code.{base, unary_code, scratched_code, binary_code, choose_code, code, line_code}
use Rattle.reading.specs.Program.{here_or, label_line}
use Rattle.ast.specs.Uses.{sets}
use Rattle.call.specs.Layout.{span, body, constants_from}
use Rattle.call.proofs.Items.{span_append, resolved_append, resolved_length, Unset, unset_append, unset_instrs, past}

-- ---- labels of an order

pub is_label : (o : Order) (k : ℕ) → sets o ≡ some k → o ≡ SetLabel k
is_label (Unary j d s) k e = let z : ◌≡◌ {A = ℕ} 0 1 = cc in absurd (omega arith)
is_label (Scratched j d s t) k e = let z : ◌≡◌ {A = ℕ} 0 1 = cc in absurd (omega arith)
is_label (Binary j d a b) k e = let z : ◌≡◌ {A = ℕ} 0 1 = cc in absurd (omega arith)
is_label (Fused j d a b c) k e = let z : ◌≡◌ {A = ℕ} 0 1 = cc in absurd (omega arith)
is_label (Ifelse d a b i) k e = let z : ◌≡◌ {A = ℕ} 0 1 = cc in absurd (omega arith)
is_label (LoadConst d j) k e = let z : ◌≡◌ {A = ℕ} 0 1 = cc in absurd (omega arith)
is_label (Load d p i) k e = let z : ◌≡◌ {A = ℕ} 0 1 = cc in absurd (omega arith)
is_label (Save s p i) k e = let z : ◌≡◌ {A = ℕ} 0 1 = cc in absurd (omega arith)
is_label (BranchIf c l t) k e = let z : ◌≡◌ {A = ℕ} 0 1 = cc in absurd (omega arith)
is_label (SetLabel l) k e = let z : l ≡ k = cc in rw z

set_code : (o : Order) (k : ℕ) → sets o ≡ some k → code o ≡ label k ∷ []
unfolding code
set_code o k e = rw (is_label o k e)

code_unset : (l : ℕ) (o : Order) → sets o ≡ none → Unset l (code o)
unfolding code
code_unset l (Unary k d s) e = unset_instrs l (unary_code k d s)
code_unset l (Scratched k d s t) e = unset_instrs l (scratched_code k d s t)
code_unset l (Binary k d a b) e = unset_instrs l (binary_code k d a b)
code_unset l (Fused k d a b c) e = tt
code_unset l (Ifelse d a b i) e = unset_instrs l (load_int_code 5 21 (8 * i) ++ choose_code d a b)
code_unset l (LoadConst d k) e = tt
code_unset l (Load d p i) e = unset_instrs l (load_float_code d (base p) (8 * i))
code_unset l (Save s p i) e = unset_instrs l (save_float_code s (base p) (8 * i))
code_unset l (BranchIf c m e') e = tt
code_unset l (SetLabel m) e = let z : ◌≡◌ {A = ℕ} 0 1 = cc in absurd (omega arith)

-- ---- the lines

-- a label's line, and its place in the body
pub record Labelled (l h n : ℕ) (ls : List Line) (j : ℕ) : Type 0 where
  pub index : ℕ
  pub line : j ≡ n + index
  pub there : index < length ls
  pub place : label_place l h (body ls) ≡ some (h + span (body (take index ls)))

module _ (l : ℕ) where
  one_on : (h n : ℕ) (k : Line) (ls : List Line) (j : ℕ) → Unset l (line_code k) → Labelled l (h + span (line_code k)) (suc n) ls j → Labelled l h n (k ∷ ls) j
  unfolding body
  one_on h n k ls j u r =
      record {
        index = suc r.index;
        line = omega (arith, r.line);
        there = omega (arith, r.there);
        place =
            past l h (line_code k) (body ls) u
            ∙ rw (span_append (line_code k) (body (take r.index ls)), ← (add_assoc h (span (line_code k)) (span (body (take r.index ls))))) r.place;
      }

  pub labelled : (h n : ℕ) (ls : List Line) (j : ℕ) → label_line l n ls ≡ some j → Labelled l h n ls j
  unfolding label_line line_code body label_place span
  labelled h n [] j e = let z : ◌≡◌ {A = ℕ} 0 1 = cc in absurd (omega arith)
  labelled h n (constant c ∷ ls) j e = one_on h n (constant c) ls j tt (labelled (h + span []) (suc n) ls j e)
  labelled h n (order o ∷ ls) j e = by (sets o) refl e (λ q. labelled (h + span (code o)) (suc n) ls j q)
    where
      hit : (k : ℕ) → sets o ≡ some k → (b : Bool) → eqb k l ≡ b → cond b (some n) (label_line l (suc n) ls) ≡ some j → (label_line l (suc n) ls ≡ some j → Labelled l (h + span (code o)) (suc n) ls j) → Labelled l h n (order o ∷ ls) j
      hit k s true q e r =
          let z : n ≡ j = cc in
          record {
            index = 0;
            line = omega arith;
            there = omega arith;
            place = rw (set_code o k s, q, add-zero h);
          }
      hit k s false q e r = one_on h n (order o) ls j (rw (set_code o k s) (eqb-false k l q, tt)) (r e)

      by : (m : Option ℕ) → sets o ≡ m → here_or l n m (label_line l (suc n) ls) ≡ some j → (label_line l (suc n) ls ≡ some j → Labelled l (h + span (code o)) (suc n) ls j) → Labelled l h n (order o ∷ ls) j
      by none s e r = one_on h n (order o) ls j (code_unset l o s) (r e)
      by (some k) s e r = hit k s (eqb k l) refl e r

-- the words of line n
pub line_words : (m at : ℕ → ℕ) (a h n : ℕ) (l : Line) (ls : List Line) → get_elem? ls n ≡ some l → a < 2 ^ 64 → CodeAt m a (resolved at h (body ls)) → CodeAt m (w64 (a + span (body (take n ls)))) (resolved at (h + span (body (take n ls))) (line_code l))
unfolding body span
line_words m at a h n l [] e b c = let z : ◌≡◌ {A = ℕ} 0 1 = cc in absurd (omega arith)
line_words m at a h zero l (k ∷ ls) e b c =
    let q : k ≡ l = cc in
    let z : w64 (a + 0) ≡ a = omega arith in
    rw (z, add-zero h, ← q) (code_left m a (resolved at h (line_code k)) _ (rw (resolved_append at h (line_code k) (body ls)) at c))
line_words m at a h (suc n) l (k ∷ ls) e b c =
    let x : ℕ = span (line_code k) in
    let y : ℕ = span (body (take n ls)) in
    let d = code_right m a (resolved at h (line_code k)) (resolved at (h + x) (body ls)) b (rw (resolved_append at h (line_code k) (body ls)) at c) in
    let r = line_words m at (w64 (a + x)) (h + x) n l ls e (omega arith) (rw (resolved_length at h (line_code k)) at d) in
    rw (span_append (line_code k) (body (take n ls)), ← (add_assoc h x y), ← (add_assoc a x y), ← (wrap_l (a + x) y)) r

-- and where the next line stands
pub next_line : (n : ℕ) (l : Line) (ls : List Line) → get_elem? ls n ≡ some l → span (body (take (suc n) ls)) ≡ span (body (take n ls)) + span (line_code l)
unfolding body span
next_line n l [] e = let z : ◌≡◌ {A = ℕ} 0 1 = cc in absurd (omega arith)
next_line zero l (k ∷ ls) e = let q : k ≡ l = cc in rw (span_append (line_code k) [], q) (omega arith)
next_line (suc n) l (k ∷ ls) e =
    omega (arith, next_line n l ls e, span_append (line_code k) (body (take n ls)), span_append (line_code k) (body (take (suc n) ls)))

-- ---- constants

pub constant_place : (h j k : ℕ) (bs : List ℕ) → k < length bs → label_place (constant_label (j + k)) h (constants_from j bs) ≡ some (h + 8 * k)
unfolding constants_from label_place
constant_place h j k [] l = absurd (omega arith)
constant_place h j zero (b ∷ bs) l = rw (add-zero j, eq-eqb (1024 + j) (1024 + j) refl, add-zero h)
constant_place h j (suc k) (b ∷ bs) l =
    let y : j + suc k ≡ suc j + k = omega arith in
    let z : h + 8 * suc k ≡ h + 4 + 4 + 8 * k = omega arith in
    let r = constant_place (h + 4 + 4) (suc j) k bs (omega arith) in
    rw (ne_eqb (1024 + j) (1024 + (j + suc k)) (λ q. omega arith), z)
    (subst (λ (n : ℕ). label_place (constant_label n) (h + 4 + 4) (constants_from (suc j) bs) ≡ some (h + 4 + 4 + 8 * k)) (sym y) r)

pub constant_value : (m at : ℕ → ℕ) (a h j k : ℕ) (bs : List ℕ) → k < length bs → CodeAt m (w64 a) (resolved at h (constants_from j bs)) → load8 m (w64 (a + 8 * k)) ≡ get_or bs k 0
unfolding constants_from resolved
constant_value m at a h j k [] l c = absurd (omega arith)
constant_value m at a h j zero (b ∷ bs) l c = rw (add-zero a, code_eight m (w64 a) (b % 2 ^ 32) (b / 2 ^ 32) (resolved at (h + 4 + 4) (constants_from (suc j) bs)) c) (omega arith)
constant_value m at a h j (suc k) (b ∷ bs) l c =
    let z : w64 (w64 (w64 a + 4) + 4) ≡ w64 (a + 8) = omega arith in
    let y : a + 8 * suc k ≡ a + 8 + 8 * k = omega arith in
    rw y (constant_value m at (a + 8) (h + 4 + 4) (suc j) k bs (omega arith) (rw z at c.1.1))

-- ---- lines set no label but those they name

pub body_unset : (l : ℕ) (ls : List Line) → ((n k : ℕ) → get_elem? ls n ≡ some (order (SetLabel k)) → k ≡ l → ⊥) → Unset l (body ls)
unfolding body line_code
body_unset l [] h = tt
body_unset l (constant c ∷ ls) h = body_unset l ls (λ n k e. h (suc n) k e)
body_unset l (order o ∷ ls) h = unset_append l (code o) (body ls) (by (sets o) refl) (body_unset l ls (λ n k e. h (suc n) k e))
  where
    by : (m : Option ℕ) → sets o ≡ m → Unset l (code o)
    by none s = code_unset l o s
    by (some k) s = rw (set_code o k s) (h 0 k (ap (λ (x : Order). some (order x)) (is_label o k s)), tt)

-- The items of frames, orders and constants: their jumps' registers and labels, and the labels that they set. Assumes nothing.
use mathlib.Core.Path.{◌≡◌, refl, subst}
use mathlib.Core.Bool.{Bool, true, false, ◌&&◌, cond}
use mathlib.Core.List.{List, [], ◌∷◌, ◌++◌, map, append_assoc}
use Prim.Native.Nat.{ℕ, suc, ◌+◌, ◌*◌, ◌≤◌, ◌<◌}
use native.Mathlib.Omega.{arith}
use borrow.Author.Tests.{ne_eqb, leb-true, ltb-true}
use lib.Dec.{eqb, ltb, leb}
use lib.IntN.{pos}
use lib.ListN.{length}
use Rattle.base.specs.Tests.{member}
use Rattle.base.proofs.Each.{Each, each_map}
use Rattle.isa.specs.Instr.{Instr, R, I, Shift, ADD, FLD, SLLI}
use Rattle.base.proofs.Bools.{both}
use Rattle.ast.specs.declared.Frame.{Frame}
use Rattle.ast.specs.declared.Frame.TheVariants.{Fast, Indirect}
use Rattle.ast.specs.declared.Head.{Head}
use Rattle.ast.specs.declared.Order.{Order}
use Rattle.ast.specs.declared.Order.TheVariants.{Unary, Scratched, Binary, Fused, Ifelse, LoadConst, Load, Save, BranchIf, SetLabel}
use Rattle.assembler.specs.Item.{Item, instr, raw, jump, label}
use Rattle.assembler.specs.Put.{jumps, targets, labels}
use Rattle.assembler.specs.declared.JumpKind.TheVariants.{Bne}
use Rattle.accesses.specs.Code.{li_code, sub_stack_code, allocate_stack_code, load_int_code, load_float_code, save_float_code}
use Rattle.reading.specs.Size.{frame_size, stack_size}
use Rattle.ast.specs.Mask.{saved}
use Rattle.frame_code.specs.Items as F
use Rattle.frame_code.specs.Items.{mv, opening, closing, times_over, states_from, state_copy, obs_copy, count_down, at_pro, at_epi, save, reload, by_frame, repeated, prologue, prologue_fast, prologue_indirect, epilogue, epilogue_fast, epilogue_indirect, saves, reloads}
use Rattle.orders.specs.Code.{base, unary_code, scratched_code, binary_code, choose_code, code}
use Rattle.orders.specs.Fault.{fault}
use Rattle.finish.proofs.Represents.{Labelled}
use Rattle.finish.proofs.All.{zero_else}
use Rattle.call.specs.Layout.{padding, constants_from}
use Rattle.call.proofs.Items.{Fresh}
use Rattle.call.proofs.Padding.{padding_is}
use Rattle.call.proofs.Labels.{Early, Late, entry_fresh, exit_fresh}
use Rattle.routine.specs.Routine.{shared}
use Rattle.routine.proofs.LawRoom.{Once}

-- ---- registers and labels that there are

abbrev pub Fit : List Item → Type 0
Fit [] = Unit {0}
Fit (instr i ∷ is) = Fit is
Fit (raw w ∷ is) = Fit is
Fit (jump k l r ∷ is) = (l < 2039) × (r < 32) × Fit is
Fit (label l ∷ is) = (l < 2039) × Fit is

pub fit_labelled : (is : List Item) → Fit is → Labelled is
fit_labelled [] f = tt
fit_labelled (instr i ∷ is) f = fit_labelled is f
fit_labelled (raw w ∷ is) f = fit_labelled is f
fit_labelled (jump k l r ∷ is) f = (f.0, fit_labelled is f.2)
fit_labelled (label l ∷ is) f = (f.0, fit_labelled is f.1)

pub fit_append : (is js : List Item) → Fit is → Fit js → Fit (is ++ js)
fit_append [] js f g = g
fit_append (instr i ∷ is) js f g = fit_append is js f g
fit_append (raw w ∷ is) js f g = fit_append is js f g
fit_append (jump k l r ∷ is) js f g = (f.0, f.1, fit_append is js f.2 g)
fit_append (label l ∷ is) js f g = (f.0, fit_append is js f.1 g)

fit_instrs : (is : List Instr) → Fit (map instr is)
fit_instrs [] = tt
fit_instrs (i ∷ is) = fit_instrs is

fit_then : (is : List Instr) (ys : List Item) → Fit ys → Fit (map instr is ++ ys)
fit_then [] ys f = f
fit_then (i ∷ is) ys f = fit_then is ys f

fit_repeated : (n : ℕ) (is js : List Instr) (k : ℕ) (ys : List Item) → k < 2039 → Fit ys → Fit (repeated n is js k ++ ys)
unfolding repeated
fit_repeated n is js k ys h f = by (eqb n 0) (leb n 16)
  where
    loop : List Instr
    loop = js ++ (count_down ∷ [])

    by : (s t : Bool) → Fit (cond s [] (cond t (F.code (is ++ times_over n js)) (F.code (is ++ li_code 7 (pos n)) ++ (label k ∷ (F.code loop ++ (jump Bne k 0 ∷ []))))) ++ ys)
    by true t = f
    by false true = fit_then (is ++ times_over n js) ys f
    by false false =
        rw (append_assoc (F.code (is ++ li_code 7 (pos n))) (label k ∷ (F.code loop ++ (jump Bne k 0 ∷ []))) ys)
        (fit_then (is ++ li_code 7 (pos n)) (label k ∷ ((F.code loop ++ (jump Bne k 0 ∷ [])) ++ ys))
        (h, rw (append_assoc (F.code loop) (jump Bne k 0 ∷ []) ys) (fit_then loop (jump Bne k 0 ∷ ys) (h, omega arith, f))))

pub prologue_fit : (H : Head) → Fit (prologue H)
unfolding prologue
prologue_fit H = by H.frame
  where
    by : (F : Frame) → Fit (by_frame F (prologue_fast H) (prologue_indirect H))
    by Fast = fit_instrs (opening Fast ++ (sub_stack_code (frame_size H) ++ (mv 9 2 ∷ (sub_stack_code (stack_size H) ++ (mv 21 2 ∷ states_from 0 H.states)))))
    by Indirect = (
      omega arith,
      fit_then (opening Indirect ++ (mv 9 10 ∷ mv 18 11 ∷ mv 19 12 ∷ mv 20 13 ∷ [])) _ (
        omega arith,
        omega arith,
        fit_then (sub_stack_code (frame_size H) ++ (mv 9 2 ∷ Shift SLLI 19 19 (pos 3) ∷ [])) _
            (fit_repeated H.states (mv 6 9 ∷ []) state_copy at_pro _ (omega arith)
            (omega arith, fit_instrs (allocate_stack_code (stack_size H)))),
      ),
    )

pub epilogue_fit : (H : Head) → Fit (epilogue H)
unfolding epilogue
epilogue_fit H = by H.frame
  where
    by : (F : Frame) → Fit (by_frame F (epilogue_fast H) (epilogue_indirect H))
    by Fast = fit_instrs (I FLD 10 9 (pos (8 * H.last)) ∷ closing Fast)
    by Indirect = (
      omega arith,
      omega arith,
      fit_repeated H.obs (li_code 6 (pos (8 * H.states)) ++ (R ADD 6 6 9 ∷ [])) obs_copy at_epi _ (omega arith) (omega arith, fit_instrs (closing Indirect)),
    )

pub saves_fit : (mask : ℕ) → Fit (saves mask)
unfolding saves
saves_fit mask = fit_instrs (map save (saved mask))

pub reloads_fit : (mask : ℕ) → Fit (reloads mask)
unfolding reloads
reloads_fit mask = (omega arith, (omega arith, fit_instrs (map reload (saved mask))))

pub code_fit : (o : Order) → fault o ≡ 0 → Fit (code o)
unfolding code fault
code_fit (Unary k d s) e = fit_instrs (unary_code k d s)
code_fit (Scratched k d s t) e = fit_instrs (scratched_code k d s t)
code_fit (Binary k d a b) e = fit_instrs (binary_code k d a b)
code_fit (Fused k d a b c) e = tt
code_fit (Ifelse d a b i) e = fit_instrs (load_int_code 5 21 (8 * i) ++ choose_code d a b)
code_fit (LoadConst d k) e =
    let p = zero_else (ltb d 32 && true) _ 0 e in
    let q = zero_else (leb k 1007) 0 8 p.1 in
    let h = ltb-true d 32 (both (ltb d 32) true p.0).0 in
    let g = leb-true k 1007 q.0 in
    (omega arith, omega arith, (omega arith, omega arith, tt))
code_fit (Load d p i) e = fit_instrs (load_float_code d (base p) (8 * i))
code_fit (Save s p i) e = fit_instrs (save_float_code s (base p) (8 * i))
code_fit (BranchIf c l t) e =
    let p = zero_else (ltb c 32 && true) _ 0 e in
    let g = leb-true l 1023 (zero_else (leb l 1023) 0 2 p.1).0 in
    (omega arith, omega arith, (omega arith, omega arith, tt))
code_fit (SetLabel l) e =
    let g = leb-true l 1023 (zero_else (leb l 1023) 0 2 e).0 in
    (omega arith, tt)

-- ---- lists of labels

pub each_append : (P : ℕ → Type 0) (xs ys : List ℕ) → Each P xs → Each P ys → Each P (xs ++ ys)
each_append P [] ys e f = f
each_append P (x ∷ xs) ys e f = (e.0, each_append P xs ys e.1 f)

not_among : (m : ℕ) (ls : List ℕ) → Each (λ l. m ≡ l → ⊥) ls → member m ls ≡ false
not_among m [] e = refl
not_among m (l ∷ ls) e = rw (ne_eqb m l e.0) (not_among m ls e.1)

pub shared_none : (ls : List ℕ) → shared ls [] ≡ false
shared_none [] = refl
shared_none (l ∷ ls) = shared_none ls

-- lists that have no label in common
pub shared_not : (P Q : ℕ → Type 0) → ((l : ℕ) → P l → Q l → ⊥) → (ls ms : List ℕ) → Each P ls → Each Q ms → shared ls ms ≡ false
shared_not P Q f [] ms e g = refl
shared_not P Q f (l ∷ ls) ms e g =
    rw (not_among l ms (each_map Q (λ m. l ≡ m → ⊥) (λ m q z. f m (subst P z e.0) q) ms g)) (shared_not P Q f ls ms e.1 g)

pub fresh_each : (xs : List Item) (K : ℕ → Type 0) → Fresh xs K → Each K (labels xs)
unfolding labels
fresh_each [] K f = tt
fresh_each (instr i ∷ xs) K f = fresh_each xs K f
fresh_each (raw w ∷ xs) K f = absurd f
fresh_each (jump k m r ∷ xs) K f = fresh_each xs K f
fresh_each (label m ∷ xs) K f = (f.0, each_map (λ l. K l × (m ≡ l → ⊥)) K (λ l v. v.0) (labels xs) (fresh_each xs (λ l. K l × (m ≡ l → ⊥)) f.1))

fresh_once : (xs : List Item) (K : ℕ → Type 0) → Fresh xs K → Once (labels xs)
unfolding labels
fresh_once [] K f = tt
fresh_once (instr i ∷ xs) K f = fresh_once xs K f
fresh_once (raw w ∷ xs) K f = absurd f
fresh_once (jump k m r ∷ xs) K f = fresh_once xs K f
fresh_once (label m ∷ xs) K f = (
  not_among m (labels xs) (each_map (λ l. K l × (m ≡ l → ⊥)) (λ l. m ≡ l → ⊥) (λ l v. v.1) (labels xs) (fresh_each xs (λ l. K l × (m ≡ l → ⊥)) f.1)),
  fresh_once xs (λ l. K l × (m ≡ l → ⊥)) f.1,
)

fresh_front : (xs ys : List Item) (K : ℕ → Type 0) → Fresh (xs ++ ys) K → Fresh xs K
fresh_front [] ys K f = tt
fresh_front (instr i ∷ xs) ys K f = fresh_front xs ys K f
fresh_front (raw w ∷ xs) ys K f = f
fresh_front (jump k m r ∷ xs) ys K f = fresh_front xs ys K f
fresh_front (label m ∷ xs) ys K f = (f.0, fresh_front xs ys (λ l. K l × (m ≡ l → ⊥)) f.1)

fresh_behind : (is : List Instr) (ys : List Item) (K : ℕ → Type 0) → Fresh (map instr is ++ ys) K → Fresh ys K
fresh_behind [] ys K f = f
fresh_behind (i ∷ is) ys K f = fresh_behind is ys K f

labels_instrs : (is : List Instr) → labels (map instr is) ≡ []
unfolding labels
labels_instrs [] = refl
labels_instrs (i ∷ is) = labels_instrs is

jumps_instrs : (is : List Instr) → jumps (map instr is) ≡ 0
unfolding jumps targets
jumps_instrs [] = refl
jumps_instrs (i ∷ is) = jumps_instrs is

-- ---- the frames' labels

-- those of the epilogue
abbrev Last : ℕ → Type 0
Last l = (Late l × (2037 ≡ l → ⊥)) × (2038 ≡ l → ⊥)

module _ (H : Head) where
  pub prologue_once : Once (labels (prologue H))
  prologue_once = fresh_once (prologue H) Early (fresh_front (prologue H) (saves H.mask) Early (entry_fresh H))

  pub entry_early : Each Early (labels (prologue H ++ saves H.mask))
  entry_early = fresh_each (prologue H ++ saves H.mask) Early (entry_fresh H)

  pub exit_late : Each Late (labels (reloads H.mask ++ epilogue H))
  exit_late = fresh_each (reloads H.mask ++ epilogue H) Late (exit_fresh H)

  epilogue_fresh : Fresh (epilogue H) Last
  unfolding reloads
  epilogue_fresh = fresh_behind (map reload (saved H.mask)) (epilogue H) Last (exit_fresh H).1.1

  pub epilogue_once : Once (labels (epilogue H))
  epilogue_once = fresh_once (epilogue H) Last epilogue_fresh

  pub epilogue_labels : Each (λ l. (2035 ≤ l) × (l ≤ 2036)) (labels (epilogue H))
  epilogue_labels = each_map Last (λ l. (2035 ≤ l) × (l ≤ 2036)) (λ l v. omega arith) (labels (epilogue H)) (fresh_each (epilogue H) Last epilogue_fresh)

pub saves_labels : (mask : ℕ) → labels (saves mask) ≡ []
unfolding saves
saves_labels mask = labels_instrs (map save (saved mask))

pub saves_jumps : (mask : ℕ) → jumps (saves mask) ≡ 0
unfolding saves
saves_jumps mask = jumps_instrs (map save (saved mask))

pub reloads_labels : (mask : ℕ) → labels (reloads mask) ≡ 2037 ∷ 2038 ∷ []
unfolding reloads labels
reloads_labels mask = rw (labels_instrs (map reload (saved mask)))

pub reloads_jumps : (mask : ℕ) → jumps (reloads mask) ≡ 0
unfolding reloads jumps targets
reloads_jumps mask = jumps_instrs (map reload (saved mask))

-- ---- an order's labels

pub record UserLabels (o : Order) : Type 0 where
  pub once : Once (labels (code o))
  pub small : Each (λ l. l < 1024) (labels (code o))

no_labels : (o : Order) → labels (code o) ≡ [] → UserLabels o
no_labels o e = record { once = rw e tt; small = rw e tt }

pub code_labels : (o : Order) → fault o ≡ 0 → UserLabels o
unfolding code fault labels
code_labels (Unary k d s) e = no_labels (Unary k d s) (labels_instrs (unary_code k d s))
code_labels (Scratched k d s t) e = no_labels (Scratched k d s t) (labels_instrs (scratched_code k d s t))
code_labels (Binary k d a b) e = no_labels (Binary k d a b) (labels_instrs (binary_code k d a b))
code_labels (Fused k d a b c) e = no_labels (Fused k d a b c) refl
code_labels (Ifelse d a b i) e = no_labels (Ifelse d a b i) (labels_instrs (load_int_code 5 21 (8 * i) ++ choose_code d a b))
code_labels (LoadConst d k) e = no_labels (LoadConst d k) refl
code_labels (Load d p i) e = no_labels (Load d p i) (labels_instrs (load_float_code d (base p) (8 * i)))
code_labels (Save s p i) e = no_labels (Save s p i) (labels_instrs (save_float_code s (base p) (8 * i)))
code_labels (BranchIf c l t) e = no_labels (BranchIf c l t) refl
code_labels (SetLabel l) e =
    let g = leb-true l 1023 (zero_else (leb l 1023) 0 2 e).0 in
    record { once = (refl, tt); small = (omega arith, tt) }

-- ---- constants, and the nop before them

pub padding_fit : (n k : ℕ) → Fit (padding n k)
padding_fit = padding_is Fit tt tt

pub padding_labels : (n k : ℕ) → labels (padding n k) ≡ []
unfolding labels
padding_labels = padding_is (λ is. labels is ≡ []) refl refl

pub padding_jumps : (n k : ℕ) → jumps (padding n k) ≡ 0
unfolding jumps targets
padding_jumps = padding_is (λ is. jumps is ≡ 0) refl refl

pub data_fit : (k : ℕ) (bs : List ℕ) → k + length bs ≤ 1008 → Fit (constants_from k bs)
unfolding constants_from
data_fit k [] h = tt
data_fit k (b ∷ bs) h = (omega arith, data_fit (suc k) bs (omega arith))

pub data_labels : (k : ℕ) (bs : List ℕ) → k + length bs ≤ 1008 → Each (λ l. (1024 ≤ l) × (l ≤ 2031)) (labels (constants_from k bs))
unfolding constants_from labels
data_labels k [] h = tt
data_labels k (b ∷ bs) h = ((omega arith, omega arith), data_labels (suc k) bs (omega arith))

-- A file's own labels are set and jumped to by its lines alone. Assumes nothing.
use mathlib.Core.Path.{◌≡◌, refl, ap, ◌∙◌}
use mathlib.Core.Bool.{Bool, true, false, ◌||◌, cond}
use mathlib.Core.List.{List, [], ◌∷◌, ◌++◌, map}
use Prim.Native.Nat.{ℕ, suc, ◌+◌, ◌*◌, ◌≤◌, ◌<◌}
use native.Mathlib.Omega.{arith}
use borrow.Author.Tests.{ne_eqb, lt-ltb}
use lib.Dec.{eqb, leb}
use lib.ListN.{length}
use lib.IntN.{pos}
use Rattle.base.specs.Tests.{any, member}
use Rattle.base.proofs.Bools.{or_false}
use Rattle.isa.specs.Instr.{Instr, R, I, Shift, ADD, FLD, SLLI}
use Rattle.ast.specs.Mask.{saved}
use Rattle.ast.specs.declared.Frame.{Frame}
use Rattle.ast.specs.declared.Frame.TheVariants.{Fast, Indirect}
use Rattle.ast.specs.declared.Head.{Head}
use Rattle.ast.specs.declared.Order.{Order}
use Rattle.ast.specs.declared.Order.TheVariants.{Unary, Scratched, Binary, Fused, Ifelse, LoadConst, Load, Save, BranchIf, SetLabel}
use Rattle.assembler.specs.Item.{Item, instr, raw, jump, label}
use Rattle.assembler.specs.Put.{targets, labels}
use Rattle.assembler.specs.declared.JumpKind.TheVariants.{Bne}
use Rattle.assembler.proofs.Items.{targets_append, labels_append, targets_instrs, labels_instrs}
use Rattle.reading.specs.Line.{Line, order, constant}
use Rattle.reading.specs.Program.{Program, constants}
use Rattle.reading.specs.Size.{frame_size, stack_size}
use Rattle.accesses.specs.Code.{li_code, sub_stack_code, allocate_stack_code, load_int_code, load_float_code, save_float_code}
use Rattle.frame_code.specs.Items as F
use Rattle.frame_code.specs.Items.{mv, opening, closing, times_over, states_from, state_copy, obs_copy, count_down, at_pro, at_epi, save, reload, by_frame, repeated, prologue, prologue_fast, prologue_indirect, epilogue, epilogue_fast, epilogue_indirect, saves, reloads}
use Rattle.orders.specs.Code.{base, unary_code, scratched_code, binary_code, choose_code, code, line_code}
use Rattle.call.specs.Layout.{span, body, constants_from, entry, exit, code_items, pad, data_items, items}
use Rattle.call.proofs.Padding.{padding_is}
use Rattle.stale.specs.Deck.{unused_by}
use Rattle.stale.specs.Laws.{sets_label, jumps_to, LinesSay}
use Rattle.unused.proofs.From.{member_append, exact_of}

-- ---- labels from 1,024 on

abbrev High : List Item → Type 0
High [] = Unit {0}
High (instr i ∷ is) = High is
High (raw w ∷ is) = High is
High (jump k l r ∷ is) = (1024 ≤ l) × High is
High (label l ∷ is) = (1024 ≤ l) × High is

high_append : (is js : List Item) → High is → High js → High (is ++ js)
high_append [] js f g = g
high_append (instr i ∷ is) js f g = high_append is js f g
high_append (raw w ∷ is) js f g = high_append is js f g
high_append (jump k l r ∷ is) js f g = (f.0, high_append is js f.1 g)
high_append (label l ∷ is) js f g = (f.0, high_append is js f.1 g)

high_instrs : (is : List Instr) → High (map instr is)
high_instrs [] = tt
high_instrs (i ∷ is) = high_instrs is

high_then : (is : List Instr) (ys : List Item) → High ys → High (map instr is ++ ys)
high_then is ys f = high_append (map instr is) ys (high_instrs is) f

high_repeated : (n : ℕ) (is js : List Instr) (k : ℕ) → 1024 ≤ k → High (repeated n is js k)
unfolding repeated
high_repeated n is js k h = by (eqb n 0) (leb n 16)
  where
    loop : List Instr
    loop = js ++ (count_down ∷ [])

    by : (s t : Bool) → High (cond s [] (cond t (F.code (is ++ times_over n js)) (F.code (is ++ li_code 7 (pos n)) ++ (label k ∷ (F.code loop ++ (jump Bne k 0 ∷ []))))))
    by true t = tt
    by false true = high_instrs (is ++ times_over n js)
    by false false = high_then (is ++ li_code 7 (pos n)) (label k ∷ (F.code loop ++ (jump Bne k 0 ∷ []))) (h, high_then loop (jump Bne k 0 ∷ []) (h, tt))

prologue_high : (H : Head) → High (prologue H)
unfolding prologue
prologue_high H = by H.frame
  where
    by : (F : Frame) → High (by_frame F (prologue_fast H) (prologue_indirect H))
    by Fast = high_instrs (opening Fast ++ (sub_stack_code (frame_size H) ++ (mv 9 2 ∷ (sub_stack_code (stack_size H) ++ (mv 21 2 ∷ states_from 0 H.states)))))
    by Indirect = (
      omega arith,
      high_then (opening Indirect ++ (mv 9 10 ∷ mv 18 11 ∷ mv 19 12 ∷ mv 20 13 ∷ [])) _ (
        omega arith,
        high_then (sub_stack_code (frame_size H) ++ (mv 9 2 ∷ Shift SLLI 19 19 (pos 3) ∷ [])) _
            (high_append (repeated H.states (mv 6 9 ∷ []) state_copy at_pro) _ (high_repeated H.states (mv 6 9 ∷ []) state_copy at_pro (omega arith))
            (omega arith, high_instrs (allocate_stack_code (stack_size H)))),
      ),
    )

epilogue_high : (H : Head) → High (epilogue H)
unfolding epilogue
epilogue_high H = by H.frame
  where
    first : List Instr
    first = li_code 6 (pos (8 * H.states)) ++ (R ADD 6 6 9 ∷ [])

    by : (F : Frame) → High (by_frame F (epilogue_fast H) (epilogue_indirect H))
    by Fast = high_instrs (I FLD 10 9 (pos (8 * H.last)) ∷ closing Fast)
    by Indirect = (
      omega arith,
      high_append (repeated H.obs first obs_copy at_epi) _ (high_repeated H.obs first obs_copy at_epi (omega arith)) (omega arith, high_instrs (closing Indirect)),
    )

entry_high : (p : Program) → High (entry p)
unfolding saves
entry_high p = high_append (prologue p.head) (saves p.head.mask) (prologue_high p.head) (high_instrs (map save (saved p.head.mask)))

exit_high : (p : Program) → High (exit p)
unfolding reloads
exit_high p = (omega arith, (omega arith, high_append (map instr (map reload (saved p.head.mask))) (epilogue p.head) (high_instrs (map reload (saved p.head.mask))) (epilogue_high p.head)))

data_high : (k : ℕ) (bs : List ℕ) → High (constants_from k bs)
unfolding constants_from
data_high k [] = tt
data_high k (b ∷ bs) = (omega arith, data_high (suc k) bs)

-- ---- where they are among items

module _ (l : ℕ) (own : l < 1024) where
  not_set : (is : List Item) → High is → member l (labels is) ≡ false
  unfolding labels
  not_set [] h = refl
  not_set (instr i ∷ is) h = not_set is h
  not_set (raw w ∷ is) h = not_set is h
  not_set (jump k m r ∷ is) h = not_set is h.1
  not_set (label m ∷ is) h = rw (ne_eqb l m (λ z. omega (arith, z, h.0))) (not_set is h.1)

  not_gone_to : (is : List Item) → High is → member l (targets is) ≡ false
  unfolding targets
  not_gone_to [] h = refl
  not_gone_to (instr i ∷ is) h = not_gone_to is h
  not_gone_to (raw w ∷ is) h = not_gone_to is h
  not_gone_to (jump k m r ∷ is) h = rw (ne_eqb l m (λ z. omega (arith, z, h.0))) (not_gone_to is h.1)
  not_gone_to (label m ∷ is) h = not_gone_to is h.1

  -- ---- a line's

  no_label : (is : List Instr) → member l (labels (map instr is)) ≡ false
  no_label is = ap (member l) (labels_instrs is)

  no_target : (is : List Instr) → member l (targets (map instr is)) ≡ false
  no_target is = ap (member l) (targets_instrs is)

  order_sets : (o : Order) → member l (labels (code o)) ≡ sets_label l (order o)
  unfolding code labels
  order_sets (Unary k d s) = no_label (unary_code k d s)
  order_sets (Scratched k d s t) = no_label (scratched_code k d s t)
  order_sets (Binary k d a b) = no_label (binary_code k d a b)
  order_sets (Fused k d a b c) = refl
  order_sets (Ifelse d a b i) = no_label (load_int_code 5 21 (8 * i) ++ choose_code d a b)
  order_sets (LoadConst d k) = refl
  order_sets (Load d p i) = no_label (load_float_code d (base p) (8 * i))
  order_sets (Save s p i) = no_label (save_float_code s (base p) (8 * i))
  order_sets (BranchIf c m e) = refl
  order_sets (SetLabel m) = or_false (eqb l m)

  twice_one : (t : Bool) → (t || (t || false)) ≡ t
  twice_one true = refl
  twice_one false = refl

  order_goes : (o : Order) → member l (targets (code o)) ≡ jumps_to l (order o)
  unfolding code targets
  order_goes (Unary k d s) = no_target (unary_code k d s)
  order_goes (Scratched k d s t) = no_target (scratched_code k d s t)
  order_goes (Binary k d a b) = no_target (binary_code k d a b)
  order_goes (Fused k d a b c) = refl
  order_goes (Ifelse d a b i) = no_target (load_int_code 5 21 (8 * i) ++ choose_code d a b)
  order_goes (LoadConst d k) = rw (ne_eqb l (1024 + k) (λ z. omega (arith, z)))
  order_goes (Load d p i) = no_target (load_float_code d (base p) (8 * i))
  order_goes (Save s p i) = no_target (save_float_code s (base p) (8 * i))
  order_goes (BranchIf c m e) = twice_one (eqb l m)
  order_goes (SetLabel m) = refl

  line_sets : (n : Line) → member l (labels (line_code n)) ≡ sets_label l n
  unfolding line_code labels
  line_sets (order o) = order_sets o
  line_sets (constant c) = refl

  line_goes : (n : Line) → member l (targets (line_code n)) ≡ jumps_to l n
  unfolding line_code targets
  line_goes (order o) = order_goes o
  line_goes (constant c) = refl

  -- ---- all lines

  body_sets : (ls : List Line) → member l (labels (body ls)) ≡ any (sets_label l) ls
  unfolding body labels
  body_sets [] = refl
  body_sets (n ∷ ls) = ap (member l) (labels_append (line_code n) (body ls)) ∙ member_append l (labels (line_code n)) (labels (body ls)) ∙ rw (line_sets n, body_sets ls)

  body_goes : (ls : List Line) → member l (targets (body ls)) ≡ any (jumps_to l) ls
  unfolding body targets
  body_goes [] = refl
  body_goes (n ∷ ls) = ap (member l) (targets_append (line_code n) (body ls)) ∙ member_append l (targets (line_code n)) (targets (body ls)) ∙ rw (line_goes n, body_goes ls)

  -- what items have of a program, its lines have: frames and constants have none of it
  module _ (f : List Item → List ℕ) (joined : (is js : List Item) → f (is ++ js) ≡ f is ++ f js) (none : (is : List Item) → High is → member l (f is) ≡ false) where
    apart : (is js : List Item) → member l (f (is ++ js)) ≡ (member l (f is) || member l (f js))
    apart is js = ap (member l) (joined is js) ∙ member_append l (f is) (f js)

    in_lines : (p : Program) → member l (f (items p)) ≡ member l (f (body p.lines))
    unfolding items
    in_lines p =
        let m : Bool = member l (f (body p.lines)) in
        let d = none (data_items p) (high_append (pad p) (constants_from 0 (constants p.lines)) (padding_is High tt tt (span (code_items p)) (length (constants p.lines))) (data_high 0 (constants p.lines))) in
        rw (apart (code_items p) (data_items p), apart (entry p) (body p.lines ++ exit p), apart (body p.lines) (exit p), none (entry p) (entry_high p), none (exit p) (exit_high p), d)
        (or_false (m || false) ∙ or_false m)

  all_set : (p : Program) → member l (labels (items p)) ≡ any (sets_label l) p.lines
  all_set p = in_lines labels labels_append not_set p ∙ body_sets p.lines

  all_gone_to : (p : Program) → member l (targets (items p)) ≡ any (jumps_to l) p.lines
  all_gone_to p = in_lines targets targets_append not_gone_to p ∙ body_goes p.lines

pub lines_say : LinesSay
lines_say p l h =
    exact_of (unused_by (items p)) 2039 l ∙ rw (lt-ltb l 2039 (omega arith), all_set l h p, all_gone_to l h p)

-- What follows the body: reloads, epilogue, the nop, constants and finishing, one after the other or as one. Assumes nothing.
use mathlib.Core.Path.{◌≡◌, refl, sym, ap, ap₂, subst, ◌∙◌}
use mathlib.Core.Bool.{true, false}
use mathlib.Core.List.{List, [], ◌∷◌, ◌++◌, map, append-nil, append_assoc}
use Prim.Native.Nat.{ℕ, suc, ◌+◌, ◌≤◌}
use native.Mathlib.Nat.{zero-add}
use native.Mathlib.Omega.{arith}
use borrow.Author.Tests.{le-leb}
use lib.ListN.{length, replicate, length-map}
use Rattle.refusal.specs.Answer.{Answer}
use Rattle.ast.specs.declared.Head.{Head}
use Rattle.ast.specs.declared.Constant.{Constant}
use Rattle.assembler.specs.Item.{Item}
use Rattle.assembler.specs.Bytes.{room}
use Rattle.assembler.specs.Constant.{constant_items, constant_fault}
use Rattle.ast.specs.Constant.{constant_bits}
use Rattle.assembler.specs.State.{State}
use Rattle.assembler.specs.Put.{jumps, targets, labels, put}
use Rattle.assembler.proofs.Items.{jumps_append, labels_append}
use Rattle.frame_code.specs.Items.{epilogue, reloads}
use Rattle.frame_code.specs.Fault.{epilogue_fault}
use Rattle.ast.specs.Counts.{epilogue_holds}
use Rattle.finish.proofs.Represents.{Represents}
use Rattle.reading.specs.Program.{Program, constants}
use Rattle.call.specs.Layout.{span, body, padding, constants_from, entry, exit, code_items, pad, data_items, items, constants_offset}
use Rattle.call.proofs.Items.{span_append}
use Rattle.call.proofs.Labels.{Late}
use Rattle.routine.specs.Routine.{then, unless, shared, room_number, last_line, closed_off, finished, body_lines, jump_lines}
use Rattle.routine.specs.Run.{RunOutcome, next, finish_run, constants_run, constants_then, padding_then, leave_run}
use Rattle.routine.proofs.LawRoom.{Once, span_words, space_number, room_space}
use Rattle.base.proofs.Each.{Each, each_map}
use Rattle.routine.proofs.LawFit.{Fit, fit_append, fit_labelled, epilogue_fit, reloads_fit, padding_fit, padding_labels, padding_jumps, data_fit, each_append, shared_not, exit_late, epilogue_once, epilogue_labels, reloads_labels, reloads_jumps, data_labels}
use Rattle.routine.proofs.LawParts.{Agrees, part_agrees}
use Rattle.routine.proofs.LawFinish.{finish_agrees}

-- ---- constants

-- no label of a constant from number k on
abbrev Unused : ℕ → ℕ → Type 0
Unused k l = 1024 + k ≤ l → l ≤ 2031 → ⊥

-- what was placed has room
space_left : (b : List ℕ) (is : List Item) (ts : List ℕ) (s : State) → Represents b is ts s → space_number (length b) is [] ≡ 0
unfolding span jumps targets
space_left b is ts s a =
    let w = a.within in
    rw (le-leb (span is + 0) (room (length b)) (omega (arith, span_words is)), le-leb (jumps is + 0) 4096 (omega (arith, a.few)))

unused_next : (k : ℕ) (c : Constant) (is : List Item) → Each (Unused k) (labels is) → Each (Unused (suc k)) (labels (is ++ constant_items k c))
unfolding labels
unused_next k c is e =
    rw (labels_append is (constant_items k c))
    (each_append (Unused (suc k)) (labels is) ((1024 + k) ∷ []) (each_map (Unused k) (Unused (suc k)) (λ l u x y. u (omega arith) y) (labels is) e) (λ x y. omega arith, tt))

module _ (b : List ℕ) (line : ℕ) (x : Program) (g : Program → Answer Program) (f : State → RunOutcome) where
  constants_agrees : (cs : List Constant) (k : ℕ) (is : List Item) (ts : List ℕ) (s : State) → Represents b is ts s → Each (Unused k) (labels is) → k + length cs ≤ 1008
      → ((t : State) → Represents b (is ++ constants_from k (map constant_bits cs)) ts t → Agrees b (g x) (f t))
      → Agrees b (then (unless (space_number (length b) is (constants_from k (map constant_bits cs))) line x) g) (constants_run line k cs s f)
  unfolding constants_from constants_run jumps targets labels
  constants_agrees [] k is ts s a u h more = rw (space_left b is ts s a) (more s (rw (append-nil is) a))
  constants_agrees (c ∷ cs) k is ts s a u h more =
      part_agrees b is ts s a (constant_items k c) 0 (constant_fault k) (omega arith, tt) (refl, tt) (rw (le-leb k 1007 (omega arith))) line
      (λ (t : State). constants_run line (suc k) cs t f) (constants_from (suc k) (map constant_bits cs)) x g
      (shared_not (λ l. (1024 + k ≤ l) × (l ≤ 2031)) (Unused k) (λ l p q. q p.0 p.1) ((1024 + k) ∷ []) (labels is) ((omega arith, omega arith), tt) u)
      (λ t l. constants_agrees cs (suc k) (is ++ constant_items k c) ts t (rw (append-nil ts) at l) (unused_next k c is u) (omega arith)
      (λ v m. more v (rw (append_assoc is (constant_items k c) (constants_from (suc k) (map constant_bits cs))) at m)))

-- ---- all that follows the body

-- a label of prologue, saves or body
abbrev pub Before : ℕ → Type 0
Before l = (1024 ≤ l → 2032 ≤ l) × (l ≤ 2034)

module _ (p : Program) (B : List Item) (e : Each Before (labels B)) where
  abbrev H : Head
  H = p.head

  abbrev X : List Item
  X = reloads H.mask

  abbrev Y : List Item
  Y = epilogue H

  reloads_new : shared (labels X) (labels B) ≡ false
  reloads_new =
      shared_not (λ l. 2035 ≤ l) Before (λ l x y. omega (arith, y.1)) (labels X) (labels B)
      (rw (reloads_labels H.mask) (omega arith, (omega arith, tt))) e

  -- neither of the epilogue's labels
  abbrev NotEpi : ℕ → Type 0
  NotEpi l = 2035 ≤ l → l ≤ 2036 → ⊥

  epilogue_new : shared (labels Y) (labels (B ++ X)) ≡ false
  epilogue_new =
      shared_not (λ l. (2035 ≤ l) × (l ≤ 2036)) NotEpi (λ l x y. y x.0 x.1) (labels Y) (labels (B ++ X)) (epilogue_labels H)
      (rw (labels_append B X)
      (each_append NotEpi (labels B) (labels X) (each_map Before NotEpi (λ l q x y. omega (arith, q.1)) (labels B) e)
      (rw (reloads_labels H.mask) (λ x y. omega arith, (λ x y. omega arith, tt)))))

  data_new : Each (Unused 0) (labels ((B ++ X) ++ Y))
  data_new =
      rw (labels_append (B ++ X) Y, labels_append B X)
      (each_append (Unused 0) (labels B ++ labels X) (labels Y)
      (each_append (Unused 0) (labels B) (labels X) (each_map Before (Unused 0) (λ l q x y. omega (arith, q.0 (omega arith))) (labels B) e)
      (rw (reloads_labels H.mask) (λ x y. omega arith, (λ x y. omega arith, tt))))
      (each_map (λ l. (2035 ≤ l) × (l ≤ 2036)) (Unused 0) (λ l q x y. omega arith) (labels Y) (epilogue_labels H)))

  -- none of the prologue's labels, and no user's
  abbrev Behind : ℕ → Type 0
  Behind l = (2032 ≤ l → l ≤ 2034 → ⊥) × (1024 ≤ l)

  rest_new : (n : ℕ) (bs : List ℕ) → length bs ≤ 1008 → shared (labels ((X ++ Y) ++ (padding n (length bs) ++ constants_from 0 bs))) (labels B) ≡ false
  rest_new n bs h =
      shared_not Behind Before (λ l x y. x.0 (y.0 x.1) y.1) (labels ((X ++ Y) ++ (padding n (length bs) ++ constants_from 0 bs))) (labels B)
      (rw (labels_append (X ++ Y) (padding n (length bs) ++ constants_from 0 bs), labels_append (padding n (length bs)) (constants_from 0 bs), padding_labels n (length bs))
      (each_append Behind (labels (X ++ Y)) (labels (constants_from 0 bs))
      (each_map Late Behind (λ l q. (λ x y. omega arith, omega arith)) (labels (X ++ Y)) (exit_late H))
      (each_map (λ l. (1024 ≤ l) × (l ≤ 2031)) Behind (λ l q. (λ x y. omega arith, omega arith)) (labels (constants_from 0 bs)) (data_labels 0 bs (omega arith))))) e

-- joined in another order
regroup : {A : Type 0} (e b x y d : List A) → (((e ++ b) ++ x) ++ y) ++ d ≡ (e ++ (b ++ (x ++ y))) ++ d
regroup e b x y d = simp append_assoc

-- the tags of the jumps before the epilogue
abbrev pub tags_so_far : Program → List ℕ
tags_so_far p = replicate (jumps (entry p)) 1 ++ body_lines 2 p.lines

tags_all : (p : Program) → (tags_so_far p ++ replicate (jumps (reloads p.head.mask)) 0) ++ replicate (jumps (epilogue p.head)) (last_line p) ≡ jump_lines p
tags_all p =
    let n : jumps (exit p) ≡ jumps (epilogue p.head) = jumps_append (reloads p.head.mask) (epilogue p.head) ∙ ap (λ (k : ℕ). k + jumps (epilogue p.head)) (reloads_jumps p.head.mask) ∙ zero-add (jumps (epilogue p.head)) in
    rw (reloads_jumps p.head.mask, n, append-nil (tags_so_far p)) (append_assoc (replicate (jumps (entry p)) 1) (body_lines 2 p.lines) (replicate (jumps (epilogue p.head)) (last_line p)))

module _ (b : List ℕ) (p : Program) (cs : List Constant) (s : State) (a : Represents b (entry p ++ body p.lines) (tags_so_far p) s) (f : Fit (entry p ++ body p.lines)) (e : Each Before (labels (entry p ++ body p.lines)))
    (c : map constant_bits cs ≡ constants p.lines) (h : length cs ≤ 1008) (g : epilogue_holds p.head ≡ true) where
  abbrev B : List Item
  B = entry p ++ body p.lines

  -- to the end of the epilogue
  abbrev Ended : List Item
  Ended = (B ++ reloads p.head.mask) ++ epilogue p.head

  abbrev consts : List Item
  consts = constants_from 0 (constants p.lines)

  count : length cs ≡ length (constants p.lines)
  count = sym (length-map cs constant_bits) ∙ ap length c

  few : length (constants p.lines) ≤ 1008
  few = omega (arith, h, count)

  whole : ((Ended ++ pad p) ++ consts) ≡ items p
  unfolding items
  whole = append_assoc Ended (pad p) consts ∙ regroup (entry p) (body p.lines) (reloads p.head.mask) (epilogue p.head) (data_items p)

  all_fit : Fit (items p)
  all_fit =
      subst Fit whole
      (fit_append (Ended ++ pad p) consts
      (fit_append Ended (pad p) (fit_append (B ++ reloads p.head.mask) (epilogue p.head) (fit_append B (reloads p.head.mask) f (reloads_fit p.head.mask)) (epilogue_fit p.head)) (padding_fit _ _))
      (data_fit 0 (constants p.lines) (omega (arith, few))))

  ended_span : span Ended ≡ span (code_items p)
  ended_span = ap span (simp append_assoc)

  pad_is : (u : State) (ts : List ℕ) → Represents b Ended ts u → padding u.asm.len (length cs) ≡ pad p
  pad_is u ts l = ap₂ padding (l.len ∙ span_words Ended ∙ ended_span) count

  offset_is : (t : State) (ts : List ℕ) → Represents b (Ended ++ pad p) ts t → t.asm.len ≡ constants_offset p
  offset_is t ts l =
      l.len ∙ span_words (Ended ++ pad p) ∙ span_append Ended (pad p)
      ∙ ap (λ (n : ℕ). n + span (pad p)) ended_span

  finishes : (v t : State) → Represents b (Ended ++ pad p) (jump_lines p) v → Represents b ((Ended ++ pad p) ++ consts) (jump_lines p) t
      → Agrees b (finished p) (finish_run p.head v.asm.len (length cs) t)
  finishes v t l m =
      finish_agrees b p t (subst (λ (is : List Item). Represents b is (jump_lines p) t) whole m) all_fit v.asm.len (length cs) (offset_is v (jump_lines p) l) count

  padded_new : Each (Unused 0) (labels (Ended ++ pad p))
  padded_new = rw (labels_append Ended (pad p), padding_labels (span (code_items p)) (length (constants p.lines)), append-nil (labels Ended)) (data_new p B e)

  after_padding : (v : State) → Represents b (Ended ++ pad p) (jump_lines p) v
      → Agrees b (then (unless (space_number (length b) (Ended ++ pad p) consts) (last_line p) p) finished) (constants_then p.head (last_line p) cs v)
  after_padding v l =
      subst (λ (bs : List ℕ). Agrees b (then (unless (space_number (length b) (Ended ++ pad p) (constants_from 0 bs)) (last_line p) p) finished) (constants_then p.head (last_line p) cs v)) c
      (constants_agrees b (last_line p) p finished (finish_run p.head v.asm.len (length cs)) cs 0 (Ended ++ pad p) (jump_lines p) v l padded_new (omega arith)
      (λ t m. finishes v t l (subst (λ (bs : List ℕ). Represents b ((Ended ++ pad p) ++ constants_from 0 bs) (jump_lines p) t) c m)))

  no_tags : jump_lines p ++ replicate (jumps (pad p)) 0 ≡ jump_lines p
  no_tags = rw (padding_jumps (span (code_items p)) (length (constants p.lines))) (append-nil (jump_lines p))

  after_epilogue : (u : State) → Represents b Ended (jump_lines p) u
      → Agrees b (then (unless (space_number (length b) Ended (data_items p)) (last_line p) p) finished) (padding_then p.head (last_line p) cs u)
  after_epilogue u l =
      rw (pad_is u (jump_lines p) l)
      (part_agrees b Ended (jump_lines p) u l (pad p) 0 0 (fit_labelled (pad p) (padding_fit _ _)) (rw (padding_labels (span (code_items p)) (length (constants p.lines))) tt) refl (last_line p)
      (constants_then p.head (last_line p) cs) consts p finished (rw (padding_labels (span (code_items p)) (length (constants p.lines))))
      (λ v m. after_padding v (subst (λ (ts : List ℕ). Represents b (Ended ++ pad p) ts v) no_tags m)))

  -- the epilogue and all behind it
  abbrev closing : State → RunOutcome
  closing t = next (put (last_line p) (epilogue_fault p.head) (epilogue p.head) t) (last_line p) (padding_then p.head (last_line p) cs)

  after_reloads : (t : State) → Represents b (B ++ reloads p.head.mask) (tags_so_far p ++ replicate (jumps (reloads p.head.mask)) 0) t
      → Agrees b (then (unless (space_number (length b) (B ++ reloads p.head.mask) (epilogue p.head ++ data_items p)) (last_line p) p) finished) (closing t)
  after_reloads t l =
      part_agrees b (B ++ reloads p.head.mask) (tags_so_far p ++ replicate (jumps (reloads p.head.mask)) 0) t l (epilogue p.head) (last_line p) (epilogue_fault p.head)
      (fit_labelled (epilogue p.head) (epilogue_fit p.head)) (epilogue_once p.head) (rw g) (last_line p)
      (padding_then p.head (last_line p) cs) (data_items p) p finished (epilogue_new p B e)
      (λ u m. after_epilogue u (subst (λ (ts : List ℕ). Represents b Ended ts u) (tags_all p) m))

  reloads_once : Once (labels (reloads p.head.mask))
  reloads_once = rw (reloads_labels p.head.mask) (refl, (refl, tt))

  number_is : room_number (length b) B (exit p ++ data_items p) ≡ space_number (length b) B (reloads p.head.mask ++ (epilogue p.head ++ data_items p))
  number_is =
      room_space (length b) B (exit p ++ data_items p) (rest_new p B e (span (code_items p)) (constants p.lines) few)
      ∙ ap (space_number (length b) B) (append_assoc (reloads p.head.mask) (epilogue p.head) (data_items p))

  pub leave_agrees : Agrees b (then (closed_off (length b) p) finished) (leave_run p.head (last_line p) cs s)
  unfolding closed_off leave_run
  leave_agrees =
      subst (λ (k : ℕ). Agrees b (then (unless k (last_line p) p) finished) (next (put 0 0 (reloads p.head.mask) s) (last_line p) closing)) (sym number_is)
      (part_agrees b B (tags_so_far p) s a (reloads p.head.mask) 0 0 (fit_labelled (reloads p.head.mask) (reloads_fit p.head.mask)) reloads_once refl (last_line p)
      closing (epilogue p.head ++ data_items p) p finished (reloads_new p B e) after_reloads)

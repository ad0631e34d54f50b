-- The parts of a routine in memory: its entry, lines, exit and constants, and the places of its labels.
use mathlib.Core.Path.{◌≡◌, refl, ◌∙◌}
use mathlib.Core.List.{List, [], ◌∷◌, ◌++◌, append-nil, append_assoc}
use mathlib.Core.Option
use mathlib.Core.Option.{Option, some, none}
use Prim.Native.Nat.{ℕ, zero, suc, ◌+◌, ◌*◌, ◌%◌, ◌^◌, ◌≤◌, ◌<◌}
use native.Mathlib.Nat.{add_assoc, zero-add}
use native.Mathlib.Omega.{arith}
use lib.Dec.{leb, leb→le}
use lib.ListN.{length, get_or, get_elem?, take}
use lib.Seq.{take_all}
use Rattle.machine.specs.Word.{w64, load8}
use Rattle.machine.specs.Step.{CodeAt, Among}
use Rattle.machine.proofs.Memory.{wrap_l}
use Rattle.machine.proofs.Placed.{code_left, code_right}
use Rattle.ast.specs.declared.Frame.{Frame}
use Rattle.ast.specs.declared.Frame.TheVariants.{Fast, Indirect}
use Rattle.ast.specs.declared.Head.{Head}
use Rattle.ast.specs.declared.Order.TheVariants.{SetLabel}
use Rattle.assembler.specs.Item.{Item, label}
use Rattle.assembler.specs.Resolved.{resolved, label_place}
use Rattle.ast.specs.Constant.{constant_label}
use Rattle.reading.specs.Line.{Line}
use Rattle.orders.specs.Code.{line_code}
use Rattle.orders.specs.Fault.{fault}
use Rattle.orders.specs.Does.{Placed}
use Rattle.isa.specs.Instr.{R, I, ADD, FLD}
use lib.IntN.{pos}
use Rattle.accesses.specs.Code.{li_code}
use Rattle.base.proofs.Bools.{passed}
use Rattle.frame_code.specs.Items.{code as instrs, obs_copy, at_epi, at_done, by_frame, repeated, closing, epilogue, epilogue_fast, epilogue_indirect, reloads}
use Rattle.frame_code.proofs.Walk.{Stands}
use Rattle.reading.specs.Program.{Program, constants, label_line}
use Rattle.call.specs.Layout.{span, body, padding, constants_from, entry, exit, code_items, pad, data_items, items, constants_offset, code_length, place, routine_words}
use Rattle.call.proofs.Offset.{line_offset}
use Rattle.call.proofs.Good.{Good}
use Rattle.call.proofs.Items.{span_append, span_four, resolved_append, resolved_length, Unset, unset_append, past, found, within, fresh_unset, stands_of, Worded, worded_append, worded_instrs, before_end}
use Rattle.call.proofs.Labels.{Early, Late, entry_fresh, exit_fresh}
use Rattle.call.proofs.Padding.{padding_is}
use Rattle.call.proofs.Placing.{labelled, line_words, next_line, constant_place, constant_value, body_unset}

-- ---- code in two parts

pub code_first : (m at : ℕ → ℕ) (a h : ℕ) (xs ys : List Item) → CodeAt m a (resolved at h (xs ++ ys)) → CodeAt m a (resolved at h xs)
code_first m at a h xs ys c = code_left m a (resolved at h xs) (resolved at (h + span xs) ys) (rw (resolved_append at h xs ys) at c)

pub code_second : (m at : ℕ → ℕ) (a h : ℕ) (xs ys : List Item) → a < 2 ^ 64 → CodeAt m a (resolved at h (xs ++ ys)) → CodeAt m (w64 (a + span xs)) (resolved at (h + span xs) ys)
code_second m at a h xs ys b c =
    rw (resolved_length at h xs) at (code_right m a (resolved at h xs) (resolved at (h + span xs) ys) b (rw (resolved_append at h xs ys) at c))

-- ---- words behind every label

closing_word : (H : Head) → (4 ≤ span (epilogue H)) × Worded (epilogue H)
unfolding epilogue span
closing_word H = by H.frame
  where
    by : (F : Frame) → (4 ≤ span (by_frame F (epilogue_fast H) (epilogue_indirect H))) × Worded (by_frame F (epilogue_fast H) (epilogue_indirect H))
    by Fast = (omega arith, worded_instrs (I FLD 10 9 (pos (8 * H.last)) ∷ closing Fast))
    by Indirect = (
      omega arith,
      worded_append (repeated H.obs (li_code 6 (pos (8 * H.states)) ++ (R ADD 6 6 9 ∷ [])) obs_copy at_epi) (label at_done ∷ instrs (closing Indirect)) (omega arith) (omega arith, worded_instrs (closing Indirect)),
    )

constants_word : (k : ℕ) (bs : List ℕ) → Worded (constants_from k bs)
unfolding constants_from span
constants_word k [] = tt
constants_word k (b ∷ bs) = (omega arith, constants_word (suc k) bs)

-- labels and constants that the orders take
label_low : (l : ℕ) → fault (SetLabel l) ≡ 0 → l ≤ 1023
unfolding fault
label_low l e = leb→le l 1023 (passed (leb l 1023) 0 2 e).0

-- the first lines take no more than all
pub part : (n : ℕ) (ls : List Line) → span (body (take n ls)) ≤ span (body ls)
unfolding body span
part zero ls = omega arith
part (suc n) [] = omega arith
part (suc n) (l ∷ ls) = omega (arith, part n ls, span_append (line_code l) (body (take n ls)), span_append (line_code l) (body ls))

module _ (p : Program) where
  -- ---- the parts

  module _ (m : ℕ → ℕ) (a : ℕ) (b : a < 2 ^ 64) (c : CodeAt m a (routine_words p)) where
    code_part : CodeAt m a (resolved (place p) 0 (code_items p))
    unfolding items
    code_part = code_first m (place p) a 0 (code_items p) (data_items p) c

    pub entry_part : CodeAt m a (resolved (place p) 0 (entry p))
    entry_part = code_first m (place p) a 0 (entry p) (body p.lines ++ exit p) code_part

    rest_part : CodeAt m (w64 (a + span (entry p))) (resolved (place p) (span (entry p)) (body p.lines ++ exit p))
    rest_part = rw (zero-add (span (entry p))) at (code_second m (place p) a 0 (entry p) (body p.lines ++ exit p) b code_part)

    pub line_part : (n : ℕ) (l : Line) → get_elem? p.lines n ≡ some l → CodeAt m (w64 (a + line_offset p n)) (resolved (place p) (line_offset p n) (line_code l))
    unfolding line_offset
    line_part n l e =
        let x : ℕ = span (entry p) in
        let y : ℕ = span (body (take n p.lines)) in
        rw (← (add_assoc a x y), ← (wrap_l (a + x) y))
        (line_words m (place p) (w64 (a + x)) x n l p.lines e (omega arith) (code_first m (place p) (w64 (a + x)) x (body p.lines) (exit p) rest_part))

    pub exit_part : (n : ℕ) → length p.lines ≤ n → CodeAt m (w64 (a + line_offset p n)) (resolved (place p) (line_offset p n) (exit p))
    unfolding line_offset
    exit_part n h =
        let x : ℕ = span (entry p) in
        let y : ℕ = span (body p.lines) in
        rw (take_all n p.lines h, ← (add_assoc a x y), ← (wrap_l (a + x) y))
        (code_second m (place p) (w64 (a + x)) x (body p.lines) (exit p) (omega arith) rest_part)

    pub constant_part : (k : ℕ) → k < length (constants p.lines) → load8 m (w64 (a + (constants_offset p + 8 * k))) ≡ get_or (constants p.lines) k 0
    unfolding items
    constant_part k h =
        let x : ℕ = span (code_items p) in
        let y : ℕ = span (pad p) in
        let d = code_second m (place p) a 0 (code_items p) (data_items p) b c in
        rw (← (add_assoc a (x + y) (8 * k)), ← (add_assoc a x y))
        (constant_value m (place p) (a + x + y) (0 + x + y) 0 k (constants p.lines) h
        (rw (wrap_l (a + x) y) at (code_second m (place p) (w64 (a + x)) (0 + x) (pad p) (constants_from 0 (constants p.lines)) (omega arith) d)))

  -- behind line n comes line n + 1; behind the last, the exit
  pub offset_next : (n : ℕ) (l : Line) → get_elem? p.lines n ≡ some l → line_offset p (suc n) ≡ line_offset p n + span (line_code l)
  unfolding line_offset
  offset_next n l e = omega (arith, next_line n l p.lines e)

  pub offset_four : (n : ℕ) → line_offset p n % 4 ≡ 0
  unfolding line_offset
  offset_four n = omega (arith, span_four (entry p), span_four (body (take n p.lines)))

  -- ---- labels

  entry_unset : (l : ℕ) → (Early l → ⊥) → Unset l (entry p)
  entry_unset l n = fresh_unset l (entry p) Early (entry_fresh p.head) n

  exit_unset : (l : ℕ) → (Late l → ⊥) → Unset l (exit p)
  exit_unset l n = fresh_unset l (exit p) Late (exit_fresh p.head) n

  -- the frames' labels are where the items set them
  pub entry_stands : Stands (place p) 0 (entry p)
  unfolding place items
  entry_stands =
      stands_of (place p) 0 (entry p) ((body p.lines ++ exit p) ++ data_items p) Early (entry_fresh p.head)
      (λ l v. rw (append_assoc (entry p) (body p.lines ++ exit p) (data_items p)))

  -- a user's label is at its line
  pub user_place : (l j : ℕ) → l ≤ 1023 → label_line l 0 p.lines ≡ some j → place p l ≡ line_offset p j
  unfolding place items line_offset
  user_place l j h e = let r = labelled l (0 + span (entry p)) 0 p.lines j e in at r.index (omega (arith, r.line)) r.place
    where
      at : (i : ℕ) → j ≡ i → label_place l (0 + span (entry p)) (body p.lines) ≡ some (0 + span (entry p) + span (body (take i p.lines))) → Option.get_or (label_place l 0 (code_items p ++ data_items p)) 0 ≡ span (entry p) + span (body (take j p.lines))
      at i z r =
          let q =
          found l 0 _ (code_items p) (data_items p)
          (past l 0 (entry p) (body p.lines ++ exit p) (entry_unset l (λ v. omega (arith, v.0))) ∙ found l (0 + span (entry p)) _ (body p.lines) (exit p) r)
          in
          rw (q, z) (omega arith)

  back : 4 ≤ span (exit p)
  back = omega (arith, (closing_word p.head).0, span_append (reloads p.head.mask) (epilogue p.head))

  worded : Worded (items p)
  unfolding items padding constants_from span
  worded = by (constants p.lines)
    where
      front : Worded (code_items p)
      front =
          let w = closing_word p.head in
          worded_append (entry p) (body p.lines ++ exit p) (omega (arith, back, span_append (body p.lines) (exit p)))
          (worded_append (body p.lines) (exit p) back (worded_append (reloads p.head.mask) (epilogue p.head) w.0 w.1))

      by : (bs : List ℕ) → Worded (code_items p ++ (padding (span (code_items p)) (length bs) ++ constants_from 0 bs))
      by [] = rw (append-nil (code_items p)) front
      by (b ∷ bs) =
          let is : List Item = padding (span (code_items p)) (length (b ∷ bs)) in
          let js : List Item = constants_from 0 (b ∷ bs) in
          worded_append (code_items p) (is ++ js) (omega (arith, span_append is js)) (worded_append is js (omega arith) (constants_word 0 (b ∷ bs)))

  module _ (g : Good p) where
    -- constant k's label is at the constant
    pub constants_place : (k : ℕ) → k ≤ 1007 → k < length (constants p.lines) → place p (constant_label k) ≡ constants_offset p + 8 * k
    unfolding place items
    constants_place k h l =
        let u : Unset (constant_label k) (code_items p) =
        unset_append (constant_label k) (entry p) (body p.lines ++ exit p) (entry_unset (constant_label k) (λ v. omega (arith, v.0)))
        (unset_append (constant_label k) (body p.lines) (exit p) (body_unset (constant_label k) p.lines (λ n j e q. omega (arith, label_low j (g.orders n (SetLabel j) e).fault_free))) (exit_unset (constant_label k) (λ v. omega (arith, v.0))))
        in
        let x : ℕ = span (code_items p) in
        let v = constant_place (0 + x + span (pad p)) 0 k (constants p.lines) l in
        let w : Unset (constant_label k) (pad p) = padding_is (Unset (constant_label k)) tt tt x (length (constants p.lines)) in
        let z : 0 + k ≡ k = omega arith in
        rw (past (constant_label k) 0 (code_items p) (data_items p) u, past (constant_label k) (0 + x) (pad p) (constants_from 0 (constants p.lines)) w, rw z at v) (omega arith)

    -- the frames' labels are where the items set them
    pub exit_stands : (n : ℕ) → length p.lines ≤ n → Stands (place p) (line_offset p n) (exit p)
    unfolding place items line_offset
    exit_stands n h =
        stands_of (place p) (span (entry p) + span (body (take n p.lines))) (exit p) (data_items p) Late (exit_fresh p.head)
        (λ l v.
        rw (append_assoc (entry p) (body p.lines ++ exit p) (data_items p), append_assoc (body p.lines) (exit p) (data_items p))
        (rw (past l 0 (entry p) (body p.lines ++ (exit p ++ data_items p)) (entry_unset l (λ u. omega (arith, u.1, v.0))), past l (0 + span (entry p)) (body p.lines) (exit p ++ data_items p) (body_unset l p.lines (λ i j e q. omega (arith, label_low j (g.orders i (SetLabel j) e).fault_free, v.0))), zero-add (span (entry p)), take_all n p.lines h)))

    -- every place is a word's
    pub placed : Placed (place p)
    unfolding place
    placed = record { small = λ l. (at l).0; aligned = λ l. (at l).1 }
      where
        by : (l : ℕ) (o : Option ℕ) → label_place l 0 (items p) ≡ o → (Option.get_or o 0 ≤ 65536) × (Option.get_or o 0 % 4 ≡ 0)
        by l none e = (omega arith, refl)
        by l (some a) e = (omega (arith, before_end l 0 a (items p) (worded) e, g.room), (within l 0 a (items p) e).2)

        at : (l : ℕ) → (place p l ≤ 65536) × (place p l % 4 ≡ 0)
        at l = by l (label_place l 0 (items p)) refl

  -- line n stands before the exit
  pub offset_exit : (n : ℕ) → line_offset p n + span (exit p) ≤ code_length p
  unfolding line_offset items
  offset_exit n =
      omega (arith, part n p.lines, span_append (code_items p) (data_items p), span_append (entry p) (body p.lines ++ exit p), span_append (body p.lines) (exit p))

  pub entry_fits : span (entry p) ≤ code_length p
  unfolding items
  entry_fits = omega (arith, span_append (code_items p) (data_items p), span_append (entry p) (body p.lines ++ exit p))

  pub offset_small : Good p → (n : ℕ) → line_offset p n ≤ 65536
  offset_small g n = omega (arith, g.room, offset_exit n, back)

-- ---- addresses in the code, which starts at a

abbrev pub InCode : Program → (a : ℕ) → ℕ → Type 0
InCode p a x = (a ≤ x) × (x < a + code_length p)

-- n words `here` bytes behind it
pub part_in : (p : Program) (a here n pc x : ℕ) → pc ≡ w64 (a + here) → here + 4 * n ≤ code_length p → a + code_length p ≤ 2 ^ 64 → Among pc n x → InCode p a x
part_in p a here n pc x e h l w =
    let z : x ≡ a + here + 4 * w.0 = w.2 ∙ omega (arith, e, w.1) in
    (omega arith, omega (arith, w.1))

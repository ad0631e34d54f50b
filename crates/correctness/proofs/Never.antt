-- Which numbers files are refused by: never 6, 8 or 10.
use mathlib.Core.Path.{◌≡◌, refl, subst}
use mathlib.Core.Bool.{Bool, true, false, not, ◌&&◌, cond, beq}
use mathlib.Core.List.{List, [], ◌∷◌, ◌++◌, map}
use mathlib.Core.Option.{Option, some, none}
use Prim.Native.Nat.{ℕ, zero, suc, ◌+◌, ◌*◌}
use native.Mathlib.Nat.{zero-add}
use lib.Dec.{T, ltb, leb}
use lib.IntN.{ℤ, nat_abs, sub_ℕ}
use lib.ListN.{length}
use lib.Seq.{take-length}
use Rattle.isa.specs.Instr.{Instr, holds, offset}
use Rattle.isa.proofs.Validity.{Valid, Holds_holds}
use Rattle.refusal.specs.Answer.{Answer, accepted, refused}
use Rattle.refusal.specs.Number.{number_of}
use Rattle.refusal.specs.declared.Refusal.{Refusal}
use Rattle.ast.specs.Uses.{uses, registers_fit, index_holds, saves_hold}
use Rattle.ast.specs.declared.Operand.{Operand}
use Rattle.ast.specs.declared.Order.{Order}
use Rattle.ast.specs.declared.Order.TheVariants.{Unary, Scratched, Binary, Fused, Ifelse, LoadConst, Load, Save, BranchIf, SetLabel}
use Rattle.text.specs.Lines.{lines_of}
use Rattle.form.specs.Text.{DeckLine}
use Rattle.form.specs.Text as Text
use Rattle.form.specs.Grammar.{said}
use Rattle.deck.specs.Judge as Deck
use Rattle.deck.specs.Judge.{Content, demand, operand_judged, judged, is_head, line_judged}
use Rattle.ast.specs.Counts.{counts_hold}
use Rattle.assembler.specs.Item.{Item, instr, raw, jump, label}
use Rattle.assembler.specs.Jump.{kind_number, jump_instr}
use Rattle.assembler.specs.Bytes.{room}
use Rattle.assembler.specs.Memory.{Jump}
use Rattle.assembler.specs.Put.{jumps, labels}
use Rattle.assembler.specs.declared.JumpKind.{JumpKind}
use Rattle.assembler.specs.declared.JumpKind.TheVariants.{Auipc, Ld, Jalr, Fld, Beq, Bne}
use Rattle.assembler.specs.Resolved.{jumps_in, place_in}
use Rattle.finish.proofs.Append.{jumps_in_append}
use Rattle.accesses.specs.Code.{load_int_code, load_float_code, save_float_code}
use Rattle.reading.specs.Line.{Line, order, constant}
use Rattle.orders.specs.Code.{base, unary_code, scratched_code, binary_code, choose_code, code, line_code}
use Rattle.frame_code.proofs.Valid.{AllValid}
use Rattle.reading.specs.Program.{Program, constants}
use Rattle.call.specs.Layout.{span, body, padding, constants_from, entry, exit, code_items, pad, data_items, items, place}
use Rattle.call.proofs.Offset.{line_offset}
use Rattle.call.proofs.Good.{Good}
use Rattle.base.specs.Tests.{member}
use Rattle.call.proofs.Padding.{padding_is}
use Rattle.call.proofs.Words.{entry_valid, exit_valid}
use Rattle.routine.specs.Routine.{then, unless, next_line, last_line, with_line, only, shared, room_number, order_number, constant_number, placed_at, as_line, line_read, lines_read, as_head, head_read, file_read, closed_off, jump_lines, first_line, unset, far, refused_at, finished, program_of}
use Rattle.routine.proofs.LawRoom.{span_words}
use Rattle.correctness.specs.Refusals.{numbers, Never}
use Rattle.correctness.proofs.Taken.{AllSet, file_fit}
use Rattle.correctness.proofs.Whole.{taken_good}
use Rattle.correctness.proofs.Accepts.{operand_cases}

-- ---- 6: jumps that aren't far

-- a valid branch is not far, and no other jump is
near_jump : (k : JumpKind) (r : ℕ) (z : ℤ) → Valid (jump_instr k r z) → (leb 4 (kind_number k) && not (holds (offset 13 z))) ≡ false
near_jump Auipc r z v = refl
near_jump Ld r z v = refl
near_jump Jalr r z v = refl
near_jump Fld r z v = refl
near_jump Beq r z v = rw (Holds_holds (offset 13 z) v.1.1.0)
near_jump Bne r z v = rw (Holds_holds (offset 13 z) v.1.1.0)

module _ (all : List Item) where
  -- none of the jumps is far
  abbrev Near : List Jump → Type 0
  Near [] = Unit {0}
  Near (j ∷ js) = (far all j ≡ false) × Near js

  none_far : (js : List Jump) (ns : List ℕ) → Near js → first_line (far all) js ns ≡ none
  unfolding first_line
  none_far [] ns h = refl
  none_far (j ∷ js) [] h = refl
  none_far (j ∷ js) (n ∷ ns) h = rw h.0 (none_far js ns h.1)

  near_append : (is js : List Jump) → Near is → Near js → Near (is ++ js)
  near_append [] js h k = k
  near_append (i ∷ is) js h k = (h.0, near_append is js h.1 k)

  -- items behind others
  near_join : (here : ℕ) (is js : List Item) → Near (jumps_in here is) → Near (jumps_in (here + span is) js) → Near (jumps_in here (is ++ js))
  near_join here is js h k = rw (jumps_in_append here is js, span_words is) (near_append (jumps_in here is) (jumps_in (here + span is) js) h k)

  near_valid : (here : ℕ) (is : List Item) → AllValid (place_in all) here is → Near (jumps_in here is)
  unfolding jumps_in
  near_valid here [] v = tt
  near_valid here (instr i ∷ is) v = near_valid (here + 4) is v.1
  near_valid here (raw w ∷ is) v = near_valid (here + 4) is v
  near_valid here (jump k l r ∷ is) v = (near_jump k r (sub_ℕ (place_in all l) here) v.0, near_valid (here + 4) is v.1)
  near_valid here (label l ∷ is) v = near_valid here is v

  near_instrs : (here : ℕ) (is : List Instr) → Near (jumps_in here (map instr is))
  unfolding jumps_in
  near_instrs here [] = tt
  near_instrs here (i ∷ is) = near_instrs (here + 4) is

  -- an order's jumps aren't branches
  near_order : (here : ℕ) (o : Order) → Near (jumps_in here (code o))
  unfolding code jumps_in
  near_order here (Unary k d s) = near_instrs here (unary_code k d s)
  near_order here (Scratched k d s t) = near_instrs here (scratched_code k d s t)
  near_order here (Binary k d a b) = near_instrs here (binary_code k d a b)
  near_order here (Fused k d a b c) = tt
  near_order here (Ifelse d a b i) = near_instrs here (load_int_code 5 21 (8 * i) ++ choose_code d a b)
  near_order here (LoadConst d k) = (refl, (refl, tt))
  near_order here (Load d p i) = near_instrs here (load_float_code d (base p) (8 * i))
  near_order here (Save s p i) = near_instrs here (save_float_code s (base p) (8 * i))
  near_order here (BranchIf c l e) = (refl, (refl, tt))
  near_order here (SetLabel l) = tt

  near_body : (here : ℕ) (ls : List Line) → Near (jumps_in here (body ls))
  unfolding body line_code jumps_in
  near_body here [] = tt
  near_body here (order o ∷ ls) = near_join here (code o) (body ls) (near_order here o) (near_body (here + span (code o)) ls)
  near_body here (constant c ∷ ls) = near_body here ls

  near_padding : (here n k : ℕ) → Near (jumps_in here (padding n k))
  unfolding jumps_in
  near_padding here n k = padding_is (λ is. Near (jumps_in here is)) tt tt n k

  near_constants : (here k : ℕ) (bs : List ℕ) → Near (jumps_in here (constants_from k bs))
  unfolding constants_from jumps_in
  near_constants here k [] = tt
  near_constants here k (b ∷ bs) = near_constants (here + 4 + 4) (suc k) bs

-- a good program's frames have valid branches
module _ (p : Program) (g : Good p) where
  near_entry : Near (items p) (jumps_in 0 (entry p))
  unfolding place
  near_entry = near_valid (items p) 0 (entry p) (entry_valid p g)

  near_exit : Near (items p) (jumps_in (span (entry p) + span (body p.lines)) (exit p))
  unfolding place line_offset
  near_exit = near_valid (items p) (span (entry p) + span (body p.lines)) (exit p) (rw (take-length p.lines) at (exit_valid p g))

  near_items : Near (items p) (jumps_in 0 (items p))
  unfolding items
  near_items =
      near_join (items p) 0 (code_items p) (data_items p)
      (near_join (items p) 0 (entry p) (body p.lines ++ exit p) near_entry
      (rw (zero-add (span (entry p))) (near_join (items p) (span (entry p)) (body p.lines) (exit p) (near_body (items p) (span (entry p)) p.lines) near_exit)))
      (near_join (items p) _ (pad p) (constants_from 0 (constants p.lines)) (near_padding (items p) _ (span (code_items p)) (length (constants p.lines))) (near_constants (items p) _ 0 (constants p.lines)))

-- ---- answers

-- 0 for none, or one of the numbers
abbrev Number : ℕ → Type 0
Number zero = Unit {0}
Number (suc n) = T (member (suc n) numbers)

number_cond : (t : Bool) (m n : ℕ) → Number m → Number n → Number (cond t m n)
number_cond true m n h k = h
number_cond false m n h k = k

-- accepted, or refused by one of them
abbrev Fine : {A : Type 0} → Answer A → Type 0
Fine (accepted a) = Unit {0}
Fine (refused n line) = T (member n numbers)

then_fine : {A B : Type 0} (a : Answer A) (f : A → Answer B) → Fine a → ((x : A) → a ≡ accepted x → Fine (f x)) → Fine (then a f)
then_fine (accepted a) f h k = k a refl
then_fine (refused n line) f h k = h

unless_fine : {A : Type 0} (n line : ℕ) (a : A) → Number n → Fine (unless n line a)
unless_fine zero line a h = tt
unless_fine (suc n) line a h = h

unless_then : {A B : Type 0} (n line : ℕ) (a : A) (f : A → Answer B) → Number n → (n ≡ 0 → Fine (f a)) → Fine (then (unless n line a) f)
unless_then zero line a f h k = k refl
unless_then (suc n) line a f h k = h

-- ---- a line

demand_fine : (t : Bool) (r : Refusal) (a : Answer Content) → T (member (number_of r) numbers) → Fine a → Fine (demand t r a)
demand_fine true r a h k = k
demand_fine false r a h k = h

operand_fine : (x : Operand) (a : Answer Content) → Fine a → Fine (operand_judged x a)
operand_fine x a h = operand_cases Fine a h (λ t. demand_fine t Refusal.Count a tt h) (λ t. demand_fine t Refusal.Label a tt h) x

judged_fine : (l : DeckLine) → Fine (judged l)
unfolding judged
judged_fine (Text.head H) = demand_fine (ltb H.mask 4294967296) Refusal.Value _ tt (demand_fine (counts_hold H) Refusal.Count _ tt tt)
judged_fine (Text.order o) = demand_fine (registers_fit (uses o).registers) Refusal.Register _ tt (operand_fine (uses o).operand (accepted (Deck.order o)) tt)
judged_fine (Text.float z) = demand_fine (leb (nat_abs z) 9007199254740992) Refusal.Value _ tt tt
judged_fine (Text.bits n) = tt

line_fine : (first : Bool) (o : Option DeckLine) → Fine (line_judged first o)
unfolding line_judged
line_fine first none = tt
line_fine first (some l) = demand_fine (beq (is_head l) first) Refusal.Line (judged l) tt (judged_fine l)

-- a line's text, and what is made of its content
text_fine : {A : Type 0} (first : Bool) (line : ℕ) (t : List ℕ) (f : Content → Answer A) → ((c : Content) → Fine (f c)) → Fine (then (placed_at line (line_judged first (said t))) f)
text_fine first line t f h = by (line_judged first (said t)) (line_fine first (said t))
  where
    by : (a : Answer Content) → Fine a → Fine (then (placed_at line a) f)
    by (accepted c) k = h c
    by (refused n place) k = k

-- ---- the lines in order

module _ (size : ℕ) where
  room_fine : (before is : List Item) → Number (room_number size before is)
  room_fine before is =
      number_cond (shared (labels is) (labels before)) 4 _ tt
      (number_cond (leb (span before + span is) (room size) && leb (jumps before + jumps is) 4096) 0 7 tt tt)

  read_fine : (p : Program) (t : List ℕ) → Fine (line_read size p t)
  unfolding line_read
  read_fine p t = text_fine false (next_line p) t (as_line size p) by
    where
      by : (c : Content) → Fine (as_line size p c)
      by (Deck.head h) = tt
      by (Deck.order o) =
          unless_fine (order_number size p o) (next_line p) (order o)
          (number_cond (index_holds p.head o) _ 9 (number_cond (saves_hold p.head.mask o) _ 11 (room_fine (entry p ++ body p.lines) (code o)) tt) tt)
      by (Deck.constant c) = unless_fine (constant_number p) (next_line p) (constant c) (number_cond (ltb (length (constants p.lines)) 1008) 0 9 tt tt)

  lines_fine : (ts : List (List ℕ)) (p : Program) → Fine (lines_read size p ts)
  unfolding lines_read
  lines_fine [] p = tt
  lines_fine (t ∷ ts) p = then_fine (line_read size p t) _ (read_fine p t) (λ l e. lines_fine ts (with_line p l))

  head_fine : (t : List ℕ) → Fine (head_read size t)
  unfolding head_read
  head_fine t = text_fine true 1 t (as_head size) by
    where
      by : (c : Content) → Fine (as_head size c)
      by (Deck.head h) = unless_fine (room_number size [] (entry (only h))) 1 (only h) (room_fine [] (entry (only h)))
      by (Deck.order o) = tt
      by (Deck.constant c) = tt

  file_fine : (ts : List (List ℕ)) → Fine (file_read size ts)
  file_fine [] = tt
  file_fine (t ∷ ts) = then_fine (head_read size t) _ (head_fine t) (λ p e. lines_fine ts p)

-- ---- finishing, and the whole

at_fine : (n : ℕ) (o : Option ℕ) (a : Answer Program) → T (member n numbers) → (o ≡ none → Fine a) → Fine (refused_at n o a)
at_fine n none a h k = k refl
at_fine n (some line) a h k = h

finished_fine : (p : Program) → (AllSet p → Good p) → Fine (finished p)
unfolding finished
finished_fine p g =
    at_fine 5 (first_line (unset (items p)) (jumps_in 0 (items p)) (jump_lines p)) _ tt
    (λ e. rw (none_far (items p) (jumps_in 0 (items p)) (jump_lines p) (near_items p (g e))) tt)

fine : (size : ℕ) (file : List ℕ) → Fine (program_of size file)
unfolding program_of closed_off
fine size file = by (leb (length file) 65536)
  where
    by : (t : Bool) → Fine (cond t (then (file_read size (lines_of file)) (λ p. then (closed_off size p) finished)) (refused 7 1))
    by true =
        then_fine (file_read size (lines_of file)) _ (file_fine size (lines_of file))
        (λ p e.
        unless_then (room_number size (entry p ++ body p.lines) (exit p ++ data_items p)) (last_line p) p finished (room_fine size (entry p ++ body p.lines) (exit p ++ data_items p))
        (λ z. finished_fine p (λ s. taken_good size file p (record { read = e; fitting = file_fit size (lines_of file) p e; roomy = z; set = s }))))
    by false = tt

pub never : Never
never size file number line e = subst Fine e (fine size file)

-- The digits of `bits` lines don't matter to the routine: files that differ only there are refused alike, or taken as programs that differ
-- only in bits of constants. These have one summary, and the same words before the constants. Assumes nothing.
use mathlib.Core.Path.{◌≡◌, refl, sym, ap, subst, ◌∙◌, fun_ext}
use mathlib.Core.Bool.{Bool, true, false, cond, beq}
use mathlib.Core.List.{List, [], ◌∷◌, ◌++◌, map, map-append}
use mathlib.Core.Option.{Option, some, none}
use Prim.Native.Nat.{ℕ, zero, suc, ◌+◌, ◌/◌, ◌%◌, ◌^◌, ◌<◌}
use native.Mathlib.Omega.{arith}
use lib.Dec.{ltb, leb, eqb}
use lib.Ieee.{of_int, binary64}
use lib.IntN.{nat_abs}
use lib.ListN.{length, length-map}
use Rattle.refusal.specs.Answer.{Answer, accepted, refused}
use Rattle.refusal.specs.declared.Refusal.{Refusal}
use Rattle.ast.specs.Counts.{counts_hold}
use Rattle.ast.specs.Uses.{uses, registers_fit}
use Rattle.ast.specs.declared.Constant.{Constant}
use Rattle.ast.specs.declared.Constant.TheVariants.{Float, Bits}
use Rattle.ast.specs.declared.Operand.{Operand}
use Rattle.text.specs.Digits.{digits, word_bytes}
use Rattle.text.specs.Fields.{onto, commas}
use Rattle.text.specs.Lines.{lines_of}
use Rattle.form.specs.Text.{DeckLine, text}
use Rattle.form.specs.Text as Text
use Rattle.form.specs.Grammar.{said}
use Rattle.form.proofs.Grammar.{grammar}
use Rattle.deck.specs.Judge.{Content, demand, operand_judged, judged, line_judged}
use Rattle.deck.specs.Judge as Deck
use Rattle.reading.specs.Line.{Line, order, constant}
use Rattle.reading.specs.Program.{Program, constants}
use Rattle.assembler.specs.Item.{Item}
use Rattle.assembler.specs.Put.{jumps, targets, labels}
use Rattle.assembler.specs.Resolved.{resolved, label_place, jumps_in}
use Rattle.assembler.proofs.Items.{jumps_append, labels_append}
use Rattle.finish.proofs.Append.{jumps_in_append, label_place_append}
use Rattle.orders.specs.Code.{line_code}
use Rattle.call.specs.Layout.{span, body, constants_from, entry, exit, code_items, pad, data_items, items, constants_offset, place, routine_words}
use Rattle.call.proofs.Items.{span_append}
use Rattle.call.proofs.Padding.{front_items, words_parted}
use Rattle.routine.specs.Routine.{then, unless, next_line, with_line, last_line, only, room_number, order_number, constant_number, placed_at, as_line, line_read, lines_read, as_head, head_read, file_read, closed_off, body_lines, jump_lines, first_line, unset, far, refused_at, finished, program_of, summary_of}
use Rattle.correctness.proofs.Accepts.{operand_cases}

-- ---- zero in place of bits

abbrev blank_constant : Constant → Constant
blank_constant (Float x) = Float x
blank_constant (Bits n) = Bits 0

abbrev pub blank_line : Line → Line
blank_line (order o) = order o
blank_line (constant c) = constant (blank_constant c)

-- a program with zero in place of the bits of each `bits` line
abbrev pub blank : Program → Program
blank p = record { head = p.head; lines = map blank_line p.lines }

abbrev mapped : {A B : Type 0} → (A → B) → Answer A → Answer B
mapped f (accepted a) = accepted (f a)
mapped f (refused n line) = refused n line

abbrev pub blanked : Answer Program → Answer Program
blanked a = mapped blank a

abbrev zeroed_as : Option DeckLine → List ℕ → List ℕ
zeroed_as none t = t
zeroed_as (some (Text.head H)) t = t
zeroed_as (some (Text.order o)) t = t
zeroed_as (some (Text.float z)) t = t
zeroed_as (some (Text.bits n)) t = text (Text.bits 0)

-- a line's text, with zeros for digits where it is a `bits` line
unfoldable pub zeroed : List ℕ → List ℕ
zeroed t = zeroed_as (said t) t

pub zeroed_bits : (n : ℕ) → n < 2 ^ 64 → zeroed (text (Text.bits n)) ≡ text (Text.bits 0)
unfolding zeroed
zeroed_bits n h = rw (grammar.1 (Text.bits n) h)

-- ---- items with other constants

-- what the routine looks at in items: all but their raw words
record Alike (is js : List Item) : Type 0 where
  spans : span is ≡ span js
  counts : jumps is ≡ jumps js
  sets : labels is ≡ labels js
  goes : (here : ℕ) → jumps_in here is ≡ jumps_in here js
  places : (l here : ℕ) → label_place l here is ≡ label_place l here js

data_alike : (k : ℕ) (bs cs : List ℕ) → length bs ≡ length cs → Alike (constants_from k bs) (constants_from k cs)
unfolding constants_from span jumps targets labels jumps_in label_place
data_alike k [] [] e = record { spans = refl; counts = refl; sets = refl; goes = λ h. refl; places = λ l h. refl }
data_alike k [] (c ∷ cs) e = absurd (omega arith)
data_alike k (b ∷ bs) [] e = absurd (omega arith)
data_alike k (b ∷ bs) (c ∷ cs) e =
    let a = data_alike (suc k) bs cs (omega arith) in
    record {
      spans = omega (arith, a.spans);
      counts = a.counts;
      sets = rw a.sets;
      goes = λ h. a.goes (h + 4 + 4);
      places = λ l h. rw (a.places l (h + 4 + 4));
    }

behind : (xs ys zs : List Item) → Alike ys zs → Alike (xs ++ ys) (xs ++ zs)
behind xs ys zs a =
    record {
      spans = simp (span_append, a.spans);
      counts = simp (jumps_append, a.counts);
      sets = simp (labels_append, a.sets);
      goes = λ h. simp (jumps_in_append, a.goes);
      places = λ l h. simp (label_place_append, a.places);
    }

-- ---- a blank program

body_blank : (ls : List Line) → body (map blank_line ls) ≡ body ls
unfolding body line_code
body_blank [] = refl
body_blank (order o ∷ ls) = rw (body_blank ls)
body_blank (constant c ∷ ls) = body_blank ls

body_lines_blank : (n : ℕ) (ls : List Line) → body_lines n (map blank_line ls) ≡ body_lines n ls
unfolding body_lines line_code
body_lines_blank n [] = refl
body_lines_blank n (order o ∷ ls) = rw (body_lines_blank (suc n) ls)
body_lines_blank n (constant c ∷ ls) = rw (body_lines_blank (suc n) ls)

length_blank : (ls : List Line) → length (constants (map blank_line ls)) ≡ length (constants ls)
unfolding constants
length_blank [] = refl
length_blank (order o ∷ ls) = length_blank ls
length_blank (constant c ∷ ls) = ap suc (length_blank ls)

module _ (p : Program) where
  code_blank : code_items (blank p) ≡ code_items p
  code_blank = rw (body_blank p.lines)

  pad_blank : pad (blank p) ≡ pad p
  pad_blank = rw (code_blank, length_blank p.lines)

  data_blank : (xs : List Item) → Alike (xs ++ data_items (blank p)) (xs ++ data_items p)
  data_blank xs =
      rw pad_blank
      (behind xs (pad p ++ constants_from 0 (constants (blank p).lines)) (data_items p)
      (behind (pad p) (constants_from 0 (constants (blank p).lines)) (constants_from 0 (constants p.lines)) (data_alike 0 (constants (blank p).lines) (constants p.lines) (length_blank p.lines))))

  items_blank : Alike (items (blank p)) (items p)
  unfolding items
  items_blank = subst (λ (is : List Item). Alike (is ++ data_items (blank p)) (items p)) (sym code_blank) (data_blank (code_items p))

  place_blank : place (blank p) ≡ place p
  unfolding place
  place_blank = fun_ext (λ l. rw (items_blank.places l 0))

  -- the words before the constants
  abbrev pub code_words : List ℕ
  code_words = resolved (place p) 0 (front_items p)

  pub offset_blank : constants_offset (blank p) ≡ constants_offset p
  offset_blank = rw (pad_blank, code_blank)

  pub summary_blank : summary_of (blank p) ≡ summary_of p
  summary_blank = rw (items_blank.spans, items_blank.counts, offset_blank, length_blank p.lines)

pub code_words_blank : (p : Program) → code_words (blank p) ≡ code_words p
code_words_blank p = rw (place_blank p, pad_blank p, code_blank p)

-- ---- the constants' words

-- the two words of each, the low one first
unfoldable pub halves : List ℕ → List ℕ
halves [] = []
halves (b ∷ bs) = b % 2 ^ 32 ∷ b / 2 ^ 32 ∷ halves bs

pub constants_words : (at : ℕ → ℕ) (here k : ℕ) (bs : List ℕ) → resolved at here (constants_from k bs) ≡ halves bs
unfolding resolved constants_from halves
constants_words at here k [] = refl
constants_words at here k (b ∷ bs) = rw (constants_words at (here + 4 + 4) (suc k) bs)

pub words_split : (p : Program) → routine_words p ≡ code_words p ++ halves (constants p.lines)
words_split p = rw (words_parted p, constants_words)

-- ---- a line's text

length_zeroed : (t : List ℕ) → length (zeroed t) ≡ length t
unfolding zeroed text commas word_bytes digits
length_zeroed t = by (said t) refl
  where
    by : (o : Option DeckLine) → said t ≡ o → length (zeroed_as o t) ≡ length t
    by none e = refl
    by (some (Text.head H)) e = refl
    by (some (Text.order o)) e = refl
    by (some (Text.float z)) e = refl
    by (some (Text.bits n)) e = ap length (grammar.0 t (Text.bits n) e).1

abbrev blank_content : Content → Content
blank_content (Deck.head h) = Deck.head h
blank_content (Deck.order o) = Deck.order o
blank_content (Deck.constant c) = Deck.constant (blank_constant c)

demand_blank : (t : Bool) (r : Refusal) (a : Answer Content) {b : Answer Content} → b ≡ mapped blank_content a → demand t r b ≡ mapped blank_content (demand t r a)
demand_blank true r a e = e
demand_blank false r a e = refl

operand_blank : (x : Operand) (a : Answer Content) → a ≡ mapped blank_content a → operand_judged x a ≡ mapped blank_content (operand_judged x a)
operand_blank x a e = operand_cases (λ b. b ≡ mapped blank_content b) a e (λ t. demand_blank t Refusal.Count a e) (λ t. demand_blank t Refusal.Label a e) x

text_blank : (first : Bool) (t : List ℕ) → line_judged first (said (zeroed t)) ≡ mapped blank_content (line_judged first (said t))
unfolding zeroed line_judged judged
text_blank first t = by (said t) refl
  where
    by : (o : Option DeckLine) → said t ≡ o → line_judged first (said (zeroed_as o t)) ≡ mapped blank_content (line_judged first o)
    by none e = rw e
    by (some (Text.head H)) e =
        let a : Answer Content = accepted (Deck.head H) in
        rw e (demand_blank (beq true first) Refusal.Line (judged (Text.head H)) (demand_blank (ltb H.mask 4294967296) Refusal.Value (demand (counts_hold H) Refusal.Count a) (demand_blank (counts_hold H) Refusal.Count a refl)))
    by (some (Text.order o)) e =
        let a : Answer Content = accepted (Deck.order o) in
        rw e (demand_blank (beq false first) Refusal.Line (judged (Text.order o)) (demand_blank (registers_fit (uses o).registers) Refusal.Register (operand_judged (uses o).operand a) (operand_blank (uses o).operand a refl)))
    by (some (Text.float z)) e =
        let a : Answer Content = accepted (Deck.constant (Float (of_int binary64 z))) in
        rw e (demand_blank (beq false first) Refusal.Line (judged (Text.float z)) (demand_blank (leb (nat_abs z) 9007199254740992) Refusal.Value a refl))
    by (some (Text.bits n)) e = rw (grammar.1 (Text.bits 0) (omega arith)) (demand_blank (beq false first) Refusal.Line (judged (Text.bits n)) refl)

-- ---- answers

unless_mapped : {A B : Type 0} (f : A → B) (n line : ℕ) (a : A) → unless n line (f a) ≡ mapped f (unless n line a)
unless_mapped f zero line a = refl
unless_mapped f (suc n) line a = refl

then_mapped : {A B C D : Type 0} (f : A → B) (g : C → D) (a : Answer A) (h : A → Answer C) (k : B → Answer D) → ((x : A) → k (f x) ≡ mapped g (h x)) → then (mapped f a) k ≡ mapped g (then a h)
then_mapped f g (accepted a) h k e = e a
then_mapped f g (refused n line) h k e = refl

-- what is made of a line's text
text_mapped : {A B : Type 0} (g : A → B) (first : Bool) (line : ℕ) (t : List ℕ) (h : Content → Answer A) (k : Content → Answer B) → ((c : Content) → k (blank_content c) ≡ mapped g (h c)) → then (placed_at line (line_judged first (said (zeroed t)))) k ≡ mapped g (then (placed_at line (line_judged first (said t))) h)
text_mapped g first line t h k e = rw (text_blank first t) (by (line_judged first (said t)))
  where
    by : (a : Answer Content) → then (placed_at line (mapped blank_content a)) k ≡ mapped g (then (placed_at line a) h)
    by (accepted c) = e c
    by (refused n place) = refl

-- ---- the lines in order

module _ (size : ℕ) where
  line_blank : (p : Program) (t : List ℕ) → line_read size (blank p) (zeroed t) ≡ mapped blank_line (line_read size p t)
  unfolding line_read
  line_blank p t = rw (length-map p.lines blank_line) (text_mapped blank_line false (next_line p) t (as_line size p) _ by)
    where
      by : (c : Content) → as_line size (blank p) (blank_content c) ≡ mapped blank_line (as_line size p c)
      by (Deck.head h) = rw (length-map p.lines blank_line)
      by (Deck.order o) = rw (length-map p.lines blank_line, body_blank p.lines) (unless_mapped blank_line (order_number size p o) (next_line p) (order o))
      by (Deck.constant c) = rw (length-map p.lines blank_line, length_blank p.lines) (unless_mapped blank_line (constant_number p) (next_line p) (constant c))

  lines_blank : (ts : List (List ℕ)) (p : Program) → lines_read size (blank p) (map zeroed ts) ≡ blanked (lines_read size p ts)
  unfolding lines_read
  lines_blank [] p = refl
  lines_blank (t ∷ ts) p =
      rw (line_blank p t)
      (then_mapped blank_line blank (line_read size p t) (λ l. lines_read size (with_line p l) ts) _
      (λ l. rw (← (map-append blank_line p.lines (l ∷ []))) (lines_blank ts (with_line p l))))

  head_blank : (t : List ℕ) → head_read size (zeroed t) ≡ blanked (head_read size t)
  unfolding head_read
  head_blank t = text_mapped blank true 1 t (as_head size) (as_head size) by
    where
      by : (c : Content) → as_head size (blank_content c) ≡ blanked (as_head size c)
      by (Deck.head h) = unless_mapped blank (room_number size [] (entry (only h))) 1 (only h)
      by (Deck.order o) = refl
      by (Deck.constant c) = refl

  file_blank : (ts : List (List ℕ)) → file_read size (map zeroed ts) ≡ blanked (file_read size ts)
  file_blank [] = refl
  file_blank (t ∷ ts) = rw (head_blank t) (then_mapped blank blank (head_read size t) (λ p. lines_read size p ts) _ (lines_blank ts))

-- ---- behind the lines

closed_blank : (size : ℕ) (p : Program) → closed_off size (blank p) ≡ blanked (closed_off size p)
unfolding closed_off
closed_blank size p =
    let a = data_blank p (exit p) in
    rw (a.sets, a.spans, a.counts, body_blank p.lines, length-map p.lines blank_line) (unless_mapped blank (room_number size (entry p ++ body p.lines) (exit p ++ data_items p)) (last_line p) p)

finished_blank : (p : Program) → finished (blank p) ≡ blanked (finished p)
unfolding finished
finished_blank p =
    let a = items_blank p in
    let u : unset (items (blank p)) ≡ unset (items p) = fun_ext (λ j. rw a.sets) in
    let f : far (items (blank p)) ≡ far (items p) = fun_ext (λ j. rw (a.places j.label 0)) in
    rw (u, f, a.goes 0, length-map p.lines blank_line, body_lines_blank 2 p.lines)
    (by (first_line (unset (items p)) (jumps_in 0 (items p)) (jump_lines p)) (first_line (far (items p)) (jumps_in 0 (items p)) (jump_lines p)))
  where
    by : (m n : Option ℕ) → refused_at 5 m (refused_at 6 n (accepted (blank p))) ≡ blanked (refused_at 5 m (refused_at 6 n (accepted p)))
    by none none = refl
    by none (some l) = refl
    by (some l) n = refl

-- ---- the whole

-- what is made of a file's lines
abbrev whole : (size : ℕ) → List (List ℕ) → Answer Program
whole size ts = then (file_read size ts) (λ p. then (closed_off size p) finished)

whole_blank : (size : ℕ) (ts : List (List ℕ)) → whole size (map zeroed ts) ≡ blanked (whole size ts)
whole_blank size ts =
    rw (file_blank size ts)
    (then_mapped blank blank (file_read size ts) (λ p. then (closed_off size p) finished) _
    (λ p. rw (closed_blank size p) (then_mapped blank blank (closed_off size p) finished finished finished_blank)))

-- the bytes of lines
total : List (List ℕ) → ℕ
total [] = 0
total (t ∷ ts) = length t + total ts

total_onto : (b : ℕ) (ts : List (List ℕ)) → total (onto b ts) ≡ suc (total ts)
unfolding total
total_onto b [] = refl
total_onto b (t ∷ ts) = omega arith

total_lines : (file : List ℕ) → total (lines_of file) ≡ length file
unfolding total lines_of
total_lines [] = refl
total_lines (b ∷ bs) = by (eqb b 10) (total_lines bs)
  where
    by : (t : Bool) → total (lines_of bs) ≡ length bs → total (cond t ((b ∷ []) ∷ lines_of bs) (onto b (lines_of bs))) ≡ suc (length bs)
    by true e = omega arith
    by false e = total_onto b (lines_of bs) ∙ ap suc e

total_zeroed : (ts : List (List ℕ)) → total (map zeroed ts) ≡ total ts
unfolding total
total_zeroed [] = refl
total_zeroed (t ∷ ts) = rw (length_zeroed t, total_zeroed ts)

program_lines : (size : ℕ) (file : List ℕ) → blanked (program_of size file) ≡ cond (leb (total (map zeroed (lines_of file))) 65536) (whole size (map zeroed (lines_of file))) (refused 7 1)
unfolding program_of
program_lines size file = rw (total_zeroed (lines_of file), total_lines file, whole_blank size (lines_of file)) (by (leb (length file) 65536))
  where
    by : (t : Bool) → blanked (cond t (whole size (lines_of file)) (refused 7 1)) ≡ cond t (blanked (whole size (lines_of file))) (refused 7 1)
    by true = refl
    by false = refl

-- Files that differ only in digits of `bits` lines are refused alike, or taken as programs that differ only in bits.
pub program_blanked : (size : ℕ) (file file' : List ℕ) → map zeroed (lines_of file) ≡ map zeroed (lines_of file') → blanked (program_of size file) ≡ blanked (program_of size file')
program_blanked size file file' e = program_lines size file ∙ rw e (sym (program_lines size file'))

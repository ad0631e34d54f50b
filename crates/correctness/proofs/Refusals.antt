-- The files of `specs/Examples` are refused so, by computing; and what every refusal leaves.
use mathlib.Core.Path.{◌≡◌, refl, ◌∙◌}
use mathlib.Core.List.{List, ◌++◌, append_assoc}
use Prim.Native.Nat.{ℕ, ◌-◌, ◌≤◌}
use native.Mathlib.Omega.{arith}
use borrow.Author.Tests.{lt-leb}
use lib.ListN.{length, drop, replicate, length-append, length-replicate, length-drop}
use lib.Seq.{drop_at}
use Rattle.refusal.specs.Answer.{Answer, accepted, refused}
use Rattle.text.specs.Readers.{read_decimal, read_integer, read_word, read_from, split, same}
use Rattle.text.specs.Lines.{lines_of}
use Rattle.form.specs.Inner.Read.{first, read_values, read}
use Rattle.form.specs.Grammar.{said}
use Rattle.deck.specs.Judge.{judged, line_judged}
use Rattle.ast.specs.Mask.{saves as any_saved, saved}
use Rattle.ast.specs.Counts.{counts_hold}
use Rattle.assembler.specs.Bytes.{room}
use Rattle.assembler.specs.Put.{jumps, targets, labels}
use Rattle.assembler.specs.Resolved.{label_place, jumps_in}
use Rattle.accesses.specs.Code.{li_code, sub_stack_code, add_stack_code, allocate_stack_code, access_code, point_code}
use Rattle.orders.specs.Code.{code, line_code, scratched_code}
use Rattle.frame_code.specs.Items.{repeated, prologue, saves, reloads, epilogue}
use Rattle.reading.specs.Program.{Program, constants}
use Rattle.call.specs.Layout.{span, body, padding, constants_from, items}
use Rattle.routine.specs.Routine.{line_read, lines_read, head_read, closed_off, body_lines, first_line, finished, program_of, summary_answer, code_bytes, buffer_after}
use Rattle.correctness.specs.Refusals.{TooLong, Zeroed, Behind}
use Rattle.correctness.specs.Examples.{Malformed, Fields, Counts, Labels}
use Rattle.correctness.proofs.Taken.{taken}
use Rattle.correctness.proofs.Whole.{fits_room}
use Rattle.correctness.proofs.Correct.{code_fits}

pub too_long : TooLong
unfolding program_of
too_long size file h = rw (lt-leb (length file) 65536 h)

-- ---- the buffer

pub zeroed : Zeroed
unfolding buffer_after
zeroed file buf number line after h = h.1 ∙ by (program_of (length buf) file) h.0
  where
    by : (a : Answer Program) → refused number line ≡ summary_answer a → buffer_after a buf ≡ replicate (room (length buf)) 0 ++ drop (room (length buf)) buf
    by (accepted p) e = let z : ◌≡◌ {A = ℕ} 0 1 = cc in absurd (omega arith)
    by (refused n l) e = let z : room (length buf) - 0 ≡ room (length buf) = omega arith in rw z

module _ (buf : List ℕ) where
  abbrev size : ℕ
  size = room (length buf)

  -- code, then zeros, to the end of the room
  filled : (c : List ℕ) → length c ≤ size → length (c ++ replicate (size - length c) 0) ≡ size
  filled c h = omega (arith, length-append c (replicate (size - length c) 0), length-replicate {A = ℕ} (size - length c) 0)

  kept : (c : List ℕ) → length c ≤ size → (drop size (c ++ (replicate (size - length c) 0 ++ drop size buf)) ≡ drop size buf) × (length (c ++ (replicate (size - length c) 0 ++ drop size buf)) ≡ length buf)
  kept c h =
      let front : List ℕ = c ++ replicate (size - length c) 0 in
      rw (← append_assoc c (replicate (size - length c) 0) (drop size buf))
      (drop_at front (drop size buf) size (filled c h), length-append front (drop size buf) ∙ omega (arith, filled c h, length-drop size buf))

  behind_of : (file : List ℕ) (a : Answer Program) → program_of (length buf) file ≡ a → length (code_bytes a) ≤ size
  behind_of file (accepted p) e = omega (arith, code_fits p, fits_room (length buf) p (taken (length buf) file p e).roomy)
  behind_of file (refused n line) e = omega arith

pub behind : Behind
unfolding buffer_after
behind file buf answer after h = rw h.1 (kept buf (code_bytes (program_of (length buf) file)) (behind_of buf file (program_of (length buf) file) refl))

-- ---- small files

pub refusals : Malformed × Fields × Counts × Labels
unfolding program_of lines_of head_read lines_read line_read closed_off finished first_line body_lines jumps_in line_judged judged said read split first same read_values read_decimal read_integer read_word read_from counts_hold any_saved items span body constants padding constants_from prologue epilogue
    saves reloads saved repeated line_code code scratched_code access_code point_code jumps targets labels li_code sub_stack_code add_stack_code allocate_stack_code label_place
refusals = (
  (refl, refl, refl, refl, refl, refl, refl, refl, refl, refl, refl),
  (refl, refl, refl, refl, refl, refl, refl),
  (refl, refl, refl, refl, refl, refl, refl, refl, refl, refl, refl, refl, refl),
  (refl, refl, refl, refl, refl, refl, refl, refl, refl, refl),
)

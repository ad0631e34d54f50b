-- What is promised of `deck_emit` holds of `deck_emit_in` too; a deck file's text is never empty, so 0 says that there was no room.
use mathlib.Core.Path.{◌≡◌, ap, ◌∙◌}
use mathlib.Core.List.{List, [], ◌∷◌, ◌++◌}
use Prim.Native.Nat.{ℕ, ◌≤◌, ◌<◌}
use native.Mathlib.Omega.{arith}
use lib.ListN.{length, length-append}
use Rattle.refusal.specs.Answer.{Answer, accepted, refused}
use Rattle.ast.specs.declared.Frame.{Frame}
use Rattle.ast.specs.declared.Frame.TheVariants.{Fast, Indirect}
use Rattle.ast.specs.declared.Head.{Head}
use Rattle.accesses.specs.Code.{sub_stack_code}
use Rattle.frame_code.specs.Items.{prologue, saves, prologue_fast, prologue_indirect, by_frame}
use Rattle.reading.specs.Program.{Program}
use Rattle.call.specs.Layout.{span, body, exit, data_items, items, place, routine_words}
use Rattle.call.proofs.Items.{span_append, resolved_length}
use Rattle.routine.specs.Routine.{program_of}
use Rattle.routine.specs.Run.{run}
use Rattle.routine.proofs.Law.{run_promise}
use Rattle.print.specs.Text.{word_line, word_lines, refusal_line}
use Rattle.answer.specs.Answer.{program_text, deck_text}
use Rattle.handheld.specs.Numbers.{number, deck_numbers, Deck, RunTold}
use Rattle.handheld.proofs.Shown.{number_told}

-- ---- lent memory

pub same_in : (file js buf : List ℕ) → length js ≡ 20480 → (n : ℕ) (told ls js' after : List ℕ) → RunTold (run file js buf) n told ls js' after → Deck file buf n told after
same_in file js buf h n told ls js' after d =
    let p = run_promise file js buf h in
    (d.0 ∙ (ap number p.0 ∙ number_told (program_of (length buf) file)), d.1 ∙ ap deck_numbers p.0, d.4 ∙ p.1)

-- ---- the text

opened : (f : Frame) (H : Head) → 4 ≤ span (by_frame f (prologue_fast H) (prologue_indirect H))
unfolding span sub_stack_code
opened Fast H = omega arith
opened Indirect H = omega arith

whole : (p : Program) → 4 ≤ span (items p)
unfolding items prologue
whole p =
    let h : 4 ≤ span (prologue p.head) = opened p.head.frame p.head in
    rw (span_append ((prologue p.head ++ saves p.head.mask) ++ (body p.lines ++ exit p)) (data_items p), span_append (prologue p.head ++ saves p.head.mask) (body p.lines ++ exit p), span_append (prologue p.head) (saves p.head.mask)) (omega (arith, h))

lines_present : (ws : List ℕ) → 0 < length ws → 0 < length (word_lines 0 ws)
unfolding word_lines word_line
lines_present [] h = h
lines_present (w ∷ ws) h = simp length-append (omega arith)

listed : (a : Answer Program) → 0 < length (program_text a)
unfolding refusal_line
listed (accepted p) =
    let n = resolved_length (place p) 0 (items p) in
    lines_present (routine_words p) (omega (arith, n, whole p))
listed (refused n line) = omega arith

pub present : (file : List ℕ) → 0 < length (deck_text file)
unfolding deck_text
present file = listed (program_of 65536 file)

-- The nop before constants takes no room that isn't there: code and constants end at a multiple of 8, and so does the room. Assumes nothing.
use mathlib.Core.Path.{◌≡◌, refl, sym, ap, ◌∙◌, fun_ext}
use mathlib.Core.Bool.{Bool, true, false, cond}
use mathlib.Core.List.{List, ◌++◌}
use Prim.Native.Nat.{ℕ, zero, suc, ◌+◌, ◌*◌, ◌%◌, ◌≤◌}
use native.Mathlib.Omega.{arith}
use borrow.Author.Tests.{leb-true, le-leb}
use lib.Dec.{leb}
use lib.ListN.{length}
use Rattle.refusal.specs.Answer.{Answer, refused}
use Rattle.text.specs.Lines.{lines_of}
use Rattle.reading.specs.Program.{Program, constants}
use Rattle.assembler.specs.Item.{Item}
use Rattle.assembler.specs.Bytes.{room}
use Rattle.assembler.specs.Put.{jumps, labels}
use Rattle.assembler.proofs.Items.{jumps_append, labels_append}
use Rattle.call.specs.Layout.{span, body, padding, constants_from, entry, exit, code_items, pad, data_items}
use Rattle.call.proofs.Items.{span_append, span_four}
use Rattle.call.proofs.Padding.{padding_span, padded_eight, constants_span}
use Rattle.routine.specs.Routine.{then, file_read, closed_off, finished, program_of}
use Rattle.routine.proofs.LawFit.{padding_labels, padding_jumps}
use Rattle.correctness.specs.Refusals.{closed_without, NopFits}

leb_same : (a b r : ℕ) → (a ≤ r → b ≤ r) → (b ≤ r → a ≤ r) → leb a r ≡ leb b r
leb_same a b r f g = by (leb a r) (leb b r) refl refl
  where
    by : (t u : Bool) → leb a r ≡ t → leb b r ≡ u → t ≡ u
    by true u d e = sym (le-leb b r (f (leb-true a r d))) ∙ e
    by false true d e = sym d ∙ le-leb a r (g (leb-true b r e))
    by false false d e = refl

room_left : (n k r : ℕ) → n % 4 ≡ 0 → r % 8 ≡ 0 → n + 8 * k ≤ r → n + (span (padding n k) + 8 * k) ≤ r
unfolding padding span
room_left n zero r a b l = omega arith
room_left n (suc k) r a b l = omega (arith, padded_eight n (suc k) a (omega arith), padding_span n (suc k))

module _ (size : ℕ) (p : Program) (h : room size % 8 ≡ 0) where
  abbrev Before : List Item
  Before = entry p ++ body p.lines

  abbrev consts : List Item
  consts = constants_from 0 (constants p.lines)

  -- what comes behind the body sets the same labels and has the same jumps
  pad_sets : labels (exit p ++ data_items p) ≡ labels (exit p ++ consts)
  pad_sets = rw (labels_append (exit p) (data_items p), labels_append (exit p) consts, labels_append (pad p) consts, padding_labels (span (code_items p)) (length (constants p.lines)))

  pad_jumps : jumps (exit p ++ data_items p) ≡ jumps (exit p ++ consts)
  pad_jumps = rw (jumps_append (exit p) (data_items p), jumps_append (exit p) consts, jumps_append (pad p) consts, padding_jumps (span (code_items p)) (length (constants p.lines))) (omega arith)

  pad_room : leb (span Before + span (exit p ++ data_items p)) (room size) ≡ leb (span Before + span (exit p ++ consts)) (room size)
  pad_room =
      let n = span (code_items p) in
      let k = length (constants p.lines) in
      let x : n ≡ span Before + span (exit p) = omega (arith, span_append (entry p) (body p.lines), span_append (entry p) (body p.lines ++ exit p), span_append (body p.lines) (exit p)) in
      let y : span (exit p ++ data_items p) ≡ span (exit p) + (span (pad p) + span consts) = omega (arith, span_append (exit p) (data_items p), span_append (pad p) consts) in
      let z = span_append (exit p) consts in
      let c = constants_span 0 (constants p.lines) in
      leb_same (span Before + span (exit p ++ data_items p)) (span Before + span (exit p ++ consts)) (room size) (λ l. omega (arith, y, z))
      (λ l. omega (arith, x, y, c, room_left n k (room size) (span_four (code_items p)) h (omega (arith, l, x, z, c))))

  closed_same : closed_off size p ≡ closed_without size p
  unfolding closed_off
  closed_same = rw (pad_sets, pad_jumps, pad_room)

pub nop_fits : NopFits
unfolding program_of
nop_fits size file h =
    let f : Program → Answer Program = λ p. then (closed_off size p) finished in
    let g : Program → Answer Program = λ p. then (closed_without size p) finished in
    let same : f ≡ g = fun_ext (λ p. ap (λ (a : Answer Program). then a finished) (closed_same size p (omega (arith, h)))) in
    ap (λ (f : Program → Answer Program). cond (leb (length file) 65536) (then (file_read size (lines_of file)) f) (refused 7 1)) same

use mathlib.Core.Path.{sym, ap, ◌∙◌}
use Prim.Native.Nat.{ℕ}
use native.Mathlib.Nat.{zero-add}
use borrow.Author.Rules.{rules}
use lib.Dec.{leb}
use lib.ListN.{length}
use Rattle.print.specs.Text.{words_of}
use Rattle.print.specs.Listing.{marked}
use Rattle.print.proofs.Fitting.{from_start, too_long, fits}
use Rattle.print.proofs.Listings.{views_from, views_length}
use Rattle.print.proofs.listing.view_text.Goals as goal

pub returns-then-not-have_room : goal.returns-then-not-have_room
returns-then-not-have_room c =
    let a = c.args in
    let e = ap (λ (n : ℕ). leb n (length a.out.now)) (views_length (marked a.marks.now) a.constants 0 (words_of a.code.now)) in
    too_long (views_from (marked a.marks.now) a.constants a.code.now 0) 0 a.out.now (from_start (views_from (marked a.marks.now) a.constants a.code.now 0) a.out.now (e ∙ sym c.have_room.ensures ∙ c.if-not-have_room.true))

pub returns : goal.returns
returns c =
    let a = c.args in
    let w = c.put_lines.ensures in
    let e = ap (λ (n : ℕ). leb n (length a.out.now)) (views_length (marked a.marks.now) a.constants 0 (words_of a.code.now)) in
    let p = fits (views_from (marked a.marks.now) a.constants a.code.now 0) 0 a.out.now _ _ (from_start (views_from (marked a.marks.now) a.constants a.code.now 0) a.out.now (e ∙ sym c.have_room.ensures ∙ c.if-not-have_room.false)) (w.at ∙ zero-add _) w.out in
    (p.0, let q = p.1 in search rules)

use mathlib.Core.Path.{refl}
use native.Mathlib.Omega.{arith}
use Prim.Native.Nat.{◌*◌}
use Rattle.print.specs.Listing.{marked, view_line}
use Rattle.print.specs.Writer.{HasRoom}
use Rattle.print.specs.Text.{words_of}
use Rattle.print.proofs.Listings.{views_turn, views_end, views_length, view_length}
use Rattle.print.proofs.Written.{all_left, none_left, room_left, less_left}
use Rattle.print.proofs.listing.put_lines.Goals as goal

pub loop-j-init : goal.loop-j-init
loop-j-init c = all_left _ _

pub put_view_line-requires : goal.put_view_line-requires
put_view_line-requires c =
    let l = c.loop-j in
    let a = c.args in
    let h = marked a.marks.now in
    let r : HasRoom (view_line h a.constants (4 * l.j) c.word_at.result) l.w = room_left _ _ (views_turn a.constants a.code.now l.j _ (omega arith) c.word_at.ensures h) l.invariant (omega (arith, c.requires, views_length h a.constants 0 (words_of a.code.now))) in
    (refl, omega (arith, r, view_length h a.constants (4 * l.j) c.word_at.result))

pub loop-j-preserved : goal.loop-j-preserved
loop-j-preserved c =
    let l = c.loop-j in
    let a = c.args in
    less_left _ _ (views_turn a.constants a.code.now l.j _ (omega arith) c.word_at.ensures (marked a.marks.now)) l.invariant c.put_view_line.ensures

pub returns : goal.returns
returns c =
    let l = c.loop-j in
    let a = c.args in
    none_left (views_end a.constants a.code.now l.j (marked a.marks.now) (omega arith)) l.invariant

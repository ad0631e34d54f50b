use native.Mathlib.Omega.{arith}
use mathlib.Core.List.{◌∷◌}
use Prim.Native.Nat.{◌+◌}
use lib.ListN.{take, drop, get_or}
use Rattle.print.specs.Inner.Listing.{value_text, values_text}
use Rattle.print.proofs.Operands.{value_turn, values_end}
use Rattle.print.proofs.Written.{none_left, room_left, less_left}
use Rattle.print.proofs.listing.put_values.Goals as goal

pub put_next-requires : goal.put_next-requires
put_next-requires c =
    let l = c.loop-v in
    let s = c.args.s in
    room_left (44 ∷ value_text (get_or (take s.n s.values) l.v-index 0)) (values_text (drop (l.v-index + 1) (take s.n s.values))) (value_turn (take s.n s.values) l.v-index (omega arith)) l.invariant c.requires.1

pub loop-v-preserved : goal.loop-v-preserved
loop-v-preserved c =
    let l = c.loop-v in
    let s = c.args.s in
    less_left (44 ∷ value_text (get_or (take s.n s.values) l.v-index 0)) (values_text (drop (l.v-index + 1) (take s.n s.values))) (value_turn (take s.n s.values) l.v-index (omega arith)) l.invariant c.put_next.ensures

pub returns : goal.returns
returns c =
    let l = c.loop-v in
    let s = c.args.s in
    none_left (values_end (take s.n s.values) l.v-index (omega arith)) l.invariant

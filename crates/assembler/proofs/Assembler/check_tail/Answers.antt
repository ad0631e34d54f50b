use native.Mathlib.Nat.{add-zero}
use mathlib.Core.List.{[], ◌∷◌}
use Rattle.std.specs.Option.{option_map}
use Rattle.assembler.specs.State.{before}
use Rattle.assembler.specs.Put.{targets}
use Rattle.assembler.specs.Plan.{refusal_of}
use Rattle.assembler.proofs.Plans.{earlier_none}
use Rattle.assembler.proofs.Checks.{fits_capped, room_capped}
use Rattle.assembler.proofs.Assembler.check_tail.Goals as goal

pub returns-in-Nothing-clause-whole : goal.returns-in-Nothing-clause-whole
unfolding targets
returns-in-Nothing-clause-whole c = rw (c.in-Nothing.is, add-zero, ← earlier_none (option_map refusal_of c.args.fault)) c.check_whole.ensures.whole

pub returns-in-One-clause-whole : goal.returns-in-One-clause-whole
unfolding targets
returns-in-One-clause-whole c = rw (c.in-One.is, ← earlier_none (option_map refusal_of c.args.fault), ← fits_capped c.args.words _ 1 c.min.ensures) c.check_whole-in-One.ensures.whole

pub returns-in-Pair-clause-whole : goal.returns-in-Pair-clause-whole
unfolding targets
returns-in-Pair-clause-whole c = rw (c.in-Pair.is, ← earlier_none (option_map refusal_of c.args.fault), ← fits_capped c.args.words _ 2 c.min-in-Pair.ensures) c.check_whole-in-Pair.ensures.whole

pub returns-in-Nothing-clause-room : goal.returns-in-Nothing-clause-room
unfolding targets
returns-in-Nothing-clause-room c = rw (c.in-Nothing.is, add-zero) c.check_whole.ensures.room

pub returns-in-One-clause-room : goal.returns-in-One-clause-room
unfolding targets
returns-in-One-clause-room c = rw c.in-One.is (room_capped c.args.words _ 1 c.min.ensures _ (c.in-One.l ∷ []) (before c.args.self.now) c.check_whole-in-One.ensures.room)

pub returns-in-Pair-clause-room : goal.returns-in-Pair-clause-room
unfolding targets
returns-in-Pair-clause-room c = rw c.in-Pair.is (room_capped c.args.words _ 2 c.min-in-Pair.ensures _ (c.in-Pair.l ∷ c.in-Pair.l ∷ []) (before c.args.self.now) c.check_whole-in-Pair.ensures.room)

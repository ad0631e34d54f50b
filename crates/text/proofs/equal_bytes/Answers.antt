use mathlib.Core.Path.{refl}
use native.Mathlib.Omega.{arith}
use Prim.Native.Nat.{◌^◌, ◌<◌}
use borrow.Author.Rules.{rules}
use Rattle.text.specs.Inner.Parts.{each}
use Rattle.text.proofs.Marks.{marks_right}
use Rattle.text.proofs.equal_bytes.Goals as goal

pub returns : goal.returns
unfolding each
returns c =
    let h : c.args.x < 2 ^ 64 = search rules in
    (λ e. rw e (marks_right 10 (omega arith) refl 8 c.args.x h), λ e. rw e (marks_right 44 (omega arith) refl 8 c.args.x h))

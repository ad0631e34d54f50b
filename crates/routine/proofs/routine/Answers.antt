use mathlib.Core.Path.{ap, ◌∙◌}
use Prim.Native.Nat.{ℕ}
use lib.ListN.{replicate, length-replicate}
use Rattle.routine.specs.Run.{RunOutcome}
use Rattle.routine.proofs.Law.{run_promise}
use Rattle.routine.proofs.routine.Goals as goal

pub returns : goal.returns
returns c =
    let a = c.args in
    let p = run_promise a.file.now (replicate 20480 0) a.buf.now (length-replicate {A = ℕ} 20480 0) in
    (ap (λ (m : RunOutcome). m.answer) c.routine_in.ensures ∙ p.0, ap (λ (m : RunOutcome). m.state.buf) c.routine_in.ensures ∙ p.1)

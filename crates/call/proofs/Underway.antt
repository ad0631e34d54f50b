-- As far as the plain reading of a call comes, the machine comes. Assumes nothing.
use mathlib.Core.Path.{◌≡◌}
use Prim.Native.Nat.{ℕ, ◌+◌, ◌*◌, ◌<◌}
use Rattle.ast.specs.Count.{cell_count}
use Rattle.ast.specs.declared.Place.{Place}
use Rattle.machine.specs.Word.{load8}
use Rattle.machine.specs.Floats.{Floats}
use Rattle.machine.specs.State.{State}
use Rattle.machine.specs.Step.{CodeAt, Run, RunIn}
use Rattle.machine.proofs.Runs.{joined, wider}
use Rattle.frame_code.specs.Steps.{prologue_steps}
use Rattle.reading.specs.Program.{Program}
use Rattle.reading.specs.Plain.{Reading, Reads}
use Rattle.reading.specs.Terms.{base, cell_address, start}
use Rattle.call.specs.Layout.{routine_words}
use Rattle.call.proofs.Good.{Good}
use Rattle.call.proofs.Claim.{Called}
use Rattle.call.proofs.Words.{code_stands}
use Rattle.call.proofs.Follow.{Comes, follows}
use Rattle.call.proofs.Entered.{opened, ready, start_rel, ground}

pub underway : (Q : Floats) (p : Program) → Good p → (s : State) → Called p s → (n : ℕ) (r : Reading) → Reads Q p (start p.head s) n r
    → (k : ℕ) × (u : State) × Run Q s k u × (u.f ≡ r.f) × ((q : Place) (i : ℕ) → i < cell_count p.head q → load8 u.mem (cell_address p.head s q i) ≡ r.cells q i)
underway Q p g s c n r q = (steps + body.count, body.end, all.runs, body.rel.f, body.rel.cells)
  where
    code : CodeAt s.mem s.pc (routine_words p)
    code = code_stands p g s.mem s.pc c.sound.pc c.code

    first : State
    first = ready Q p g s c.sound code c.terms

    steps : ℕ
    steps = prologue_steps p.head p.head.frame (s.x 11)

    body : Comes Q p (base p.head s) s.pc first.x first.mem r first (11 * n)
    body =
        follows Q p (base p.head s) s.pc first.x first.mem (ground Q p g s c.sound code c.terms) first
        (start_rel Q p g s c.sound code c.terms) q

    all : RunIn Q (λ x. Unit {0}) s (steps + body.count) body.end
    all = joined Q (wider Q (λ x w. tt) (opened Q p g s c.sound code c.terms).1.runs) (wider Q (λ x w. tt) body.runs)

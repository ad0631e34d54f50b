-- What a run of words comes to: the form in which the orders' theorems are stated (document 01, demand 2).
use Rattle.std.specs.Prelude.{◌≡◌, Bool, not, ◌||◌, ℕ, T, eqb}
use Rattle.isa.specs.Register.{t0, t1, t2}
use Rattle.machine.specs.Floats.{Floats}
use Rattle.machine.specs.State.{State}
use Rattle.machine.specs.Step.{Among, RunIn}

-- t0, t1 and t2
unfoldable pub temporary : ℕ → Bool
temporary r = eqb r t0 || (eqb r t1 || eqb r t2)

-- From s to t: pc, float registers and memory are as given; the rounding mode and each register outside W are as before.
pub record Does (W : ℕ → Bool) (s t : State) (pc' : ℕ) (f' m' : ℕ → ℕ) : Type 0 where
  pub pc : t.pc ≡ pc'
  pub f : t.f ≡ f'
  pub mem : t.mem ≡ m'
  pub rm : t.rm ≡ s.rm
  pub x : (r : ℕ) → T (not (W r)) → t.x r ≡ s.x r

-- k steps from s come to such a t; before, pc is at one of the n words from where it stood
pub record Ends (Q : Floats) (W : ℕ → Bool) (s : State) (n k pc' : ℕ) (f' m' : ℕ → ℕ) : Type 0 where
  pub end : State
  pub runs : RunIn Q (Among s.pc n) s k end
  pub does : Does W s end pc' f' m'

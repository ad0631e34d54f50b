-- Stores to a range, and to a part of it.
use mathlib.Core.Path.{◌≡◌}
use mathlib.Core.Bool.{Bool, true, false, not, ◌||◌}
use mathlib.Core.List.{List, [], ◌∷◌, ◌++◌}
use Prim.Native.Nat.{ℕ, ◌+◌, ◌^◌, ◌≤◌, ◌<◌}
use native.Mathlib.Omega.{arith}
use lib.Dec.{T}
use Rattle.isa.specs.Instr.{Instr}
use Rattle.machine.specs.Word.{load8}
use Rattle.machine.specs.Floats.{Floats}
use Rattle.machine.specs.State.{State}
use Rattle.machine.specs.Effect.{Effect, write_x, write_f, store, jump, effect, exec}
use Rattle.machine.proofs.Exec.{execs}
use Rattle.machine.proofs.Memory.{inside, load8_local}
use Rattle.machine.proofs.Stores.{Lands, Same, Off, Landing}

-- the bytes from lo on, below hi
abbrev pub In : (lo hi : ℕ) → ℕ → Type 0
In lo hi x = (lo ≤ x) × (x < hi)

-- no byte
abbrev pub Nowhere : ℕ → Type 0
Nowhere x = ⊥

module _ (P P' : ℕ → Type 0) (h : (x : ℕ) → P x → P' x) where
  lands_wider : (e : Effect) → Lands P e → Lands P' e
  lands_wider (write_x d v) l = tt
  lands_wider (write_f d v) l = tt
  lands_wider (store a v) l = λ x b d. h x (l x b d)
  lands_wider (jump d a) l = l

  pub landing_wider : (Q : Floats) (is : List Instr) (s : State) → Landing P Q is s → Landing P' Q is s
  landing_wider Q [] s l = tt
  landing_wider Q (i ∷ is) s l = (lands_wider (effect Q i s) l.0, landing_wider Q is (exec Q i s) l.1)

pub landing_join : (P : ℕ → Type 0) (Q : Floats) (is js : List Instr) (s : State) → Landing P Q is s → Landing P Q js (execs Q is s) → Landing P Q (is ++ js) s
landing_join P Q [] js s l k = k
landing_join P Q (i ∷ is) js s l k = (l.0, landing_join P Q is js (exec Q i s) l.1 k)

-- a load off the bytes that may differ
pub load8_same : (P : ℕ → Type 0) (m m' : ℕ → ℕ) (a : ℕ) → Same P m m' → Off P a 8 → load8 m a ≡ load8 m' a
load8_same P m m' a s o = load8_local m m' a (λ x b d. s x b (o x b d))

-- eight bytes beside a range
pub off_below : (lo hi a : ℕ) → a + 8 ≤ lo → a + 8 ≤ 2 ^ 64 → Off (In lo hi) a 8
off_below lo hi a h n x b d p = let q = inside a 8 x n b d in omega (arith, q.1, p.0)

pub off_above : (lo hi a : ℕ) → hi ≤ a → a + 8 ≤ 2 ^ 64 → Off (In lo hi) a 8
off_above lo hi a h n x b d p = let q = inside a 8 x n b d in omega (arith, q.0, p.1)

-- ---- neither of two tests

pub not_or : (a b : Bool) → T (not (a || b)) → T (not a) × T (not b)
not_or true b h = absurd h
not_or false b h = (tt, h)

pub or_not : (a b : Bool) → T (not a) → T (not b) → T (not (a || b))
or_not true b h k = h
or_not false b h k = k

-- The state of the machine (document 01, "The machine and the terms of a call").
use Rattle.std.specs.Prelude.{cond, ℕ, ◌+◌, ◌^◌, ◌≤◌, ◌<◌, eqb}
use Rattle.machine.specs.Word.{w64, upd}

pub record State : Type 0 where
  pub pc : ℕ
  pub x : ℕ → ℕ  -- registers 1 to 31; `getx` and `setx` make register 0 the zero
  pub f : ℕ → ℕ  -- float registers 0 to 31, as bits
  pub rm : ℕ  -- the rounding mode, 0 to 4
  pub mem : ℕ → ℕ  -- bytes

-- x0 reads 0
abbrev pub getx : State → ℕ → ℕ
getx s r = cond (eqb r 0) 0 (s.x r)

-- what is written to x0 vanishes
unfoldable pub setx : (ℕ → ℕ) → ℕ → ℕ → ℕ → ℕ
setx x d v = cond (eqb d 0) x (upd x d v)

-- the address of the next word
abbrev pub next : State → ℕ
next s = w64 (s.pc + 4)

-- What makes numbers a machine's state.
pub record Sound (s : State) : Type 0 where
  pub pc : s.pc < 2 ^ 64
  pub x : (r : ℕ) → s.x r < 2 ^ 64
  pub f : (r : ℕ) → s.f r < 2 ^ 64
  pub rm : s.rm ≤ 4
  pub mem : (a : ℕ) → s.mem a < 256

-- Float arithmetic: any functions of rounding and operand bits (document 01, "The machine and the terms of a call").
use Rattle.std.specs.Prelude.{◌≡◌, Bool, ℕ, ◌-◌, ◌^◌, ◌≤◌}

-- the bits of 1.0 and -1.0; those of 0.0 are 0
abbrev pub one : ℕ
one = 0x3ff0000000000000

abbrev pub minus_one : ℕ
minus_one = 0xbff0000000000000

-- The first argument of each is the rounding mode (0 nearest even, 1 toward zero, 2 down, 3 up, 4 nearest away),
-- the others are operand bits. The machine cuts each result to its width. A comparison's answer is a Bool,
-- so its register gets 0 or 1. Comparisons, minimum and maximum get the state's mode.
pub record Floats : Type 0 where
  pub add : ℕ → ℕ → ℕ → ℕ
  pub sub : ℕ → ℕ → ℕ → ℕ
  pub mul : ℕ → ℕ → ℕ → ℕ
  pub div : ℕ → ℕ → ℕ → ℕ
  pub sqrt : ℕ → ℕ → ℕ
  pub mul_add : ℕ → ℕ → ℕ → ℕ → ℕ  -- a × b + c
  pub mul_sub : ℕ → ℕ → ℕ → ℕ → ℕ  -- a × b - c
  pub neg_mul_add : ℕ → ℕ → ℕ → ℕ → ℕ  -- -(a × b) + c
  pub neg_mul_sub : ℕ → ℕ → ℕ → ℕ → ℕ  -- -(a × b) - c
  pub min : ℕ → ℕ → ℕ → ℕ
  pub max : ℕ → ℕ → ℕ → ℕ
  pub le : ℕ → ℕ → ℕ → Bool
  pub lt : ℕ → ℕ → ℕ → Bool
  pub eq : ℕ → ℕ → ℕ → Bool
  pub to_w : ℕ → ℕ → ℕ  -- a float to a signed whole number of 32 bits
  pub to_l : ℕ → ℕ → ℕ  -- a float to one of 64 bits
  pub of_w : ℕ → ℕ → ℕ  -- a signed whole number of 32 bits to a float
  pub of_l : ℕ → ℕ → ℕ  -- one of 64 bits to a float
  -- 0, 1 and -1 of 32 bits convert to 0.0, 1.0 and -1.0, at every rounding (document 01 grants it of 64 bits too; nothing needs it)
  pub of_w_zero : (m : ℕ) → m ≤ 4 → of_w m 0 ≡ 0
  pub of_w_one : (m : ℕ) → m ≤ 4 → of_w m 1 ≡ one
  pub of_w_minus_one : (m : ℕ) → m ≤ 4 → of_w m (2 ^ 32 - 1) ≡ minus_one

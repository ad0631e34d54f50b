-- 64-bit numbers, a function changed at one place, and the bytes of memory.
use Rattle.std.specs.Prelude.{cond, ℕ, ◌+◌, ◌-◌, ◌*◌, ◌/◌, ◌%◌, ◌^◌, eqb, ltb}

-- A number in 64 bits: modulo 2^64.
abbrev pub w64 : ℕ → ℕ
w64 n = n % 2 ^ 64

-- The low w bits of n as a signed number, in 64 bits (the Manual's sign extension):
-- n moved up by 2^(w-1), cut to w bits, and moved down again.
abbrev pub sext : ℕ → ℕ → ℕ
sext w n = w64 ((n + 2 ^ (w - 1)) % 2 ^ w + (2 ^ 64 - 2 ^ (w - 1)))

-- g, but v at k
unfoldable pub upd : (ℕ → ℕ) → ℕ → ℕ → ℕ → ℕ
upd g k v j = cond (eqb j k) v (g j)

-- ---- memory: a function from addresses to bytes; an address counts modulo 2^64

-- how far x lies behind a, modulo 2^64
unfoldable pub dist : ℕ → ℕ → ℕ
dist a x = (x + (2 ^ 64 - a % 2 ^ 64)) % 2 ^ 64

-- the byte k behind a
abbrev pub byte : (ℕ → ℕ) → ℕ → ℕ → ℕ
byte m a k = m (w64 (a + k))

-- little-endian, at any address
unfoldable pub load4 : (ℕ → ℕ) → ℕ → ℕ
load4 m a = byte m a 0 + byte m a 1 * 2 ^ 8 + byte m a 2 * 2 ^ 16 + byte m a 3 * 2 ^ 24

unfoldable pub load8 : (ℕ → ℕ) → ℕ → ℕ
load8 m a =
    byte m a 0 + byte m a 1 * 2 ^ 8 + byte m a 2 * 2 ^ 16 + byte m a 3 * 2 ^ 24 + byte m a 4 * 2 ^ 32
    + byte m a 5 * 2 ^ 40
    + byte m a 6 * 2 ^ 48
    + byte m a 7 * 2 ^ 56

-- the eight bytes of v, at a and behind it
unfoldable pub store8 : (ℕ → ℕ) → ℕ → ℕ → ℕ → ℕ
store8 m a v x = cond (ltb (dist a x) 8) (v / 256 ^ dist a x % 256) (m x)

-- Immediates: whole numbers with a sign, as an assembler programmer writes them, and how their two's complement lies in a field of bits.
use Rattle.std.specs.Prelude.{cond, ℕ, ◌+◌, ◌-◌, ◌/◌, ◌%◌, ◌^◌, ltb, ℤ, pos, negsuc}

-- The two's complement of z in w bits: z modulo 2^w. (`negsuc n` is -1 - n.)
abbrev pub twos : ℕ → ℤ → ℕ
twos w (pos n) = n % 2 ^ w
twos w (negsuc n) = 2 ^ w - 1 - n % 2 ^ w

-- The signed number whose two's complement in w bits is n, for n below 2^w.
abbrev pub signed : ℕ → ℕ → ℤ
signed w n = cond (ltb n (2 ^ (w - 1))) (pos n) (negsuc (2 ^ w - 1 - n))

-- A 32-bit number x as the immediates of `lui` or `auipc` and of the `addi`, `addiw`, load or `jalr` behind it (mod.rs: `hi`, `lo`).
-- `lo` is the low 12 bits with their sign; `hi`, modulo 2^20, is what is left, one more where `lo` is negative.
abbrev pub hi : ℕ → ℕ
hi x = (x + 2048) / 4096 % 2 ^ 20

abbrev pub lo : ℕ → ℤ
lo x = signed 12 (x % 4096)

-- Numbers as bytes, from the highest digit to the lowest.
use Rattle.std.specs.Prelude.{cond, List, [], ◌∷◌, ℕ, zero, suc, ◌+◌, ◌/◌, ◌%◌, ◌^◌, ltb, ℤ, pos, negsuc}

-- the byte of a digit: 0 to 9, then a to f
abbrev pub digit_byte : ℕ → ℕ
digit_byte d = cond (ltb d 10) (48 + d) (87 + d)

-- the lowest k digits of n in base b
unfoldable pub digits : (b k n : ℕ) → List ℕ
digits b zero n = []
digits b (suc k) n = digit_byte (n / b ^ k % b) ∷ digits b k n

-- How many decimal digits of n stand above the lowest: none below 10, else one more than in n / 10.
-- The first number bounds the steps, n is enough.
unfoldable pub above : (steps n : ℕ) → ℕ
above zero n = 0
above (suc k) n = let more = suc (above k (n / 10)) in cond (ltb n 10) 0 more

-- decimal, no leading zero
unfoldable pub decimal : ℕ → List ℕ
decimal n = digits 10 (suc (above n n)) n

-- with a minus (45) in front where it is negative; so there is no minus zero
unfoldable pub integer_bytes : ℤ → List ℕ
integer_bytes (pos n) = decimal n
integer_bytes (negsuc n) = 45 ∷ decimal (suc n)

-- 16 lowercase hexadecimal digits
unfoldable pub word_bytes : ℕ → List ℕ
word_bytes n = digits 16 16 n

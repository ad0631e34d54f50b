-- What `deckwords` prints (document 01, "The deck file"), and a text in a lent buffer.
use Rattle.std.specs.Prelude.{◌≡◌, cond, List, [], ◌∷◌, ◌++◌, ℕ, ◌+◌, ◌*◌, leb, length, Result, Ok, Err}
use Rattle.std.proofs.lemmas.List.Edits.{sets}
use Rattle.text.specs.Ascii.{bytes}
use Rattle.text.specs.Digits.{decimal, digits}
use Rattle.print.specs.declared.TooLong.{TooLong}

-- the word of four bytes, little-endian
abbrev pub le_word : (a b c d : ℕ) → ℕ
le_word a b c d = a + b * 256 + c * 65536 + d * 16777216

-- the words that bytes hold, four bytes each; fewer than four are no word
unfoldable pub words_of : List ℕ → List ℕ
words_of [] = []
words_of (a ∷ []) = []
words_of (a ∷ b ∷ []) = []
words_of (a ∷ b ∷ c ∷ []) = []
words_of (a ∷ b ∷ c ∷ d ∷ bs) = le_word a b c d ∷ words_of bs

-- 8 lowercase hexadecimal digits
abbrev pub hex : ℕ → List ℕ
hex w = digits 16 8 w

-- "byte offset (decimal) and word (8 hex digits)", a comma (44) between, and byte 10
unfoldable pub word_line : (offset w : ℕ) → List ℕ
word_line offset w = decimal offset ++ (44 ∷ (hex w ++ (10 ∷ [])))

-- a line for each word, the first at this offset
unfoldable pub word_lines : (offset : ℕ) → List ℕ → List ℕ
word_lines offset [] = []
word_lines offset (w ∷ ws) = word_line offset w ++ word_lines (offset + 4) ws

-- the lines of code in bytes
abbrev pub code_lines : List ℕ → List ℕ
code_lines code = word_lines 0 (words_of code)

-- "refused,number,line", and byte 10; of code, the place stands for the line
unfoldable pub refusal_line : (number line : ℕ) → List ℕ
refusal_line number line = bytes "refused," ++ (decimal number ++ (44 ∷ (decimal line ++ (10 ∷ []))))

-- ---- a text in a buffer from byte `at` on: whole, or not at all

-- its length, where there is room
abbrev pub length_in : (text : List ℕ) → (at : ℕ) → (buf : List ℕ) → Result ℕ TooLong
length_in text at buf = cond (leb (at + length text) (length buf)) (Ok (length text)) (Err (record {}))

-- the buffer afterwards
abbrev pub put_in : (text : List ℕ) → (at : ℕ) → (buf : List ℕ) → List ℕ
put_in text at buf = cond (leb (at + length text) (length buf)) (sets buf at text) buf

-- the promise of a function that answers r and leaves `after`
abbrev pub Puts : (text : List ℕ) → (at : ℕ) → (buf : List ℕ) → (r : Result ℕ TooLong) → (after : List ℕ) → Type 0
Puts text at buf r after = (r ≡ length_in text at buf) × (after ≡ put_in text at buf)

-- A refusal in words: one plain sentence for each of document 01's "Numbers of refusal", and for 14 of document 02 (docs/DECK.md shows
-- the table).
use Rattle.std.specs.Prelude.{List, [], ◌∷◌, ◌++◌, ℕ, get_or}
use Prim.Native.String.{String}
use Rattle.text.specs.Ascii.{bytes}
use Rattle.text.specs.Digits.{decimal}

-- the word of each number, from 1 on, and when it is answered; 0 is no refusal, and 13 none yet
abbrev pub sentences : List String
sentences =
    ""
    ∷ "register: a register is above 31, or a pair of them starts at 31"
    ∷ "value: a number is out of range, or record, labels or jumps are unsound"
    ∷ "label: a label is above 1023"
    ∷ "twice: this label is set already, or this constant is there already"
    ∷ "unset: a branch's label is not set, or a loaded constant is not there"
    ∷ "far: a short jump does not reach its label"
    ∷ "full: the code or its jumps do not fit, or the file exceeds 65536 bytes"
    ∷ "closed: the code is finished already, and takes no more orders"
    ∷ "count: a count is too large, or a cell or constant has no such number"
    ∷ "base: an access that computes its address in t0 has t0 as its base"
    ∷ "unsaved: line 1 must save the register, or the cell keeps a saved one"
    ∷ "line: the line is missing, has a wrong form or end, or cannot stand here"
    ∷ ""
    ∷ "foreign: no instruction here has the word, or the last word is cut short"
    ∷ []

-- a number's sentence; no byte where there is no such number
unfoldable pub refusal_text : (number : ℕ) → List ℕ
refusal_text number = bytes (get_or sentences number "")

-- "line L: N, "
unfoldable pub reason_front : (number line : ℕ) → List ℕ
reason_front number line = bytes "line " ++ (decimal line ++ (bytes ": " ++ (decimal number ++ bytes ", ")))

-- what the programs add on standard error: "line L: N, SENTENCE", and byte 10
unfoldable pub reason_line : (number line : ℕ) → List ℕ
reason_line number line = reason_front number line ++ (refusal_text number ++ (10 ∷ []))

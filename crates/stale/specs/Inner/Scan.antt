-- The line that sets a label, as the code finds it: by what each line of the file says.
use Rattle.std.specs.Prelude as N
use Rattle.std.specs.Prelude.{false, ◌&&◌, cond, List, [], ◌∷◌, ℕ, suc, drop, ltb, eqb, set}
use Rattle.std.proofs.Math.Option.{Option, some, none, get_or}
use Rattle.refusal.specs.Answer.{Answer, accepted, refused}
use Rattle.ast.specs.Uses.{sets}
use Rattle.text.specs.Lines.{lines_of}
use Rattle.form.specs.Grammar.{said}
use Rattle.deck.specs.Judge.{Content, line_judged}
use Rattle.deck.specs.Judge as Deck
use Rattle.reading.specs.Program.{here_or}

-- the label that is set
abbrev pub sets_in : Answer Content → Option ℕ
sets_in (accepted (Deck.head h)) = none
sets_in (accepted (Deck.order o)) = sets o
sets_in (accepted (Deck.constant c)) = none
sets_in (refused n place) = none

-- by a line behind line 1
abbrev pub label_of : (line : List ℕ) → Option ℕ
label_of t = sets_in (line_judged false (said t))

-- the first line that sets label l, where the first of the lines is line n
unfoldable pub text_line : (l n : ℕ) → List (List ℕ) → Option ℕ
text_line l n [] = none
text_line l n (t ∷ ts) = here_or l n (label_of t) (text_line l (suc n) ts)

-- label and line noted, if the label is the file's own and has no line yet
abbrev pub with_line : (found : List ℕ) → Option ℕ → (line : ℕ) → List ℕ
with_line found none n = found
with_line found (some l) n = cond (ltb l 1024 && eqb (N.get_or found l 0) 0) (set found l n) found

-- the same as a number, 0 for none
abbrev pub set_line : (l : ℕ) → List (List ℕ) → ℕ
set_line l ts = get_or (text_line l 2 ts) 0

-- of a file; line 1 sets no label
abbrev pub file_line : (file : List ℕ) → (l : ℕ) → ℕ
file_line file l = set_line l (drop 1 (lines_of file))

-- Which constants are hidden, as the code finds them: by how the file's lines start.
use Rattle.std.specs.Prelude.{Bool, false, ◌&&◌, cond, List, [], ◌∷◌, ◌++◌, ℕ, ltb, length, take, drop, Option, Some, None, option_to_list}
use Rattle.ast.specs.Constant.{constant_limit}
use Rattle.text.specs.Ascii.{bytes}
use Rattle.text.specs.Lines.{lines_of}
use Rattle.text.specs.Readers.{same}
use Rattle.print.specs.Listing.{marked}
use Rattle.listing.specs.declared.View.{View}
use Rattle.listing.specs.declared.View.TheVariants.{Maintainer, Attendant}

abbrev pub starts : (word line : List ℕ) → Bool
starts w t = same (take (length w) t) w

-- 1 for a `bits` line, 0 for a `float` line, none for any other
abbrev pub mark_of : (line : List ℕ) → Option ℕ
mark_of t = cond (starts (bytes "bits,") t) (Some 1) (cond (starts (bytes "float,") t) (Some 0) None)

-- a mark for each constant
unfoldable pub marks_of : List (List ℕ) → List ℕ
marks_of [] = []
marks_of (t ∷ ts) = option_to_list (mark_of t) ++ marks_of ts

-- constant k of a file is hidden; line 1 is no constant
abbrev pub hidden_by : View → (file : List ℕ) → (k : ℕ) → Bool
hidden_by Maintainer file k = false
hidden_by Attendant file k = ltb k constant_limit && marked (marks_of (drop 1 (lines_of file))) k

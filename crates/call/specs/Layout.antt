-- The routine's words (document 01, "Added: the routine"): code from the lines, then the constants, at a multiple of 8.
use Rattle.std.specs.Prelude.{cond, List, [], ◌∷◌, ◌++◌, ℕ, zero, suc, ◌+◌, ◌%◌, eqb, pos, length}
use Rattle.std.proofs.Math.Option.{get_or}
use Rattle.isa.specs.Register.{zero as x0}
use Rattle.isa.specs.Instr.{Instr, I, ADDI}
use Rattle.assembler.specs.Item.{Item, instr, raw, jump, label}
use Rattle.assembler.specs.Constant.{quad}
use Rattle.ast.specs.Constant.{constant_label}
use Rattle.assembler.specs.Resolved.{resolved, label_place}
use Rattle.reading.specs.Line.{Line}
use Rattle.orders.specs.Code.{line_code}
use Rattle.frame_code.specs.Items.{prologue, saves, reloads, epilogue}
use Rattle.reading.specs.Program.{Program, constants}

-- the bytes that items take: four each, a label none
unfoldable pub span : List Item → ℕ
span [] = 0
span (instr i ∷ is) = 4 + span is
span (raw w ∷ is) = 4 + span is
span (jump k l r ∷ is) = 4 + span is
span (label l ∷ is) = span is

-- the body: the lines' code in order
unfoldable pub body : List Line → List Item
body [] = []
body (l ∷ ls) = line_code l ++ body ls

abbrev pub nop : Instr
nop = I ADDI x0 x0 (pos 0)

-- "one `nop` before them if its length isn't a multiple of 8" (document 02, point 7): behind so many bytes, before so many constants
unfoldable pub padding : (bytes constants : ℕ) → List Item
padding n zero = []
padding n (suc k) = cond (eqb (n % 8) 0) [] (instr nop ∷ [])

-- constants from number k on, each at its label
unfoldable pub constants_from : ℕ → List ℕ → List Item
constants_from k [] = []
constants_from k (b ∷ bs) = label (constant_label k) ∷ (quad b ++ constants_from (suc k) bs)

module _ (p : Program) where
  -- before the body, and behind it
  abbrev pub entry : List Item
  entry = prologue p.head ++ saves p.head.mask

  abbrev pub exit : List Item
  exit = reloads p.head.mask ++ epilogue p.head

  abbrev pub code_items : List Item
  code_items = entry ++ (body p.lines ++ exit)

  -- between code and constants
  abbrev pub pad : List Item
  pad = padding (span code_items) (length (constants p.lines))

  abbrev pub data_items : List Item
  data_items = pad ++ constants_from 0 (constants p.lines)

  unfoldable pub items : List Item
  items = code_items ++ data_items

  -- where constants start
  abbrev pub constants_offset : ℕ
  constants_offset = span code_items + span pad

  -- the routine's length in bytes
  abbrev pub code_length : ℕ
  code_length = span items

  -- where label l is
  unfoldable pub place : ℕ → ℕ
  place l = get_or (label_place l 0 items) 0

  -- The words.
  abbrev pub routine_words : List ℕ
  routine_words = resolved place 0 items

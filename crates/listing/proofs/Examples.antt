-- Small deck files in both views, worked out by hand from document 02's points 7 and 10. Closed computations.
use mathlib.Core.Path.{◌≡◌, refl}
use mathlib.Core.List.{List, ◌++◌, flat_map}
use Prim.Native.Nat.{ℕ}
use Prim.Native.String.{String}
use native.Mathlib.Omega.{arith}
use lib.Ieee.{to_bits, of_int, round}
use Rattle.isa.specs.Encode.{encode, join, fields}
use Rattle.isa.specs.Decode.{decode, reading, cut}
use Rattle.ast.specs.Mask.{saves as any_saved, saved}
use Rattle.ast.specs.Counts.{counts_hold}
use Rattle.text.specs.Ascii.{bytes}
use Rattle.text.specs.Digits.{digits, above, decimal, integer_bytes, word_bytes}
use Rattle.text.specs.Lines.{lines_of}
use Rattle.text.specs.Readers.{read_decimal, read_integer, read_word, read_from, split, same}
use Rattle.text.specs.Fields.{commas}
use Rattle.form.specs.Text.{text}
use Rattle.form.specs.Inner.Read.{first, read_values, read}
use Rattle.form.specs.Grammar.{said}
use Rattle.deck.specs.Judge.{judged, line_judged}
use Rattle.assembler.specs.Bytes as Code
use Rattle.assembler.specs.Put.{jumps, targets, labels}
use Rattle.assembler.specs.Resolved.{label_place, resolved, jumps_in}
use Rattle.accesses.specs.Code.{li_code, sub_stack_code, add_stack_code, allocate_stack_code, access_code, point_code}
use Rattle.reading.specs.Program.{constants}
use Rattle.orders.specs.Code.{line_code}
use Rattle.orders.specs.Code as Orders
use Rattle.frame_code.specs.Items.{repeated, prologue, saves, reloads, epilogue}
use Rattle.call.specs.Layout.{span, body, padding, constants_from, items, place}
use Rattle.routine.specs.Routine.{line_read, lines_read, head_read, closed_off, body_lines, first_line, finished, program_of}
use Rattle.print.specs.Text.{words_of, refusal_line}
use Rattle.print.specs.Listing.{operands_text, instr_line, data_line, hidden_line, listing_line, view_line, view_lines}
use Rattle.listing.specs.Views.{hidden_in, deck_view}
use Rattle.listing.specs.Unseen.{Alike, end, same_line, other_digits}
use Rattle.listing.specs.declared.View.TheVariants.{Maintainer, Attendant}

-- a deck that has no other line, and the lines of its code, 88 bytes
abbrev deck : List ℕ
deck = bytes "fast,0,2,0,0,0\n"

abbrev code : List ℕ
code =
    bytes "0,addi,2,2,-32\n4,sd,1,2,0\n8,sd,8,2,8\n12,sd,9,2,16\n16,sd,21,2,24\n20,add,8,2,0\n24,addi,2,2,-32\n28,add,9,2,0\n"
    ++ (bytes "32,addi,2,2,-16\n36,add,21,2,0\n40,fsd,10,9,0\n44,fsd,11,9,8\n48,addi,10,0,0\n52,fld,10,9,0\n56,add,2,8,0\n"
    ++ bytes "60,ld,1,2,0\n64,ld,8,2,8\n68,ld,9,2,16\n72,ld,21,2,24\n76,addi,2,2,32\n80,xor,10,10,10\n84,jalr,0,1,0\n")

-- another, whose code of 84 bytes ends at no multiple of 8
abbrev odd_deck : List ℕ
odd_deck = bytes "fast,0,1,0,0,0\n"

abbrev odd_code : List ℕ
odd_code =
    bytes "0,addi,2,2,-32\n4,sd,1,2,0\n8,sd,8,2,8\n12,sd,9,2,16\n16,sd,21,2,24\n20,add,8,2,0\n24,addi,2,2,-16\n28,add,9,2,0\n"
    ++ (bytes "32,addi,2,2,-16\n36,add,21,2,0\n40,fsd,10,9,0\n44,addi,10,0,0\n48,fld,10,9,0\n52,add,2,8,0\n"
    ++ bytes "56,ld,1,2,0\n60,ld,8,2,8\n64,ld,9,2,16\n68,ld,21,2,24\n72,addi,2,2,32\n76,xor,10,10,10\n80,jalr,0,1,0\n")

-- with these lines behind a deck, what each view shows behind its code
abbrev Behind : (deck code : List ℕ) → (lines maintainer attendant : String) → Type 0
Behind d c ls m a = (deck_view Maintainer (d ++ bytes ls) ≡ c ++ bytes m) × (deck_view Attendant (d ++ bytes ls) ≡ c ++ bytes a)

abbrev Shows : (lines maintainer attendant : String) → Type 0
Shows ls m a = Behind deck code ls m a

abbrev Odd : (lines maintainer attendant : String) → Type 0
Odd ls m a = Behind odd_deck odd_code ls m a

-- a file that is refused: both views show this line
abbrev Refuses : (file : List ℕ) → (line : String) → Type 0
Refuses file l = (deck_view Maintainer file ≡ bytes l) × (deck_view Attendant file ≡ bytes l)

abbrev Examples : Type 0
Examples =
    Shows "" "" ""  -- no constants
    × Shows "bits,0000004000001234\n" "88,data,00001234\n92,data,00000040\n" "88,data,--------\n92,data,--------\n"
    × Shows "float,3\n" "88,data,00000000\n92,data,40080000\n" "88,data,00000000\n92,data,40080000\n"
    × Shows "bits,4008000000000000\n" "88,data,00000000\n92,data,40080000\n" "88,data,--------\n92,data,--------\n"  -- the same bits
    × Shows "float,3\nbits,ffffffffffffffff\n" "88,data,00000000\n92,data,40080000\n96,data,ffffffff\n100,data,ffffffff\n" "88,data,00000000\n92,data,40080000\n96,data,--------\n100,data,--------\n"
    × Odd "" "" ""
    × Odd "bits,0000004000001234\n" "84,addi,0,0,0\n88,data,00001234\n92,data,00000040\n" "84,addi,0,0,0\n88,data,--------\n92,data,--------\n"
    × Odd "float,3\nfloat,3\n" "84,addi,0,0,0\n88,data,00000000\n92,data,40080000\n96,data,00000000\n100,data,40080000\n" "84,addi,0,0,0\n88,data,00000000\n92,data,40080000\n96,data,00000000\n100,data,40080000\n"
    × Refuses (deck ++ bytes "bits,00000000000000gg\n") "refused,12,2\n"
    × Refuses (bytes "bits,0000000000000001\n") "refused,12,1\n"
    × Refuses (deck ++ bytes "load_const,0,1\nbits,0000000000000001\n") "refused,5,2\n"

pub examples : Examples
unfolding deck_view hidden_in view_lines view_line listing_line instr_line data_line hidden_line operands_text refusal_line words_of digits above decimal integer_bytes encode join fields decode reading cut program_of lines_of head_read lines_read line_read closed_off finished first_line body_lines jumps_in line_judged
    judged said read split first same read_values read_decimal read_integer read_word read_from counts_hold any_saved items span body constants padding constants_from prologue epilogue saves reloads saved repeated line_code Orders.code access_code point_code jumps targets labels li_code sub_stack_code add_stack_code
    allocate_stack_code label_place Code.bytes flat_map resolved place to_bits of_int round
examples = (
  (refl, refl),
  (refl, refl),
  (refl, refl),
  (refl, refl),
  (refl, refl),
  (refl, refl),
  (refl, refl),
  (refl, refl),
  (refl, refl),
  (refl, refl),
  (refl, refl),
)

-- two files that differ only in digits: what `Unseen` asks for can be met
pub alike : Alike (lines_of (deck ++ bytes "bits,0000000000000001\nfloat,3\n")) (lines_of (deck ++ bytes "bits,00000000deadbeef\nfloat,3\n"))
unfolding lines_of text commas word_bytes digits
alike = same_line deck (other_digits 1 0xdeadbeef (omega arith) (omega arith) (same_line (bytes "float,3\n") end))

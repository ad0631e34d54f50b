-- Closed files, byte by byte: what they read to is computed.
use mathlib.Core.Path.{◌≡◌, refl}
use mathlib.Core.Bool.{true}
use mathlib.Core.List.{List, [], ◌∷◌, ◌++◌, flat_map}
use Prim.Native.Nat.{ℕ}
use Prim.Native.String.{String}
use lib.Ieee.{to_bits, of_int, binary64}
use lib.IntN.{pos}
use lib.ListN.{take, drop, replicate}
use Rattle.isa.specs.Encode.{encode, join, fields}
use Rattle.refusal.specs.Answer.{accepted}
use Rattle.ast.specs.declared.Frame.{Frame}
use Rattle.ast.specs.declared.Frame.TheVariants.{Fast, Indirect}
use Rattle.ast.specs.declared.Place.TheVariants.{Mem}
use Rattle.ast.specs.declared.Binary.TheVariants.{Gt, Minus}
use Rattle.ast.specs.declared.Order.TheVariants.{Binary, LoadConst, Load, Save, BranchIf, SetLabel}
use Rattle.ast.specs.declared.Constant.TheVariants.{Float}
use Rattle.text.specs.Ascii.{bytes as text}
use Rattle.text.specs.Readers.{read_decimal, read_integer, read_word, read_from, split, same}
use Rattle.text.specs.Lines.{lines_of}
use Rattle.form.specs.Inner.Read.{first, read_values, read}
use Rattle.form.specs.Grammar.{said}
use Rattle.deck.specs.Judge.{judged, line_judged}
use Rattle.ast.specs.Mask.{saves as any_saved, saved}
use Rattle.ast.specs.Counts.{counts_hold}
use Rattle.assembler.specs.Bytes.{bytes}
use Rattle.assembler.specs.Put.{jumps, targets, labels}
use Rattle.assembler.specs.Resolved.{label_place, resolved, jumps_in}
use Rattle.accesses.specs.Code.{li_code, sub_stack_code, add_stack_code, allocate_stack_code, access_code, point_code}
use Rattle.reading.specs.Line.{order, constant}
use Rattle.orders.specs.Code.{code, line_code, unary_code, binary_code}
use Rattle.frame_code.specs.Items.{repeated, prologue, saves, reloads, epilogue}
use Rattle.reading.specs.Program.{Program, constants}
use Rattle.call.specs.Layout.{span, body, padding, constants_from, items, place}
use Rattle.call.proofs.Calls.{sample, product}
use Rattle.reading.proofs.Decks.{larger, scaled, chosen}
use Rattle.routine.specs.Routine.{line_read, lines_read, head_read, closed_off, body_lines, first_line, finished, program_of, Summary, summary_of, summary_answer, buffer_after, Promise}

-- ---- document 01's sample

abbrev pub sample_text : List ℕ
sample_text = text "fast,0,1,0,0,0\n"

-- the words that document 01 prints
abbrev pub sample_words : List ℕ
sample_words =
    0xfe010113 ∷ 0x00113023 ∷ 0x00813423 ∷ 0x00913823 ∷ 0x01513c23 ∷ 0x00010433 ∷ 0xff010113 ∷ 0x000104b3 ∷ 0xff010113 ∷ 0x00010ab3 ∷ 0x00a4b027 ∷ 0x00000513 ∷ 0x0004b507 ∷ 0x00040133 ∷ 0x00013083 ∷ 0x00813403 ∷ 0x01013483 ∷ 0x01813a83 ∷ 0x02010113 ∷ 0x00a54533 ∷ 0x00008067 ∷ []

abbrev pub sample_told : Summary
sample_told = record { length = 84; offset = 84; constants = 0; jumps = 0; frame = Fast }

-- what is left in 100 bytes of 255
abbrev pub sample_after : List ℕ
sample_after = bytes sample_words ++ replicate 16 0

-- ---- the programs of `call`

-- an indirect frame
abbrev pub product_text : List ℕ
product_text = text "indirect,0,1,1,1,0\nget,0,param,0\nget,1,mem,0\ntimes,2,0,1\nput,2,mem,1\n"

-- a label and a branch
abbrev pub larger_text : List ℕ
larger_text = text "fast,0,2,0,0,0\nget,0,mem,0\nget,1,mem,1\ngt,2,0,1\nbranch,2,7,1\nput,1,mem,0\nlabel,7\n"

-- 16 hexadecimal digits
abbrev pub scaled_text : List ℕ
scaled_text = text "fast,0,1,0,0,0\nload_const,1,0\nget,0,mem,0\ntimes,2,0,1\nbits,3ff8000000000000\nput,2,mem,0\n"

-- the sample's words around them: `auipc` and `fld` to the constant at 104, `fld`, `fmul.d`, `fsd`; then the constant, its low word first
abbrev pub scaled_words : List ℕ
scaled_words =
    take 11 sample_words ++ ((0x00000297 ∷ 0x03c2b087 ∷ 0x0004b007 ∷ 0x12107153 ∷ 0x0024b027 ∷ []) ++ (drop 11 sample_words ++ (0x00000000 ∷ 0x3ff80000 ∷ [])))

abbrev pub scaled_told : Summary
scaled_told = record { length = 112; offset = 104; constants = 1; jumps = 2; frame = Fast }

abbrev pub scaled_after : List ℕ
scaled_after = bytes scaled_words ++ replicate 144 0

-- `ifelse` and `recip`
abbrev pub chosen_text : List ℕ
chosen_text = text "fast,1,2,0,0,0\nget,10,mem,0\nget,1,mem,1\ngt,2,1,10\nput,2,stack,0\nifelse,3,1,10,0\nput,3,mem,0\nrecip,2,10\n"

-- ---- a branch that goes back: the state less one until it isn't above f3

abbrev pub countdown_text : List ℕ
countdown_text = text "fast,0,1,0,0,0\nload_const,1,0\nget,0,mem,0\nlabel,1\nminus,0,0,1\ngt,2,0,3\nbranch,2,1,1\nput,0,mem,0\nfloat,1\n"

abbrev pub countdown : Program
countdown =
    record {
      head = record { frame = Fast; cap = 0; states = 1; obs = 0; last = 0; mask = 0 };
      lines =
          order (LoadConst 1 0)
          ∷ order (Load 0 Mem 0)
          ∷ order (SetLabel 1)
          ∷ order (Binary Minus 0 0 1)
          ∷ order (Binary Gt 2 0 3)
          ∷ order (BranchIf 2 1 true)
          ∷ order (Save 0 Mem 0)
          ∷ constant (Float (of_int binary64 (pos 1)))
          ∷ [];
    }

-- ---- a nop before constants, where the code ends at no multiple of 8

-- behind the sample's 84 bytes
abbrev pub padded_text : List ℕ
padded_text = text "fast,0,1,0,0,0\nfloat,1\n"

abbrev pub padded_words : List ℕ
padded_words = sample_words ++ (0x00000013 ∷ 0x00000000 ∷ 0x3ff00000 ∷ [])

-- `auipc` and `fld` to the constant, over the nop
abbrev pub loaded_text : List ℕ
loaded_text = text "fast,0,1,0,0,0\nload_const,0,0\nfloat,1\n"

abbrev pub loaded_words : List ℕ
loaded_words = take 11 sample_words ++ ((0x00000297 ∷ 0x0342b007 ∷ []) ++ (drop 11 sample_words ++ (0x00000013 ∷ 0x00000000 ∷ 0x3ff00000 ∷ [])))

-- what the routine tells of a file in 65,536 bytes
abbrev pub Told : (file : String) → (length offset constants jumps : ℕ) → Frame → Type 0
Told file l o k j f = summary_answer (program_of 65536 (text file)) ≡ accepted (record { length = l; offset = o; constants = k; jumps = j; frame = f })

-- ---- all of them

-- What each file reads to; and what the routine answers and leaves in bytes of 255.
pub record AllRead : Type 0 where
  pub sample_reads : program_of 100 sample_text ≡ accepted sample
  pub product_reads : program_of 204 product_text ≡ accepted product
  pub larger_reads : program_of 256 larger_text ≡ accepted larger
  pub scaled_reads : program_of 256 scaled_text ≡ accepted scaled
  pub chosen_reads : program_of 256 chosen_text ≡ accepted chosen
  pub countdown_reads : program_of 256 countdown_text ≡ accepted countdown
  pub sample_promise : Promise sample_text (replicate 100 255) (accepted sample_told) sample_after
  pub scaled_promise : Promise scaled_text (replicate 256 255) (accepted scaled_told) scaled_after
  pub larger_told : summary_of larger ≡ record { length = 128; offset = 128; constants = 0; jumps = 2; frame = Fast }
  -- one nop for two constants; none where the code ends at a multiple of 8
  pub padded_promise : Promise padded_text (replicate 96 255) (accepted (record { length = 96; offset = 88; constants = 1; jumps = 0; frame = Fast })) (bytes padded_words)
  pub loaded_promise : Promise loaded_text (replicate 104 255) (accepted (record { length = 104; offset = 96; constants = 1; jumps = 2; frame = Fast })) (bytes loaded_words)
  pub two_told : Told "fast,0,1,0,0,0\nfloat,1\nfloat,2\n" 104 88 2 0 Fast
  pub even_told : Told "fast,0,2,0,0,0\nfloat,1\n" 96 88 1 0 Fast
  pub even_loaded : Told "fast,0,1,0,0,0\nget,0,mem,0\nload_const,0,0\nfloat,1\n" 104 96 1 2 Fast
  pub saved_told : Told "fast,16,1,0,0,256\nfloat,1\n" 104 96 1 0 Fast
  pub block_told : Told "indirect,0,0,0,0,0\nbits,3ff0000000000000\n" 136 128 1 2 Indirect
  pub table_told : Told "indirect,0,1,0,0,0\nfloat,-3\n" 168 160 1 2 Indirect
  pub far_told : Told "indirect,16,2,1,1,0\nload_const,0,0\nfloat,-3\n" 232 224 1 4 Indirect
  pub countdown_told : summary_of countdown ≡ record { length = 144; offset = 136; constants = 1; jumps = 4; frame = Fast }

pub files : AllRead
unfolding encode join fields program_of lines_of head_read lines_read line_read closed_off finished first_line body_lines jumps_in line_judged judged said read split first same read_values read_decimal read_integer read_word read_from counts_hold any_saved items span body constants padding constants_from prologue epilogue
    saves reloads saved repeated line_code code unary_code binary_code access_code point_code jumps targets labels li_code sub_stack_code add_stack_code allocate_stack_code label_place buffer_after bytes flat_map resolved place to_bits of_int
files =
    record {
      sample_reads = refl;
      product_reads = refl;
      larger_reads = refl;
      scaled_reads = refl;
      chosen_reads = refl;
      countdown_reads = refl;
      sample_promise = (refl, refl);
      scaled_promise = (refl, refl);
      larger_told = refl;
      padded_promise = (refl, refl);
      loaded_promise = (refl, refl);
      two_told = refl;
      even_told = refl;
      even_loaded = refl;
      saved_told = refl;
      block_told = refl;
      table_told = refl;
      far_told = refl;
      countdown_told = refl;
    }

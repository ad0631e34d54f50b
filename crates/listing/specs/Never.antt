-- What a maintainer may rely on: the listing of a routine's code is never refused. Statements; proved in `proofs`.
use Rattle.std.specs.Prelude.{◌≡◌, List, ℕ, take}
use Rattle.refusal.specs.Answer.{accepted}
use Rattle.print.specs.Text.{words_of}
use Rattle.print.specs.Listing.{listing_lines}
use Rattle.assembler.specs.Bytes.{bytes}
use Rattle.reading.specs.Program.{Program}
use Rattle.call.specs.Layout.{constants_offset, routine_words}
use Rattle.routine.specs.Routine.{Summary, Promise, program_of}
use Rattle.listing.specs.Listing.{listed, deck_listing}

-- Of an accepted file, the code that the routine leaves has a line for each word: neither 2 nor 14.
abbrev pub NeverRefused : Type 0
NeverRefused =
    (file buf : List ℕ) (t : Summary) (after : List ℕ)
    → Promise file buf (accepted t) after
    → listed (take t.length after) t.offset ≡ accepted (listing_lines t.offset 0 (words_of (take t.length after)))

-- So the listing of an accepted file has a line for each word of its program, and is no refusal.
abbrev pub EveryWord : Type 0
EveryWord =
    (file : List ℕ) (p : Program)
    → program_of 65536 file ≡ accepted p
    → deck_listing file ≡ listing_lines (constants_offset p) 0 (words_of (bytes (routine_words p)))

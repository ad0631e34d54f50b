-- Small refused files, with the number and the line that document 01 ("Numbers of refusal", "The deck file") gives each: worked out
-- by hand.
use Rattle.std.specs.Prelude.{◌≡◌, ℕ}
use Prim.Native.String.{String}
use Rattle.refusal.specs.Answer.{refused}
use Rattle.text.specs.Ascii.{bytes}
use Rattle.routine.specs.Routine.{program_of}

-- with a buffer of `size` bytes the file is refused by this number at this line
abbrev pub Refused : (size : ℕ) → (file : String) → (number line : ℕ) → Type 0
Refused size file number line = program_of size (bytes file) ≡ refused number line

-- 12: not of the form
abbrev pub Malformed : Type 0
Malformed =
    Refused 65536 "" 12 1  -- an empty file
    × Refused 65536 "fast,0,1,0,0,0" 12 1  -- no byte 10
    × Refused 65536 "get,0,mem,0\n" 12 1  -- line 1 is a head
    × Refused 65536 "fast,0,1,0,0,0\nfast,0,1,0,0,0\n" 12 2  -- no other line is
    × Refused 65536 "fast,0,1,0,0,0\nlabel,1" 12 2
    × Refused 65536 "fast,0,1,0,0,0\n\n" 12 2
    × Refused 65536 "fast,0,1,0,0,0\nlabel,01\n" 12 2  -- a leading zero
    × Refused 65536 "fast,0,1,0,0,0\nfloat,-0\n" 12 2  -- minus zero
    × Refused 65536 "fast,0,1,0,0,0\nbits,3FF8000000000000\n" 12 2  -- lowercase only
    × Refused 65536 "fast,0,1,0,0,0\nplus,0,1,2\n" 12 2  -- no order
    × Refused 65536 "fast,0,1,0,0,0\nbranch,32,1024,2\n" 12 2  -- 12 comes first

-- 1 to 3: a field that is too big
abbrev pub Fields : Type 0
Fields =
    Refused 65536 "fast,0,1,0,0,0\nget,32,mem,0\n" 1 2
    × Refused 65536 "fast,0,1,0,0,0\nget,32,mem,4096\n" 1 2  -- 1 before 9
    × Refused 65536 "fast,0,1,0,0,0\nbranch,32,1024,0\n" 1 2  -- 1 before 3
    × Refused 65536 "fast,0,1,0,0,4294967296\n" 2 1
    × Refused 65536 "fast,0,9,0,0,4294967296\n" 2 1  -- 2 before 9
    × Refused 65536 "fast,0,1,0,0,0\nfloat,9007199254740993\n" 2 2
    × Refused 65536 "fast,0,1,0,0,0\nlabel,1024\n" 3 2

-- 9 and 11: counts, and registers that aren't saved
abbrev pub Counts : Type 0
Counts =
    Refused 65536 "fast,0,9,0,0,0\n" 9 1  -- at most 8 states
    × Refused 65536 "fast,0,1,0,1,0\n" 9 1  -- no such result cell
    × Refused 65536 "fast,0,0,0,0,0\n" 9 1
    × Refused 65536 "fast,15,1,0,0,256\n" 9 1  -- cap at least 16
    × Refused 65536 "indirect,4097,0,0,0,0\n" 9 1
    × Refused 65536 "indirect,0,4096,1,0,0\n" 9 1
    × Refused 65536 "fast,0,1,0,0,0\nget,0,mem,1\n" 9 2
    × Refused 65536 "fast,0,1,0,0,0\nget,0,param,0\n" 9 2
    × Refused 65536 "fast,0,1,0,0,0\nload_const,0,1008\n" 9 2
    × Refused 65536 "fast,0,1,0,0,0\nget,8,mem,1\n" 9 2  -- 9 before 11
    × Refused 65536 "fast,0,1,0,0,0\nget,8,mem,0\n" 11 2
    × Refused 65536 "fast,0,1,0,0,0\nsign,0,1,27\n" 11 2  -- the scratch register
    × Refused 65536 "fast,16,1,0,0,256\nput,0,stack,4\n" 11 2  -- the cell of f8

-- 4, 5 and 7: labels and room
abbrev pub Labels : Type 0
Labels =
    Refused 65536 "fast,0,1,0,0,0\nlabel,1\nlabel,1\n" 4 3
    × Refused 65536 "fast,0,1,0,0,0\nfloat,1\nbranch,0,5,0\nlabel,6\n" 5 3
    × Refused 65536 "fast,0,1,0,0,0\nload_const,0,1\nfloat,1\n" 5 2
    × Refused 43 "fast,0,1,0,0,0\n" 7 1  -- the prologue has 44 bytes
    × Refused 44 "fast,0,1,0,0,0\nlabel,1\nget,0,mem,0\nlabel,2\n" 7 3
    × Refused 83 "fast,0,1,0,0,0\n" 7 1  -- 84 bytes in all
    × Refused 83 "fast,0,1,0,0,0\nlabel,1\nlabel,2\n" 7 3  -- behind the body: the last line
    × Refused 95 "fast,0,1,0,0,0\nfloat,1\n" 7 2  -- 96, with the nop before the constant
    × Refused 90 "fast,0,1,0,0,0\nbranch,0,5,0\n" 7 2  -- before any 5
    × Refused 65536 "fast,0,1,0,0,0\nget,32,mem,0\nlabel,1024\n" 1 2  -- the first refused line decides

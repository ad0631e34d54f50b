-- What the list says of a deck file (document 02, point 2). Statements; proved in `proofs`.
use Rattle.std.specs.Prelude.{◌≡◌, Bool, false, not, ◌&&◌, List, ℕ, ◌<◌, eqb, length}
use Rattle.std.proofs.Math.Option.{Option, some, none}
use Rattle.base.specs.Tests.{any, member}
use Rattle.refusal.specs.Answer.{accepted}
use Rattle.ast.specs.Uses.{uses, sets}
use Rattle.ast.specs.declared.Operand.{Operand}
use Rattle.ast.specs.declared.Operand.TheVariants.{Nothing, Loaded, Stored, Constant, GoneTo, Set}
use Rattle.reading.specs.Line.{Line, order, constant}
use Rattle.reading.specs.Program.{Program}
use Rattle.routine.specs.Routine.{program_of}
use Rattle.routine.specs.Run.{run}
use Rattle.unused.specs.Unused.{listed}
use Rattle.stale.specs.Deck.{own_limit, unused_of}

-- The list of the memory and the record that an accepted file's routine leaves is that of its program.
abbrev pub FileSays : Type 0
FileSays =
    (file jumps buf : List ℕ) (p : Program)
    → length jumps ≡ 20480
    → program_of (length buf) file ≡ accepted p
    → listed (run file jumps buf).state.labels (run file jumps buf).state.asm ≡ accepted (unused_of p)

abbrev pub is_label : ℕ → Option ℕ → Bool
is_label l none = false
is_label l (some k) = eqb l k

-- the line sets label l
abbrev pub sets_label : ℕ → Line → Bool
sets_label l (order o) = is_label l (sets o)
sets_label l (constant c) = false

-- the line jumps to label l
abbrev pub is_target : ℕ → Operand → Bool
is_target l Nothing = false
is_target l (Loaded p i) = false
is_target l (Stored p i) = false
is_target l (Constant k) = false
is_target l (GoneTo k) = eqb l k
is_target l (Set k) = false

abbrev pub jumps_to : ℕ → Line → Bool
jumps_to l (order o) = is_target l (uses o).operand
jumps_to l (constant c) = false

-- Of a file's own labels the list has those that a line sets and that no line jumps to: constants and frames use none of them.
abbrev pub LinesSay : Type 0
LinesSay =
    (p : Program) (l : ℕ)
    → l < own_limit
    → member l (unused_of p) ≡ (any (sets_label l) p.lines && not (any (jumps_to l) p.lines))

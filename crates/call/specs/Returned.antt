-- What a call that comes back has done (document 01, "Demand 3"): the conclusion of the theorem.
use Rattle.std.specs.Prelude.{◌≡◌, List, ◌∷◌, ℕ, ◌+◌, ◌*◌, ◌^◌, ◌≤◌, ◌<◌, T}
use Rattle.isa.specs.Register.{ra, sp, gp, tp, a1, fa0}
use Rattle.ast.specs.Count.{cell_count}
use Rattle.ast.specs.Mask.{preserved}
use Rattle.ast.specs.declared.Place.{Place}
use Rattle.ast.specs.declared.Place.TheVariants.{Mem}
use Rattle.ast.specs.declared.Head.{Head}
use Rattle.ast.specs.declared.Frame.TheVariants.{Fast}
use Rattle.machine.specs.Word.{w64, load8}
use Rattle.machine.specs.Floats.{Floats}
use Rattle.machine.specs.State.{State, Sound}
use Rattle.machine.specs.Step.{Run}
use Rattle.frame_code.specs.Steps.{prologue_steps, epilogue_steps}
use Rattle.reading.specs.Program.{Program}
use Rattle.base.specs.Tests.{member}
use Rattle.reading.specs.Plain.{Reading}
use Rattle.reading.specs.Terms.{table_used, cell_address, as_called, table_cell, end_obs, Within, frame, code}

-- ra, sp, gp, tp and s0..s11, whose numbers are those of fs0..fs11
abbrev pub callers : List ℕ
callers = ra ∷ sp ∷ gp ∷ tp ∷ preserved

-- the words that the two frame ends run, by line 1 and a1
abbrev pub frame_steps : Head → (a1 : ℕ) → ℕ
frame_steps H a1 = prologue_steps H H.frame a1 + epilogue_steps H H.frame a1

-- x is one of the 8 bytes at a, modulo 2^64
abbrev pub ByteOf : (a x : ℕ) → Type 0
ByteOf a x = (k : ℕ) × (k < 8) × (x ≡ w64 (a + k))

-- a byte of an observation cell
abbrev pub Observation : Head → State → ℕ → Type 0
Observation H s x = T (table_used H s) × (i : ℕ) × (i < H.obs) × ByteOf (table_cell H s (H.states + i)) x

-- each cell that has the byte x holds at the reading's end r what it held at the call
abbrev pub Unchanged : Head → State → Reading → ℕ → Type 0
Unchanged H s r x =
    (q : Place) (i : ℕ)
    → i < cell_count H q
    → ByteOf (cell_address H s q i) x
    → r.cells q i ≡ as_called H s q i

-- The call from s, whose code has so many bytes, comes back: n orders were read, and the reading ended at r.
-- Its twin is the machine that has skipped the call: s with pc at ra. Each equation of `end` with s below says that the two share it.
pub record Returned (Q : Floats) (p : Program) (code_bytes : ℕ) (s : State) (n : ℕ) (r : Reading) : Type 0 where
  -- a run to the end, which is a machine's state
  pub count : ℕ
  pub end : State
  pub runs : Run Q s count end
  pub sound : Sound end
  pub few : count ≤ 11 * n + frame_steps p.head (s.x a1)
  -- before the end pc is within the code, so it comes to ra, which is outside, at the end and not before
  pub inside : (k : ℕ) (t : State) → k < count → Run Q s k t → Within (code code_bytes s) t.pc
  pub first : (k : ℕ) (t : State) → k < count → Run Q s k t → t.pc ≡ s.x ra → ⊥
  -- shared with the twin: pc, which is ra; sp, ra, gp, tp and every register that the psABI preserves; the rounding mode
  pub pc : end.pc ≡ s.x ra
  pub x : (y : ℕ) → T (member y callers) → end.x y ≡ s.x y
  pub f : (y : ℕ) → T (member y preserved) → end.f y ≡ s.f y
  pub rm : end.rm ≡ s.rm
  -- and every byte outside the frame, the observation cells, and the cells whose value the reading changed
  pub rest :
      (x : ℕ)
      → x < 2 ^ 64
      → (Within (frame p.head s) x → ⊥)
      → (Observation p.head s x → ⊥)
      → Unchanged p.head s r x
      → end.mem x ≡ s.mem x
  -- the plain reading's at its end: cells, fa0 in a fast frame, observation cells
  pub cells :
      (q : Place) (i : ℕ)
      → i < cell_count p.head q
      → load8 end.mem (cell_address p.head s q i) ≡ r.cells q i
  pub fa0 : p.head.frame ≡ Fast → end.f fa0 ≡ r.cells Mem p.head.last
  pub obs : (x : ℕ) → Observation p.head s x → end.mem x ≡ end_obs p.head s r x

-- What the frames' words do on the machine: the terms they rest on, and what holds behind them (document 01, "The machine and the terms of a call").
-- Proved in `Opened` and `Closing`.
use mathlib.Core.Path.{◌≡◌}
use mathlib.Core.Bool.{Bool, true, false, not, ◌||◌, cond}
use mathlib.Core.List.{List, ◌++◌, Memᴰ}
use Prim.Native.Nat.{ℕ, ◌+◌, ◌*◌, ◌%◌, ◌^◌, ◌≤◌, ◌<◌}
use lib.Dec.{T, eqb}
use lib.ListN.{length, get_or}
use Rattle.ast.specs.Count.{cells}
use Rattle.machine.specs.Word.{w64, dist, load8}
use Rattle.machine.specs.Floats.{Floats}
use Rattle.machine.specs.State.{State, Sound}
use Rattle.machine.specs.Step.{CodeAt, Among, RunIn}
use Rattle.machine.proofs.Stores.{Same, Off}
use Rattle.ast.specs.declared.Frame.{Frame}
use Rattle.ast.specs.declared.Frame.TheVariants.{Fast, Indirect}
use Rattle.ast.specs.declared.Head.{Head}
use Rattle.assembler.specs.Resolved.{resolved}
use Rattle.frame_code.specs.Steps.{prologue_steps, epilogue_steps}
use Rattle.reading.specs.Size.{uses_table, holds_mem, stack_size, below_saves, whole_size}
use Rattle.reading.specs.Terms.{table_cell, state_value, start_f, observed}
use Rattle.ast.specs.Mask.{saved, save_cell}
use Rattle.frame_code.specs.Items.{kept, prologue, saves, reloads, epilogue}
use Rattle.ast.specs.Counts.{prologue_holds, epilogue_holds}
use Rattle.frame_code.proofs.Land.{In}
use Rattle.frame_code.proofs.Walk.{Stands}

-- ---- the call: s is the state there

-- the frame's bytes
abbrev pub FrameAt : Head → State → (bottom : ℕ) → ℕ → Type 0
FrameAt H s bottom = In bottom (bottom + whole_size H (s.x 11))

-- the first cell of `mem`
abbrev pub mem_at : Head → State → (bottom : ℕ) → ℕ
mem_at H s bottom = cond (holds_mem H.frame (s.x 11)) (bottom + stack_size H) (s.x 10)

pub record PrologueTerms (H : Head) (at : ℕ → ℕ) (s : State) (bottom : ℕ) : Type 0 where
  pub counts : T (prologue_holds H)
  -- cap is at least 16 if the mask has a preserved register
  pub room_for_saves : (r : ℕ) → Memᴰ r (saved H.mask) → 16 ≤ H.cap
  pub sound : Sound s
  pub start : s.pc % 4 ≡ 0
  -- the frame lies below sp and doesn't go round; it may end at 2^64
  pub fits : bottom + whole_size H (s.x 11) ≤ 2 ^ 64
  pub sp : s.x 2 ≡ w64 (bottom + whole_size H (s.x 11))
  -- the words of prologue and saves stand at pc, with their labels where `at` has them
  pub code : CodeAt s.mem s.pc (resolved at 0 (prologue H ++ saves H.mask))
  pub labels : Stands at 0 (prologue H ++ saves H.mask)
  pub code_fits : s.pc + 4 * length (resolved at 0 (prologue H ++ saves H.mask)) ≤ 2 ^ 64
  pub code_apart : Off (FrameAt H s bottom) s.pc (4 * length (resolved at 0 (prologue H ++ saves H.mask)))
  -- the table, where it is used, and the state cells
  pub table_fits : T (uses_table H.frame (s.x 11)) → s.x 11 + 16 * cells H ≤ 2 ^ 64
  pub table_apart : T (uses_table H.frame (s.x 11)) → Off (FrameAt H s bottom) (s.x 11) (16 * cells H)
  pub states_apart : T (uses_table H.frame (s.x 11)) → (i : ℕ) → i < H.states → Off (FrameAt H s bottom) (table_cell H s i) 8
  -- the block, where `mem` isn't in the frame
  pub block_fits : T (not (holds_mem H.frame (s.x 11))) → s.x 10 + 8 * cells H ≤ 2 ^ 64
  pub block_apart : T (not (holds_mem H.frame (s.x 11))) → Off (FrameAt H s bottom) (s.x 10) (8 * cells H)
  -- accesses are at multiples of 8
  pub frame_aligned : bottom % 16 ≡ 0
  pub table_aligned : T (uses_table H.frame (s.x 11)) → s.x 11 % 8 ≡ 0
  pub states_aligned : T (uses_table H.frame (s.x 11)) → (i : ℕ) → i < H.states → table_cell H s i % 8 ≡ 0

-- ---- behind prologue and saves

abbrev pub indirect : Frame → Bool
indirect Fast = false
indirect Indirect = true

-- registers that a frame sets: sp, t0..t2, s0, s1, s2..s5
abbrev pub sets : Frame → ℕ → Bool
sets Fast r = eqb r 2 || (eqb r 5 || (eqb r 8 || (eqb r 9 || eqb r 21)))
sets Indirect r = eqb r 2 || (eqb r 5 || (eqb r 6 || (eqb r 7 || (eqb r 8 || (eqb r 9 || (eqb r 18 || (eqb r 19 || (eqb r 20 || eqb r 21))))))))

pub record PrologueDone (Q : Floats) (H : Head) (at : ℕ → ℕ) (s : State) (bottom : ℕ) (t : State) : Type 0 where
  pub runs : RunIn Q (Among s.pc (length (resolved at 0 (prologue H ++ saves H.mask)))) s (prologue_steps H H.frame (s.x 11)) t
  pub pc : t.pc ≡ w64 (s.pc + 4 * length (resolved at 0 (prologue H ++ saves H.mask)))
  pub sp : t.x 2 ≡ bottom
  pub s5 : t.x 21 ≡ bottom
  pub s0 : t.x 8 ≡ bottom + below_saves H (s.x 11)
  pub s1 : t.x 9 ≡ mem_at H s bottom
  -- in an indirect frame: the table's pointer behind those of the states, 8 × a2 where the table is used, a3
  pub s2 : T (indirect H.frame) → t.x 18 ≡ cond (eqb (s.x 11) 0) 0 (w64 (s.x 11 + 16 * H.states))
  pub s3 : T (indirect H.frame) → t.x 19 ≡ cond (eqb (s.x 11) 0) (s.x 12) (w64 (8 * s.x 12))
  pub s4 : T (indirect H.frame) → t.x 20 ≡ s.x 13
  pub others : (r : ℕ) → T (not (sets H.frame r)) → t.x r ≡ s.x r
  -- the whole-number registers in their places
  pub places : (i : ℕ) → i < length (kept H.frame) → load8 t.mem (bottom + below_saves H (s.x 11) + 8 * i) ≡ s.x (get_or (kept H.frame) i 0)
  -- the states, the preserved float registers, and all other cells as they were
  pub states : (i : ℕ) → i < H.states → load8 t.mem (w64 (mem_at H s bottom + 8 * i)) ≡ state_value H s H.frame i
  pub mem_cells : (i : ℕ) → H.states ≤ i → i < cells H → load8 t.mem (w64 (mem_at H s bottom + 8 * i)) ≡ load8 s.mem (w64 (mem_at H s bottom + 8 * i))
  pub stack_cells : (i : ℕ) → i < H.cap → ((r : ℕ) → Memᴰ r (saved H.mask) → save_cell r ≡ i → ⊥) → load8 t.mem (bottom + 8 * i) ≡ load8 s.mem (bottom + 8 * i)
  pub saved_cells : (r : ℕ) → Memᴰ r (saved H.mask) → load8 t.mem (bottom + 8 * save_cell r) ≡ s.f r
  pub f : t.f ≡ start_f H s H.states
  pub rm : t.rm ≡ s.rm
  pub mem : Same (FrameAt H s bottom) t.mem s.mem

-- ---- reloads and epilogue: u is the state there

-- the bytes of observation cells
abbrev pub ObservedAt : Head → State → ℕ → Type 0
ObservedAt H s x =
    T (uses_table H.frame (s.x 11)) × (i : ℕ) × (i < H.obs) × (dist (table_cell H s (H.states + i)) x < 8)

-- the words of reloads and epilogue
abbrev pub exit_words : Head → (at : ℕ → ℕ) → (here : ℕ) → List ℕ
exit_words H at here = resolved at here (reloads H.mask ++ epilogue H)

pub record EpilogueTerms (H : Head) (at : ℕ → ℕ) (s : State) (bottom a here : ℕ) (u : State) : Type 0 where
  pub counts : T (epilogue_holds H)
  pub sound : Sound u
  pub ra : s.x 1 % 4 ≡ 0
  pub fits : bottom + whole_size H (s.x 11) ≤ 2 ^ 64
  pub sp : s.x 2 ≡ w64 (bottom + whole_size H (s.x 11))
  -- the words stand at pc, `here` bytes behind a, with their labels where `at` has them
  pub pc : u.pc ≡ w64 (a + here)
  pub even : (a + here) % 4 ≡ 0
  pub code : CodeAt u.mem u.pc (exit_words H at here)
  pub short : 4 * length (exit_words H at here) ≤ 2 ^ 64
  pub labels : Stands at here (reloads H.mask ++ epilogue H)
  -- registers and their places as behind prologue and saves
  pub s0 : u.x 8 ≡ bottom + below_saves H (s.x 11)
  pub s1 : u.x 9 ≡ mem_at H s bottom
  pub s2 : T (indirect H.frame) → u.x 18 ≡ cond (eqb (s.x 11) 0) 0 (w64 (s.x 11 + 16 * H.states))
  pub s3 : T (indirect H.frame) → u.x 19 ≡ cond (eqb (s.x 11) 0) (s.x 12) (w64 (8 * s.x 12))
  pub s5 : u.x 21 ≡ bottom
  pub places : (i : ℕ) → i < length (kept H.frame) → load8 u.mem (bottom + below_saves H (s.x 11) + 8 * i) ≡ s.x (get_or (kept H.frame) i 0)
  pub room_for_saves : (r : ℕ) → Memᴰ r (saved H.mask) → 16 ≤ H.cap
  pub saved_cells : (r : ℕ) → Memᴰ r (saved H.mask) → load8 u.mem (bottom + 8 * save_cell r) ≡ s.f r
  -- the table's pointers as at the call
  pub table_fits : T (uses_table H.frame (s.x 11)) → s.x 11 + 16 * cells H ≤ 2 ^ 64
  pub pointers : T (uses_table H.frame (s.x 11)) → (i : ℕ) → i < H.obs → load8 u.mem (w64 (s.x 11 + 16 * (H.states + i))) ≡ load8 s.mem (w64 (s.x 11 + 16 * (H.states + i)))
  -- no observation cell touches the words, the frame or the table
  pub code_apart : Off (ObservedAt H s) u.pc (4 * length (exit_words H at here))
  pub frame_apart : Off (ObservedAt H s) bottom (whole_size H (s.x 11))
  pub table_apart : T (uses_table H.frame (s.x 11)) → Off (ObservedAt H s) (s.x 11) (16 * cells H)
  -- accesses are at multiples of 8
  pub frame_aligned : bottom % 16 ≡ 0
  pub table_aligned : T (uses_table H.frame (s.x 11)) → s.x 11 % 8 ≡ 0
  pub obs_aligned : T (uses_table H.frame (s.x 11)) → (i : ℕ) → i < H.obs → table_cell H s (H.states + i) % 8 ≡ 0

-- registers that the end sets: ra, sp, t0..t2, a0, and those that it restores
abbrev pub end_sets : Frame → ℕ → Bool
end_sets Fast r = eqb r 1 || (eqb r 2 || (eqb r 8 || (eqb r 9 || (eqb r 10 || eqb r 21))))
end_sets Indirect r = eqb r 1 || (eqb r 2 || (eqb r 5 || (eqb r 6 || (eqb r 7 || (eqb r 8 || (eqb r 9 || (eqb r 10 || (eqb r 18 || (eqb r 19 || (eqb r 20 || eqb r 21))))))))))

pub record EpilogueDone (Q : Floats) (H : Head) (at : ℕ → ℕ) (s : State) (bottom here : ℕ) (u v : State) : Type 0 where
  pub runs : RunIn Q (Among u.pc (length (exit_words H at here))) u (epilogue_steps H H.frame (s.x 11)) v
  pub pc : v.pc ≡ s.x 1
  pub sp : v.x 2 ≡ s.x 2
  pub a0 : v.x 10 ≡ 0
  -- ra, s0, s1, s5 and, in an indirect frame, s2, s3, s4
  pub restored : (i : ℕ) → i < length (kept H.frame) → v.x (get_or (kept H.frame) i 0) ≡ s.x (get_or (kept H.frame) i 0)
  pub others : (r : ℕ) → T (not (end_sets H.frame r)) → v.x r ≡ u.x r
  -- preserved float registers; fa0; all other float registers
  pub reloaded : (r : ℕ) → Memᴰ r (saved H.mask) → v.f r ≡ s.f r
  pub result : T (not (indirect H.frame)) → v.f 10 ≡ load8 u.mem (w64 (mem_at H s bottom + 8 * H.last))
  pub floats : (r : ℕ) → (r ≡ 10 → ⊥) → ((q : ℕ) → Memᴰ q (saved H.mask) → q ≡ r → ⊥) → v.f r ≡ u.f r
  pub rm : v.rm ≡ u.rm
  -- observation cells where the table is used, and nothing else
  pub mem : v.mem ≡ cond (uses_table H.frame (s.x 11)) (observed H s (λ j. load8 u.mem (w64 (mem_at H s bottom + 8 * j))) 0 H.obs u.mem) u.mem

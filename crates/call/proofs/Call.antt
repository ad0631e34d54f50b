-- A call of a program's words: prologue and saves, the body, reloads and epilogue, one behind another.
use mathlib.Core.Path.{◌≡◌, refl, ap, sym, subst, ◌∙◌}
use mathlib.Core.Logic.{◌⊎◌, inl, inr}
use mathlib.Core.Bool.{Bool, true, false, not, ◌||◌, cond}
use mathlib.Core.List.Memᴰ
use mathlib.Core.List.{List, [], ◌∷◌, Memᴰ}
use Prim.Native.Nat.{ℕ, zero, suc, ◌+◌, ◌-◌, ◌*◌, ◌/◌, ◌%◌, ◌^◌, ◌≤◌, ◌<◌}
use native.Mathlib.Decide.{dec_le, dec_lt}
use native.Mathlib.Omega.{arith}
use borrow.Author.Tests.{eqb-true}
use lib.Dec.{T, eqb, leb, lit<, ltb→lt, T_not}
use lib.ListN.{length, get_or}
use Rattle.ast.specs.Count.{cells, cell_count}
use Rattle.machine.specs.Word.{w64, upd, dist, load8}
use Rattle.machine.specs.Floats.{Floats}
use Rattle.machine.specs.State.{State, Sound}
use Rattle.machine.specs.Step.{CodeAt, Among, RunIn}
use Rattle.machine.proofs.Memory.{inside, dist_near, dist_back, load8_local, upd_other}
use Rattle.base.proofs.Bools.{and_r}
use Rattle.machine.proofs.Runs.{joined, wider, run_sound}
use Rattle.assembler.specs.Resolved.{resolved}
use Rattle.ast.specs.declared.Place.{Place}
use Rattle.ast.specs.declared.Place.TheVariants.{Mem, Stack, Param}
use Rattle.ast.specs.declared.Frame.{Frame}
use Rattle.ast.specs.declared.Frame.TheVariants.{Fast, Indirect}
use Rattle.ast.specs.declared.Head.{Head}
use Rattle.reading.specs.Size.{uses_table, holds_mem}
use Rattle.frame_code.specs.Items.{kept}
use Rattle.ast.specs.Mask.{preserved, chosen, in_mask, saved}
use Rattle.ast.specs.Counts.{prologue_holds, result_holds}
use Rattle.frame_code.specs.Steps.{prologue_steps, epilogue_steps}
use Rattle.frame_code.proofs.Ends.{mem_at, ObservedAt, sets, end_sets, PrologueDone, EpilogueDone}
use Rattle.frame_code.proofs.Closing.{leaves}
use Rattle.reading.specs.Program.{Program}
use Rattle.reading.specs.Plain.{Reading, Reads, Ended}
use Rattle.reading.specs.Terms.{table_used, bottom, base, cell_address, as_called, table_cell, start_f, start, observed, end_obs, Within, frame, Terms}
use Rattle.call.specs.Layout.{entry, exit, place, code_length, routine_words}
use Rattle.call.proofs.Offset.{line_offset}
use Rattle.call.proofs.Good.{Good}
use Rattle.base.specs.Tests.{member}
use Rattle.call.specs.Returned.{callers, ByteOf, Observation, Returned}
use Rattle.call.proofs.Claim.{Claim, ForwardClaim}
use Rattle.call.proofs.Items.{resolved_length}
use Rattle.call.proofs.Whole.{offset_exit, entry_fits, InCode, part_in}
use Rattle.call.proofs.Forth.{ends}
use Rattle.call.proofs.Words.{code_stands}
use Rattle.call.proofs.Cells.{Inside, at_cell}
use Rattle.call.proofs.Bytes.{same_bytes, observed_same, observed_miss}
use Rattle.call.proofs.Follow.{lasting, Rel, Comes, follows}
use Rattle.call.proofs.Saved.{Held, held}
use Rattle.call.proofs.Lies.{Lies}
use Rattle.call.proofs.Entered.{lying, opened, ready, start_rel, ground, mem_base_is}
use Rattle.call.proofs.Left.{far_bytes, leaving}

-- ---- lists of registers

module _ (P : ℕ → Type 0) where
  abbrev All : List ℕ → Type 0
  All [] = Unit {0}
  All (r ∷ rs) = P r × All rs

  all_of : (rs : List ℕ) → All rs → (y : ℕ) → T (member y rs) → P y
  all_of [] a y h = absurd h
  all_of (r ∷ rs) a y h = by (eqb y r) refl h (all_of rs a.1 y)
    where
      by : (b : Bool) → eqb y r ≡ b → T (b || member y rs) → (T (member y rs) → P y) → P y
      by true e k f = subst P (sym (eqb-true y r e)) a.0
      by false e k f = f k

chosen_in : (p : ℕ → Bool) (rs : List ℕ) (y : ℕ) → T (member y rs) → T (p y) → Memᴰ y (chosen p rs)
chosen_in p [] y h k = absurd h
chosen_in p (r ∷ rs) y h k = by (eqb y r) refl (p r) refl h (λ m. chosen_in p rs y m k)
  where
    by : (b : Bool) → eqb y r ≡ b → (d : Bool) → p r ≡ d → T (b || member y rs) → (T (member y rs) → Memᴰ y (chosen p rs)) → Memᴰ y (cond d (r ∷ chosen p rs) (chosen p rs))
    by true e true q m f = Memᴰ.head (eqb-true y r e)
    by true e false q m f = absurd (subst T (ap p (eqb-true y r e) ∙ q) k)
    by false e true q m f = Memᴰ.tail (f m)
    by false e false q m f = f m

chosen_holds : (p : ℕ → Bool) (rs : List ℕ) (y : ℕ) → Memᴰ y (chosen p rs) → T (p y)
chosen_holds p [] y m = absurd (Memᴰ.not-nil m)
chosen_holds p (r ∷ rs) y m = by (p r) refl m (chosen_holds p rs y)
  where
    first : (y ≡ r) ⊎ Memᴰ y (chosen p rs) → p r ≡ true → (Memᴰ y (chosen p rs) → T (p y)) → T (p y)
    first (inl e) q f = rw (e, q) tt
    first (inr m) q f = f m

    by : (d : Bool) → p r ≡ d → Memᴰ y (cond d (r ∷ chosen p rs) (chosen p rs)) → (Memᴰ y (chosen p rs) → T (p y)) → T (p y)
    by true q m f = first (Memᴰ.cases_cons m) q f
    by false q m f = f m

-- no preserved register is f10
not_ten : (y : ℕ) → T (member y preserved) → y ≡ 10 → ⊥
not_ten y h e = rw e at h

-- registers at the reading's start, but f10
start_kept : (H : Head) (s : State) (y n : ℕ) → (y ≡ 10 → ⊥) → start_f H s n y ≡ s.f y
start_kept H s y zero h = refl
start_kept H s y (suc n) h = by (table_used H s)
  where
    by : (b : Bool) → cond b (upd s.f 10 (load8 s.mem (table_cell H s n))) s.f y ≡ s.f y
    by true = upd_other s.f 10 _ y h
    by false = refl

used_holds : (F : Frame) (a1 : ℕ) → T (uses_table F a1) → T (holds_mem F a1)
used_holds Fast a1 h = absurd h
used_holds Indirect a1 h = h

module _ (Q : Floats) (p : Program) (g : Good p) (s : State) (o : Sound s) (c : CodeAt s.mem s.pc (routine_words p)) (t : Terms p.head (code_length p) s) (n : ℕ) (r : Reading) (q : Reads Q p (start p.head s) n r) (z : Ended p r) where
  abbrev H : Head
  H = p.head

  abbrev first : State
  first = ready Q p g s o c t

  abbrev r0 : PrologueDone Q H (place p) s (bottom H s) first
  r0 = (opened Q p g s o c t).1

  abbrev l : Lies H (code_length p) s
  l = lying Q p g s o c t

  -- the body
  ran : Comes Q p (base H s) s.pc first.x first.mem r first (11 * n)
  ran = follows Q p (base H s) s.pc first.x first.mem (ground Q p g s o c t) first (start_rel Q p g s o c t) q

  abbrev u : State
  u = ran.end

  abbrev h : Rel Q p (base H s) s.pc first.x first.mem r u
  h = ran.rel

  -- the end
  back : (v : State) × EpilogueDone Q H (place p) s (bottom H s) (line_offset p r.line) u v
  back = leaves Q H (place p) s (bottom H s) s.pc (line_offset p r.line) u (leaving Q p g s o c t r u h n q z)

  abbrev v : State
  v = back.0

  abbrev w : EpilogueDone Q H (place p) s (bottom H s) (line_offset p r.line) u v
  w = back.1

  kept_held : Held H.mask (start H s) r
  kept_held = held Q p g q

  -- ---- memory

  -- the cells of `mem` at the end
  abbrev value : ℕ → ℕ
  value j = load8 u.mem (w64 (mem_at H s (bottom H s) + 8 * j))

  mem_value : (j : ℕ) → j < cells H → value j ≡ r.cells Mem j
  mem_value j k = rw (mem_base_is Q p g s o c t) at (h.cells Mem j k)

  end_bytes : (x : ℕ) → (ObservedAt H s x → ⊥) → v.mem x ≡ u.mem x
  end_bytes x f = ap (λ (m : ℕ → ℕ). m x) w.mem ∙ by (table_used H s) (λ e j k d. f (e, j, k, d))
    where
      by : (b : Bool) → (T b → (j : ℕ) → j < H.obs → dist (table_cell H s (H.states + j)) x < 8 → ⊥) → cond b (observed H s value 0 H.obs u.mem) u.mem x ≡ u.mem x
      by true k = observed_miss H s value 0 H.obs u.mem x (λ j i. k tt j (omega arith))
      by false k = refl

  -- no cell has a byte of an observation cell
  off_observed : (q : Place) (x : ℕ) → x < 2 ^ 64 → Inside (base H s q) (cell_count H q) x → ObservedAt H s x → ⊥
  off_observed Mem x b i e = (l.obs_off e.0 e.1 e.2 x b e.3).1 (l.mem_in (used_holds H.frame (s.x 11) e.0) x i)
  off_observed Stack x b i e = (l.obs_off e.0 e.1 e.2 x b e.3).1 (l.stack_in x i)
  off_observed Param x b i e = (l.obs_off e.0 e.1 e.2 x b e.3).3 i

  -- its bytes are the call's until the end
  obs_before : (x : ℕ) → x < 2 ^ 64 → ObservedAt H s x → u.mem x ≡ s.mem x
  obs_before x b e =
      far_bytes Q p g s o c t r u h x b (λ q i. off_observed q x b i e) (l.obs_off e.0 e.1 e.2 x b e.3).1

  obs_after : (x : ℕ) → x < 2 ^ 64 → ObservedAt H s x → v.mem x ≡ end_obs H s r x
  obs_after x b e = ap (λ (m : ℕ → ℕ). m x) w.mem ∙ by (table_used H s) e.0
    where
      by : (b : Bool) → T b → cond b (observed H s value 0 H.obs u.mem) u.mem x ≡ cond b (observed H s (r.cells Mem) 0 H.obs r.obs) r.obs x
      by true k = observed_same H s value (r.cells Mem) 0 H.obs u.mem r.obs x (λ j i. mem_value (H.states + j) (omega arith)) (obs_before x b e ∙ ap (λ (m : ℕ → ℕ). m x) (sym kept_held.obs))
      by false k = absurd k

  -- the two ways to say that a byte is of an observation cell
  observed_by : (x : ℕ) → Observation H s x → (x < 2 ^ 64) × ObservedAt H s x
  observed_by x e =
      let k : ℕ = e.3.0 in
      let a : ℕ = table_cell H s (H.states + e.1) in
      let y : x ≡ w64 (a + k) = e.3.2 in
      (omega arith, (e.0, e.1, e.2, rw (y, dist_near a k (omega (arith, e.3.1))) e.3.1))

  observation_of : (x : ℕ) → x < 2 ^ 64 → ObservedAt H s x → Observation H s x
  observation_of x b e =
      let a : ℕ = table_cell H s (H.states + e.1) in
      (e.0, e.1, e.2, (dist a x, e.3, sym (dist_back a x b)))

  cell_after : (q : Place) (i : ℕ) → i < cell_count H q → load8 v.mem (cell_address H s q i) ≡ r.cells q i
  cell_after q i k =
      let e : w64 (base H s q + 8 * i) ≡ base H s q + 8 * i = at_cell l.rooms q i k in
      load8_local v.mem u.mem (w64 (base H s q + 8 * i))
      (λ x b d.
      let y = inside (base H s q + 8 * i) 8 x (omega (arith, l.rooms.fits q (omega arith))) b (rw e at d) in
      end_bytes x (off_observed q x b (omega (arith, y.0), omega (arith, y.1))))
      ∙ h.cells q i k

  -- a byte of a cell that holds what it held
  cell_byte : (q : Place) (x : ℕ) → Inside (base H s q) (cell_count H q) x → ((i : ℕ) → i < cell_count H q → ByteOf (cell_address H s q i) x → r.cells q i ≡ as_called H s q i) → u.mem x ≡ s.mem x
  cell_byte q x y f =
      let a : ℕ = base H s q in
      let i : ℕ = (x - a) / 8 in
      let j : ℕ = (x - a) % 8 in
      let k : i < cell_count H q = omega (arith, y.0, y.1) in
      let e : w64 (a + 8 * i) ≡ a + 8 * i = at_cell l.rooms q i k in
      let d : x ≡ w64 (w64 (a + 8 * i) + j) = rw e (omega (arith, y.0, l.rooms.fits q (omega arith))) in
      let b : j < 8 = omega arith in
      ap u.mem d ∙ same_bytes u.mem s.mem (w64 (a + 8 * i)) h.sound.mem o.mem (h.cells q i k ∙ f i k (j, b, d)) j b ∙ ap s.mem (sym d)

  byte_after : (x : ℕ) → x < 2 ^ 64 → (Within (frame H s) x → ⊥) → ((q : Place) (i : ℕ) → i < cell_count H q → ByteOf (cell_address H s q i) x → r.cells q i ≡ as_called H s q i) → u.mem x ≡ s.mem x
  byte_after x b f k = by (found Mem) (found Stack) (found Param)
    where
      found : (q : Place) → Dec (Inside (base H s q) (cell_count H q) x)
      found q = both (dec_le (base H s q) x) (dec_lt x (base H s q + 8 * cell_count H q))
        where
          both : Dec (base H s q ≤ x) → Dec (x < base H s q + 8 * cell_count H q) → Dec (Inside (base H s q) (cell_count H q) x)
          both (yes a) (yes b) = yes (a, b)
          both (yes a) (no b) = no (λ i. b i.1)
          both (no a) d = no (λ i. a i.0)

      by : Dec (Inside (base H s Mem) (cell_count H Mem) x) → Dec (Inside (base H s Stack) (cell_count H Stack) x) → Dec (Inside (base H s Param) (cell_count H Param) x) → u.mem x ≡ s.mem x
      by (yes i) d e = cell_byte Mem x i (k Mem)
      by (no i) (yes j) e = cell_byte Stack x j (k Stack)
      by (no i) (no j) (yes m) = cell_byte Param x m (k Param)
      by (no i) (no j) (no m) = far_bytes Q p g s o c t r u h x b none_of f
        where
          none_of : (q : Place) → Inside (base H s q) (cell_count H q) x → ⊥
          none_of Mem = i
          none_of Stack = j
          none_of Param = m

  -- the result cell of a fast frame is a cell
  result_cell : H.frame ≡ Fast → H.last < cells H
  result_cell e = ltb→lt H.last (cells H) (and_r (leb H.last 255) _ (rw e at (and_r (prologue_holds H) (result_holds H H.frame) g.counts)))

  -- ---- registers

  abbrev Same : ℕ → Type 0
  Same y = v.x y ≡ s.x y

  registers : (F : Frame) → ((i : ℕ) → i < length (kept F) → v.x (get_or (kept F) i 0) ≡ s.x (get_or (kept F) i 0)) → ((y : ℕ) → T (not (end_sets F y)) → v.x y ≡ u.x y) → ((y : ℕ) → T (not (sets F y)) → first.x y ≡ s.x y) → All Same callers
  registers Fast a b d = (a 0 (lit< tt), (w.sp, (on _ tt tt tt, (on _ tt tt tt, (a 1 (lit< tt), (a 2 (lit< tt), (on _ tt tt tt, (on _ tt tt tt, (on _ tt tt tt, (a 3 (lit< tt), (on _ tt tt tt, (on _ tt tt tt, (on _ tt tt tt, (on _ tt tt tt, (on _ tt tt tt, (on _ tt tt tt, tt))))))))))))))))
    where
      on : (y : ℕ) → T (not (end_sets Fast y)) → T (lasting y) → T (not (sets Fast y)) → Same y
      on y e f k = b y e ∙ h.regs y f ∙ d y k
  registers Indirect a b d = (a 0 (lit< tt), (w.sp, (on _ tt tt tt, (on _ tt tt tt, (a 1 (lit< tt), (a 2 (lit< tt), (a 3 (lit< tt), (a 4 (lit< tt), (a 5 (lit< tt), (a 6 (lit< tt), (on _ tt tt tt, (on _ tt tt tt, (on _ tt tt tt, (on _ tt tt tt, (on _ tt tt tt, (on _ tt tt tt, tt))))))))))))))))
    where
      on : (y : ℕ) → T (not (end_sets Indirect y)) → T (lasting y) → T (not (sets Indirect y)) → Same y
      on y e f k = b y e ∙ h.regs y f ∙ d y k

  float_kept : (y : ℕ) → T (member y preserved) → v.f y ≡ s.f y
  unfolding saved
  float_kept y k = by (in_mask H.mask y) refl
    where
      by : (b : Bool) → in_mask H.mask y ≡ b → v.f y ≡ s.f y
      by true e = w.reloaded y (chosen_in (in_mask H.mask) preserved y k (rw e tt))
      by false e =
          w.floats y (not_ten y k) (λ q m d. T_not (in_mask H.mask y) (rw e tt) (subst (λ (i : ℕ). T (in_mask H.mask i)) d (chosen_holds (in_mask H.mask) preserved q m)))
          ∙ ap (λ (f : ℕ → ℕ). f y) h.f
          ∙ kept_held.registers y (k, rw e tt)
          ∙ start_kept H s y H.states (not_ten y k)

  -- ---- the run

  all : RunIn Q (InCode p s.pc) s (prologue_steps H H.frame (s.x 11) + (ran.count + epilogue_steps H H.frame (s.x 11))) v
  all = joined Q (wider Q opening r0.runs) (joined Q ran.runs (wider Q closing w.runs))
    where
      opening : (x : ℕ) → Among s.pc (length (resolved (place p) 0 (entry p))) x → InCode p s.pc x
      opening x = part_in p s.pc 0 (length (resolved (place p) 0 (entry p))) s.pc x (omega (arith, o.pc)) (omega (arith, resolved_length (place p) 0 (entry p), entry_fits p)) l.code_top

      closing : (x : ℕ) → Among u.pc (length (resolved (place p) (line_offset p r.line) (exit p))) x → InCode p s.pc x
      closing x =
          part_in p s.pc (line_offset p r.line) (length (resolved (place p) (line_offset p r.line) (exit p))) u.pc x h.pc
          (omega (arith, resolved_length (place p) (line_offset p r.line) (exit p), offset_exit p r.line))
          l.code_top

  -- ---- THE CLAIM

  pub returned : Returned Q p (code_length p) s n r
  returned =
      record {
        count = prologue_steps H H.frame (s.x 11) + (ran.count + epilogue_steps H H.frame (s.x 11));
        end = v;
        runs = all.runs;
        sound = run_sound Q w.runs.runs h.sound;
        inside = all.inside;
        first = λ k u m q e. t.ra_outside (subst (InCode p s.pc) e (all.inside k u m q));
        few = omega (arith, ran.few);
        pc = w.pc;
        x = all_of Same callers (registers H.frame w.restored w.others r0.others);
        f = float_kept;
        rm = w.rm ∙ h.rm ∙ kept_held.rm;
        cells = cell_after;
        fa0 = λ e. w.result (rw e tt) ∙ mem_value H.last (result_cell e);
        obs = λ x e. let d = observed_by x e in obs_after x d.0 d.1;
        rest = λ x b f e k. end_bytes x (λ d. e (observation_of x b d)) ∙ byte_after x b f k;
      }

pub call : Claim
call Q p g s c n r q z =
    returned Q p g s c.sound (code_stands p g s.mem s.pc c.sound.pc c.code) c.terms n r q z

pub forward_call : ForwardClaim
forward_call Q p g f s c =
    let e = ends Q p g f (start p.head s) in
    (e.0, e.1, e.2, e.3, call Q p g s c e.0 e.1 e.2 e.3)

-- Going through items that stand in memory: straight pieces, labels and jumps.
use mathlib.Core.Path.{◌≡◌, refl, ap, sym, subst, ◌∙◌}
use mathlib.Core.List.{List, [], ◌∷◌, ◌++◌, map, map-append}
use mathlib.Core.Option.{some}
use Prim.Native.Nat.{ℕ, suc, ◌+◌, ◌*◌, ◌%◌, ◌^◌, ◌≤◌, ◌<◌}
use native.Mathlib.Nat.{add-zero}
use native.Mathlib.Omega.{arith}
use lib.IntN.{sub_ℕ}
use lib.ListN.{length, length-append, length-map}
use Rattle.isa.specs.Instr.{Instr}
use Rattle.isa.proofs.Validity.{Valid}
use Rattle.isa.specs.Encode.{encode}
use Rattle.machine.specs.Word.{w64}
use Rattle.machine.specs.Floats.{Floats}
use Rattle.machine.specs.State.{State}
use Rattle.machine.specs.Effect.{access, effect, exec}
use Rattle.machine.specs.Step.{step, CodeAt, words, Run, stop, go, RunIn}
use Rattle.machine.proofs.Exec.{OnEight, execs, Fit}
use Rattle.machine.proofs.Memory.{dist_ahead}
use Rattle.machine.proofs.Effects.{apply_rm}
use Rattle.machine.proofs.Runs.{step_at, step_made, no_step, one_more, joined, wider}
use Rattle.machine.proofs.Straight.{flow_pc}
use Rattle.machine.proofs.Stores.{Same, Off, Landing, landing_same, landing_flow, landing_run}
use Rattle.machine.proofs.Placed.{code_left, code_right, code_kept}
use Rattle.assembler.specs.Item.{Item, instr, raw, jump, label}
use Rattle.assembler.specs.Resolved.{resolved}
use Rattle.assembler.specs.Jump.{jump_instr}
use Rattle.assembler.specs.declared.JumpKind.{JumpKind}
pub use Rattle.assembler.proofs.Items.{resolved_instrs}
use Rattle.frame_code.specs.Items.{code}

-- ---- items and their words

-- each label is where the items set it, the first of them being at `here`
abbrev pub Stands : (ℕ → ℕ) → ℕ → List Item → Type 0
Stands at here [] = Unit {0}
Stands at here (instr i ∷ is) = Stands at (here + 4) is
Stands at here (raw w ∷ is) = Stands at (here + 4) is
Stands at here (jump k l r ∷ is) = Stands at (here + 4) is
Stands at here (label l ∷ is) = (at l ≡ here) × Stands at here is

pub further : (here n : ℕ) → here + 4 + 4 * n ≡ here + 4 * suc n
further here n = omega arith

module _ (at : ℕ → ℕ) where
  pub resolved_code : (here : ℕ) (is : List Instr) (rest : List Item) → resolved at here (code is ++ rest) ≡ words is ++ resolved at (here + 4 * length is) rest
  unfolding resolved
  resolved_code here [] rest = rw (add-zero here)
  resolved_code here (i ∷ is) rest = rw (← (further here (length is))) (ap (λ (ws : List ℕ). encode i ∷ ws) (resolved_code (here + 4) is rest))

  pub stands_code : (here : ℕ) (is : List Instr) (rest : List Item) → Stands at here (code is ++ rest) → Stands at (here + 4 * length is) rest
  stands_code here [] rest h = rw (add-zero here) h
  stands_code here (i ∷ is) rest h = rw (← (further here (length is))) (stands_code (here + 4) is rest h)

  pub resolved_append : (here : ℕ) (is js : List Item) → resolved at here (is ++ js) ≡ resolved at here is ++ resolved at (here + 4 * length (resolved at here is)) js
  unfolding resolved
  resolved_append here [] js = rw (add-zero here)
  resolved_append here (instr i ∷ is) js = rw (← (further here (length (resolved at (here + 4) is)))) (ap (λ (ws : List ℕ). encode i ∷ ws) (resolved_append (here + 4) is js))
  resolved_append here (raw w ∷ is) js = rw (← (further here (length (resolved at (here + 4) is)))) (ap (λ (ws : List ℕ). w ∷ ws) (resolved_append (here + 4) is js))
  resolved_append here (jump k l r ∷ is) js =
      rw (← (further here (length (resolved at (here + 4) is))))
      (ap (λ (ws : List ℕ). encode (jump_instr k r (sub_ℕ (at l) here)) ∷ ws) (resolved_append (here + 4) is js))
  resolved_append here (label l ∷ is) js = resolved_append here is js

  pub stands_left : (here : ℕ) (is js : List Item) → Stands at here (is ++ js) → Stands at here is
  stands_left here [] js h = tt
  stands_left here (instr i ∷ is) js h = stands_left (here + 4) is js h
  stands_left here (raw w ∷ is) js h = stands_left (here + 4) is js h
  stands_left here (jump k l r ∷ is) js h = stands_left (here + 4) is js h
  stands_left here (label l ∷ is) js h = (h.0, stands_left here is js h.1)

  pub stands_right : (here : ℕ) (is js : List Item) → Stands at here (is ++ js) → Stands at (here + 4 * length (resolved at here is)) js
  unfolding resolved
  stands_right here [] js h = rw (add-zero here) h
  stands_right here (instr i ∷ is) js h = rw (← (further here (length (resolved at (here + 4) is)))) (stands_right (here + 4) is js h)
  stands_right here (raw w ∷ is) js h = rw (← (further here (length (resolved at (here + 4) is)))) (stands_right (here + 4) is js h)
  stands_right here (jump k l r ∷ is) js h = rw (← (further here (length (resolved at (here + 4) is)))) (stands_right (here + 4) is js h)
  stands_right here (label l ∷ is) js h = stands_right here is js h.1

pub code_append : (is js : List Instr) → code is ++ code js ≡ code (is ++ js)
code_append is js = sym (map-append instr is js)

-- Words that stand at b in the memory m, at addresses in C, and are never written: P x says that the byte at x may be.
pub record Words (C P : ℕ → Type 0) (m : ℕ → ℕ) (b : ℕ) (ws : List ℕ) : Type 0 where
  pub code : CodeAt m (w64 b) ws
  pub off : Off P (w64 b) (4 * length ws)
  pub short : 4 * length ws ≤ 2 ^ 64
  pub even : b % 4 ≡ 0
  pub inside : (k : ℕ) → k < length ws → C (w64 (b + 4 * k))

module _ {C P : ℕ → Type 0} {m : ℕ → ℕ} where
  pub words_left : (b : ℕ) (us vs : List ℕ) → Words C P m b (us ++ vs) → Words C P m b us
  words_left b us vs w =
      let n = length-append us vs in
      record {
        code = code_left m (w64 b) us vs w.code;
        off = λ x l d. w.off x l (omega (arith, n));
        short = omega (arith, n, w.short);
        even = w.even;
        inside = λ k l. w.inside k (omega (arith, n));
      }

  pub words_right : (b : ℕ) (us vs : List ℕ) → Words C P m b (us ++ vs) → Words C P m (b + 4 * length us) vs
  words_right b us vs w =
      let n = length-append us vs in
      let e : w64 (w64 b + 4 * length us) ≡ w64 (b + 4 * length us) = omega arith in
      record {
        code = rw e at (code_right m (w64 b) us vs (omega arith) w.code);
        off = λ x l d. w.off x l (omega (arith, n, w.short, rw e at (dist_ahead (w64 b) (4 * length us) x (rw e (omega (arith, n, w.short, d))))));
        short = omega (arith, n, w.short);
        even = omega (arith, w.even);
        inside = λ k l. subst (λ (x : ℕ). C (w64 x)) (omega arith) (w.inside (length us + k) (omega (arith, n)));
      }

-- Items that stand `here` bytes behind a.
pub record Stood (at : ℕ → ℕ) (C P : ℕ → Type 0) (m : ℕ → ℕ) (a here : ℕ) (items : List Item) : Type 0 where
  pub words : Words C P m (a + here) (resolved at here items)
  pub labels : Stands at here items

shift : (a here n : ℕ) → a + here + 4 * n ≡ a + (here + 4 * n)
shift a here n = omega arith

four : (a here : ℕ) → a + here + 4 * 1 ≡ a + (here + 4)
four a here = omega arith

module _ {at : ℕ → ℕ} {C P : ℕ → Type 0} {m : ℕ → ℕ} {a : ℕ} where
  pub stood_left : (here : ℕ) (is js : List Item) → Stood at C P m a here (is ++ js) → Stood at C P m a here is
  stood_left here is js s =
      record {
        words = words_left (a + here) (resolved at here is) (resolved at (here + 4 * length (resolved at here is)) js) (rw (resolved_append at here is js) at s.words);
        labels = stands_left at here is js s.labels;
      }

  pub stood_right : (here : ℕ) (is js : List Item) → Stood at C P m a here (is ++ js) → Stood at C P m a (here + 4 * length (resolved at here is)) js
  stood_right here is js s =
      record {
        words =
            rw (shift a here (length (resolved at here is)))
            at (words_right (a + here) (resolved at here is) (resolved at (here + 4 * length (resolved at here is)) js) (rw (resolved_append at here is js) at s.words));
        labels = stands_right at here is js s.labels;
      }

  -- straight code alone
  pub stood_code : (here : ℕ) (is : List Instr) → Stood at C P m a here (code is) → Words C P m (a + here) (map encode is)
  stood_code here is s = rw (resolved_instrs at here is) at s.words

  pub piece : (here : ℕ) (is : List Instr) (rest : List Item) → Stood at C P m a here (code is ++ rest) → Words C P m (a + here) (map encode is)
  piece here is rest s = words_left (a + here) (map encode is) (resolved at (here + 4 * length is) rest) (rw (resolved_code at here is rest) at s.words)

  pub behind : (here : ℕ) (is : List Instr) (rest : List Item) → Stood at C P m a here (code is ++ rest) → Stood at C P m a (here + 4 * length is) rest
  behind here is rest s =
      record {
        words =
            let w = words_right (a + here) (map encode is) (resolved at (here + 4 * length is) rest) (rw (resolved_code at here is rest) at s.words) in
            rw (length-map is encode, shift a here (length is)) at w;
        labels = stands_code at here is rest s.labels;
      }

  pub behind_label : (here l : ℕ) (rest : List Item) → Stood at C P m a here (label l ∷ rest) → Stood at C P m a here rest
  unfolding resolved
  behind_label here l rest s = record { words = s.words; labels = s.labels.1 }

  -- a jump's word, and what stands behind it
  pub jump_word : (here : ℕ) (k : JumpKind) (l r : ℕ) (rest : List Item) → Stood at C P m a here (jump k l r ∷ rest) → Words C P m (a + here) (encode (jump_instr k r (sub_ℕ (at l) here)) ∷ [])
  unfolding resolved
  jump_word here k l r rest s = words_left (a + here) (encode (jump_instr k r (sub_ℕ (at l) here)) ∷ []) (resolved at (here + 4) rest) s.words

  pub behind_jump : (here : ℕ) (k : JumpKind) (l r : ℕ) (rest : List Item) → Stood at C P m a here (jump k l r ∷ rest) → Stood at C P m a (here + 4) rest
  unfolding resolved
  behind_jump here k l r rest s =
      record {
        words = rw (four a here) at (words_right (a + here) (encode (jump_instr k r (sub_ℕ (at l) here)) ∷ []) (resolved at (here + 4) rest) s.words);
        labels = s.labels;
      }

-- ---- runs through them

-- no instruction changes the rounding mode
step_rm : (Q : Floats) (s t : State) → step Q s ≡ some t → t.rm ≡ s.rm
step_rm Q s t e = let m = step_made Q s t e in rw (← m.1) (apply_rm (effect Q m.0 s) s)

pub run_rm : {Q : Floats} {s t : State} {n : ℕ} → Run Q s n t → t.rm ≡ s.rm
run_rm stop = refl
run_rm {Q} (go {s = s} {t = t} e r) = run_rm r ∙ step_rm Q s t e

pub wrapped : (a k : ℕ) → w64 (w64 a + 4 * k) ≡ w64 (a + 4 * k)
wrapped a k = omega arith

-- k steps from s the machine is at b, memory differing where it may; before, pc is in C.
pub record Came (Q : Floats) (C P : ℕ → Type 0) (s : State) (b k : ℕ) (u : State) : Type 0 where
  pub runs : RunIn Q C s k u
  pub same : Same P u.mem s.mem
  pub pc : u.pc ≡ w64 b

module _ {Q : Floats} {C P : ℕ → Type 0} {s : State} where
  kept : (b k : ℕ) (ws : List ℕ) (u : State) → Words C P s.mem b ws → Came Q C P s b k u → CodeAt u.mem (w64 b) ws
  kept b k ws u w c = code_kept s.mem u.mem (w64 b) ws w.short (λ x l d. c.same x l (w.off x l d)) w.code

  pub came_at : {b k b' k' : ℕ} {u : State} → b ≡ b' → k ≡ k' → Came Q C P s b k u → Came Q C P s b' k' u
  came_at {u = u} p q c = rw (← p, ← q) c

  -- straight code
  pub onward : (is : List Instr) (b k : ℕ) (u : State) → Words C P s.mem b (map encode is) → Came Q C P s b k u → Fit Q is u → Landing P Q is u → Came Q C P s (b + 4 * length is) (k + length is) (execs Q is u)
  onward is b k u w c f l =
      let n : length (map encode is) ≡ length is = length-map is encode in
      let p = c.pc in
      record {
        runs =
            joined Q c.runs
            (wider Q (λ x v. subst C (sym (v.2 ∙ rw p (wrapped b v.0))) (w.inside v.0 (omega (arith, v.1, n))))
            (landing_run P Q is u f l (omega (arith, w.short)) (rw (p, ← n) w.off) (rw p (omega arith)) (omega (arith, w.even)) (rw p (kept b k (map encode is) u w c))));
        same = λ x h o. landing_same P Q is u l x h o ∙ c.same x h o;
        pc = flow_pc Q is u (landing_flow P Q is u l) (omega arith) ∙ rw p (omega arith);
      }

  -- one word that stores nothing, wherever it leads
  pub hop : (i : Instr) (b b' k : ℕ) (u : State) → Words C P s.mem b (encode i ∷ []) → Came Q C P s b k u → Valid i → OnEight (access i u) → (exec Q i u).mem ≡ u.mem → (exec Q i u).pc ≡ w64 b' → Came Q C P s b' (k + 1) (exec Q i u)
  hop i b b' k u w c v a e g =
      let p = c.pc in
      let q = kept b k (encode i ∷ []) u w c in
      record {
        runs = joined Q c.runs (one_more Q (subst C (omega (arith, p)) (w.inside 0 (omega arith))) (step_at Q i u v a (omega (arith, w.even)) (rw p q.0)) (no_step Q));
        same = rw e c.same;
        pc = g;
      }

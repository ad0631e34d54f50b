-- Rounds one behind another, in a row or by the loop that counts t2 down.
use mathlib.Core.Path.{◌≡◌, refl, ap, subst, ◌∙◌}
use mathlib.Core.Logic.{◌≢◌}
use mathlib.Core.Bool.{Bool, true, false, cond}
use mathlib.Core.List.{List, [], ◌∷◌, ◌++◌, map}
use Prim.Native.Nat.{ℕ, zero, suc, ◌+◌, ◌-◌, ◌*◌, ◌^◌, ◌≤◌, ◌<◌}
use native.Mathlib.Omega.{arith}
use borrow.Author.Tests.{lt-ltb, ne_eqb, eqb-true}
use lib.Dec.{eqb, leb}
use lib.IntN.{pos, negsuc, sub_ℕ}
use lib.ListN.{length, length-append}
use Rattle.isa.specs.Instr.{Instr, B, BNE}
use Rattle.isa.specs.Encode.{encode}
use Rattle.machine.specs.Word.{w64}
use Rattle.machine.specs.Floats.{Floats}
use Rattle.machine.specs.State.{State, setx}
use Rattle.machine.specs.Effect.{effect, apply, exec}
use Rattle.machine.proofs.Exec.{execs, Fit}
use Rattle.machine.proofs.Effects.{setx_same, setx_other}
use Rattle.machine.proofs.Stores.{Landing}
use Rattle.assembler.specs.Item.{Item, jump, label}
use Rattle.assembler.specs.Resolved.{resolved}
use Rattle.assembler.specs.declared.JumpKind.TheVariants.{Bne}
use Rattle.accesses.specs.Code.{li_code}
use Rattle.frame_code.specs.Items.{code, times_over, count_down, repeated}
use Rattle.frame_code.proofs.Walk.{Words, Stood, piece, behind, behind_label, jump_word, stood_code, Came, came_at, hop}
use Rattle.frame_code.proofs.Stack.{li}
use Rattle.frame_code.proofs.Count.{over_length, row_words, loop_words}
use Rattle.frame_code.specs.Steps.{repeated_steps}
use Rattle.frame_code.proofs.Seg.{Seg, seg_join, seg_none, seg_quiet, onward_seg}

-- ---- back over seven words

back_by : (here : ℕ) → sub_ℕ here (here + 28) ≡ negsuc 27
back_by here = rw (lt-ltb here (here + 28) (omega arith)) (ap negsuc (omega arith))

abbrev back : Instr
back = B BNE 7 0 (negsuc 27)

module _ (Q : Floats) (u : State) where
  back_keeps : ((exec Q back u).x ≡ u.x) × ((exec Q back u).f ≡ u.f) × ((exec Q back u).mem ≡ u.mem)
  unfolding effect apply setx
  back_keeps = (refl, refl, refl)

  leaves : (b : ℕ) → u.pc ≡ w64 b → u.x 7 ≡ 0 → (exec Q back u).pc ≡ w64 (b + 4)
  unfolding effect apply
  leaves b p e = rw (e, p) (omega arith)

  turns : (b k : ℕ) → u.pc ≡ w64 (b + 28) → u.x 7 ≡ suc k → (exec Q back u).pc ≡ w64 b
  unfolding effect apply
  turns b k p e = rw (e, p, ne_eqb (suc k) 0 (λ z. omega arith)) (omega arith)

  less_does : ((exec Q count_down u).f ≡ u.f) × ((exec Q count_down u).mem ≡ u.mem) × ((r : ℕ) → r ≢ 7 → (exec Q count_down u).x r ≡ u.x r) × ((k : ℕ) → u.x 7 ≡ suc k → suc k < 2 ^ 64 → (exec Q count_down u).x 7 ≡ k)
  unfolding effect apply
  less_does = (refl, refl, λ r h. setx_other u.x 7 _ r h, λ k e l. setx_same u.x 7 _ (λ z. omega arith) ∙ omega (arith, e))

-- ---- rounds that keep `Inv`: how many are done

module _ (Q : Floats) (P : ℕ → Type 0) (each : List Instr) (n : ℕ) (Inv : ℕ → State → Type 0) where
  -- one round more
  pub record Round (i : ℕ) (u : State) : Type 0 where
    pub fit : Fit Q each u
    pub lands : Landing P Q each u
    pub inv : Inv (suc i) (execs Q each u)
    pub t2 : (execs Q each u).x 7 ≡ u.x 7

  -- pc and t2 don't matter
  abbrev pub Free : Type 0
  Free = (i : ℕ) (u v : State) → ((r : ℕ) → r ≢ 7 → v.x r ≡ u.x r) → v.f ≡ u.f → v.mem ≡ u.mem → Inv i u → Inv i v

  module _ (C : ℕ → Type 0) (six : length each ≡ 6) (round : (i : ℕ) (u : State) → i < n → Inv i u → Round i u) (free : Free) where
    over : (k i : ℕ) (u : State) → i + k ≡ n → Inv i u → (v : State) × Seg Q P (times_over k each) u v × Inv n v
    over zero i u e h = let z : i ≡ n = omega arith in (u, seg_none, subst (λ (j : ℕ). Inv j u) z h)
    over (suc k) i u e h =
        let r = round i u (omega arith) h in
        let t = over k (suc i) (execs Q each u) (omega arith) r.inv in
        (t.0, seg_join {is = each} (record { fit = r.fit; lands = r.lands; end = refl }) t.1, t.2)

    -- the loop
    module _ (at : ℕ → ℕ) (s : State) (b : ℕ) (w : Words C P s.mem b (map encode (each ++ (count_down ∷ [])))) (j : Words C P s.mem (b + 28) (encode back ∷ [])) where
      module _ (k i c : ℕ) (u : State) (e : i + suc k ≡ n) (l : suc k < 2 ^ 64) (h : Inv i u) (x : u.x 7 ≡ suc k) (m : Came Q C P s b c u) where
        abbrev low : State
        low = exec Q count_down (execs Q each u)

        down : Came Q C P s (b + 28) (c + 7) low
        unfolding effect
        down =
            let r = round i u (omega arith) h in
            let g = length-append each (count_down ∷ []) in
            came_at (omega (arith, g, six)) (omega (arith, g, six))
            (onward_seg (each ++ (count_down ∷ [])) b c u w m (seg_join {is = each} (record { fit = r.fit; lands = r.lands; end = refl }) (record { fit = omega arith; lands = omega arith; end = refl })))

        low_x : low.x 7 ≡ k
        low_x = (less_does Q (execs Q each u)).3 k ((round i u (omega arith) h).t2 ∙ x) l

        abbrev new : State
        new = exec Q back low

        new_inv : Inv (suc i) new
        new_inv =
            let d = less_does Q (execs Q each u) in
            let g = back_keeps Q low in
            free (suc i) (execs Q each u) new (λ r o. ap (λ (x : ℕ → ℕ). x r) g.0 ∙ d.2 r o) (g.1 ∙ d.0) (g.2 ∙ d.1) (round i u (omega arith) h).inv

        new_x : new.x 7 ≡ k
        new_x = ap (λ (x : ℕ → ℕ). x 7) (back_keeps Q low).0 ∙ low_x

        -- to b'
        jumped : (b' : ℕ) → new.pc ≡ w64 b' → Came Q C P s b' (c + 7 + 1) new
        jumped b' p = hop back (b + 28) b' (c + 7) low j down (omega arith) tt (back_keeps Q low).2 p

      loop : (k i c : ℕ) (u : State) → i + suc k ≡ n → suc k < 2 ^ 64 → Inv i u → u.x 7 ≡ suc k → Came Q C P s b c u → (v : State) × Came Q C P s (b + 32) (c + 8 * suc k) v × Inv n v
      loop zero i c u e l h x m =
          let q = jumped zero i c u e l h x m (b + 28 + 4) (leaves Q (low zero i c u e l h x m) (b + 28) (down zero i c u e l h x m).pc (low_x zero i c u e l h x m)) in
          let z : suc i ≡ n = omega arith in
          (new zero i c u e l h x m, came_at (omega arith) (omega arith) q, subst (λ (j : ℕ). Inv j (new zero i c u e l h x m)) z (new_inv zero i c u e l h x m))
      loop (suc k) i c u e l h x m =
          let q = jumped (suc k) i c u e l h x m b (turns Q (low (suc k) i c u e l h x m) b k (down (suc k) i c u e l h x m).pc (low_x (suc k) i c u e l h x m)) in
          let t = loop k (suc i) (c + 7 + 1) (new (suc k) i c u e l h x m) (omega arith) (omega arith) (new_inv (suc k) i c u e l h x m) (new_x (suc k) i c u e l h x m) q in
          (t.0, came_at refl (omega arith) t.1, t.2)

    -- ---- all of it

    module _ (at : ℕ → ℕ) (a : ℕ) (s : State) (here c l : ℕ) (u v : State) (first : List Instr) (some : n ≢ 0) (few : n ≤ 4096) (m : Came Q C P s (a + here) c u) (g : Seg Q P first u v) (h : Inv 0 v) where
      in_row : Stood at C P s.mem a here (code (first ++ times_over n each)) → (w : State) × Came Q C P s (a + (here + 4 * length (resolved at here (code (first ++ times_over n each))))) (c + (length first + 6 * n)) w × Inv n w
      in_row st =
          let o = over n 0 v (omega arith) h in
          let k = row_words at here n l first each six in
          let d = over_length at here n l first each six n in (
            o.0,
            came_at (omega (arith, k, d, length-append first (times_over n each))) (omega (arith, d, length-append first (times_over n each)))
                (onward_seg (first ++ times_over n each) (a + here) c u (stood_code here (first ++ times_over n each) st) m (seg_join {is = first} g o.1)),
            o.2,
          )

      abbrev start : List Instr
      start = first ++ li_code 7 (pos n)

      abbrev inner : List Item
      inner = code (each ++ (count_down ∷ [])) ++ (jump Bne l 0 ∷ [])

      seven : length (each ++ (count_down ∷ [])) ≡ 7
      seven = omega (arith, length-append each (count_down ∷ []), six)

      back_word : (p there : ℕ) → p ≡ there → Words C P s.mem (a + (there + 4 * length (each ++ (count_down ∷ [])))) (encode (B BNE 7 0 (sub_ℕ p (there + 4 * length (each ++ (count_down ∷ []))))) ∷ []) → Words C P s.mem (a + there + 28) (encode back ∷ [])
      back_word p there e w =
          let z : a + there + 28 ≡ a + (there + 28) = omega arith in
          rw (z, ← (back_by there)) (rw (seven, e) at w)

      by_loop : Stood at C P s.mem a here (code start ++ (label l ∷ inner)) → (w : State) × Came Q C P s (a + (here + 4 * length (resolved at here (code start ++ (label l ∷ inner))))) (c + (length first + length (li_code 7 (pos n)) + 8 * n)) w × Inv n w
      by_loop st =
          let q = li Q 7 (pos n) v (omega arith) (λ z. omega arith) (omega arith) in
          let w2 = execs Q (li_code 7 (pos n)) v in
          let k = length-append first (li_code 7 (pos n)) in
          let m2 = onward_seg start (a + here) c u (piece here start (label l ∷ inner) st) m (seg_join {is = first} g (seg_quiet q.0)) in
          let i2 : Inv 0 w2 = free 0 v w2 (λ r o. q.0.x r (rw (ne_eqb r 7 o) tt)) q.0.f q.0.mem h in
          let st2 = behind here start (label l ∷ inner) st in
          let st3 = behind_label (here + 4 * length start) l inner st2 in
          let there = here + 4 * length start in
          let jw = jump_word (there + 4 * length (each ++ (count_down ∷ []))) Bne l 0 [] (behind there (each ++ (count_down ∷ [])) (jump Bne l 0 ∷ []) st3) in
          let t =
          loop at s (a + there) (piece there (each ++ (count_down ∷ [])) (jump Bne l 0 ∷ []) st3) (back_word (at l) there st2.labels.0 jw) (n - 1) 0 (c + length start) w2
          (omega arith) (omega arith) i2 (q.1 ∙ omega arith) (came_at (omega arith) refl m2)
          in
          (t.0, came_at {u = t.0} (omega (arith, loop_words at here n l first each six, k)) (omega (arith, k)) t.1, t.2)

      pub repeat : Stood at C P s.mem a here (repeated n first each l) → (w : State) × Came Q C P s (a + (here + 4 * length (resolved at here (repeated n first each l)))) (c + repeated_steps n (length first)) w × Inv n w
      unfolding repeated
      repeat st = by (eqb n 0) (leb n 16) refl st
        where
          by : (z t : Bool) → eqb n 0 ≡ z
              → Stood at C P s.mem a here (cond z [] (cond t (code (first ++ times_over n each)) (code start ++ (label l ∷ inner))))
              → (w : State) × Came Q C P s (a + (here + 4 * length (resolved at here (cond z [] (cond t (code (first ++ times_over n each)) (code start ++ (label l ∷ inner))))))) (c + cond z 0 (cond t (length first + 6 * n) (length first + length (li_code 7 (pos n)) + 8 * n))) w × Inv n w
          by true t e st = absurd (some (eqb-true n 0 e))
          by false true e st = in_row st
          by false false e st = by_loop st

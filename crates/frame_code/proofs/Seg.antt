-- Straight pieces one behind another: openings and changes of sp.
use mathlib.Core.Path.{◌≡◌, refl, ap, sym, subst, ◌∙◌}
use mathlib.Core.Logic.{◌≢◌, ◌⊎◌, inl, inr}
use mathlib.Core.Bool.{Bool, true, false, not, ◌&&◌, ◌||◌}
use mathlib.Core.List.Memᴰ
use mathlib.Core.List.{List, [], ◌∷◌, ◌++◌, map, Memᴰ}
use Prim.Native.Nat.{ℕ, zero, suc, ◌+◌, ◌-◌, ◌*◌, ◌%◌, ◌^◌, ◌≤◌, ◌<◌}
use native.Mathlib.Nat.{zero-add}
use native.Mathlib.Omega.{arith}
use borrow.Author.Tests.{eq-eqb}
use lib.Dec.{T, eqb, ltb, ltb→lt, eqb→eq}
use lib.IntN.{pos}
use lib.ListN.{length, get_or}
use Rattle.isa.specs.Instr.{Instr, S, SD}
use Rattle.isa.specs.Encode.{encode}
use Rattle.machine.specs.Word.{w64, load8}
use Rattle.machine.specs.Floats.{Floats}
use Rattle.machine.specs.State.{State, Sound}
use Rattle.machine.specs.Effect.{effect, apply, exec}
use Rattle.machine.proofs.Exec.{execs, Fit}
use Rattle.machine.proofs.Effects.{setx_same, setx_other}
use Rattle.base.proofs.Bools.{and_l, and_r}
use Rattle.machine.proofs.Straight.{execs_append, fit_join}
use Rattle.machine.proofs.Stores.{Same, Landing, landing_same}
use Rattle.accesses.specs.Code.{top, sub_stack_code, allocate_stack_code}
use Rattle.ast.specs.declared.Frame.{Frame}
use Rattle.ast.specs.declared.Frame.TheVariants.{Fast, Indirect}
use Rattle.reading.specs.Size.{save_size}
use Rattle.frame_code.specs.Items.{mv, kept, stores_from, opening}
use Rattle.frame_code.proofs.Land.{In, Nowhere, landing_wider, landing_join}
use Rattle.frame_code.proofs.Stack.{Quiet, stack_regs, sub_stack, lower}
use Rattle.frame_code.proofs.Walk.{Words, Came, onward}
use Rattle.frame_code.proofs.Row.{Good, Rowed, row}

-- The instructions lead from u to v, storing where they may.
pub record Seg (Q : Floats) (P : ℕ → Type 0) (is : List Instr) (u v : State) : Type 0 where
  pub fit : Fit Q is u
  pub lands : Landing P Q is u
  pub end : execs Q is u ≡ v

module _ {Q : Floats} {P : ℕ → Type 0} where
  pub seg_join : {is js : List Instr} {u v w : State} → Seg Q P is u v → Seg Q P js v w → Seg Q P (is ++ js) u w
  seg_join {is} {js} {u} p q =
      record {
        fit = fit_join Q is js u p.fit (rw p.end q.fit);
        lands = landing_join P Q is js u p.lands (rw p.end q.lands);
        end = rw (execs_append Q is js u, p.end) q.end;
      }

  pub seg_wider : {P' : ℕ → Type 0} {is : List Instr} {u v : State} → ((x : ℕ) → P x → P' x) → Seg Q P is u v → Seg Q P' is u v
  seg_wider {P'} {is} {u} h s = record { fit = s.fit; lands = landing_wider P P' h Q is u s.lands; end = s.end }

  pub seg_same : {is : List Instr} {u v : State} → Seg Q P is u v → Same P v.mem u.mem
  seg_same {is} {u} s = subst (λ (w : State). Same P w.mem u.mem) s.end (landing_same P Q is u s.lands)

  pub seg_none : {u : State} → Seg Q P [] u u
  seg_none = record { fit = tt; lands = tt; end = refl }

pub onward_seg : {Q : Floats} {C P : ℕ → Type 0} {s : State} (is : List Instr) (b k : ℕ) (u : State) {v : State} → Words C P s.mem b (map encode is) → Came Q C P s b k u → Seg Q P is u v → Came Q C P s (b + 4 * length is) (k + length is) v
onward_seg {Q} {C} {P} {s} is b k u w c g = subst (λ (v : State). Came Q C P s (b + 4 * length is) (k + length is) v) g.end (onward is b k u w c g.fit g.lands)

module _ {Q : Floats} {P : ℕ → Type 0} {W : ℕ → Bool} {is : List Instr} {u : State} where
  pub seg_quiet : Quiet Q W is u → Seg Q P is u (execs Q is u)
  seg_quiet q = record { fit = q.fit; lands = landing_wider Nowhere P (λ x n. absurd n) Q is u q.lands; end = refl }

-- ---- sp lowered by n to p, and d a copy of it

abbrev pub stack_and : ℕ → ℕ → Bool
stack_and d r = eqb r 2 || (eqb r 5 || eqb r d)

pub record Lowered (Q : Floats) (P : ℕ → Type 0) (is : List Instr) (d p : ℕ) (u v : State) : Type 0 where
  pub seg : Seg Q P is u v
  pub sp : v.x 2 ≡ p
  pub copy : v.x d ≡ p
  pub x : (r : ℕ) → T (not (stack_and d r)) → v.x r ≡ u.x r
  pub f : v.f ≡ u.f
  pub mem : v.mem ≡ u.mem

in_two : (d r : ℕ) → T (not (stack_and d r)) → T (not (stack_regs r)) × (r ≢ d)
in_two d r h = (by (eqb r 2) (eqb r 5) (eqb r d) h, λ e. other (eqb r 2) (eqb r 5) (eqb r d) (eq-eqb r d e) h)
  where
    by : (a b c : Bool) → T (not (a || (b || c))) → T (not (a || b))
    by true b c h = h
    by false true c h = h
    by false false c h = tt

    other : (a b c : Bool) → c ≡ true → T (not (a || (b || c))) → ⊥
    other true b c e h = h
    other false true c e h = h
    other false false c e h = rw e at h

module _ (Q : Floats) (P : ℕ → Type 0) (d p n : ℕ) (low : d < 32) (not_zero : d ≢ 0) (not-sp : d ≢ 2) (h : n < top) where
  -- a copy of sp in d
  copied : (is : List Instr) (u : State) → u.x 2 ≡ w64 (p + n) → p < 2 ^ 64 → Quiet Q stack_regs is u × ((execs Q is u).x 2 ≡ w64 (u.x 2 + (2 ^ 64 - n))) → Lowered Q P (is ++ (mv d 2 ∷ [])) d p u (exec Q (mv d 2) (execs Q is u))
  unfolding effect apply
  copied is u e l q =
      let g : (execs Q is u).x 2 ≡ p = q.1 ∙ omega (arith, e) in
      record {
        seg = seg_join (seg_quiet q.0) (record { fit = omega arith; lands = omega arith; end = refl });
        sp = setx_other (execs Q is u).x d _ 2 (λ z. not-sp (sym z)) ∙ g;
        copy = setx_same (execs Q is u).x d _ not_zero ∙ omega (arith, g);
        x = λ r k. let w = in_two d r k in setx_other (execs Q is u).x d _ r w.1 ∙ q.0.x r w.0;
        f = q.0.f;
        mem = q.0.mem;
      }

  pub down_to : (u : State) → u.x 2 ≡ w64 (p + n) → p < 2 ^ 64 → (v : State) × Lowered Q P (sub_stack_code n ++ (mv d 2 ∷ [])) d p u v
  down_to u e l = (exec Q (mv d 2) (execs Q (sub_stack_code n) u), copied (sub_stack_code n) u e l (sub_stack Q n h u))

module _ (Q : Floats) (P : ℕ → Type 0) (p n : ℕ) (h : n < top) where
  pub allocate_to : (u : State) → u.x 2 ≡ w64 (p + n) → p < 2 ^ 64 → (v : State) × Lowered Q P (allocate_stack_code n) 21 p u v
  unfolding allocate_stack_code
  allocate_to u e l = (_, copied Q P 21 p n (omega arith) (λ z. omega arith) (λ z. omega arith) h _ u e l (lower Q n h u))

-- ---- the opening

-- registers and the numbers of their places
abbrev pub numbered : ℕ → List ℕ → List (ℕ × ℕ)
numbered i [] = []
numbered i (r ∷ rs) = (r, i) ∷ numbered (suc i) rs

abbrev place_store : ℕ × ℕ → Instr
place_store j = S SD 2 j.0 (pos (8 * j.1))

stores_numbered : (i : ℕ) (rs : List ℕ) → map place_store (numbered i rs) ≡ stores_from i rs
stores_numbered i [] = refl
stores_numbered i (r ∷ rs) = ap (λ (is : List Instr). S SD 2 r (pos (8 * i)) ∷ is) (stores_numbered (suc i) rs)

among : (i k : ℕ) (rs : List ℕ) → k < length rs → Memᴰ (get_or rs k 0, i + k) (numbered i rs)
among i k [] h = absurd (omega arith)
among i zero (r ∷ rs) h = let e : i + 0 ≡ i = omega arith in rw e (Memᴰ.head refl)
among i (suc k) (r ∷ rs) h = let e : i + suc k ≡ suc i + k = omega arith in rw e (Memᴰ.tail (among (suc i) k rs (omega arith)))

module _ {J : Type 0} where
  -- a test passed by all
  abbrev pub all : (J → Bool) → List J → Bool
  all p [] = true
  all p (j ∷ js) = p j && all p js

  pub all_mem : (p : J → Bool) (js : List J) → T (all p js) → (j : J) → Memᴰ j js → T (p j)
  all_mem p [] h j m = absurd (Memᴰ.not-nil m)
  all_mem p (i ∷ js) h j m = by (Memᴰ.cases_cons m) (all_mem p js (and_r (p i) _ h) j)
    where
      by : (j ≡ i) ⊎ Memᴰ j js → (Memᴰ j js → T (p j)) → T (p j)
      by (inl e) f = rw e (and_l (p i) _ h)
      by (inr k) f = f k

is_false : (b : Bool) → T (not b) → b ≡ false
is_false true h = absurd h
is_false false h = refl

-- what the opening asks of a kept register and its place
abbrev sound_place : Frame → ℕ × ℕ → Bool
sound_place F j =
    ltb j.1 (length (kept F)) && (ltb j.0 32 && (not (eqb j.0 0) && (not (stack_regs j.0) && eqb j.0 (get_or (kept F) j.1 0))))

clear : (F : Frame) (j : ℕ × ℕ) → T (sound_place F j) → T (not (stack_regs j.0))
clear F j h =
    and_l (not (stack_regs j.0)) _
    (and_r (not (eqb j.0 0)) _ (and_r (ltb j.0 32) _ (and_r (ltb j.1 (length (kept F))) _ h)))

sound_places : (F : Frame) → T (all (sound_place F) (numbered 0 (kept F)))
sound_places Fast = tt
sound_places Indirect = tt

abbrev pub opening_regs : ℕ → Bool
opening_regs r = eqb r 2 || (eqb r 5 || eqb r 8)

pub record Begun (Q : Floats) (P : ℕ → Type 0) (F : Frame) (fp : ℕ) (s v : State) : Type 0 where
  pub seg : Seg Q P (opening F) s v
  pub sp : v.x 2 ≡ fp
  pub s0 : v.x 8 ≡ fp
  pub x : (r : ℕ) → T (not (opening_regs r)) → v.x r ≡ s.x r
  pub f : v.f ≡ s.f
  pub places : (i : ℕ) → i < length (kept F) → load8 v.mem (fp + 8 * i) ≡ s.x (get_or (kept F) i 0)

module _ (Q : Floats) (F : Frame) (fp : ℕ) (s : State) (o : Sound s) (below : fp < 2 ^ 64) (fits : fp + save_size F ≤ 2 ^ 64) (even : fp % 8 ≡ 0) (e : s.x 2 ≡ w64 (fp + save_size F)) where
  abbrev one : State
  one = execs Q (sub_stack_code (save_size F)) s

  sizes : (G : Frame) → (save_size G ≤ 64) × (8 * length (kept G) ≤ save_size G)
  sizes Fast = omega arith
  sizes Indirect = omega arith

  one_does : Quiet Q stack_regs (sub_stack_code (save_size F)) s × (one.x 2 ≡ w64 (s.x 2 + (2 ^ 64 - save_size F)))
  one_does = sub_stack Q (save_size F) (omega (arith, sizes F)) s

  at : one.x 2 ≡ fp
  at = one_does.1 ∙ omega (arith, e, below)

  abbrev want : ℕ → ℕ
  want c = one.x (get_or (kept F) c 0)

  abbrev Held : ℕ × ℕ → Type 0
  Held j = Good Q SD 2 (λ j. j.0) (λ j. j.1) fp (length (kept F)) one.x one.f want j

  good : (j : ℕ × ℕ) → Memᴰ j (numbered 0 (kept F)) → Held j
  good j m = by (all_mem (sound_place F) (numbered 0 (kept F)) (sound_places F) j m)
    where
      by : T (sound_place F j) → Held j
      by h =
          let h1 = and_r (ltb j.1 (length (kept F))) _ h in
          let h2 = and_r (ltb j.0 32) _ h1 in
          let h3 = and_r (not (eqb j.0 0)) _ h2 in
          let i : j.1 < length (kept F) = ltb→lt j.1 (length (kept F)) (and_l (ltb j.1 (length (kept F))) _ h) in
          let r : j.0 ≡ get_or (kept F) j.1 0 = eqb→eq j.0 (get_or (kept F) j.1 0) (and_r (not (stack_regs j.0)) _ h3) in
          record {
            register = ltb→lt j.0 32 (and_l (ltb j.0 32) _ h1);
            direct = omega (arith, sizes F);
            inside = i;
            holds = rw (is_false (eqb j.0 0) (and_l (not (eqb j.0 0)) _ h2)) (ap one.x r);
            small = subst (λ (k : ℕ). one.x k < 2 ^ 64) r (rw (one_does.0.x j.0 (clear F j h)) (o.x j.0));
          }

  rowed : Rowed Q SD 2 (λ j. j.0) (λ j. j.1) fp (length (kept F)) one.x one.f want (numbered 0 (kept F)) one
  rowed = row Q SD 2 (λ j. j.0) (λ j. j.1) fp (length (kept F)) one.x one.f want (omega arith) at (omega (arith, sizes F)) even (numbered 0 (kept F)) one refl refl good

  abbrev two : State
  two = execs Q (map place_store (numbered 0 (kept F))) one

  abbrev three : State
  three = exec Q (mv 8 2) two

  pub begun : (v : State) × Begun Q (In fp (fp + save_size F)) F fp s v
  unfolding effect apply
  begun = (
    three,
    record {
      seg = seg_join (seg_quiet one_does.0) (seg_join (subst (λ (is : List Instr). Seg Q (In fp (fp + save_size F)) is one two) (stores_numbered 0 (kept F)) whole) (record { fit = omega arith; lands = omega arith; end = refl }));
      sp = setx_other two.x 8 _ 2 (λ z. omega arith) ∙ two_sp;
      s0 = setx_same two.x 8 _ (λ z. omega arith) ∙ omega (arith, two_sp);
      x = λ r k. let w = in_two 8 r k in setx_other two.x 8 _ r w.1 ∙ ap (λ (x : ℕ → ℕ). x r) rowed.x ∙ one_does.0.x r w.0;
      f = rowed.f ∙ one_does.0.f;
      places = λ i h. rowed.sets (get_or (kept F) i 0, i) (mem i h) ∙ one_does.0.x (get_or (kept F) i 0) (clear F (get_or (kept F) i 0, i) (all_mem (sound_place F) (numbered 0 (kept F)) (sound_places F) (get_or (kept F) i 0, i) (mem i h)));
    },
  )
    where
      two_sp : two.x 2 ≡ fp
      two_sp = ap (λ (x : ℕ → ℕ). x 2) rowed.x ∙ at

      mem : (i : ℕ) → i < length (kept F) → Memᴰ (get_or (kept F) i 0, i) (numbered 0 (kept F))
      mem i h = rw (zero-add i) at (among 0 i (kept F) h)

      whole : Seg Q (In fp (fp + save_size F)) (map place_store (numbered 0 (kept F))) one two
      whole = seg_wider (λ x p. omega (arith, sizes F)) (record { fit = rowed.fit; lands = rowed.lands; end = refl })

-- Stores of registers into a row of cells.
use mathlib.Core.Path.{◌≡◌, refl, ap, sym, ◌∙◌}
use mathlib.Core.Logic.{◌⊎◌, inl, inr, ◌≢◌}
use mathlib.Core.Bool.{Bool, true, false, cond}
use mathlib.Core.List.Memᴰ
use mathlib.Core.List.{List, [], ◌∷◌, map, Memᴰ}
use Prim.Native.Nat.{ℕ, ◌+◌, ◌*◌, ◌%◌, ◌^◌, ◌≤◌, ◌<◌}
use native.Mathlib.Omega.{arith}
use borrow.Author.Tests.{eqb-true, eqb-false}
use lib.Dec.{eqb}
use lib.IntN.{ℤ, pos}
use Rattle.isa.specs.Instr.{Instr, S, SOp, SD, FSD}
use Rattle.machine.specs.Word.{load8}
use Rattle.machine.specs.Floats.{Floats}
use Rattle.machine.specs.State.{State}
use Rattle.machine.specs.Effect.{Effect, store, address, effect, apply, exec}
use Rattle.machine.proofs.Exec.{execs, Fit}
use Rattle.machine.proofs.Memory.{inside, load_store, load8_store, Apart}
use Rattle.machine.proofs.Stores.{Landing, lands_in}
use Rattle.frame_code.proofs.Land.{In}

-- two cells of a row
pub cells_apart : (base n c d : ℕ) → base + 8 * n ≤ 2 ^ 64 → c < n → d < n → c ≢ d → Apart (base + 8 * d) 8 (base + 8 * c) 8
cells_apart base n c d fits h l v x b p q =
    let y = inside (base + 8 * d) 8 x (omega arith) b p in
    let z = inside (base + 8 * c) 8 x (omega arith) b q in
    omega arith

-- what is stored
abbrev value : SOp → (x f : ℕ → ℕ) → ℕ → ℕ
value SD x f r = cond (eqb r 0) 0 (x r)
value FSD x f r = f r

stores : (Q : Floats) (k : SOp) (u : State) (b r : ℕ) (z : ℤ) → effect Q (S k b r z) u ≡ store (address u b z) (value k u.x u.f r)
unfolding effect
stores Q SD u b r z = refl
stores Q FSD u b r z = refl

-- Register b holds base; n cells from there, and cell c is to hold `want c`. Item j of a list stores register `reg j` to cell `cell j`.
module _ (Q : Floats) {J : Type 0} (k : SOp) (b : ℕ) (reg cell : J → ℕ) (base n : ℕ) (X F want : ℕ → ℕ) where
  abbrev instr : J → Instr
  instr j = S k b (reg j) (pos (8 * cell j))

  pub record Good (j : J) : Type 0 where
    pub register : reg j < 32
    pub direct : cell j < 256
    pub inside : cell j < n
    pub holds : value k X F (reg j) ≡ want (cell j)
    pub small : want (cell j) < 2 ^ 64

  pub record Rowed (js : List J) (u : State) : Type 0 where
    pub fit : Fit Q (map instr js) u
    pub lands : Landing (In base (base + 8 * n)) Q (map instr js) u
    pub x : (execs Q (map instr js) u).x ≡ X
    pub f : (execs Q (map instr js) u).f ≡ F
    -- a cell that holds its value still does
    pub keeps : (c : ℕ) → c < n → load8 u.mem (base + 8 * c) ≡ want c → load8 (execs Q (map instr js) u).mem (base + 8 * c) ≡ want c
    -- and so does a cell that none of them is for
    pub others : (c : ℕ) → c < n → ((j : J) → Memᴰ j js → cell j ≢ c) → load8 (execs Q (map instr js) u).mem (base + 8 * c) ≡ load8 u.mem (base + 8 * c)
    pub sets : (j : J) → Memᴰ j js → load8 (execs Q (map instr js) u).mem (base + 8 * cell j) ≡ want (cell j)

  module _ (low : b < 32) (here : cond (eqb b 0) 0 (X b) ≡ base) (fits : base + 8 * n ≤ 2 ^ 64) (even : base % 8 ≡ 0) where
    module _ (u : State) (j : J) (p : u.x ≡ X) (q : u.f ≡ F) (g : Good j) where
      one : effect Q (instr j) u ≡ store (base + 8 * cell j) (want (cell j))
      one = stores Q k u b (reg j) (pos (8 * cell j)) ∙ rw (p, q, here, at, g.holds)
        where
          at : (base + 8 * cell j % 2 ^ 64) % 2 ^ 64 ≡ base + 8 * cell j
          at = omega (arith, g.inside)

      at_eight : address u b (pos (8 * cell j)) % 8 ≡ 0
      at_eight = rw (p, here) (omega (arith, even))

      done : exec Q (instr j) u ≡ apply (store (base + 8 * cell j) (want (cell j))) u
      done = ap (λ (e : Effect). apply e u) one

      missed : (c : ℕ) → c < n → c ≢ cell j → load8 (exec Q (instr j) u).mem (base + 8 * c) ≡ load8 u.mem (base + 8 * c)
      unfolding apply
      missed c h o = rw done (load8_store u.mem (base + 8 * cell j) (want (cell j)) (base + 8 * c) (cells_apart base n c (cell j) fits h g.inside o))

      held : (c : ℕ) → c < n → load8 u.mem (base + 8 * c) ≡ want c → load8 (exec Q (instr j) u).mem (base + 8 * c) ≡ want c
      unfolding apply
      held c h e = by (eqb c (cell j)) refl
        where
          by : (t : Bool) → eqb c (cell j) ≡ t → load8 (exec Q (instr j) u).mem (base + 8 * c) ≡ want c
          by true f = rw (done, eqb-true c (cell j) f) (load_store u.mem (base + 8 * cell j) (want (cell j)) g.small)
          by false f = missed c h (eqb-false c (cell j) f) ∙ e

      moved : ((exec Q (instr j) u).x ≡ X) × ((exec Q (instr j) u).f ≡ F)
      unfolding apply
      moved = (rw done p, rw done q)

      hit : load8 (exec Q (instr j) u).mem (base + 8 * cell j) ≡ want (cell j)
      unfolding apply
      hit = rw done (load_store u.mem (base + 8 * cell j) (want (cell j)) g.small)

    pub row : (js : List J) (u : State) → u.x ≡ X → u.f ≡ F → ((j : J) → Memᴰ j js → Good j) → Rowed js u
    row [] u p q g =
        record { fit = tt; lands = tt; x = p; f = q; keeps = λ c h e. e; others = λ c h o. refl; sets = λ j m. absurd (Memᴰ.not-nil m) }
    row (j ∷ js) u p q g =
        let h = g j (Memᴰ.head refl) in
        let e = one u j p q h in
        let s = moved u j p q h in
        let t = row js (exec Q (instr j) u) s.0 s.1 (λ i m. g i (Memᴰ.tail m)) in
        record {
          fit = (omega (arith, h.register, h.direct), at_eight u j p q h, t.fit);
          lands = (rw e (lands_in base (base + 8 * n) (base + 8 * cell j) (omega arith) (omega (arith, h.inside)) fits), t.lands);
          x = t.x;
          f = t.f;
          keeps = λ c l o. t.keeps c l (held u j p q h c l o);
          others = λ c l o. t.others c l (λ i m. o i (Memᴰ.tail m)) ∙ missed u j p q h c l (λ z. o j (Memᴰ.head refl) (sym z));
          sets = λ i m. by i (Memᴰ.cases_cons m) h t;
        }
      where
        by : (i : J) → (i ≡ j) ⊎ Memᴰ i js → Good j → Rowed js (exec Q (instr j) u) → load8 (execs Q (map instr js) (exec Q (instr j) u)).mem (base + 8 * cell i) ≡ want (cell i)
        by i (inl e) h t = rw e (t.keeps (cell j) h.inside (hit u j p q h))
        by i (inr m) h t = t.sets i m

-- The states of a fast frame to `mem`, preserved float registers to `stack`.
use mathlib.Core.Path.{◌≡◌, refl, ap, sym, subst, ◌∙◌}
use mathlib.Core.Logic.{◌≢◌, ◌⊎◌, inl, inr}
use mathlib.Core.Bool.{Bool, true, false, ◌&&◌, cond}
use mathlib.Core.List.Memᴰ
use mathlib.Core.List.{List, [], ◌∷◌, map, Memᴰ}
use Prim.Native.Nat.{ℕ, zero, suc, ◌+◌, ◌*◌, ◌%◌, ◌^◌, ◌≤◌, ◌<◌}
use native.Mathlib.Nat.{zero-add}
use native.Mathlib.Omega.{arith}
use lib.Dec.{T, eqb, ltb, ltb→lt, eqb→eq}
use lib.IntN.{pos}
use Rattle.isa.specs.Instr.{Instr, S, FSD}
use Rattle.machine.specs.Word.{load8}
use Rattle.machine.specs.Floats.{Floats}
use Rattle.machine.specs.State.{State}
use Rattle.machine.proofs.Exec.{execs}
use Rattle.base.proofs.Bools.{and_l, and_r}
use Rattle.ast.specs.Mask.{preserved, chosen, in_mask, saved, save_cell}
use Rattle.frame_code.specs.Items.{states_from, save}
use Rattle.frame_code.proofs.Land.{In}
use Rattle.frame_code.proofs.Row.{Good, Rowed, row}
use Rattle.frame_code.proofs.Seg.{Seg, all, all_mem}

-- A row of stores from u: registers as they were, cell c of those in `js` holds `want c`.
pub record Stored (Q : Floats) (base n : ℕ) (is : List Instr) (u v : State) : Type 0 where
  pub seg : Seg Q (In base (base + 8 * n)) is u v
  pub x : v.x ≡ u.x
  pub f : v.f ≡ u.f

-- ---- states

abbrev pub from : ℕ → ℕ → List ℕ
from i zero = []
from i (suc k) = i ∷ from (suc i) k

abbrev state_store : ℕ → Instr
state_store c = S FSD 9 (10 + c) (pos (8 * c))

states_map : (i k : ℕ) → map state_store (from i k) ≡ states_from i k
states_map i zero = refl
states_map i (suc k) = ap (λ (is : List Instr). state_store i ∷ is) (states_map (suc i) k)

from_below : (i k c : ℕ) → Memᴰ c (from i k) → c < i + k
from_below i zero c m = absurd (Memᴰ.not-nil m)
from_below i (suc k) c m = by (Memᴰ.cases_cons m) (from_below (suc i) k c)
  where
    by : (c ≡ i) ⊎ Memᴰ c (from (suc i) k) → (Memᴰ c (from (suc i) k) → c < suc i + k) → c < i + suc k
    by (inl e) f = omega (arith, e)
    by (inr m) f = omega (arith, f m)

from_mem : (i k c : ℕ) → c < k → Memᴰ (i + c) (from i k)
from_mem i zero c h = absurd (omega arith)
from_mem i (suc k) zero h = let e : i + 0 ≡ i = omega arith in rw e (Memᴰ.head refl)
from_mem i (suc k) (suc c) h = let e : i + suc c ≡ suc i + c = omega arith in rw e (Memᴰ.tail (from_mem (suc i) k c (omega arith)))

module _ (Q : Floats) (base n k : ℕ) (u : State) (here : u.x 9 ≡ base) (fits : base + 8 * n ≤ 2 ^ 64) (even : base % 8 ≡ 0) (few : k ≤ 8) (most : k ≤ n) (small : (r : ℕ) → u.f r < 2 ^ 64) where
  pub states_stored : (v : State) × Stored Q base n (states_from 0 k) u v × ((i : ℕ) → i < k → load8 v.mem (base + 8 * i) ≡ u.f (10 + i))
  states_stored = (
    execs Q (map state_store (from 0 k)) u,
    record {
      seg = subst (λ (is : List Instr). Seg Q (In base (base + 8 * n)) is u (execs Q (map state_store (from 0 k)) u)) (states_map 0 k) (record { fit = r.fit; lands = r.lands; end = refl });
      x = r.x;
      f = r.f;
    },
    λ i h. r.sets i (rw (zero-add i) at (from_mem 0 k i h)),
  )
    where
      r : Rowed Q FSD 9 (λ c. 10 + c) (λ c. c) base n u.x u.f (λ c. u.f (10 + c)) (from 0 k) u
      r =
          row Q FSD 9 (λ c. 10 + c) (λ c. c) base n u.x u.f (λ c. u.f (10 + c)) (omega arith) here fits even (from 0 k) u refl refl
          (λ c m. let l = from_below 0 k c m in record { register = omega arith; direct = omega arith; inside = omega arith; holds = refl; small = small (10 + c) })

-- ---- preserved float registers

-- the register of a cell
abbrev pub of_cell : ℕ → ℕ
of_cell c = cond (ltb c 6) (c + 4) (c + 12)

abbrev pub proper : ℕ → Bool
proper r = ltb r 32 && (ltb (save_cell r) 16 && eqb r (of_cell (save_cell r)))

and_pair : (a b : Bool) → T a → T b → T (a && b)
and_pair true b h k = k
and_pair false b h k = h

all_chosen : (p q : ℕ → Bool) (rs : List ℕ) → T (all q rs) → T (all q (chosen p rs))
all_chosen p q [] h = tt
all_chosen p q (r ∷ rs) h = by (p r) (all_chosen p q rs (and_r (q r) _ h))
  where
    by : (a : Bool) → T (all q (chosen p rs)) → T (all q (cond a (r ∷ chosen p rs) (chosen p rs)))
    by true k = and_pair (q r) _ (and_l (q r) _ h) k
    by false k = k

pub saved_proper : (mask r : ℕ) → Memᴰ r (saved mask) → T (proper r)
unfolding saved
saved_proper mask r m = all_mem proper (saved mask) (all_chosen (in_mask mask) proper preserved tt) r m

pub proper_fits : (r : ℕ) → T (proper r) → (r < 32) × (save_cell r < 16)
proper_fits r h = (ltb→lt r 32 (and_l (ltb r 32) _ h), ltb→lt (save_cell r) 16 (and_l (ltb (save_cell r) 16) _ (and_r (ltb r 32) _ h)))

pub not_ten : (mask r : ℕ) → Memᴰ r (saved mask) → r ≢ 10
not_ten mask r m e = subst (λ (k : ℕ). T (proper k)) e (saved_proper mask r m)

module _ (Q : Floats) (bottom n mask : ℕ) (u : State) (here : u.x 21 ≡ bottom) (fits : bottom + 8 * n ≤ 2 ^ 64) (even : bottom % 8 ≡ 0) (room : (r : ℕ) → Memᴰ r (saved mask) → 16 ≤ n) (small : (r : ℕ) → u.f r < 2 ^ 64) where
  pub saves_stored : (v : State) × Stored Q bottom n (map save (saved mask)) u v × ((r : ℕ) → Memᴰ r (saved mask) → load8 v.mem (bottom + 8 * save_cell r) ≡ u.f r) × ((c : ℕ) → c < n → ((r : ℕ) → Memᴰ r (saved mask) → save_cell r ≢ c) → load8 v.mem (bottom + 8 * c) ≡ load8 u.mem (bottom + 8 * c))
  saves_stored = (
    execs Q (map save (saved mask)) u,
    record { seg = record { fit = t.fit; lands = t.lands; end = refl }; x = t.x; f = t.f },
    λ r m. t.sets r m ∙ ap u.f (sym (back r m)),
    t.others,
  )
    where
      back : (r : ℕ) → Memᴰ r (saved mask) → r ≡ of_cell (save_cell r)
      back r m = eqb→eq r (of_cell (save_cell r)) (and_r (ltb (save_cell r) 16) _ (and_r (ltb r 32) _ (saved_proper mask r m)))

      good : (r : ℕ) → Memᴰ r (saved mask) → Good Q FSD 21 (λ r. r) save_cell bottom n u.x u.f (λ c. u.f (of_cell c)) r
      good r m =
          let h = saved_proper mask r m in
          let c : save_cell r < 16 = ltb→lt (save_cell r) 16 (and_l (ltb (save_cell r) 16) _ (and_r (ltb r 32) _ h)) in
          record {
            register = ltb→lt r 32 (and_l (ltb r 32) _ h);
            direct = omega arith;
            inside = omega (arith, room r m);
            holds = ap u.f (back r m);
            small = small (of_cell (save_cell r));
          }

      t : Rowed Q FSD 21 (λ r. r) save_cell bottom n u.x u.f (λ c. u.f (of_cell c)) (saved mask) u
      t = row Q FSD 21 (λ r. r) save_cell bottom n u.x u.f (λ c. u.f (of_cell c)) (omega arith) here fits even (saved mask) u refl refl good

-- A cell's bytes follow from its value; observation cells written in turn.
use mathlib.Core.Path.{◌≡◌, refl, sym, ◌∙◌}
use mathlib.Core.Bool.{Bool, true, false}
use Prim.Native.Nat.{ℕ, zero, suc, ◌+◌, ◌*◌, ◌≤◌, ◌<◌}
use native.Mathlib.Nat.{add-zero}
use native.Mathlib.Omega.{arith}
use borrow.Author.Tests.{ltb-true, ltb-false}
use lib.Dec.{ltb}
use Rattle.machine.specs.Word.{w64, dist, byte, load8, store8}
use Rattle.machine.specs.State.{State}
use Rattle.machine.proofs.Memory.{store_miss}
use Rattle.ast.specs.declared.Head.{Head}
use Rattle.reading.specs.Terms.{table_cell, observed}

-- ---- bytes of a value

digit : (a b u v : ℕ) → a < 256 → b < 256 → a + u * 256 ≡ b + v * 256 → (a ≡ b) × (u ≡ v)
digit a b u v h l e = omega arith

-- the byte k of two cells of one value
module _ (m n : ℕ → ℕ) (a : ℕ) (hm : (x : ℕ) → m x < 256) (hn : (x : ℕ) → n x < 256) where
  abbrev from : (ℕ → ℕ) → ℕ → ℕ → ℕ
  from g zero k = byte g a k
  from g (suc j) k = byte g a k + from g j (suc k) * 256

  horner : (g : ℕ → ℕ) → load8 g a ≡ from g 7 0
  unfolding load8
  horner g = omega arith

  parts : (j k : ℕ) → from m (suc j) k ≡ from n (suc j) k → (byte m a k ≡ byte n a k) × (from m j (suc k) ≡ from n j (suc k))
  parts j k e = digit (byte m a k) (byte n a k) (from m j (suc k)) (from n j (suc k)) (hm (w64 (a + k))) (hn (w64 (a + k))) e

  down : (j k : ℕ) → from m j k ≡ from n j k → (i : ℕ) → i ≤ j → byte m a (k + i) ≡ byte n a (k + i)
  down zero k e zero h = rw (add-zero k) e
  down zero k e (suc i) h = absurd (omega arith)
  down (suc j) k e zero h = rw (add-zero k) (parts j k e).0
  down (suc j) k e (suc i) h =
      let z : k + suc i ≡ suc k + i = omega arith in
      rw z (down j (suc k) (parts j k e).1 i (omega arith))

  pub same_bytes : load8 m a ≡ load8 n a → (k : ℕ) → k < 8 → byte m a k ≡ byte n a k
  same_bytes e k h = let z : 0 + k ≡ k = omega arith in rw z at (down 7 0 (sym (horner m) ∙ e ∙ horner n) k (omega arith))

-- ---- observation cells

store_same : (m k : ℕ → ℕ) (a v x : ℕ) → m x ≡ k x → store8 m a v x ≡ store8 k a v x
unfolding store8
store_same m k a v x e = rw e

module _ (H : Head) (s : State) where
  -- where the two memories agree and the values are the same, they agree afterwards
  pub observed_same : (c d : ℕ → ℕ) (i n : ℕ) (m k : ℕ → ℕ) (x : ℕ) → ((j : ℕ) → j < i + n → c (H.states + j) ≡ d (H.states + j)) → m x ≡ k x → observed H s c i n m x ≡ observed H s d i n k x
  observed_same c d i zero m k x v e = e
  observed_same c d i (suc n) m k x v e =
      observed_same c d (suc i) n _ _ x (λ j h. v j (omega arith))
      (rw (v i (omega arith)) (store_same m k (table_cell H s (H.states + i)) (d (H.states + i)) x e))

  -- all other bytes stay
  pub observed_miss : (c : ℕ → ℕ) (i n : ℕ) (m : ℕ → ℕ) (x : ℕ) → ((j : ℕ) → j < i + n → dist (table_cell H s (H.states + j)) x < 8 → ⊥) → observed H s c i n m x ≡ m x
  observed_miss c i zero m x v = refl
  observed_miss c i (suc n) m x v =
      observed_miss c (suc i) n _ x (λ j h. v j (omega arith)) ∙ by (ltb (dist (table_cell H s (H.states + i)) x) 8) refl
    where
      by : (b : Bool) → ltb (dist (table_cell H s (H.states + i)) x) 8 ≡ b → store8 m (table_cell H s (H.states + i)) (c (H.states + i)) x ≡ m x
      by true e = absurd (v i (omega arith) (ltb-true _ _ e))
      by false e = store_miss m (table_cell H s (H.states + i)) (c (H.states + i)) x (ltb-false _ _ e)

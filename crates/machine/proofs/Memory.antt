-- Laws of 64-bit numbers, of functions changed at one place, and of loads and stores. Assumes nothing.
use mathlib.Core.Path.{◌≡◌, refl, fun_ext}
use mathlib.Core.Logic.{◌≢◌}
use mathlib.Core.Bool.{Bool, true, false, cond}
use Prim.Native.Nat.{ℕ, ◌+◌, ◌-◌, ◌*◌, ◌/◌, ◌%◌, ◌^◌, ◌≤◌, ◌<◌}
use native.Mathlib.Omega.{arith}
use borrow.Author.Tests.{lt-ltb, le-ltb, eq-eqb, ne_eqb, ltb-true, ltb-false}
use lib.Dec.{eqb, ltb, lit<}
use lib.IntN.{pos, negsuc}
use Rattle.isa.specs.Immediate.{twos, signed}
use Rattle.machine.specs.Word.{w64, sext, upd, dist, byte, load4, load8, store8}

-- ---- 64-bit numbers

pub wrap_l : (a b : ℕ) → w64 (w64 a + b) ≡ w64 (a + b)
wrap_l a b = omega arith

pub wrap_r : (a b : ℕ) → w64 (a + w64 b) ≡ w64 (a + b)
wrap_r a b = omega arith

-- sign extension from 32 bits is the signed number's two's complement in 64
pub sext_signed : (n : ℕ) → n < 2 ^ 32 → sext 32 n ≡ twos 64 (signed 32 n)
sext_signed n h = by (ltb n (2 ^ 31)) refl
  where
    by : (b : Bool) → ltb n (2 ^ 31) ≡ b → sext 32 n ≡ twos 64 (cond b (pos n) (negsuc (2 ^ 32 - 1 - n)))
    by true e = omega (arith, ltb-true n (2 ^ 31) e)
    by false e = omega (arith, ltb-false n (2 ^ 31) e)

-- ---- a function changed at one place

pub upd_same : (g : ℕ → ℕ) (k v : ℕ) → upd g k v k ≡ v
unfolding upd
upd_same g k v = rw (eq-eqb k k refl)

pub upd_other : (g : ℕ → ℕ) (k v j : ℕ) → j ≢ k → upd g k v j ≡ g j
unfolding upd
upd_other g k v j h = rw (ne_eqb j k h)

pub upd_twice : (g : ℕ → ℕ) (k u v : ℕ) → upd (upd g k u) k v ≡ upd g k v
unfolding upd
upd_twice g k u v = fun_ext (λ j. by (eqb j k) (g j))
  where
    by : (b : Bool) (w : ℕ) → cond b v (cond b u w) ≡ cond b v w
    by true w = refl
    by false w = refl

-- ---- distances

pub dist_near : (a k : ℕ) → k < 2 ^ 64 → dist a (w64 (a + k)) ≡ k
unfolding dist
dist_near a k h = omega arith

pub dist_back : (a x : ℕ) → x < 2 ^ 64 → w64 (a + dist a x) ≡ x
unfolding dist
dist_back a x h = omega arith

-- from k further on, k less
pub dist_ahead : (a k x : ℕ) → dist (w64 (a + k)) x + k < 2 ^ 64 → dist a x ≡ dist (w64 (a + k)) x + k
unfolding dist
dist_ahead a k x h = omega arith

-- the n bytes at a, where they don't go round
pub inside : (a n x : ℕ) → a + n ≤ 2 ^ 64 → x < 2 ^ 64 → dist a x < n → (a ≤ x) × (x < a + n)
unfolding dist
inside a n x h l d = (omega arith, omega arith)

-- the n bytes at a and the k bytes at b have none in common
abbrev pub Apart : (a n b k : ℕ) → Type 0
Apart a n b k = (x : ℕ) → x < 2 ^ 64 → dist a x < n → dist b x < k → ⊥

-- ---- stores

pub store_hit : (m : ℕ → ℕ) (a v x k : ℕ) → dist a x ≡ k → k < 8 → store8 m a v x ≡ v / 256 ^ k % 256
unfolding store8
store_hit m a v x k e h = rw (e, lt-ltb k 8 h)

pub store_miss : (m : ℕ → ℕ) (a v x : ℕ) → 8 ≤ dist a x → store8 m a v x ≡ m x
unfolding store8
store_miss m a v x h = rw (le-ltb (dist a x) 8 h)

-- ---- loads

four : (v : ℕ) → v % 256 + v / 256 % 256 * 256 + v / 65536 % 256 * 65536 + v / 16777216 % 256 * 16777216 + v / 4294967296 * 4294967296 ≡ v
four v =
    let a : v / 256 / 256 ≡ v / 65536 = omega arith in
    let b : v / 65536 / 256 ≡ v / 16777216 = omega arith in
    let c : v / 16777216 / 256 ≡ v / 4294967296 = omega arith in
    omega arith

-- the four bytes of a word
pub bytes4 : (w : ℕ) → w < 2 ^ 32 → w % 256 + w / 256 % 256 * 256 + w / 65536 % 256 * 65536 + w / 16777216 % 256 * 16777216 ≡ w
bytes4 w h =
    let z : w / 4294967296 ≡ 0 = omega arith in
    omega (arith, four w)

high : (v : ℕ) → v / 4294967296 < 4294967296 → v / 4294967296 % 256 + v / 1099511627776 % 256 * 256 + v / 281474976710656 % 256 * 65536 + v / 72057594037927936 % 256 * 16777216 ≡ v / 4294967296
high v h =
    let a : v / 4294967296 / 256 ≡ v / 1099511627776 = omega arith in
    let b : v / 4294967296 / 65536 ≡ v / 281474976710656 = omega arith in
    let c : v / 4294967296 / 16777216 ≡ v / 72057594037927936 = omega arith in
    rw (← a, ← b, ← c) (bytes4 (v / 4294967296) h)

bytes8 : (v : ℕ) → v < 2 ^ 64 → v % 256 + v / 256 % 256 * 256 + v / 65536 % 256 * 65536 + v / 16777216 % 256 * 16777216 + v / 4294967296 % 256 * 4294967296 + v / 1099511627776 % 256 * 1099511627776 + v / 281474976710656 % 256 * 281474976710656 + v / 72057594037927936 % 256 * 72057594037927936 ≡ v
bytes8 v h =
    let l = four v in
    let g = high v (omega arith) in
    omega arith

hit : (m : ℕ → ℕ) (a v k : ℕ) → k < 8 → store8 m a v (w64 (a + k)) ≡ v / 256 ^ k % 256
hit m a v k h = store_hit m a v (w64 (a + k)) k (dist_near a k (omega arith)) h

-- What was stored is loaded.
pub load_store : (m : ℕ → ℕ) (a v : ℕ) → v < 2 ^ 64 → load8 (store8 m a v) a ≡ v
unfolding load8
load_store m a v h =
    rw (hit m a v 0 (lit< tt), hit m a v 1 (lit< tt), hit m a v 2 (lit< tt), hit m a v 3 (lit< tt), hit m a v 4 (lit< tt), hit m a v 5 (lit< tt), hit m a v 6 (lit< tt), hit m a v 7 (lit< tt))
    (omega (arith, bytes8 v h))

-- the two memories have the same n bytes at a
abbrev pub Agree : (ℕ → ℕ) → (ℕ → ℕ) → ℕ → ℕ → Type 0
Agree m m' a n = (x : ℕ) → x < 2 ^ 64 → dist a x < n → m x ≡ m' x

-- A load reads its bytes and no others.
module _ (m m' : ℕ → ℕ) (a : ℕ) where
  at : (n : ℕ) → Agree m m' a n → (k : ℕ) → k < n → k < 8 → byte m a k ≡ byte m' a k
  at n h k l s = h (w64 (a + k)) (omega arith) (omega (arith, dist_near a k (omega arith)))

  pub load8_local : Agree m m' a 8 → load8 m a ≡ load8 m' a
  unfolding load8
  load8_local h = rw (q 0 (lit< tt), q 1 (lit< tt), q 2 (lit< tt), q 3 (lit< tt), q 4 (lit< tt), q 5 (lit< tt), q 6 (lit< tt), q 7 (lit< tt))
    where
      q : (k : ℕ) → k < 8 → byte m a k ≡ byte m' a k
      q k l = at 8 h k l l

  pub load4_local : Agree m m' a 4 → load4 m a ≡ load4 m' a
  unfolding load4
  load4_local h = rw (q 0 (lit< tt), q 1 (lit< tt), q 2 (lit< tt), q 3 (lit< tt))
    where
      q : (k : ℕ) → k < 4 → byte m a k ≡ byte m' a k
      q k l = at 4 h k l (omega arith)

-- a store leaves bytes apart from it
pub store_agrees : (m : ℕ → ℕ) (a v b n : ℕ) → Apart a 8 b n → Agree (store8 m a v) m b n
store_agrees m a v b n h x l d = by (ltb (dist a x) 8) refl
  where
    by : (t : Bool) → ltb (dist a x) 8 ≡ t → store8 m a v x ≡ m x
    by true e = absurd (h x l (ltb-true _ _ e) d)
    by false e = store_miss m a v x (ltb-false _ _ e)

pub load8_store : (m : ℕ → ℕ) (a v b : ℕ) → Apart a 8 b 8 → load8 (store8 m a v) b ≡ load8 m b
load8_store m a v b h = load8_local (store8 m a v) m b (store_agrees m a v b 8 h)

pub load4_store : (m : ℕ → ℕ) (a v b : ℕ) → Apart a 8 b 4 → load4 (store8 m a v) b ≡ load4 m b
load4_store m a v b h = load4_local (store8 m a v) m b (store_agrees m a v b 4 h)

-- an address counts modulo 2^64
pub load4_wrap : (m : ℕ → ℕ) (a : ℕ) → load4 m (w64 a) ≡ load4 m a
unfolding load4
load4_wrap m a = rw (wrap_l a 0, wrap_l a 1, wrap_l a 2, wrap_l a 3)

-- eight bytes are two words
pub load8_two : (m : ℕ → ℕ) (a : ℕ) → load8 m a ≡ load4 m a + load4 m (w64 (a + 4)) * 2 ^ 32
unfolding load8 load4
load8_two m a = rw (further 0, further 1, further 2, further 3) (omega arith)
  where
    further : (k : ℕ) → w64 (w64 (a + 4) + k) ≡ w64 (a + (4 + k))
    further k = omega arith

-- ---- bounds

pub load8_small : (m : ℕ → ℕ) (a : ℕ) → ((x : ℕ) → m x < 256) → load8 m a < 2 ^ 64
unfolding load8
load8_small m a h =
    omega (arith, h (w64 (a + 0)), h (w64 (a + 1)), h (w64 (a + 2)), h (w64 (a + 3)), h (w64 (a + 4)), h (w64 (a + 5)), h (w64 (a + 6)), h (w64 (a + 7)))

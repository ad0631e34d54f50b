-- Entries of label memory: a jump more, a place. Assumes nothing.
use mathlib.Core.Path.{◌≡◌, refl, ap}
use mathlib.Core.Bool.{Bool, true, false, cond}
use mathlib.Core.List.{List, [], ◌∷◌}
use Prim.Native.Nat.{ℕ, zero, suc, ◌+◌, ◌*◌, ◌%◌, ◌^◌, ◌≤◌, ◌<◌}
use native.Mathlib.Omega.{arith}
use borrow.Author.Tests.{eq-eqb, eqb-true, eqb-false, ne_eqb}
use lib.Dec.{eqb}
use lib.ListN.{length, get_or, set}
use Rattle.isa.specs.Encode.{encode}
use Rattle.assembler.specs.Item.{Item, instr, raw, jump, label}
use Rattle.assembler.specs.Jump.{kind_number}
use Rattle.assembler.specs.Label.{with_place, made, one_more}
use Rattle.assembler.specs.State.{State}
use Rattle.assembler.specs.Put.{words, targets, twice, times, with_word, with_jump, with_label, place, placed}

-- a jump more doesn't touch a place
low_kept : (m : List ℕ) (l k : ℕ) → get_or (set m l (one_more (get_or m l 0))) k 0 % 2 ^ 32 ≡ get_or m k 0 % 2 ^ 32
low_kept [] l k = refl
low_kept (x ∷ m) zero zero = omega arith
low_kept (x ∷ m) zero (suc k) = refl
low_kept (x ∷ m) (suc l) zero = refl
low_kept (x ∷ m) (suc l) (suc k) = low_kept m l k

pub twice_kept : (m : List ℕ) (l : ℕ) (ls : List ℕ) → twice (set m l (one_more (get_or m l 0))) ls ≡ twice m ls
unfolding twice
twice_kept m l [] = refl
twice_kept m l (k ∷ ls) = rw (low_kept m l k, twice_kept m l ls)

eqb_suc : (k l : ℕ) → eqb (suc k) (suc l) ≡ eqb k l
eqb_suc k l = by (eqb k l) refl
  where
    by : (t : Bool) → eqb k l ≡ t → eqb (suc k) (suc l) ≡ t
    by true q = eq-eqb (suc k) (suc l) (ap suc (eqb-true k l q))
    by false q = ne_eqb (suc k) (suc l) (λ e. eqb-false k l q (omega arith))

-- and adds one at most, at its label alone
pub made_jump : (m : List ℕ) (l k : ℕ) → made (get_or (set m l (one_more (get_or m l 0))) k 0) ≤ made (get_or m k 0) + cond (eqb k l) 1 0
made_jump [] l k = omega arith
made_jump (x ∷ m) zero zero = omega arith
made_jump (x ∷ m) zero (suc k) = omega arith
made_jump (x ∷ m) (suc l) zero = omega arith
made_jump (x ∷ m) (suc l) (suc k) = rw (eqb_suc k l) (made_jump m l k)

-- a place doesn't touch the numbers
pub made_label : (m : List ℕ) (l p k : ℕ) → p < 65537 → made (get_or (set m l (with_place (get_or m l 0) p)) k 0) ≤ made (get_or m k 0)
made_label [] l p k h = omega arith
made_label (x ∷ m) zero p zero h = omega arith
made_label (x ∷ m) zero p (suc k) h = omega arith
made_label (x ∷ m) (suc l) p zero h = omega arith
made_label (x ∷ m) (suc l) p (suc k) h = made_label m l p k h

-- No number rises by more than the jumps to its label.
pub placed_made : (tag : ℕ) (is : List Item) (s : State) → s.asm.len + 4 * length (words is) ≤ 65536 → (l : ℕ) → made (get_or (placed tag is s).labels l 0) ≤ made (get_or s.labels l 0) + times l (targets is)
unfolding words targets placed place with_word with_jump with_label
placed_made tag [] s h l = omega arith
placed_made tag (instr i ∷ is) s h l = placed_made tag is (with_word (encode i) s) (omega arith) l
placed_made tag (raw w ∷ is) s h l = placed_made tag is (with_word w s) (omega arith) l
placed_made tag (jump k t r ∷ is) s h l = omega (arith, placed_made tag is (with_jump (kind_number k) t r tag s) (omega arith) l, made_jump s.labels t l)
placed_made tag (label t ∷ is) s h l = omega (arith, placed_made tag is (with_label t s) h l, made_label s.labels t s.asm.len l (omega arith))

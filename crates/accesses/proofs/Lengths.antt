-- No access has more than twelve words. Assumes nothing.
use mathlib.Core.Bool.{Bool, true, false, cond}
use mathlib.Core.List.{List, [], ◌∷◌}
use Prim.Native.Nat.{ℕ, ◌≤◌}
use native.Mathlib.Omega.{arith}
use lib.Dec.{ltb, lit≤}
use lib.IntN.{ℤ, pos, neg_ℤ}
use lib.ListN.{length, length-append}
use lib.Signed.{mag}
use Rattle.isa.specs.Instr.{Instr, I, R, ADDI, ADD, SUB}
use Rattle.accesses.specs.Code.{li_code, sub_stack_code, add_stack_code, allocate_stack_code, near, near_pair}
use Rattle.accesses.specs.Inner.Plans.{one_code, pair_code}
use Rattle.accesses.specs.declared.Cell.{Cell}
use Rattle.accesses.proofs.Runs.{access_length}
use Rattle.accesses.proofs.Stack.{sized}

either : (t : Bool) (is js : List Instr) (k : ℕ) → length is ≤ k → length js ≤ k → length (cond t is js) ≤ k
either true is js k h l = h
either false is js k h l = l

pub li_length : (d : ℕ) (z : ℤ) → length (li_code d z) ≤ 2
unfolding li_code
li_length d z = either (ltb (mag z) near) _ _ 2 (lit≤ tt) (lit≤ tt)

size_length : (n : ℕ) (i : Instr) (z : ℤ) (j : Instr) → length (sized n i z j) ≤ 3
size_length n i z j =
    either (ltb n near) _ _ 3 (lit≤ tt) (omega (arith, length-append (li_code 5 z) (j ∷ []), li_length 5 z))

pub sub_stack_length : (n : ℕ) → length (sub_stack_code n) ≤ 3
unfolding sub_stack_code
sub_stack_length n = size_length n _ _ _

pub add_stack_length : (n : ℕ) → length (add_stack_code n) ≤ 3
unfolding add_stack_code
add_stack_length n = size_length n _ _ _

pub one_length : (k : Cell) (r b n : ℕ) → length (one_code k r b n) ≤ 4
one_length k r b n = access_length near _ b n 1 (lit≤ tt) (lit≤ tt)

pub pair_length : (k : Cell) (r b n : ℕ) → length (pair_code k r b n) ≤ 5
pair_length k r b n = access_length near_pair _ b n 2 (lit≤ tt) (lit≤ tt)

pub allocate_stack_length : (n : ℕ) → length (allocate_stack_code n) ≤ 4
unfolding allocate_stack_code
allocate_stack_length n =
    let is = sized n (I ADDI 2 2 (neg_ℤ (pos n))) (pos n) (R SUB 2 2 5) in
    omega (arith, length-append is (R ADD 21 2 0 ∷ []), size_length n (I ADDI 2 2 (neg_ℤ (pos n))) (pos n) (R SUB 2 2 5))

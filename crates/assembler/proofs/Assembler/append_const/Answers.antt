use borrow.Author.Rules.{rules}
use borrow.Author.Tests.{lt-leb}
use native.Mathlib.Omega.{arith}
use mathlib.Core.Path.{refl, ap, ◌∙◌}
use mathlib.Core.List.{[], ◌∷◌}
use lib.ListN.{length}
use Prim.Native.Nat.{◌+◌}
use Rattle.assembler.specs.State.{State, before}
use Rattle.assembler.specs.Constant.{constant_items, constant_fault}
use Rattle.assembler.specs.Put.{words, targets, labels, verdict, with_label}
use Rattle.assembler.proofs.Plans.{put_asked}
use Rattle.assembler.proofs.Steps.{put_refused, put_taken, constant_one, constant_placed}
use Rattle.assembler.proofs.Assembler.append_const.Goals as goal

pub returns-then-k-gt1007-clause-whole : goal.returns-then-k-gt1007-clause-whole
unfolding targets
returns-then-k-gt1007-clause-whole c =
    let a = c.args in
    c.check_whole.ensures.whole ∙ rw (lt-leb a.k 1007 c.if-k-gt1007.true) (put_asked 0 9 (constant_items a.k a.c) [] [] 2 (before a.self.now) (λ z. omega (arith, z)) refl)

pub returns-in_err-check_whole-clause-whole : goal.returns-in_err-check_whole-clause-whole
unfolding words targets labels
returns-in_err-check_whole-clause-whole c =
    let a = c.args in
    let s = before a.self.now in
    let e = ap (λ f. verdict f ((1024 + a.k) ∷ []) [] 2 s) (constant_one a.k c.if-k-gt1007.false) in
    put_refused 0 (constant_fault a.k) (constant_items a.k a.c) s _ _ _ e (search rules) c.in_err-check_whole.ensures.whole

pub lay-requires : goal.lay-requires
unfolding with_label
lay-requires c =
    let n = ap (λ (s : State). s.asm.len) c.mark.ensures.whole in
    let b = ap (λ (s : State). length s.buf) c.mark.ensures.whole in
    omega (arith, n, b, c.in_ok-check_whole.ensures.room.0)

pub returns-clause-whole : goal.returns-clause-whole
unfolding words targets labels
returns-clause-whole c =
    let a = c.args in
    let s = before a.self.now in
    let e = ap (λ f. verdict f ((1024 + a.k) ∷ []) [] 2 s) (constant_one a.k c.if-k-gt1007.false) in
    put_taken 0 (constant_fault a.k) (constant_items a.k a.c) s _ _ e c.in_ok-check_whole.ensures.whole (constant_placed a.k _ a.c s _ _ c.bits_of-b.ensures c.mark.ensures.whole c.lay.ensures.whole)

use Prim.Native.Nat.{◌%◌}
use borrow.Author.Tests.{ne_eqb}
use Rattle.form.specs.Inner.Names.{kind_at}
use Rattle.form.proofs.name.kind_at.Goals as goal

pub returns-in_default : goal.returns-in_default
unfolding kind_at
returns-in_default c =
    let k = c.args.c % 16 in
    let r = c.in_default.in_default-own.rest in
    let s = r.0.0.0.0.0.0 in
    rw (ne_eqb k 0 s.0.0.0.0.0.0.1, ne_eqb k 1 s.0.0.0.0.0.1, ne_eqb k 2 s.0.0.0.0.1, ne_eqb k 3 s.0.0.0.1, ne_eqb k 4 s.0.0.1, ne_eqb k 5 s.0.1, ne_eqb k 6 s.1, ne_eqb k 7 r.0.0.0.0.0.1, ne_eqb k 8 r.0.0.0.0.1, ne_eqb k 9 r.0.0.0.1, ne_eqb k 10 r.0.0.1, ne_eqb k 11 r.0.1, ne_eqb k 12 r.1)

pub returns-in-0 : goal.returns-in-0
unfolding kind_at
returns-in-0 c = rw (c.unary_at.ensures, c.in-0.is)

pub returns-in-1 : goal.returns-in-1
unfolding kind_at
returns-in-1 c = rw (c.scratched_at.ensures, c.in-1.is)

pub returns-in-2 : goal.returns-in-2
unfolding kind_at
returns-in-2 c = rw (c.binary_at.ensures, c.in-2.is)

pub returns-in-3 : goal.returns-in-3
unfolding kind_at
returns-in-3 c = rw (c.fused_at.ensures, c.in-3.is)

pub returns-in-4 : goal.returns-in-4
unfolding kind_at
returns-in-4 c = rw c.in-4.is

pub returns-in-5 : goal.returns-in-5
unfolding kind_at
returns-in-5 c = rw c.in-5.is

pub returns-in-6 : goal.returns-in-6
unfolding kind_at
returns-in-6 c = rw c.in-6.is

pub returns-in-7 : goal.returns-in-7
unfolding kind_at
returns-in-7 c = rw c.in-7.is

pub returns-in-8 : goal.returns-in-8
unfolding kind_at
returns-in-8 c = rw c.in-8.is

pub returns-in-9 : goal.returns-in-9
unfolding kind_at
returns-in-9 c = rw c.in-9.is

pub returns-in-10 : goal.returns-in-10
unfolding kind_at
returns-in-10 c = rw (c.frame_at.ensures, c.in-10.is)

pub returns-in-11 : goal.returns-in-11
unfolding kind_at
returns-in-11 c = rw c.in-11.is

pub returns-in-12 : goal.returns-in-12
unfolding kind_at
returns-in-12 c = rw c.in-12.is

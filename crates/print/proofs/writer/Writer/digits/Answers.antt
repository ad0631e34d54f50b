use mathlib.Core.Path.{refl}
use Prim.Native.Nat.{◌+◌}
use native.Mathlib.Omega.{arith}
use lib.ListN.{length-set}
use Rattle.text.proofs.Numerals.{length_digits}
use Rattle.print.proofs.Stores.{digit_none, digit_step, digit_all}
use Rattle.print.proofs.writer.Writer.digits.Goals as goal

pub overflow_add-end : goal.overflow_add-end
overflow_add-end c = let a = c.args in omega (arith, c.requires, length_digits a.base a.k a.n)

pub bounds-self-i : goal.bounds-self-i
bounds-self-i c = let a = c.args in omega (arith, c.requires, c.loop-i.invariant, c.loop-i.auto.i, length_digits a.base a.k a.n)

pub loop-i-init : goal.loop-i-init
loop-i-init c =
    let a = c.args in
    let h = digit_none a.self.now.out.now a.base a.n (a.self.now.at + a.k) in
    (refl, refl, omega arith, h.0, h.1, refl)

pub loop-i-preserved : goal.loop-i-preserved
loop-i-preserved c =
    let l = c.loop-i in
    let a = c.args in
    let v = l.invariant in
    let h = digit_step a.self.now.out.now l.self.out.now a.base a.n (a.self.now.at + a.k) l.i l.rest _ (omega arith) (omega (arith, l.auto.i)) v.3 v.4 c.glyph.ensures in
    (v.0, simp length-set v.1, omega arith, h.0, h.1, v.5)

pub returns : goal.returns
returns c =
    let l = c.loop-i in
    let a = c.args in
    let v = l.invariant in record {
      same_buffer = v.5;
      at = omega (arith, length_digits a.base a.k a.n);
      as_long = v.1;
      out = digit_all a.self.now.out.now l.self.out.now a.base a.n a.self.now.at a.k l.i (omega arith) (omega arith) v.4;
    }

use mathlib.Core.Path.{◌≡◌, sym, ◌∙◌}
use Prim.Native.Nat.{◌+◌, ◌%◌, ◌-◌, ◌<◌}
use native.Mathlib.Omega.{arith}
use Rattle.text.specs.Readers.{fields_from}
use Rattle.fast.specs.Inner.Fields.{numbers_packed, registers_of, bound_of}
use Rattle.fast.proofs.Fields.{starts, goes_on, no_register, ends, ends_badly, none_behind, some_behind, register_small, product, most_of_all, bound_fits, last_below}
use Rattle.fast.proofs.numbers.Goals as goal

pub loop-i-init : goal.loop-i-init
loop-i-init c =
    starts c.args.s.now c.args.a (registers_of (c.args.k % 16)) (bound_of (c.args.k % 16)) (c.registers-i-end.result - 0) (omega (arith, c.registers-i-end.ensures.0)) (omega (arith, c.registers-i-end.ensures.1)) c.requires.1

pub returns-in_err-x : goal.returns-in_err-x
returns-in_err-x c =
    c.from_residual.ensures ∙ none_behind c.args.k (numbers_packed (c.args.k % 16) (fields_from c.args.s.now c.args.a))
    (no_register c.args.s.now c.args.a (registers_of (c.args.k % 16)) (bound_of (c.args.k % 16)) c.loop-i.at (c.registers-i-end.result - c.loop-i._i) c.loop-i.scale c.loop-i.sum c.loop-i.invariant (bound_fits (c.args.k % 16)) (omega (arith, c.loop-i-test.true)) (sym c.register_at.ensures ∙ c.in_err-x.was))

pub overflow_mul-sum : goal.overflow_mul-sum
overflow_mul-sum c =
    let l = c.loop-i in
    let left = c.registers-i-end.result - l._i in
    record { fits = omega (arith, product left l.scale c.in_ok-x.x l.invariant.1 (omega (arith, register_small _ _ _ _ (sym c.register_at.ensures ∙ c.in_ok-x.was)))) }

pub overflow_add-sum : goal.overflow_add-sum
overflow_add-sum c =
    let l = c.loop-i in
    let left = c.registers-i-end.result - l._i in
    let b = product left l.scale c.in_ok-x.x l.invariant.1 (omega (arith, register_small _ _ _ _ (sym c.register_at.ensures ∙ c.in_ok-x.was))) in
    record { fits = omega (arith, b, l.invariant.1, l.invariant.2, most_of_all left) }

pub overflow_mul-scale : goal.overflow_mul-scale
overflow_mul-scale c =
    let l = c.loop-i in
    record { fits = omega (arith, l.invariant.1, most_of_all (c.registers-i-end.result - l._i)) }

pub loop-i-preserved : goal.loop-i-preserved
loop-i-preserved c =
    let z : c.registers-i-end.result - (c.loop-i._i + 1) ≡ c.registers-i-end.result - c.loop-i._i - 1 = omega arith in
    rw z (goes_on c.args.s.now c.args.a (registers_of (c.args.k % 16)) (bound_of (c.args.k % 16)) c.loop-i.at (c.registers-i-end.result - c.loop-i._i) c.loop-i.scale c.loop-i.sum c.loop-i.invariant _ _ (omega (arith, c.loop-i-test.true)) (sym c.register_at.ensures ∙ c.in_ok-x.was))

pub last_below-requires : goal.last_below-requires
last_below-requires c = (omega (arith, c.last_bound.ensures.1), c.loop-i.invariant.3)

pub returns-in_err-y : goal.returns-in_err-y
returns-in_err-y c =
    c.from_residual-in_err-y.ensures ∙ none_behind c.args.k (numbers_packed (c.args.k % 16) (fields_from c.args.s.now c.args.a))
    (ends_badly c.args.s.now c.args.a (registers_of (c.args.k % 16)) (bound_of (c.args.k % 16)) c.loop-i.at (c.registers-i-end.result - c.loop-i._i) c.loop-i.scale c.loop-i.sum c.loop-i.invariant (omega (arith, c.loop-i-test.false)) (rw c.last_bound.ensures.0 at (sym c.last_below.ensures ∙ c.in_err-y.was)))

pub overflow_mul-result : goal.overflow_mul-result
overflow_mul-result c =
    let y : c.in_ok-y.y < 4096 = omega (arith, last_below c.args.s.now c.loop-i.at c.last_bound.result _ (sym c.last_below.ensures ∙ c.in_ok-y.was), c.last_bound.ensures.1) in
    let few = product (c.registers-i-end.result - c.loop-i._i) c.loop-i.scale c.in_ok-y.y c.loop-i.invariant.1 y in
    record { fits = omega (arith, few) }

pub overflow_add-result : goal.overflow_add-result
overflow_add-result c =
    let y : c.in_ok-y.y < 4096 = omega (arith, last_below c.args.s.now c.loop-i.at c.last_bound.result _ (sym c.last_below.ensures ∙ c.in_ok-y.was), c.last_bound.ensures.1) in
    let few = product (c.registers-i-end.result - c.loop-i._i) c.loop-i.scale c.in_ok-y.y c.loop-i.invariant.1 y in
    record { fits = omega (arith, few, c.loop-i.invariant.1, c.loop-i.invariant.2, most_of_all (c.registers-i-end.result - c.loop-i._i)) }

pub overflow_mul-result-2 : goal.overflow_mul-result-2
overflow_mul-result-2 c =
    let y : c.in_ok-y.y < 4096 = omega (arith, last_below c.args.s.now c.loop-i.at c.last_bound.result _ (sym c.last_below.ensures ∙ c.in_ok-y.was), c.last_bound.ensures.1) in
    let few = product (c.registers-i-end.result - c.loop-i._i) c.loop-i.scale c.in_ok-y.y c.loop-i.invariant.1 y in
    record { fits = omega (arith, few, c.loop-i.invariant.1, c.loop-i.invariant.2, most_of_all (c.registers-i-end.result - c.loop-i._i)) }

pub overflow_add-result-2 : goal.overflow_add-result-2
overflow_add-result-2 c =
    let y : c.in_ok-y.y < 4096 = omega (arith, last_below c.args.s.now c.loop-i.at c.last_bound.result _ (sym c.last_below.ensures ∙ c.in_ok-y.was), c.last_bound.ensures.1) in
    let few = product (c.registers-i-end.result - c.loop-i._i) c.loop-i.scale c.in_ok-y.y c.loop-i.invariant.1 y in
    record { fits = omega (arith, few, c.loop-i.invariant.1, c.loop-i.invariant.2, most_of_all (c.registers-i-end.result - c.loop-i._i), c.requires) }

pub returns : goal.returns
returns c =
    some_behind c.args.k _ (numbers_packed (c.args.k % 16) (fields_from c.args.s.now c.args.a))
    (ends c.args.s.now c.args.a (registers_of (c.args.k % 16)) (bound_of (c.args.k % 16)) c.loop-i.at (c.registers-i-end.result - c.loop-i._i) c.loop-i.scale c.loop-i.sum c.loop-i.invariant (omega (arith, c.loop-i-test.false)) _ (rw c.last_bound.ensures.0 at (sym c.last_below.ensures ∙ c.in_ok-y.was)))

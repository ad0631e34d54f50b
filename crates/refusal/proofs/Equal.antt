-- Refusals are equal where their numbers are. Assumes nothing.
use Rattle.std.proofs.Common.{◌≡◌, eqb, arith, Some, Option}
use Rattle.std.specs.Option.{option_eq}
use Rattle.refusal.specs.Number.{number_of, fault_number}
use Rattle.refusal.specs.declared.Refusal.{Refusal}
use Rattle.refusal.specs.contracts.RefusalPartialEq.TheImpl as TheImpl

pub equal : (a b : Refusal) → TheImpl.eq-value.it a b ≡ eqb (number_of a) (number_of b)
equal a b = grind arith

pub fault_equal : (a : Option Refusal) (w : Refusal) → option_eq TheImpl.eq-value.it a (Some w) ≡ eqb (fault_number a) (number_of w)
fault_equal a w = grind arith

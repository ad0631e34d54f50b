-- What accesses refuse, at the edges: they compute.
use mathlib.Core.Path.{◌≡◌, refl}
use mathlib.Core.List.{[], ◌∷◌}
use Rattle.accesses.specs.Fault.{li_fault, one_fault, pair_fault, stack_fault}

pub accepted : li_fault 31 ∷ one_fault 31 31 0x7FFFFFFF ∷ one_fault 31 5 2047 ∷ pair_fault 30 31 0x7FFFFFFF ∷ pair_fault 30 5 2039 ∷ stack_fault 0x7FFFFFFF ∷ [] ≡ 0 ∷ 0 ∷ 0 ∷ 0 ∷ 0 ∷ 0 ∷ []
accepted = refl

-- registers
pub first : li_fault 32 ∷ one_fault 32 5 0x80000000 ∷ one_fault 0 32 0x80000000 ∷ pair_fault 31 5 0x80000000 ∷ pair_fault 0 32 0x80000000 ∷ [] ≡ 1 ∷ 1 ∷ 1 ∷ 1 ∷ 1 ∷ []
first = refl

-- values
pub second : one_fault 0 5 0x80000000 ∷ pair_fault 0 5 0x80000000 ∷ stack_fault 0x80000000 ∷ [] ≡ 2 ∷ 2 ∷ 2 ∷ []
second = refl

-- t0 as base
pub third : one_fault 0 5 2048 ∷ one_fault 0 5 0x7FFFFFFF ∷ pair_fault 0 5 2040 ∷ [] ≡ 10 ∷ 10 ∷ 10 ∷ []
third = refl

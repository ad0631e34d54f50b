-- Document 01's "Proved table", entries a to j, e as document 02, point 6, has it: they compute.
use mathlib.Core.Path.{refl}
use Rattle.isa.specs.Encode.{encode, join, fields}
use Rattle.accesses.specs.Code.{li_code, point_code, access_code, sub_stack_code}
use Rattle.accesses.specs.Claims.{TableClaim}

pub table : TableClaim
unfolding encode join fields li_code point_code access_code sub_stack_code
table =
    record { a = refl; b = refl; c = refl; d = refl; e = refl; f = refl; g = refl; h = refl; h_far = refl; h_stored = refl; h_stored_far = refl; i = refl; j = refl }

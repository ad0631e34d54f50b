-- Closed frames: their words compute to those that document 01 prints for `fast,0,1,0,0,0`, and counts at the limit to some others.
use mathlib.Core.Path.{◌≡◌, refl}
use mathlib.Core.List.{[], ◌∷◌, ◌++◌}
use Rattle.isa.specs.Encode.{encode, join, fields}
use Rattle.ast.specs.declared.Frame.TheVariants.{Fast}
use Rattle.ast.specs.declared.Head.{Head}
use Rattle.assembler.specs.Resolved.{resolved}
use Rattle.accesses.specs.Code.{li_code, sub_stack_code, add_stack_code}
use Rattle.ast.specs.Mask.{saved}
use Rattle.frame_code.specs.Items.{prologue, epilogue, saves, reloads}

abbrev sample : Head
sample = record { frame = Fast; cap = 0; states = 1; obs = 0; last = 0; mask = 0 }

pub sample_words :
    resolved (λ l. 0) 0 (prologue sample ++ (saves 0 ++ (reloads 0 ++ epilogue sample)))
    ≡ 0xfe010113 ∷ 0x00113023 ∷ 0x00813423 ∷ 0x00913823 ∷ 0x01513c23 ∷ 0x00010433 ∷ 0xff010113 ∷ 0x000104b3 ∷ 0xff010113 ∷ 0x00010ab3 ∷ 0x00a4b027 ∷ 0x00000513 ∷ 0x0004b507 ∷ 0x00040133 ∷ 0x00013083 ∷ 0x00813403 ∷ 0x01013483 ∷ 0x01813a83 ∷ 0x02010113 ∷ 0x00a54533 ∷ 0x00008067 ∷ []
unfolding resolved prologue epilogue saves reloads saved li_code sub_stack_code add_stack_code encode join fields
sample_words = refl

-- bits of f7, f10, f17 and f28 do nothing
pub saved_of : saved 0x0FFC0380 ≡ 8 ∷ 9 ∷ 18 ∷ 19 ∷ 20 ∷ 21 ∷ 22 ∷ 23 ∷ 24 ∷ 25 ∷ 26 ∷ 27 ∷ []
unfolding saved
saved_of = refl

pub saved_none : saved 0xF003FCFF ≡ []
unfolding saved
saved_none = refl

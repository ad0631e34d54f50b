-- What a call tells an attendant, from what the attendant can't see.
use mathlib.Core.Path.{sym, ap, ◌∙◌}
use mathlib.Core.List.{List}
use Prim.Native.Nat.{ℕ, zero, suc}
use native.Mathlib.Omega.{arith}
use Rattle.routine.specs.Routine.{program_of}
use Rattle.print.specs.Text.{put_in}
use Rattle.listing.proofs.Unseen.{unseen}
use Rattle.handheld.specs.Numbers.{number}
use Rattle.handheld.specs.Attendant.{SameTold}
use Rattle.handheld.proofs.Shown.{number_told}

pub same_told : SameTold
same_told zero file file' out v a n n' t t' l l' h k = absurd (omega arith)
same_told (suc view) file file' out v a n n' t t' l l' h k =
    let u = unseen file file' a in (
      h.0 ∙ sym (number_told (program_of 65536 file)) ∙ ap number u.1 ∙ number_told (program_of 65536 file') ∙ sym k.0,
      h.1 ∙ rw (u.0, u.1) (sym k.1),
      h.2 ∙ ap (λ (text : List ℕ). put_in text 0 out) u.0 ∙ sym k.2,
    )

-- Prologue and saves, over both frames: `PrologueTerms` leads to `PrologueDone`.
use mathlib.Core.Path.{◌≡◌, refl, sym, subst}
use Prim.Native.Nat.{ℕ}
use Rattle.machine.specs.Floats.{Floats}
use Rattle.machine.specs.State.{State}
use Rattle.ast.specs.declared.Frame.{Frame}
use Rattle.ast.specs.declared.Frame.TheVariants.{Fast, Indirect}
use Rattle.ast.specs.declared.Head.{Head}
use Rattle.frame_code.proofs.Ends.{PrologueTerms, PrologueDone}
use Rattle.frame_code.proofs.Fast as Fast
use Rattle.frame_code.proofs.Indirect as Indirect

abbrev pub with_frame : Frame → Head → Head
with_frame F H = record { frame = F; cap = H.cap; states = H.states; obs = H.obs; last = H.last; mask = H.mask }

pub opens : (Q : Floats) (H : Head) (at : ℕ → ℕ) (s : State) (bottom : ℕ) → PrologueTerms H at s bottom → (t : State) × PrologueDone Q H at s bottom t
opens Q H at s bottom = by H.frame refl
  where
    Opens : Head → Type 0
    Opens G = PrologueTerms G at s bottom → (t : State) × PrologueDone Q G at s bottom t

    by : (F : Frame) → H.frame ≡ F → Opens H
    by Fast e = subst Opens (λ i. with_frame (sym e i) H) (Fast.ready Q H.cap H.states H.obs H.last H.mask at s bottom)
    by Indirect e = subst Opens (λ i. with_frame (sym e i) H) (Indirect.ready Q H.cap H.states H.obs H.last H.mask at s bottom)

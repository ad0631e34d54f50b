-- Reloads and epilogue, over both frames: `EpilogueTerms` leads to `EpilogueDone`.
use mathlib.Core.Path.{◌≡◌, refl, sym, subst}
use Prim.Native.Nat.{ℕ}
use Rattle.machine.specs.Floats.{Floats}
use Rattle.machine.specs.State.{State}
use Rattle.ast.specs.declared.Frame.{Frame}
use Rattle.ast.specs.declared.Frame.TheVariants.{Fast, Indirect}
use Rattle.ast.specs.declared.Head.{Head}
use Rattle.frame_code.proofs.Ends.{EpilogueTerms, EpilogueDone}
use Rattle.frame_code.proofs.LeaveFast as LeaveFast
use Rattle.frame_code.proofs.LeaveIndirect as LeaveIndirect
use Rattle.frame_code.proofs.Opened.{with_frame}

pub leaves : (Q : Floats) (H : Head) (at : ℕ → ℕ) (s : State) (bottom a here : ℕ) (u : State) → EpilogueTerms H at s bottom a here u → (v : State) × EpilogueDone Q H at s bottom here u v
leaves Q H at s bottom a here u = by H.frame refl
  where
    Leaves : Head → Type 0
    Leaves G = EpilogueTerms G at s bottom a here u → (v : State) × EpilogueDone Q G at s bottom here u v

    by : (F : Frame) → H.frame ≡ F → Leaves H
    by Fast e = subst Leaves (λ i. with_frame (sym e i) H) (LeaveFast.returned Q H.cap H.states H.obs H.last H.mask at s bottom a here u)
    by Indirect e = subst Leaves (λ i. with_frame (sym e i) H) (LeaveIndirect.returned Q H.cap H.states H.obs H.last H.mask at s bottom a here u)

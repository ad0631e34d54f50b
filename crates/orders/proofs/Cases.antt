-- The cases of `order_does`. Assumes nothing.
use mathlib.Core.Path.{◌≡◌}
use mathlib.Core.List.{[], ◌∷◌}
use Prim.Native.Nat.{ℕ, ◌*◌}
use Rattle.machine.specs.Floats.{Floats}
use Rattle.machine.specs.State.{State}
use Rattle.ast.specs.Constant.{constant_label}
use Rattle.ast.specs.Uses.{uses}
use Rattle.ast.specs.declared.Order.{Order}
use Rattle.ast.specs.declared.Order.TheVariants.{Unary, Scratched, Binary, Fused, Ifelse, LoadConst, Load, Save, BranchIf, SetLabel}
use Rattle.accesses.specs.Stands.{Accessible}
use Rattle.accesses.specs.Fault.{offset_limit}
use Rattle.reading.specs.Meaning.{meaning}
use Rattle.orders.specs.Code.{code}
use Rattle.orders.specs.Fault.{last_user_label, fault}
use Rattle.orders.specs.Does.{Placed, At, accessed, OrderDoes}
use Rattle.orders.proofs.Items.{registers_below, checked_below}
use Rattle.orders.proofs.Arithmetic.{unary_does, scratched_does, binary_does, fused_does}
use Rattle.orders.proofs.Cells.{load_does, save_does, ifelse_does}
use Rattle.orders.proofs.Jumps.{const_does, branch_does, label_does}

module _ (Q : Floats) (places : ℕ → ℕ) (g : Placed places) (start here : ℕ) (s : State) where
  pub by_case : (o : Order) → fault o ≡ 0 → At places start here (code o) s → Accessible (accessed places start s (uses o).operand) → OrderDoes places start Q here o s
  unfolding fault code meaning
  by_case (Unary k d a) h o q =
      let r = registers_below (d ∷ a ∷ []) h in
      unary_does places start here s Q k d a r.0 r.1.0 o.sound o
  by_case (Scratched k d a t) h o q =
      let r = registers_below (d ∷ a ∷ t ∷ []) h in
      scratched_does places start here s Q k d a t r.0 r.1.0 r.1.1.0 o
  by_case (Binary k d a b) h o q =
      let r = registers_below (d ∷ a ∷ b ∷ []) h in
      binary_does places start here s Q k d a b r.0 r.1.0 r.1.1.0 o
  by_case (Fused k d a b c) h o q =
      let r = registers_below (d ∷ a ∷ b ∷ c ∷ []) h in
      fused_does places start here s Q k d a b c r.0 r.1.0 r.1.1.0 r.1.1.1.0 o
  by_case (Ifelse d a b i) h o q =
      let r = checked_below (d ∷ a ∷ b ∷ []) (8 * i) offset_limit 1 h in
      ifelse_does places start here s Q d a b i r.0.0 r.0.1.0 r.0.1.1.0 r.1 q o
  by_case (LoadConst d k) h o q =
      let r = checked_below (d ∷ []) k 1007 8 h in
      const_does places start here s Q g d (constant_label k) r.0.0 q.eights.0 o
  by_case (Load d p i) h o q =
      let r = checked_below (d ∷ []) (8 * i) offset_limit 1 h in
      load_does places start here s Q d p i r.0.0 r.1 q o
  by_case (Save d p i) h o q =
      let r = checked_below (d ∷ []) (8 * i) offset_limit 1 h in
      save_does places start here s Q d p i r.0.0 r.1 q o
  by_case (BranchIf c l e) h o q =
      let r = checked_below (c ∷ []) l last_user_label 2 h in
      branch_does places start here s Q g c l e r.0.0 o
  by_case (SetLabel l) h o q = label_does places start here s Q l o

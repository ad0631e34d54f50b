use mathlib.Core.Path.{refl, sym, ◌∙◌}
use Rattle.form.specs.Inner.Parts.{shaped}
use Rattle.form.specs.declared.Form.{Form}
use Rattle.form.proofs.Shapes.{taken, not_taken, nth}
use Rattle.form.proofs.form_kind.Goals as goal

pub returns-in_err-cap-in-Head : goal.returns-in_err-cap-in-Head
unfolding shaped
returns-in_err-cap-in-Head c = c.from_residual.ensures ∙ rw c.in-Head.is (not_taken _ _ _ (sym c.read_numbers.ensures ∙ c.in_err-cap-in-Head.was))

pub returns-in_ok-cap-in-Head : goal.returns-in_ok-cap-in-Head
unfolding shaped
returns-in_ok-cap-in-Head c = rw c.in-Head.is (taken _ _ (λ ns. Form.Head c.in-Head.f (nth 0 ns) (nth 1 ns) (nth 2 ns) (nth 3 ns) (nth 4 ns)) (λ vs. refl) _ _ (sym c.read_numbers.ensures ∙ c.in_ok-cap-in-Head.was))

pub returns-in_err-d-in-Unary : goal.returns-in_err-d-in-Unary
unfolding shaped
returns-in_err-d-in-Unary c = c.from_residual-in_err-d-in-Unary.ensures ∙ rw c.in-Unary.is (not_taken _ _ _ (sym c.read_numbers-in-Unary.ensures ∙ c.in_err-d-in-Unary.was))

pub returns-in_ok-d-in-Unary : goal.returns-in_ok-d-in-Unary
unfolding shaped
returns-in_ok-d-in-Unary c = rw c.in-Unary.is (taken _ _ (λ ns. Form.Unary c.in-Unary.u (nth 0 ns) (nth 1 ns)) (λ vs. refl) _ _ (sym c.read_numbers-in-Unary.ensures ∙ c.in_ok-d-in-Unary.was))

pub returns-in_err-d-in-Scratched : goal.returns-in_err-d-in-Scratched
unfolding shaped
returns-in_err-d-in-Scratched c = c.from_residual-in_err-d-in-Scratched.ensures ∙ rw c.in-Scratched.is (not_taken _ _ _ (sym c.read_numbers-in-Scratched.ensures ∙ c.in_err-d-in-Scratched.was))

pub returns-in_ok-d-in-Scratched : goal.returns-in_ok-d-in-Scratched
unfolding shaped
returns-in_ok-d-in-Scratched c = rw c.in-Scratched.is (taken _ _ (λ ns. Form.Scratched c.in-Scratched.u (nth 0 ns) (nth 1 ns) (nth 2 ns)) (λ vs. refl) _ _ (sym c.read_numbers-in-Scratched.ensures ∙ c.in_ok-d-in-Scratched.was))

pub returns-in_err-d-in-Binary : goal.returns-in_err-d-in-Binary
unfolding shaped
returns-in_err-d-in-Binary c = c.from_residual-in_err-d-in-Binary.ensures ∙ rw c.in-Binary.is (not_taken _ _ _ (sym c.read_numbers-in-Binary.ensures ∙ c.in_err-d-in-Binary.was))

pub returns-in_ok-d-in-Binary : goal.returns-in_ok-d-in-Binary
unfolding shaped
returns-in_ok-d-in-Binary c = rw c.in-Binary.is (taken _ _ (λ ns. Form.Binary c.in-Binary.u (nth 0 ns) (nth 1 ns) (nth 2 ns)) (λ vs. refl) _ _ (sym c.read_numbers-in-Binary.ensures ∙ c.in_ok-d-in-Binary.was))

pub returns-in_err-d-in-Fused : goal.returns-in_err-d-in-Fused
unfolding shaped
returns-in_err-d-in-Fused c = c.from_residual-in_err-d-in-Fused.ensures ∙ rw c.in-Fused.is (not_taken _ _ _ (sym c.read_numbers-in-Fused.ensures ∙ c.in_err-d-in-Fused.was))

pub returns-in_ok-d-in-Fused : goal.returns-in_ok-d-in-Fused
unfolding shaped
returns-in_ok-d-in-Fused c = rw c.in-Fused.is (taken _ _ (λ ns. Form.Fused c.in-Fused.u (nth 0 ns) (nth 1 ns) (nth 2 ns) (nth 3 ns)) (λ vs. refl) _ _ (sym c.read_numbers-in-Fused.ensures ∙ c.in_ok-d-in-Fused.was))

pub returns-in_err-d-in-Ifelse : goal.returns-in_err-d-in-Ifelse
unfolding shaped
returns-in_err-d-in-Ifelse c = c.from_residual-in_err-d-in-Ifelse.ensures ∙ rw c.in-Ifelse.is (not_taken _ _ _ (sym c.read_numbers-in-Ifelse.ensures ∙ c.in_err-d-in-Ifelse.was))

pub returns-in_ok-d-in-Ifelse : goal.returns-in_ok-d-in-Ifelse
unfolding shaped
returns-in_ok-d-in-Ifelse c = rw c.in-Ifelse.is (taken _ _ (λ ns. Form.Ifelse (nth 0 ns) (nth 1 ns) (nth 2 ns) (nth 3 ns)) (λ vs. refl) _ _ (sym c.read_numbers-in-Ifelse.ensures ∙ c.in_ok-d-in-Ifelse.was))

pub returns-in_err-d-in-LoadConst : goal.returns-in_err-d-in-LoadConst
unfolding shaped
returns-in_err-d-in-LoadConst c = c.from_residual-in_err-d-in-LoadConst.ensures ∙ rw c.in-LoadConst.is (not_taken _ _ _ (sym c.read_numbers-in-LoadConst.ensures ∙ c.in_err-d-in-LoadConst.was))

pub returns-in_ok-d-in-LoadConst : goal.returns-in_ok-d-in-LoadConst
unfolding shaped
returns-in_ok-d-in-LoadConst c = rw c.in-LoadConst.is (taken _ _ (λ ns. Form.LoadConst (nth 0 ns) (nth 1 ns)) (λ vs. refl) _ _ (sym c.read_numbers-in-LoadConst.ensures ∙ c.in_ok-d-in-LoadConst.was))

pub returns-in_err-d-in-Load : goal.returns-in_err-d-in-Load
unfolding shaped
returns-in_err-d-in-Load c = c.from_residual-in_err-d-in-Load.ensures ∙ rw c.in-Load.is (not_taken _ _ _ (sym c.read_cell.ensures ∙ c.in_err-d-in-Load.was))

pub returns-in_ok-d-in-Load : goal.returns-in_ok-d-in-Load
unfolding shaped
returns-in_ok-d-in-Load c = rw c.in-Load.is (taken _ _ (λ x. Form.Load x.0 x.1 x.2) (λ vs. refl) _ _ (sym c.read_cell.ensures ∙ c.in_ok-d-in-Load.was))

pub returns-in_err-d-in-Save : goal.returns-in_err-d-in-Save
unfolding shaped
returns-in_err-d-in-Save c = c.from_residual-in_err-d-in-Save.ensures ∙ rw c.in-Save.is (not_taken _ _ _ (sym c.read_cell-in-Save.ensures ∙ c.in_err-d-in-Save.was))

pub returns-in_ok-d-in-Save : goal.returns-in_ok-d-in-Save
unfolding shaped
returns-in_ok-d-in-Save c = rw c.in-Save.is (taken _ _ (λ x. Form.Save x.0 x.1 x.2) (λ vs. refl) _ _ (sym c.read_cell-in-Save.ensures ∙ c.in_ok-d-in-Save.was))

pub returns-in_err-l-in-SetLabel : goal.returns-in_err-l-in-SetLabel
unfolding shaped
returns-in_err-l-in-SetLabel c = c.from_residual-in_err-l-in-SetLabel.ensures ∙ rw c.in-SetLabel.is (not_taken _ _ _ (sym c.read_numbers-in-SetLabel.ensures ∙ c.in_err-l-in-SetLabel.was))

pub returns-in_ok-l-in-SetLabel : goal.returns-in_ok-l-in-SetLabel
unfolding shaped
returns-in_ok-l-in-SetLabel c = rw c.in-SetLabel.is (taken _ _ (λ ns. Form.SetLabel (nth 0 ns)) (λ vs. refl) _ _ (sym c.read_numbers-in-SetLabel.ensures ∙ c.in_ok-l-in-SetLabel.was))

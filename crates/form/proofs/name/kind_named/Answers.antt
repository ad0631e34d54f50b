use mathlib.Core.Path.{ap, ◌∙◌}
use Prim.Native.Nat.{ℕ}
use Rattle.form.specs.Inner.Read.{kind_of}
use Rattle.form.specs.Inner.Parts.{named}
use Rattle.form.specs.Inner.Names.{kind_at}
use Rattle.form.proofs.Names.{kind_back}
use Rattle.form.proofs.name.kind_named.Goals as goal

pub returns : goal.returns
returns c = c.kind_at.ensures ∙ ap (λ (n : ℕ). named (kind_at n)) c.whole_code.ensures ∙ ap named (kind_back (kind_of _))

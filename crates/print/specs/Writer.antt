-- One piece of a text behind the other.
use Rattle.std.specs.Prelude.{◌≡◌, List, ℕ, ◌+◌, ◌≤◌, length}
use Rattle.std.proofs.lemmas.List.Edits.{sets}
use Rattle.print.specs.declared.writer.Writer.{Writer}

-- there is room for a text
abbrev pub HasRoom : (text : List ℕ) → Writer → Type 0
HasRoom text w = w.at + length text ≤ length w.out.now

-- a text was put, and the next one goes behind it
pub record Wrote (text : List ℕ) (before after : Writer) : Type 0 where
  pub same_buffer : after.out.ghost_name ≡ before.out.ghost_name
  pub at : after.at ≡ before.at + length text
  pub as_long : length after.out.now ≡ length before.out.now
  pub out : after.out.now ≡ sets before.out.now before.at text

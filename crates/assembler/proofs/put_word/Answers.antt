use borrow.Author.Rules.{rules}
use mathlib.Core.Path.{◌≡◌, refl}
use Prim.Native.Nat.{◌+◌, ◌-◌}
use mathlib.Core.List.{[], ◌∷◌, flat_map}
use Rattle.assembler.specs.Bytes.{bytes, written}
use Rattle.assembler.proofs.Writes.{part_is}
use Rattle.assembler.proofs.put_word.Goals as goal

pub returns : goal.returns
unfolding written bytes flat_map
returns c =
    let w = c.args in
    let e : c.copy_from_slice.new.self ≡ bytes (w.w ∷ []) = rw (c.copy_from_slice.ensures.after, c.to_le_bytes.ensures) refl in
    rw e (part_is w.buf.now w.at (w.at + 4 - w.at) (bytes (w.w ∷ [])) (search rules) (search rules))

use mathlib.Core.Path.{sym, ◌∙◌}
use Prim.Native.Nat.{ℕ}
use native.Mathlib.Omega.{arith}
use lib.ListN.{length-replicate}
use lib.Seq.{length-take-le}
use native.Mathlib.Nat.{zero-add}
use borrow.Author.Rules.{rules}
use Rattle.stale.proofs.Said.{list_room, text_short, text_room, said}
use Rattle.stale.proofs.labels_text.Goals as goal

pub slice_bounds-list-end : goal.slice_bounds-list-end
slice_bounds-list-end c = list_room _ _ _ _ _ c.unused_labels.ensures c.unwrap_or-n.ensures

pub slice_bounds-put_labels-end : goal.slice_bounds-put_labels-end
slice_bounds-put_labels-end c = sym (length-take-le _ _ (list_room _ _ _ _ _ c.unused_labels.ensures c.unwrap_or-n.ensures))

pub put_labels-requires : goal.put_labels-requires
put_labels-requires c = omega (arith, text_short _ _ _ _ _ c.unused_labels.ensures c.unwrap_or-n.ensures _ _ c.set_lines-found.ensures, length-replicate {A = ℕ} 11264 0)

pub slice_bounds-text-end : goal.slice_bounds-text-end
slice_bounds-text-end c = text_room _ _ _ _ _ c.unused_labels.ensures c.unwrap_or-n.ensures _ _ c.set_lines-found.ensures _ _ (let q = c.put_labels.ensures.out in search rules) (c.put_labels.ensures.at ∙ zero-add _)

pub slice_bounds-put_text-end : goal.slice_bounds-put_text-end
slice_bounds-put_text-end c = sym (length-take-le _ _ (text_room _ _ _ _ _ c.unused_labels.ensures c.unwrap_or-n.ensures _ _ c.set_lines-found.ensures _ _ (let q = c.put_labels.ensures.out in search rules) (c.put_labels.ensures.at ∙ zero-add _)))

pub returns : goal.returns
returns c = said _ _ _ _ _ c.unused_labels.ensures c.unwrap_or-n.ensures _ _ c.set_lines-found.ensures _ _ (let q = c.put_labels.ensures.out in search rules) (c.put_labels.ensures.at ∙ zero-add _) _ _ _ c.put_text.ensures

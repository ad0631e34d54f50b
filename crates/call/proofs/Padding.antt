-- The nop before constants: none or one, and constants then start at a multiple of 8. Assumes nothing.
use mathlib.Core.Path.{◌≡◌, refl, ap, ◌∙◌}
use mathlib.Core.Bool.{Bool, true, false, cond}
use mathlib.Core.List.{List, [], ◌∷◌, ◌++◌, append_assoc}
use Prim.Native.Nat.{ℕ, zero, suc, ◌+◌, ◌*◌, ◌%◌, ◌≤◌, ◌<◌}
use native.Mathlib.Omega.{arith}
use borrow.Author.Tests.{eqb-true, eqb-false}
use lib.Dec.{eqb}
use lib.ListN.{length}
use Rattle.assembler.specs.Item.{Item, instr}
use Rattle.assembler.specs.Resolved.{resolved}
use Rattle.reading.specs.Program.{Program, constants}
use Rattle.call.specs.Layout.{span, nop, padding, constants_from, code_items, pad, items, constants_offset, place, routine_words}
use Rattle.call.proofs.Items.{span_append, span_four, resolved_append}

-- with it so many bytes are a multiple of 8
pub padded_eight : (n k : ℕ) → n % 4 ≡ 0 → 0 < k → (n + span (padding n k)) % 8 ≡ 0
unfolding padding span
padded_eight n zero h l = absurd (omega arith)
padded_eight n (suc k) h l = by (eqb (n % 8) 0) refl
  where
    by : (t : Bool) → eqb (n % 8) 0 ≡ t → (n + span (padding n (suc k))) % 8 ≡ 0
    by true e = rw e (omega (arith, eqb-true (n % 8) 0 e))
    by false e = rw e (omega (arith, h, eqb-false (n % 8) 0 e))

-- what holds of no item and of a nop
pub padding_is : (F : List Item → Type 0) → F [] → F (instr nop ∷ []) → (n k : ℕ) → F (padding n k)
unfolding padding
padding_is F a b n zero = a
padding_is F a b n (suc k) = by (eqb (n % 8) 0)
  where
    by : (t : Bool) → F (cond t [] (instr nop ∷ []))
    by true = a
    by false = b

pub padding_span : (n k : ℕ) → span (padding n k) ≤ 4
unfolding span
padding_span = padding_is (λ is. span is ≤ 4) (omega arith) (omega arith)

-- a constant takes eight
pub constants_span : (k : ℕ) (bs : List ℕ) → span (constants_from k bs) ≡ 8 * length bs
unfolding constants_from span
constants_span k [] = refl
constants_span k (b ∷ bs) = omega (arith, constants_span (suc k) bs)

module _ (p : Program) where
  -- all before the constants
  abbrev pub front_items : List Item
  front_items = code_items p ++ pad p

  pub front_span : span front_items ≡ constants_offset p
  front_span = span_append (code_items p) (pad p)

  pub items_split : items p ≡ front_items ++ constants_from 0 (constants p.lines)
  unfolding items
  items_split = rw (append_assoc (code_items p) (pad p) (constants_from 0 (constants p.lines)))

  pub words_parted : routine_words p ≡ resolved (place p) 0 front_items ++ resolved (place p) (0 + span front_items) (constants_from 0 (constants p.lines))
  words_parted = ap (resolved (place p) 0) items_split ∙ resolved_append (place p) 0 front_items (constants_from 0 (constants p.lines))

  -- "Constants on eights"
  pub offset_eight : 0 < length (constants p.lines) → constants_offset p % 8 ≡ 0
  offset_eight h = padded_eight (span (code_items p)) (length (constants p.lines)) (span_four (code_items p)) h

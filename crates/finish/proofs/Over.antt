-- Jumps' words written over those reserved: the buffer then holds the items resolved. Assumes nothing.
use mathlib.Core.Path.{◌≡◌, refl, sym, ap, ◌∙◌}
use mathlib.Core.List.{List, [], ◌∷◌, ◌++◌, flat_map}
use Prim.Native.Nat.{ℕ, suc, ◌+◌, ◌*◌, ◌≤◌}
use native.Mathlib.Omega.{arith}
use lib.IntN.{sub_ℕ}
use lib.ListN.{length, set, take, drop, get_or}
use lib.Seq.{sets, length-take-le}
use Rattle.isa.specs.Encode.{encode}
use Rattle.assembler.specs.Item.{Item, instr, raw, jump, label}
use Rattle.assembler.specs.Jump.{kind_number, kind_of, jump_instr}
use Rattle.assembler.specs.Bytes.{le_bytes, bytes, written}
use Rattle.assembler.specs.Label.{place_of}
use Rattle.assembler.specs.Memory.{Jump}
use Rattle.assembler.specs.Put.{words}
use Rattle.assembler.specs.Resolved.{resolved, jumps_in}
use Rattle.assembler.specs.declared.JumpKind.{JumpKind}
use Rattle.assembler.specs.declared.JumpKind.TheVariants.{Auipc, Ld, Jalr, Fld, Beq, Bne}
use Rattle.assembler.proofs.Writes.{written_is, written_cons, length_written}
use Rattle.finish.specs.Finish.{jump_word, patched}

sets_cons : (p : ℕ) (l : List ℕ) (at : ℕ) (bs : List ℕ) → sets (p ∷ l) (suc at) bs ≡ p ∷ sets l at bs
sets_cons p l at [] = refl
sets_cons p l at (b ∷ bs) = sets_cons p (set l at b) (suc at) bs

sets_seam : (P Y bs : List ℕ) → sets (P ++ Y) (length P) bs ≡ P ++ sets Y 0 bs
sets_seam [] Y bs = refl
sets_seam (p ∷ P) Y bs = sets_cons p (P ++ Y) (length P) bs ∙ ap (λ (l : List ℕ). p ∷ l) (sets_seam P Y bs)

-- a word written over the first of others
over : (P S : List ℕ) (x w : ℕ) → written (P ++ (le_bytes x ++ S)) (length P) (w ∷ []) ≡ P ++ (le_bytes w ++ S)
unfolding written bytes flat_map
over P S x w = sets_seam P (le_bytes x ++ S) (le_bytes w)

split : (b : List ℕ) (at w : ℕ) (ws : List ℕ) → at + 4 * suc (length ws) ≤ length b
    → written b at (w ∷ ws) ≡ take at b ++ (le_bytes w ++ (bytes ws ++ drop (at + 4 * suc (length ws)) b))
unfolding bytes flat_map
split b at w ws h = written_is b at (w ∷ ws) h

pub written_over : (b : List ℕ) (at x w : ℕ) (ws : List ℕ) → at + 4 * suc (length ws) ≤ length b → written (written b at (x ∷ ws)) at (w ∷ []) ≡ written b at (w ∷ ws)
written_over b at x w ws h =
    let n : length (take at b) ≡ at = length-take-le at b (omega arith) in
    let S = bytes ws ++ drop (at + 4 * suc (length ws)) b in
    ap (λ (l : List ℕ). written l at (w ∷ [])) (split b at x ws h)
    ∙ ap (λ (k : ℕ). written (take at b ++ (le_bytes x ++ S)) k (w ∷ [])) (sym n)
    ∙ over (take at b) S x w
    ∙ sym (split b at w ws h)

pub kind_back : (k : JumpKind) → kind_of (kind_number k) ≡ k
kind_back Auipc = refl
kind_back Ld = refl
kind_back Jalr = refl
kind_back Fld = refl
kind_back Beq = refl
kind_back Bne = refl

module _ (labels : List ℕ) where
  -- where the memory has a label
  abbrev pub at_label : ℕ → ℕ
  at_label l = place_of (get_or labels l 0)

  one_on : (b : List ℕ) (here w : ℕ) (ws vs : List ℕ) (js : List Jump) → patched labels (written (written b here (w ∷ [])) (here + 4) ws) js ≡ written (written b here (w ∷ [])) (here + 4) vs
      → patched labels (written b here (w ∷ ws)) js ≡ written b here (w ∷ vs)
  one_on b here w ws vs js e = ap (λ (l : List ℕ). patched labels l js) (written_cons b here w ws) ∙ e ∙ sym (written_cons b here w vs)

  pub patched_resolved : (b : List ℕ) (here : ℕ) (is : List Item) → here + 4 * length (words is) ≤ length b
      → patched labels (written b here (words is)) (jumps_in here is) ≡ written b here (resolved at_label here is)
  unfolding words jumps_in resolved patched
  patched_resolved b here [] h = refl
  patched_resolved b here (instr i ∷ is) h =
      one_on b here (encode i) (words is) (resolved at_label (here + 4) is) (jumps_in (here + 4) is)
      (patched_resolved (written b here (encode i ∷ [])) (here + 4) is (omega (arith, length_written b here (encode i ∷ []))))
  patched_resolved b here (raw w ∷ is) h =
      one_on b here w (words is) (resolved at_label (here + 4) is) (jumps_in (here + 4) is)
      (patched_resolved (written b here (w ∷ [])) (here + 4) is (omega (arith, length_written b here (w ∷ []))))
  patched_resolved b here (jump k l r ∷ is) h =
      let w = encode (jump_instr k r (sub_ℕ (at_label l) here)) in
      let e : jump_word labels (record { word = here; label = l; reg = r; kind = kind_number k }) ≡ w = ap (λ (x : JumpKind). encode (jump_instr x r (sub_ℕ (at_label l) here))) (kind_back k) in
      ap (λ (x : ℕ). patched labels (written (written b here (0 ∷ words is)) here (x ∷ [])) (jumps_in (here + 4) is)) e
      ∙ ap (λ (m : List ℕ). patched labels m (jumps_in (here + 4) is)) (written_over b here 0 w (words is) h)
      ∙ one_on b here w (words is) (resolved at_label (here + 4) is) (jumps_in (here + 4) is)
      (patched_resolved (written b here (w ∷ [])) (here + 4) is (omega (arith, length_written b here (w ∷ []))))
  patched_resolved b here (label l ∷ is) h = patched_resolved b here is h

-- Items joined: their words, jumps and labels, and what placing them leaves. Assumes nothing.
use mathlib.Core.Path.{◌≡◌, refl, ap, ◌∙◌}
use mathlib.Core.List.{List, [], ◌∷◌, ◌++◌, map}
use Prim.Native.Nat.{ℕ, suc, ◌+◌, ◌*◌}
use native.Mathlib.Omega.{arith}
use lib.ListN.{length, length-append}
use Rattle.isa.specs.Instr.{Instr}
use Rattle.isa.specs.Encode.{encode}
use Rattle.assembler.specs.Item.{Item, instr, raw, jump, label}
use Rattle.assembler.specs.State.{State}
use Rattle.assembler.specs.Inner.State.{with_words}
use Rattle.assembler.specs.Put.{words, jumps, targets, labels, with_word, place, placed}
use Rattle.assembler.specs.Plan.{tail_items}
use Rattle.assembler.specs.Resolved.{resolved}
use Rattle.assembler.specs.declared.Tail.{Tail}
use Rattle.assembler.specs.declared.Tail.TheVariants.{Nothing, One, Pair}
use Rattle.assembler.proofs.Writes.{written_cons, written_none}

pub words_append : (is js : List Item) → words (is ++ js) ≡ words is ++ words js
unfolding words
words_append [] js = refl
words_append (instr i ∷ is) js = ap (λ (l : List ℕ). encode i ∷ l) (words_append is js)
words_append (raw w ∷ is) js = ap (λ (l : List ℕ). w ∷ l) (words_append is js)
words_append (jump k l r ∷ is) js = ap (λ (l : List ℕ). 0 ∷ l) (words_append is js)
words_append (label l ∷ is) js = words_append is js

pub targets_append : (is js : List Item) → targets (is ++ js) ≡ targets is ++ targets js
unfolding targets
targets_append [] js = refl
targets_append (instr i ∷ is) js = targets_append is js
targets_append (raw w ∷ is) js = targets_append is js
targets_append (jump k l r ∷ is) js = ap (λ (m : List ℕ). l ∷ m) (targets_append is js)
targets_append (label l ∷ is) js = targets_append is js

pub jumps_append : (is js : List Item) → jumps (is ++ js) ≡ jumps is + jumps js
unfolding jumps
jumps_append is js = ap length (targets_append is js) ∙ length-append (targets is) (targets js)

pub labels_append : (is js : List Item) → labels (is ++ js) ≡ labels is ++ labels js
unfolding labels
labels_append [] js = refl
labels_append (instr i ∷ is) js = labels_append is js
labels_append (raw w ∷ is) js = labels_append is js
labels_append (jump k l r ∷ is) js = labels_append is js
labels_append (label l ∷ is) js = ap (λ (m : List ℕ). l ∷ m) (labels_append is js)

pub placed_append : (tag : ℕ) (is js : List Item) (s : State) → placed tag (is ++ js) s ≡ placed tag js (placed tag is s)
unfolding placed
placed_append tag [] js s = refl
placed_append tag (i ∷ is) js s = placed_append tag is js (place tag i s)

-- ---- words alone

pub words_raw : (ws : List ℕ) → words (map raw ws) ≡ ws
unfolding words
words_raw [] = refl
words_raw (w ∷ ws) = ap (λ (l : List ℕ). w ∷ l) (words_raw ws)

pub targets_raw : (ws : List ℕ) → targets (map raw ws) ≡ []
unfolding targets
targets_raw [] = refl
targets_raw (w ∷ ws) = targets_raw ws

pub labels_raw : (ws : List ℕ) → labels (map raw ws) ≡ []
unfolding labels
labels_raw [] = refl
labels_raw (w ∷ ws) = labels_raw ws

pub placed_raw : (tag : ℕ) (ws : List ℕ) (s : State) → placed tag (map raw ws) s ≡ with_words ws s
unfolding placed place with_word
placed_raw tag [] s =
    let e : s.asm.len + 0 ≡ s.asm.len = omega arith in
    rw (e, written_none)
placed_raw tag (w ∷ ws) s =
    let e : s.asm.len + 4 + 4 * length ws ≡ s.asm.len + 4 * suc (length ws) = omega arith in
    placed_raw tag ws (with_word w s) ∙ rw (e, ← written_cons s.buf s.asm.len w ws)

-- ---- instructions alone

pub targets_instrs : (is : List Instr) → targets (map instr is) ≡ []
unfolding targets
targets_instrs [] = refl
targets_instrs (i ∷ is) = targets_instrs is

pub labels_instrs : (is : List Instr) → labels (map instr is) ≡ []
unfolding labels
labels_instrs [] = refl
labels_instrs (i ∷ is) = labels_instrs is

pub resolved_instrs : (places : ℕ → ℕ) (here : ℕ) (is : List Instr) → resolved places here (map instr is) ≡ map encode is
unfolding resolved
resolved_instrs places here [] = refl
resolved_instrs places here (i ∷ is) = ap (λ (ws : List ℕ). encode i ∷ ws) (resolved_instrs places (here + 4) is)

-- ---- the jumps of a tail

pub words_tail : (t : Tail) → length (words (tail_items t)) ≡ length (targets (tail_items t))
unfolding words targets
words_tail Nothing = refl
words_tail (One k l r) = refl
words_tail (Pair k l r) = refl

pub labels_tail : (t : Tail) → labels (tail_items t) ≡ []
unfolding labels
labels_tail Nothing = refl
labels_tail (One k l r) = refl
labels_tail (Pair k l r) = refl

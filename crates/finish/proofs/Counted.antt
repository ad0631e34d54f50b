-- The numbers of jumps add up to the jump count. Assumes nothing.
use mathlib.Core.Path.{◌≡◌, refl, ap, ◌∙◌}
use mathlib.Core.Bool.{Bool, true, false, cond}
use mathlib.Core.List.{List, [], ◌∷◌}
use Prim.Native.Nat.{ℕ, zero, suc, ◌+◌, ◌*◌, ◌≤◌, ◌<◌}
use native.Mathlib.Omega.{arith}
use borrow.Author.Tests.{eq-eqb}
use lib.Dec.{eqb}
use lib.ListN.{length, get_or, set, replicate, length-set, length-replicate}
use Rattle.isa.specs.Encode.{encode}
use Rattle.refusal.specs.Answer.{accepted, refused}
use Rattle.assembler.specs.Item.{Item, instr, raw, jump, label}
use Rattle.assembler.specs.Jump.{kind_number}
use Rattle.assembler.specs.Label.{with_place, made, one_more}
use Rattle.assembler.specs.State.{State}
use Rattle.assembler.specs.Put.{words, targets, labels, times, with_word, with_jump, with_label, place, placed, put_number, settled, put}
use Rattle.assembler.proofs.Numbers.{fits_each}
use Rattle.finish.specs.Finish.{finish_number, about, finished, FinishOutcome, finish}
use Rattle.finish.specs.Counted.{total, Since, start, placing, finishing, Adds}
use Rattle.finish.proofs.All.{passed}

total_jump : (m : List ℕ) (l : ℕ) → l < length m → total (set m l (one_more (get_or m l 0))) ≡ total m + 1
unfolding total
total_jump [] l h = absurd (omega arith)
total_jump (x ∷ m) zero h = omega arith
total_jump (x ∷ m) (suc l) h = omega (arith, total_jump m l (omega arith))

total_label : (m : List ℕ) (l p : ℕ) → p ≤ 65536 → total (set m l (with_place (get_or m l 0) p)) ≡ total m
unfolding total
total_label [] l p h = refl
total_label (x ∷ m) zero p h = omega arith
total_label (x ∷ m) (suc l) p h = ap (λ (n : ℕ). made x + n) (total_label m l p h)

total_fresh : (n : ℕ) → total (replicate n 0) ≡ 0
unfolding total
total_fresh zero = refl
total_fresh (suc n) = omega (arith, total_fresh n)

-- each jump goes to one of n labels
Low : ℕ → List Item → Type 0
Low n is = (l : ℕ) → 0 < times l (targets is) → l < n

-- a state whose numbers add up
Even : State → Type 0
Even s = (total s.labels ≡ s.asm.jumps) × (length s.labels ≡ 2039)

placed_even : (tag : ℕ) (is : List Item) (s : State) → Low 2039 is → s.asm.len + 4 * length (words is) ≤ 65536 → Even s → Even (placed tag is s)
unfolding Low Even words targets placed place with_word with_jump with_label
placed_even tag [] s h r e = e
placed_even tag (instr i ∷ is) s h r e = placed_even tag is (with_word (encode i) s) h (omega arith) e
placed_even tag (raw w ∷ is) s h r e = placed_even tag is (with_word w s) h (omega arith) e
placed_even tag (jump k l x ∷ is) s h r e =
    let o : ◌≡◌ {A = ℕ} (cond (eqb l l) 1 0) 1 = rw (eq-eqb l l refl) in
    let low : l < 2039 = h l (omega (arith, o)) in
    placed_even tag is (with_jump (kind_number k) l x tag s) (λ m q. h m (omega arith)) (omega arith)
    (omega (arith, total_jump s.labels l (omega arith)), length-set s.labels l (one_more (get_or s.labels l 0)) ∙ e.1)
placed_even tag (label l ∷ is) s h r e =
    placed_even tag is (with_label l s) h r
    (total_label s.labels l s.asm.len (omega arith) ∙ e.0, length-set s.labels l (with_place (get_or s.labels l 0) s.asm.len) ∙ e.1)

settled_even : (k : ℕ) (s t : State) → Even s → (k ≡ 0 → Even t) → Even (settled k s t).state
unfolding settled
settled_even zero s t e f = f refl
settled_even (suc k) s t e f = e

put_even : (tag fault : ℕ) (is : List Item) (s : State) → Even s → Even (put tag fault is s).state
unfolding put Low
put_even tag fault is s e =
    settled_even (put_number fault is s) s (placed tag is s) e
    (λ z. let p = passed fault (labels is) (targets is) (length (words is)) s z in
    placed_even tag is s (λ l q. (fits_each s.labels (targets is) p.numbered l q).0) (omega (arith, p.room_left)) e)

finish_even : (s : State) → Even s → Even (finish s).state
unfolding finish Even
finish_even s e = by (finish_number s) (eqb (finish_number s) 0) (eqb (finish_number s) 5) (eqb (finish_number s) 6)
  where
    by : (k : ℕ) (t u v : Bool) → let o = cond {A = FinishOutcome} t (record { answer = accepted tt; tag = 0; state = finished s }) (cond u (about 5 s) (cond v (about 6 s) (record { answer = refused k 0; tag = 0; state = s }))) in
        (total o.state.labels ≡ o.state.asm.jumps) × (length o.state.labels ≡ 2039)
    by k true u v = e
    by k false true v = e
    by k false false true = e
    by k false false false = e

since_even : {s : State} → Since s → Even s
unfolding Even
since_even (start js b) = (total_fresh 2039, length-replicate {A = ℕ} 2039 0)
since_even (placing {s} h tag fault is) = put_even tag fault is s (since_even h)
since_even (finishing {s} h) = finish_even s (since_even h)

pub adds : Adds
unfolding Even
adds s h = (since_even h).0

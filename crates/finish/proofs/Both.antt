-- An order that is accepted whole is accepted in two parts as well. Assumes nothing.
use mathlib.Core.Path.{◌≡◌, refl, sym, ap, ◌∙◌}
use mathlib.Core.Bool.{Bool, true, false, ◌&&◌, ◌||◌}
use mathlib.Core.List.{List, [], ◌∷◌, ◌++◌}
use Prim.Native.Nat.{ℕ, ◌+◌, ◌*◌, ◌%◌, ◌≤◌}
use native.Mathlib.Omega.{arith}
use borrow.Author.Tests.{le-leb, eqb-true, eqb-false, eq-eqb}
use lib.Dec.{leb, eqb}
use lib.ListN.{length, get_or, set, length-append, length-set}
use lib.Seq.{get_or-set_other}
use Rattle.isa.specs.Encode.{encode}
use Rattle.base.proofs.Bools.{both, join}
use Rattle.refusal.specs.Answer.{accepted}
use Rattle.assembler.specs.Item.{Item, instr, raw, jump, label}
use Rattle.assembler.specs.Jump.{kind_number}
use Rattle.assembler.specs.Bytes.{room}
use Rattle.assembler.specs.Label.{is_set, with_place, one_more}
use Rattle.assembler.specs.State.{State, sound, fits}
use Rattle.assembler.specs.Put.{words, jumps, targets, labels, twice, with_word, with_jump, with_label, place, placed, numbers_sound, numbers_fit, verdict, put}
use Rattle.base.specs.Tests.{member}
use Rattle.assembler.specs.declared.Asm.{Asm}
use Rattle.assembler.proofs.Items.{words_append, targets_append, labels_append, placed_append}
use Rattle.assembler.proofs.Numbers.{fit_sound, fit_first, fit_second}
use Rattle.assembler.proofs.Writes.{length_written}
use Rattle.assembler.proofs.Checks.{v_good}
use Rattle.assembler.proofs.Steps.{put_done}
use Rattle.finish.proofs.Entries.{twice_kept, placed_made}
use Rattle.finish.proofs.All.{accepts, either, jumps_are}

-- ---- what placing does to the record

pub record Moved (is : List Item) (s t : State) : Type 0 where
  pub len : t.asm.len ≡ s.asm.len + 4 * length (words is)
  pub jumped : t.asm.jumps ≡ s.asm.jumps + jumps is
  pub closed : t.asm.closed ≡ s.asm.closed
  pub size : length t.buf ≡ length s.buf
  pub entries : length t.labels ≡ length s.labels

pub moved : (tag : ℕ) (is : List Item) (s : State) → Moved is s (placed tag is s)
unfolding words jumps targets placed place with_word with_jump with_label
moved tag [] s = record { len = omega arith; jumped = omega arith; closed = refl; size = refl; entries = refl }
moved tag (instr i ∷ is) s =
    let m = moved tag is (with_word (encode i) s) in
    record { len = omega (arith, m.len); jumped = m.jumped; closed = m.closed; size = m.size ∙ length_written s.buf s.asm.len (encode i ∷ []); entries = m.entries }
moved tag (raw w ∷ is) s =
    let m = moved tag is (with_word w s) in
    record { len = omega (arith, m.len); jumped = m.jumped; closed = m.closed; size = m.size ∙ length_written s.buf s.asm.len (w ∷ []); entries = m.entries }
moved tag (jump k l r ∷ is) s =
    let m = moved tag is (with_jump (kind_number k) l r tag s) in
    record { len = omega (arith, m.len); jumped = omega (arith, m.jumped); closed = m.closed; size = m.size ∙ length_written s.buf s.asm.len (0 ∷ []); entries = m.entries ∙ length-set s.labels l (one_more (get_or s.labels l 0)) }
moved tag (label l ∷ is) s =
    let m = moved tag is (with_label l s) in
    record { len = m.len; jumped = m.jumped; closed = m.closed; size = m.size; entries = m.entries ∙ length-set s.labels l (with_place (get_or s.labels l 0) s.asm.len) }

-- ---- labels

neither : (a b : Bool) → a ≡ false → b ≡ false → (a || b) ≡ false
neither a b e f = rw (e, f)

-- whether the others can be set doesn't depend on one that is not among them
other : (m : List ℕ) (l x : ℕ) (ls : List ℕ) → member l ls ≡ false → twice (set m l x) ls ≡ twice m ls
unfolding twice
other m l x [] a = refl
other m l x (k ∷ ls) a =
    let p = either (eqb l k) (member l ls) a in
    let d : get_or (set m l x) k 0 ≡ get_or m k 0 = get_or-set_other m l k x 0 (λ z. eqb-false l k p.0 (sym z)) in
    rw (d, other m l x ls p.1)

member_first : (l : ℕ) (xs ys : List ℕ) → member l (xs ++ ys) ≡ false → member l xs ≡ false
member_first l [] ys e = refl
member_first l (x ∷ xs) ys e = let p = either (eqb l x) (member l (xs ++ ys)) e in neither (eqb l x) (member l xs) p.0 (member_first l xs ys p.1)

module _ (tag : ℕ) where
  -- set in one go, or some and then the others
  pub twice_split : (is : List Item) (ls : List ℕ) (s : State) → twice s.labels (labels is ++ ls) ≡ false
      → (twice s.labels (labels is) ≡ false) × (twice (placed tag is s).labels ls ≡ false)
  unfolding labels twice placed place with_word with_jump with_label
  twice_split [] ls s t = (refl, t)
  twice_split (instr i ∷ is) ls s t = twice_split is ls (with_word (encode i) s) t
  twice_split (raw w ∷ is) ls s t = twice_split is ls (with_word w s) t
  twice_split (jump k l r ∷ is) ls s t =
      let p = twice_split is ls (with_jump (kind_number k) l r tag s) (twice_kept s.labels l (labels is ++ ls) ∙ t) in
      (sym (twice_kept s.labels l (labels is)) ∙ p.0, p.1)
  twice_split (label l ∷ is) ls s t =
      let x = with_place (get_or s.labels l 0) s.asm.len in
      let p = either (is_set (get_or s.labels l 0)) (member l (labels is ++ ls) || twice s.labels (labels is ++ ls)) t in
      let q = either (member l (labels is ++ ls)) (twice s.labels (labels is ++ ls)) p.1 in
      let a = member_first l (labels is) ls q.0 in
      let r = twice_split is ls (with_label l s) (other s.labels l x (labels is ++ ls) q.0 ∙ q.1) in
      (neither _ _ p.0 (neither _ _ a (sym (other s.labels l x (labels is) a) ∙ r.0)), r.1)

-- ---- orders

-- a record over a buffer of n bytes that has room for so much
pub sound_is : (n : ℕ) (a : Asm) → a.len ≤ room n → a.len % 4 ≡ 0 → a.jumps ≤ 4096 → sound n a ≡ true
unfolding sound
sound_is n a e f g = rw (le-leb _ _ e, eq-eqb _ _ f, le-leb _ _ g)

sound_even : (n : ℕ) (a : Asm) → sound n a ≡ true → a.len % 4 ≡ 0
unfolding sound
sound_even n a e =
    let p = both (leb a.len (room n)) (eqb (a.len % 4) 0 && leb a.jumps 4096) e in
    eqb-true _ _ (both (eqb (a.len % 4) 0) (leb a.jumps 4096) p.1).0

fits_is : (n : ℕ) (a : Asm) (w j : ℕ) → a.len + 4 * w ≤ room n → a.jumps + j ≤ 4096 → fits n a w j ≡ true
unfolding fits
fits_is n a w j e f = rw (le-leb _ _ e, le-leb _ _ f)

good : (ls ts : List ℕ) (w : ℕ) (s : State) → s.asm.closed ≡ false → sound (length s.buf) s.asm ≡ true → twice s.labels ls ≡ false → numbers_fit s.labels ts ≡ true
    → s.asm.len + 4 * w ≤ room (length s.buf) → s.asm.jumps + length ts ≤ 4096 → verdict 0 ls ts w s ≡ 0
good ls ts w s c v e n r f =
    let x = join (numbers_sound s.labels ts) _ (fit_sound s.labels ts n) v in
    let y = join (numbers_fit s.labels ts) _ n (fits_is (length s.buf) s.asm w (length ts) r f) in
    sym (v_good 0 _ _ _ _ c x refl e y)

abbrev pub Accepts : (tag : ℕ) → List Item → State → State → Type 0
Accepts tag is s t = put tag 0 is s ≡ record { answer = accepted tt; state = t }

-- An accepted order is two, wherever its items are parted.
pub put_split : (tag : ℕ) (is js : List Item) (s u : State) → Accepts tag (is ++ js) s u → Accepts tag is s (placed tag is s) × Accepts tag js (placed tag is s) u
put_split tag is js s u e =
    let p = accepts tag 0 (is ++ js) s u e in
    let t = placed tag is s in
    let m = moved tag is s in
    let w : length (words (is ++ js)) ≡ length (words is) + length (words js) = ap length (words_append is js) ∙ length-append (words is) (words js) in
    let j : jumps is ≡ length (targets is) = jumps_are is in
    let c : room (length t.buf) ≡ room (length s.buf) = ap room m.size in
    let l = twice_split tag is (labels js) s (ap (twice s.labels) (sym (labels_append is js)) ∙ p.0.new) in
    let v = sound_even (length s.buf) s.asm p.0.well in
    let g : length (targets (is ++ js)) ≡ length (targets is) + length (targets js) = ap length (targets_append is js) ∙ length-append (targets is) (targets js) in
    let n : numbers_fit s.labels (targets is ++ targets js) ≡ true = ap (numbers_fit s.labels) (sym (targets_append is js)) ∙ p.0.numbered in
    let q = fit_second s.labels (targets is) (targets js) n t.labels (placed_made tag is s (omega (arith, p.0.room_left, w))) in (
      sym (put_done tag 0 is s t (good (labels is) (targets is) (length (words is)) s p.0.unclosed p.0.well l.0 (fit_first s.labels (targets is) (targets js) n) (omega (arith, p.0.room_left, w)) (omega (arith, p.0.jumps_left, g))) refl),
      sym (put_done tag 0 js t u
          (good (labels js) (targets js) (length (words js)) t (m.closed ∙ p.0.unclosed) (sound_is (length t.buf) t.asm (omega (arith, p.0.room_left, m.len, w, c)) (omega (arith, v, m.len)) (omega (arith, p.0.jumps_left, m.jumped, g, j))) l.1 q (omega (arith, p.0.room_left, m.len, w, c)) (omega (arith, p.0.jumps_left, m.jumped, g, j)))
          (p.1 ∙ placed_append tag is js s)),
    )

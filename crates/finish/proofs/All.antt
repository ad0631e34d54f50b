-- What an accepted `put` leaves. Assumes nothing.
use mathlib.Core.Path.{◌≡◌, refl, sym, ap, subst, ◌∙◌}
use mathlib.Core.Bool.{Bool, true, false, ◌&&◌, ◌||◌, cond}
use mathlib.Core.List.{List, [], ◌∷◌, ◌++◌, append-nil, append_assoc}
use Prim.Native.Nat.{ℕ, zero, suc, ◌+◌, ◌*◌, ◌≤◌}
use native.Mathlib.Omega.{arith}
use borrow.Author.Tests.{leb-true, eqb-true, eqb-false}
use lib.Dec.{leb, eqb}
use lib.ListN.{length, get_or, set, replicate, length-append, length-replicate, get_or-replicate}
use lib.Seq.{get_or-set_other}
use Rattle.isa.specs.Encode.{encode}
use Rattle.base.proofs.Bools.{both}
use Rattle.refusal.specs.Answer.{accepted}
use Rattle.assembler.specs.Item.{Item, instr, raw, jump, label}
use Rattle.assembler.specs.Jump.{kind_number}
use Rattle.assembler.specs.Bytes.{room}
use Rattle.assembler.specs.Label.{is_set, with_place}
use Rattle.assembler.specs.Memory.{jumps_of}
use Rattle.assembler.proofs.Tags.{tags_of}
use Rattle.assembler.specs.State.{State, Outcome, sound, fits}
use Rattle.assembler.specs.Put.{words, jumps, targets, labels, twice, with_word, with_jump, with_label, place, placed, numbers_sound, numbers_fit, ranked, verdict, put_number, settled, put}
use Rattle.base.specs.Tests.{member}
use Rattle.assembler.specs.Resolved.{label_place, jumps_in}
use Rattle.assembler.proofs.Tests.{no}
use Rattle.assembler.proofs.Items.{words_append, jumps_append}
use Rattle.assembler.proofs.Writes.{length_written, written_none}
pub use Rattle.finish.proofs.Wrong.{zero_then, zero_else}
use Rattle.finish.proofs.Represents.{Represents, Labelled}
use Rattle.finish.proofs.Entries.{twice_kept}
use Rattle.finish.proofs.Each.{word_represents, jump_represents, label_represents}

-- ---- labels set one after the other

pub either : (a b : Bool) → (a || b) ≡ false → (a ≡ false) × (b ≡ false)
either true b e = no (sym e)
either false b e = (refl, e)

still : (m : List ℕ) (l x : ℕ) (ls : List ℕ) → member l ls ≡ false → twice m ls ≡ false → twice (set m l x) ls ≡ false
unfolding twice
still m l x [] a t = refl
still m l x (k ∷ ls) a t =
    let p = either (eqb l k) (member l ls) a in
    let q = either (is_set (get_or m k 0)) (member k ls || twice m ls) t in
    let r = either (member k ls) (twice m ls) q.1 in
    let d : get_or (set m l x) k 0 ≡ get_or m k 0 = get_or-set_other m l k x 0 (λ z. eqb-false l k p.0 (sym z)) in
    rw (d, q.0, r.0) (still m l x ls p.1 r.1)

-- ---- an accepted order

pub record Passed (fault : ℕ) (ls ts : List ℕ) (w : ℕ) (s : State) : Type 0 where
  pub unclosed : s.asm.closed ≡ false
  pub well : sound (length s.buf) s.asm ≡ true
  pub no_fault : fault ≡ 0
  pub new : twice s.labels ls ≡ false
  pub numbered : numbers_fit s.labels ts ≡ true
  pub room_left : s.asm.len + 4 * w ≤ room (length s.buf)
  pub jumps_left : s.asm.jumps + length ts ≤ 4096

passed_of : (fault : ℕ) (t : Bool) (x : ℕ) → eqb fault 0 ≡ t → cond t x fault ≡ 0 → (fault ≡ 0) × (x ≡ 0)
passed_of fault true x q e = (eqb-true fault 0 q, e)
passed_of fault false x q e = absurd (eqb-false fault 0 q e)

pub passed : (fault : ℕ) (ls ts : List ℕ) (w : ℕ) (s : State) → verdict fault ls ts w s ≡ 0 → Passed fault ls ts w s
unfolding ranked fits
passed fault ls ts w s e =
    let n = room (length s.buf) in
    let e1 = zero_then s.asm.closed 7 _ e in
    let e2 = zero_then (eqb fault 1) 0 _ e1.1 in
    let e3 = zero_then (eqb fault 3) 2 _ e2.1 in
    let e4 = zero_else (numbers_sound s.labels ts && sound (length s.buf) s.asm) _ 1 e3.1 in
    let e5 = passed_of fault (eqb fault 0) _ refl e4.1 in
    let e6 = zero_then (twice s.labels ls) 3 _ e5.1 in
    let e7 = zero_else (numbers_fit s.labels ts && (leb (s.asm.len + 4 * w) n && leb (s.asm.jumps + length ts) 4096)) 0 6 e6.1 in
    let g = both (numbers_fit s.labels ts) _ e7.0 in
    let f = both (leb (s.asm.len + 4 * w) n) (leb (s.asm.jumps + length ts) 4096) g.1 in
    let h = both (numbers_sound s.labels ts) _ e4.0 in
    record { unclosed = e1.0; well = h.1; no_fault = e5.0; new = e6.0; numbered = g.0; room_left = leb-true _ _ f.0; jumps_left = leb-true _ _ f.1 }

settled_accepts : (k : ℕ) (s u t : State) → settled k s u ≡ record { answer = accepted tt; state = t } → (k ≡ 0) × (t ≡ u)
unfolding settled
settled_accepts zero s u t e = (refl, sym (ap (λ (o : Outcome). o.state) e))
settled_accepts (suc k) s u t e = let f = ap (λ (o : Outcome). o.answer) e in let z : ◌≡◌ {A = ℕ} 0 1 = cc in absurd (omega arith)

-- What is accepted is placed.
pub accepts : (tag fault : ℕ) (is : List Item) (s t : State) → put tag fault is s ≡ record { answer = accepted tt; state = t }
    → Passed fault (labels is) (targets is) (length (words is)) s × (t ≡ placed tag is s)
unfolding put
accepts tag fault is s t e =
    let p = settled_accepts (put_number fault is s) s (placed tag is s) t e in
    (passed fault (labels is) (targets is) (length (words is)) s p.0, p.1)

-- ---- all of its items

-- one more before the rest
module _ (b : List ℕ) (tag : ℕ) where
  regroup : (is : List Item) (i : Item) (js : List Item) (us vs : List ℕ) (t : State) → us ≡ vs → Represents b ((is ++ (i ∷ [])) ++ js) us t → Represents b (is ++ (i ∷ js)) vs t
  regroup is i js us vs t e a = subst (λ (x : List Item). Represents b x vs t) (append_assoc is (i ∷ []) js) (subst (λ (x : List ℕ). Represents b ((is ++ (i ∷ [])) ++ js) x t) e a)

  longer : (is : List Item) (i : Item) (w : ℕ) → words (i ∷ []) ≡ w ∷ [] → length (words (is ++ (i ∷ []))) ≡ length (words is) + 1
  longer is i w e = ap length (words_append is (i ∷ []) ∙ ap (λ (x : List ℕ). words is ++ x) e) ∙ length-append (words is) (w ∷ [])

  more : (is : List Item) (i : Item) (n : ℕ) → jumps (i ∷ []) ≡ n → jumps (is ++ (i ∷ [])) ≡ jumps is + n
  more is i n e = jumps_append is (i ∷ []) ∙ ap (λ (x : ℕ). jumps is + x) e

  pub all_represents : (js is : List Item) (ts : List ℕ) (s : State) → Represents b is ts s → Labelled js → twice s.labels (labels js) ≡ false
      → 4 * (length (words is) + length (words js)) ≤ room (length b) → jumps is + jumps js ≤ 4096
      → Represents b (is ++ js) (ts ++ replicate (jumps js) tag) (placed tag js s)
  unfolding words jumps targets labels twice placed place with_word with_jump with_label jumps_in label_place
  all_represents [] is ts s a h t r f = rw (append-nil is, append-nil ts) a
  all_represents (instr i ∷ js) is ts s a h t r f =
      let n = longer is (instr i) (encode i) refl in
      let m = more is (instr i) 0 refl in
      regroup is (instr i) js _ _ _ refl
      (all_represents js (is ++ (instr i ∷ [])) ts (with_word (encode i) s) (word_represents b is ts s a (instr i) (encode i) refl refl (λ x. refl) (λ l x. refl) refl (omega arith)) h t (omega arith) (omega arith))
  all_represents (raw w ∷ js) is ts s a h t r f =
      let n = longer is (raw w) w refl in
      let m = more is (raw w) 0 refl in
      regroup is (raw w) js _ _ _ refl
      (all_represents js (is ++ (raw w ∷ [])) ts (with_word w s) (word_represents b is ts s a (raw w) w refl refl (λ x. refl) (λ l x. refl) refl (omega arith)) h t (omega arith) (omega arith))
  all_represents (jump k l x ∷ js) is ts s a h t r f =
      let n = longer is (jump k l x) 0 refl in
      let m = more is (jump k l x) 1 refl in
      regroup is (jump k l x) js _ _ _ (append_assoc ts (tag ∷ []) (replicate (jumps js) tag))
      (all_represents js (is ++ (jump k l x ∷ [])) (ts ++ (tag ∷ [])) (with_jump (kind_number k) l x tag s)
      (jump_represents b is ts s a (kind_number k) l x tag (jump k l x) h.0 refl refl refl (λ y. refl) (λ z y. refl) (omega arith) (omega arith)) h.1 (twice_kept s.labels l (labels js) ∙ t) (omega arith) (omega arith))
  all_represents (label l ∷ js) is ts s a h t r f =
      let e : words (is ++ (label l ∷ [])) ≡ words is = words_append is (label l ∷ []) ∙ append-nil (words is) in
      let n : length (words (is ++ (label l ∷ []))) ≡ length (words is) = ap length e in
      let m = more is (label l) 0 refl in
      let p = either (is_set (get_or s.labels l 0)) (member l (labels js) || twice s.labels (labels js)) t in
      let q = either (member l (labels js)) (twice s.labels (labels js)) p.1 in
      regroup is (label l) js _ _ _ refl
      (all_represents js (is ++ (label l ∷ [])) ts (with_label l s) (label_represents b is ts s a l h.0 p.0) h.1 (still s.labels l (with_place (get_or s.labels l 0) s.asm.len) (labels js) q.0 q.1) (omega arith) (omega arith))

pub jumps_are : (is : List Item) → jumps is ≡ length (targets is)
unfolding jumps
jumps_are is = refl

-- An accepted order: its items stand behind those before it.
pub put_represents : (b : List ℕ) (is js : List Item) (ts : List ℕ) (tag fault : ℕ) (s t : State) → Represents b is ts s → Labelled js → put tag fault js s ≡ record { answer = accepted tt; state = t }
    → Represents b (is ++ js) (ts ++ replicate (jumps js) tag) t
put_represents b is js ts tag fault s t a h e =
    let p = accepts tag fault js s t e in
    let q = p.0 in
    let n : length s.buf ≡ length b = ap length a.buf ∙ length_written b 0 (words is) in
    let r : s.asm.len + 4 * length (words js) ≤ room (length b) = rw (← n) q.room_left in
    subst (λ (x : State). Represents b (is ++ js) (ts ++ replicate (jumps js) tag) x) (sym p.1)
    (all_represents b tag js is ts s a h q.new (omega (arith, a.len)) (omega (arith, a.count, q.jumps_left, jumps_are js)))

-- An empty state, whatever its jump memory holds.
pub fresh_represents : (b js : List ℕ) → length js ≡ 20480 → Represents b [] [] (record { asm = record { len = 0; jumps = 0; closed = false }; labels = replicate 2039 0; jumps = js; buf = b })
unfolding words jumps targets jumps_in label_place jumps_of tags_of
fresh_represents b js n = record {
  unclosed = refl;
  len = refl;
  within = omega arith;
  buf = sym (written_none b 0);
  count = refl;
  few = omega arith;
  noted = refl;
  tagged = refl;
  wide_jumps = n;
  set_labels = λ l h. omega (arith, get_or-replicate {A = ℕ} 2039 l 0 0 h);
  wide_labels = length-replicate {A = ℕ} 2039 0;
}

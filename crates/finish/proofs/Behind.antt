-- Bytes behind those that count never change. Assumes nothing.
use mathlib.Core.Path.{◌≡◌, refl, ◌∙◌}
use mathlib.Core.Bool.{Bool, true, false, cond}
use mathlib.Core.List.{List, [], ◌∷◌}
use Prim.Native.Nat.{ℕ, zero, suc, ◌+◌, ◌*◌, ◌≤◌, ◌<◌}
use native.Mathlib.Omega.{arith}
use borrow.Author.Tests.{leb-true, eqb-true}
use lib.Dec.{leb, eqb}
use lib.ListN.{length, set, drop}
use lib.Seq.{sets, drop-set-lt}
use Rattle.isa.specs.Encode.{encode}
use Rattle.base.proofs.Bools.{both}
use Rattle.refusal.specs.Answer.{accepted, refused}
use Rattle.assembler.specs.Item.{Item, instr, raw, jump, label}
use Rattle.assembler.specs.Jump.{kind_number}
use Rattle.assembler.specs.Bytes.{bytes, written, room}
use Rattle.assembler.specs.Memory.{jump_at, jumps_of}
use Rattle.assembler.specs.State.{State, sound}
use Rattle.assembler.specs.Put.{words, targets, labels, with_word, with_jump, with_label, place, placed, put_number, settled, put}
use Rattle.assembler.proofs.Writes.{length_bytes}
use Rattle.finish.specs.Finish.{FinishOutcome, jump_word, patched, finish_number, about, finished, finish}
use Rattle.finish.proofs.Wrong.{zero_then, zero_else}
use Rattle.finish.proofs.All.{passed}
use Rattle.finish.proofs.Resolves.{finish_right}

sets_behind : (n : ℕ) (b : List ℕ) (at : ℕ) (bs : List ℕ) → at + length bs ≤ n → drop n (sets b at bs) ≡ drop n b
sets_behind n b at [] h = refl
sets_behind n b at (x ∷ bs) h = sets_behind n (set b at x) (suc at) bs (omega arith) ∙ drop-set-lt n b at x (omega arith)

-- words written before them
pub written_behind : (n : ℕ) (b : List ℕ) (at : ℕ) (ws : List ℕ) → at + 4 * length ws ≤ n → drop n (written b at ws) ≡ drop n b
unfolding written
written_behind n b at ws h = sets_behind n b at (bytes ws) (omega (arith, length_bytes ws))

word_behind : (n : ℕ) (b : List ℕ) (at w : ℕ) → at + 4 ≤ n → drop n (written b at (w ∷ [])) ≡ drop n b
word_behind n b at w h = written_behind n b at (w ∷ []) (omega arith)

placed_behind : (n tag : ℕ) (is : List Item) (s : State) → s.asm.len + 4 * length (words is) ≤ n → drop n (placed tag is s).buf ≡ drop n s.buf
unfolding words placed place with_word with_jump with_label
placed_behind n tag [] s h = refl
placed_behind n tag (instr i ∷ is) s h = placed_behind n tag is (with_word (encode i) s) (omega arith) ∙ word_behind n s.buf s.asm.len (encode i) (omega arith)
placed_behind n tag (raw w ∷ is) s h = placed_behind n tag is (with_word w s) (omega arith) ∙ word_behind n s.buf s.asm.len w (omega arith)
placed_behind n tag (jump k l r ∷ is) s h = placed_behind n tag is (with_jump (kind_number k) l r tag s) (omega arith) ∙ word_behind n s.buf s.asm.len 0 (omega arith)
placed_behind n tag (label l ∷ is) s h = placed_behind n tag is (with_label l s) h

settled_behind : (n k : ℕ) (s t : State) → (k ≡ 0 → drop n t.buf ≡ drop n s.buf) → drop n (settled k s t).state.buf ≡ drop n s.buf
unfolding settled
settled_behind n zero s t h = h refl
settled_behind n (suc k) s t h = refl

-- An order writes none of them.
pub put_behind : (tag fault : ℕ) (is : List Item) (s : State) → drop (room (length s.buf)) (put tag fault is s).state.buf ≡ drop (room (length s.buf)) s.buf
unfolding put
put_behind tag fault is s =
    settled_behind (room (length s.buf)) (put_number fault is s) s (placed tag is s)
    (λ e. placed_behind (room (length s.buf)) tag is s (passed fault (labels is) (targets is) (length (words is)) s e).room_left)

patched_behind : (n : ℕ) (labels b m : List ℕ) (i c : ℕ) → ((k : ℕ) → k < c → (jump_at m (i + k)).word + 4 ≤ n) → drop n (patched labels b (jumps_of m i c)) ≡ drop n b
unfolding patched jumps_of
patched_behind n labels b m i zero h = refl
patched_behind n labels b m i (suc c) h =
    let z : i + 0 ≡ i = omega arith in
    let f : (jump_at m i).word + 4 ≤ n = rw z at (h 0 (omega arith)) in
    patched_behind n labels (written b (jump_at m i).word (jump_word labels (jump_at m i) ∷ [])) m (i + 1) c (λ k q. rw (next i k) at (h (suc k) (omega arith)))
    ∙ word_behind n b (jump_at m i).word (jump_word labels (jump_at m i)) f
  where
    next : (i k : ℕ) → i + suc k ≡ i + 1 + k
    next i k = omega arith

sound_room : (s : State) → sound (length s.buf) s.asm ≡ true → s.asm.len ≤ room (length s.buf)
unfolding sound
sound_room s e = leb-true _ _ (both (leb s.asm.len (room (length s.buf))) _ e).0

finished_behind : (s : State) → finish_number s ≡ 0 → drop (room (length s.buf)) (finished s).buf ≡ drop (room (length s.buf)) s.buf
unfolding finish_number
finished_behind s e =
    let e1 = zero_then s.asm.closed 7 _ e in
    let e2 = zero_else (sound (length s.buf) s.asm) _ 1 e1.1 in
    let r = sound_room s e2.0 in
    patched_behind (room (length s.buf)) s.labels s.buf s.jumps 0 s.asm.jumps
    (λ k q. let z : 0 + k ≡ k = omega arith in rw z (inside k q r))
  where
    inside : (k : ℕ) → k < s.asm.jumps → s.asm.len ≤ room (length s.buf) → (jump_at s.jumps k).word + 4 ≤ room (length s.buf)
    inside k q r = omega (arith, (finish_right s e k q).good.inside)

-- Nor does finishing.
pub finish_behind : (s : State) → drop (room (length s.buf)) (finish s).state.buf ≡ drop (room (length s.buf)) s.buf
unfolding finish
finish_behind s = by (finish_number s) (eqb (finish_number s) 0) (eqb (finish_number s) 5) (eqb (finish_number s) 6) refl
  where
    by : (k : ℕ) (t u v : Bool) → eqb (finish_number s) 0 ≡ t
        → drop (room (length s.buf)) (cond {A = FinishOutcome} t (record { answer = accepted tt; tag = 0; state = finished s }) (cond u (about 5 s) (cond v (about 6 s) (record { answer = refused k 0; tag = 0; state = s })))).state.buf ≡ drop (room (length s.buf)) s.buf
    by k true u v e = finished_behind s (eqb-true (finish_number s) 0 e)
    by k false true v e = refl
    by k false false true e = refl
    by k false false false e = refl

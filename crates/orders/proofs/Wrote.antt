-- Words written one after the other are those of the instructions. Assumes nothing.
use mathlib.Core.Path.{◌≡◌, refl, sym, ap, ap₂, subst, ◌∙◌}
use mathlib.Core.Bool.{Bool, true, false, cond}
use mathlib.Core.List.{List, [], ◌∷◌, ◌++◌, map, map-append, append-nil}
use Prim.Native.Nat.{ℕ, ◌+◌, ◌*◌, ◌^◌, ◌≤◌, ◌<◌}
use native.Mathlib.Nat.{mod-eq_of_lt}
use native.Mathlib.Omega.{arith}
use borrow.Author.Tests.{lt-ltb, le-ltb, le-leb, leb-true}
use lib.IntN.{pos}
use lib.ListN.{length, get_or, length-append, length-map, length-drop, take, drop}
use lib.Seq.{length-take-le, drop-length, drop-drop, take-suc}
use native.Mathlib.Numerals.{add-one}
use borrow.Rule.Slice.PartMut.{put_mid}
use Rattle.isa.specs.Immediate.{hi, lo}
use Rattle.isa.specs.Instr.{Instr, R, I, U, ADD, LUI, operands, registers_hold, valid}
use Rattle.isa.specs.Encode.{encode}
use Rattle.machine.proofs.Placed.{Valids}
use Rattle.encoder.specs.Answer.{Encoded, word_answer, encoded}
use Rattle.std.specs.Prelude.{Ok, Err}
use Rattle.refusal.specs.declared.Refusal.TheVariants.{Register, Value}
use Rattle.encoder.proofs.Answers.{good, bad_value, bad_register}
use Rattle.assembler.specs.Bytes.{bytes, written, fitted, room}
use Rattle.assembler.proofs.Writes.{length_written, written_is, written_none, written_then}
use Rattle.accesses.specs.Code.{low_op, point_code, access_code}
use Rattle.accesses.specs.Plans.{answer_of, word_of, access_instr}
use Rattle.accesses.specs.Inner.Plans.{one_code}
use Rattle.accesses.specs.declared.Cell.{Cell}
use Rattle.accesses.proofs.Collect.{answered, li_far, word as answers_word}
use Rattle.orders.specs.Wrote.{word, roomy, offset}
use Rattle.orders.specs.Inner.Wrote.{Puts, Fits, Is, far_code}

-- words written at the start
start_written : (b ws : List ℕ) → 4 * length ws ≤ length b → written b 0 ws ≡ bytes ws ++ drop (4 * length ws) b
start_written b ws h =
    let z : 0 + 4 * length ws ≡ 4 * length ws = omega arith in
    written_is b 0 ws (omega arith) ∙ ap (λ (k : ℕ). bytes ws ++ drop k b) z

-- a word written over a part of the buffer, all of it
part_written : (b : List ℕ) (at k w : ℕ) {p : List ℕ} → k ≡ 4 → at + 4 ≤ length b → p ≡ fitted (take k (drop at b)) 0 (w ∷ []) → put_mid at k b p ≡ written b at (w ∷ [])
part_written b at k w {p} i h e =
    let m : List ℕ = take k (drop at b) in
    let n : length m ≡ 4 = length-take-le k (drop at b) (rw (length-drop at b) (omega (arith, i))) ∙ i in
    let q : p ≡ bytes (w ∷ []) =
    rw (le-leb 4 (room (length m)) (omega (arith, n))) at e
    ∙ start_written m (w ∷ []) (omega (arith, n))
    ∙ ap (λ (l : List ℕ). bytes (w ∷ []) ++ l) (ap (λ (j : ℕ). drop j m) (sym n) ∙ drop-length m)
    ∙ append-nil (bytes (w ∷ [])) in
    ap₂ (λ (x y : List ℕ). take at b ++ (x ++ y)) q (drop-drop k at b ∙ ap (λ (j : ℕ). drop (at + j) b) i) ∙ sym (written_is b at (w ∷ []) h)

-- one answer's word more, behind those before it
pub put_next : (b m : List ℕ) (len i k w : ℕ) (es : List Encoded) {p : List ℕ} → k ≡ 4 → i < length es → len + 4 * length es ≤ length b → m ≡ written b len (map word_of (take i es)) → w ≡ word_of (get_or es i (Ok 0))
    → p ≡ fitted (take k (drop (len + 4 * i) m)) 0 (w ∷ []) → put_mid (len + 4 * i) k m p ≡ written b len (map word_of (take (i + 1) es))
put_next b m len i k w es c l h e g q =
    let n : length m ≡ length b = ap length e ∙ length_written b len (map word_of (take i es)) in
    let j : length (map word_of (take i es)) ≡ i = length-map (take i es) word_of ∙ length-take-le i es (omega arith) in
    let r : map word_of (take (i + 1) es) ≡ map word_of (take i es) ++ (w ∷ []) =
    ap (map word_of) (rw add-one (take-suc es i (Ok 0) l)) ∙ map-append word_of (take i es) (get_or es i (Ok 0) ∷ []) ∙ ap (λ (x : ℕ). map word_of (take i es) ++ (x ∷ [])) (sym g) in
    rw r (written_then b len (map word_of (take i es)) (w ∷ []) e (rw j (part_written m (len + 4 * i) k w c (omega (arith, n)) q)))

-- ---- the words one after the other

pub put_none : (b : List ℕ) (len : ℕ) → Puts [] b len b len
put_none b len = (sym (written_none b len), omega arith)

pub put_then : (b : List ℕ) (len : ℕ) (xs ys : List ℕ) {c d : List ℕ} {k r : ℕ} → Puts xs b len c k → Puts ys c k d r → Puts (xs ++ ys) b len d r
put_then b len xs ys {c} p q = (
  written_then b len xs ys p.0 (q.0 ∙ ap (λ (m : ℕ). written c m ys) p.1),
  omega (arith, p.1, q.1, length-append xs ys),
)

-- ---- the encoder's answers

-- told by the answer itself
pub is_answer : (e : Encoded) (i : Instr) → e ≡ answer_of i → Is e i
is_answer e i h = ap word_answer h ∙ by (registers_hold (operands i)) (valid i) refl refl
  where
    by : (b c : Bool) → registers_hold (operands i) ≡ b → valid i ≡ c → word_answer (cond b (cond c (Ok (encode i)) (Err (record { why = Value; place = 0 }))) (Err (record { why = Register; place = 0 }))) ≡ encoded i
    by true true p q = good i q (encode i) refl p
    by true false p q = bad_value i p q
    by false c p q = bad_register i p

-- an answer and its instruction
pub record Told : Type 0 where
  pub answer : Encoded
  pub of : Instr
  pub is : Is answer of

abbrev pub told : (e : Encoded) (i : Instr) → Is e i → Told
told e i h = record { answer = e; of = i; is = h }

same_words : (ts : List Told) → map word_of (map (λ t. t.answer) ts) ≡ map word (map (λ t. t.of) ts)
same_words [] = refl
same_words (t ∷ ts) = ap₂ ◌∷◌ (ap word_of (answered t.answer t.of t.is)) (same_words ts)

-- words of answers are those of their instructions
pub put_code : (ts : List Told) (b : List ℕ) (len : ℕ) (d : List ℕ) (r : ℕ) → Puts (map word_of (map (λ t. t.answer) ts)) b len d r → Puts (map word (map (λ t. t.of) ts)) b len d r
put_code ts b len d r g = subst (λ (l : List ℕ). Puts l b len d r) (same_words ts) g

pub wrote_then : (b : List ℕ) (len : ℕ) (is js : List Instr) {c d : List ℕ} {k r : ℕ} → Puts (map word is) b len c k → Puts (map word js) c k d r → Puts (map word (is ++ js)) b len d r
wrote_then b len is js {d = d} {r = r} p q =
    subst (λ (l : List ℕ). Puts l b len d r) (sym (map-append word is js)) (put_then b len (map word is) (map word js) p q)

-- ---- where the longest order has room

module _ (b : List ℕ) (len : ℕ) (is : List Instr) {t : Bool} (h : t ≡ roomy len b) where
  pub roomy_fits : t ≡ true → length is ≤ 11 → Fits is len b
  roomy_fits e s = let l = leb-true (len + 44) (room (length b)) (sym h ∙ e) in omega (arith, l, s)

-- an index whose offset is not cut
pub offset_small : (i : ℕ) → i < 2 ^ 29 → offset i ≡ 8 * i
offset_small i h = ap (λ (n : ℕ). 8 * n) (mod-eq_of_lt h)

-- ---- accesses: one word, or four

module _ (k : Cell) (r base n : ℕ) where
  pub near_is : n < 2048 → one_code k r base n ≡ access_instr k r base (pos n) ∷ []
  unfolding access_code
  near_is l = rw (lt-ltb n 2048 l)

  pub far_is : 2048 ≤ n → n < 2 ^ 32 → one_code k r base n ≡ far_code (access_instr k r 5 (pos 0)) base n
  unfolding access_code point_code
  far_is l m =
      rw (le-ltb n 2048 l)
      (sym (ap (λ (x : ℕ). U LUI 5 (pos (hi x)) ∷ I (low_op (pos n)) 5 5 (lo x) ∷ R ADD 5 5 base ∷ access_instr k r 5 (pos 0) ∷ []) (sym (mod-eq_of_lt m))
      ∙ ap (λ (is : List Instr). (is ++ (R ADD 5 5 base ∷ [])) ++ (access_instr k r 5 (pos 0) ∷ [])) (li_far 5 (pos n) l)))

-- ---- an order's words are its instructions'

pub words_valid : (is : List Instr) → Valids is → map word is ≡ map encode is
words_valid [] v = refl
words_valid (i ∷ is) v = ap₂ ◌∷◌ (ap word_of (answers_word i v.0)) (words_valid is v.1)

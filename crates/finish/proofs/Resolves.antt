-- What an accepted finish leaves: the items' words, each jump at its label's place; and every jump is valid. Assumes nothing.
use mathlib.Core.Path.{◌≡◌, refl, ap, subst, ◌∙◌}
use mathlib.Core.Bool.{Bool, true, false, cond}
use mathlib.Core.List.{List, [], ◌∷◌}
use mathlib.Core.Option
use mathlib.Core.Option.{Option, none, some}
use Prim.Native.Nat.{ℕ, zero, suc, ◌+◌, ◌*◌, ◌%◌, ◌^◌, ◌<◌}
use native.Mathlib.Omega.{arith}
use borrow.Author.Tests.{eqb-true, ltb-false}
use lib.Dec.{eqb, ltb}
use lib.IntN.{sub_ℕ}
use lib.ListN.{length, get_or}
use Rattle.base.proofs.Each.{Each}
use Rattle.isa.proofs.Validity.{Valid}
use Rattle.refusal.specs.Answer.{accepted, refused}
use Rattle.assembler.specs.Item.{Item, instr, raw, jump, label}
use Rattle.assembler.specs.Jump.{jump_instr}
use Rattle.assembler.specs.Bytes.{written}
use Rattle.assembler.specs.Label.{is_set, place_of}
use Rattle.assembler.specs.Memory.{Jump, jump_at, jumps_of}
use Rattle.assembler.specs.State.{State, sound}
use Rattle.assembler.specs.Put.{targets, times}
use Rattle.assembler.specs.Resolved.{resolved, label_place, jumps_in, place_in}
use Rattle.assembler.specs.declared.JumpKind.{JumpKind}
use Rattle.assembler.proofs.Tests.{no}
use Rattle.finish.specs.Finish.{labels_good, first_with, finish_number, about, ended, finished, finish}
use Rattle.finish.proofs.Wrong.{zero_then, zero_else, Right, right}
use Rattle.finish.proofs.Ends.{each_right}
use Rattle.finish.proofs.Represents.{Represents, Labelled, Reaching, entry}
use Rattle.finish.proofs.Append.{label_within, resolved_same}
use Rattle.finish.proofs.Over.{at_label, patched_resolved, kind_back}

module _ (s : State) where
  ended_accepts : (k : ℕ) → (ended k s).answer ≡ accepted tt → (k ≡ 0) × ((ended k s).state ≡ finished s)
  ended_accepts k e = by (eqb k 0) (eqb k 5) (eqb k 6) refl e
    where
      by : (t u v : Bool) → eqb k 0 ≡ t
          → (cond t (record { answer = accepted tt; tag = 0; state = finished s }) (cond u (about 5 s) (cond v (about 6 s) (record { answer = refused k 0; tag = 0; state = s })))).answer ≡ accepted tt
          → (k ≡ 0) × ((cond t (record { answer = accepted tt; tag = 0; state = finished s }) (cond u (about 5 s) (cond v (about 6 s) (record { answer = refused k 0; tag = 0; state = s })))).state ≡ finished s)
      by true u v q f = (eqb-true k 0 q, refl)
      by false true v q f = let z : ◌≡◌ {A = ℕ} 0 1 = cc in absurd (omega arith)
      by false false true q f = let z : ◌≡◌ {A = ℕ} 0 1 = cc in absurd (omega arith)
      by false false false q f = let z : ◌≡◌ {A = ℕ} 0 1 = cc in absurd (omega arith)

  -- an accepted finish closes the record and writes each jump's word
  pub finish_accepts : (finish s).answer ≡ accepted tt → (finish_number s ≡ 0) × ((finish s).state ≡ finished s)
  unfolding finish
  finish_accepts e = ended_accepts (finish_number s) e

  -- and every jump was found right
  pub finish_right : finish_number s ≡ 0 → (i : ℕ) → i < s.asm.jumps → Right s.labels s.asm.len (jump_at s.jumps i)
  unfolding finish_number
  finish_right e i h =
      let e1 = zero_then s.asm.closed 7 _ e in
      let e2 = zero_else (sound (length s.buf) s.asm) _ 1 e1.1 in
      let e3 = zero_else (labels_good s.asm.len s.labels) _ 1 e2.1 in
      let e4 = zero_then (ltb (first_with 2 s) s.asm.jumps) 1 _ e3.1 in
      let e5 = zero_then (ltb (first_with 5 s) s.asm.jumps) 4 _ e4.1 in
      let e6 = zero_then (ltb (first_with 6 s) s.asm.jumps) 5 0 e5.1 in
      right s.labels s.asm.len (jump_at s.jumps i) (each_right s (ltb-false _ _ e4.0) (ltb-false _ _ e5.0) (ltb-false _ _ e6.0) i h)

-- ---- over the items

module _ (b : List ℕ) (is : List Item) (ts : List ℕ) (s : State) (a : Represents b is ts s) where
  -- the memory has the places that the items give
  pub place_known : (l : ℕ) → l < 2039 → at_label s.labels l ≡ place_in is l
  place_known l h = ap place_of (a.set_labels l h) ∙ by (label_place l 0 is) refl
    where
      by : (o : Option ℕ) → label_place l 0 is ≡ o → place_of (entry o + 2 ^ 32 * times l (targets is)) ≡ Option.get_or o 0
      by none q = omega arith
      by (some p) q =
          let k = label_within l 0 p is q in
          let w = a.within in
          omega arith

  -- The buffer then holds the resolved words, and behind them what stood there.
  pub finish_represents : Labelled is → (finish s).answer ≡ accepted tt → (finish s).state.buf ≡ written b 0 (resolved (place_in is) 0 is)
  finish_represents h e =
      let w = a.within in
      ap (λ (x : State). x.buf) (finish_accepts s e).1
      ∙ rw (a.buf, a.count, a.noted) (patched_resolved s.labels b 0 is (omega arith))
      ∙ ap (written b 0) (resolved_same (at_label s.labels) (place_in is) place_known 0 is h)

-- ---- every jump reaches its label

all_of : (P : Jump → Type 0) (m : List ℕ) (i n : ℕ) → ((k : ℕ) → k < n → P (jump_at m (i + k))) → Each P (jumps_of m i n)
unfolding jumps_of
all_of P m i zero h = tt
all_of P m i (suc n) h =
    let z : i + 0 ≡ i = omega arith in (
      subst (λ (x : ℕ). P (jump_at m x)) z (h 0 (omega arith)),
      all_of P m (i + 1) n (λ k q. subst (λ (x : ℕ). P (jump_at m x)) (next i k) (h (suc k) (omega arith))),
    )
  where
    next : (i k : ℕ) → i + suc k ≡ i + 1 + k
    next i k = omega arith

module _ (b : List ℕ) (is : List Item) (ts : List ℕ) (s : State) (a : Represents b is ts s) where
  set_some : (l : ℕ) → l < 2039 → is_set (get_or s.labels l 0) ≡ true → label_place l 0 is ≡ none → ⊥
  set_some l h e n =
      let z : get_or s.labels l 0 % 2 ^ 32 ≡ 0 = omega (arith, a.set_labels l h, ap entry n) in
      let f : false ≡ true = rw z at e in
      no f

  reach : (here : ℕ) (js : List Item) → Labelled js → Each (Right s.labels s.asm.len) (jumps_in here js) → Reaching is here js
  unfolding jumps_in
  reach here [] h r = tt
  reach here (instr i ∷ js) h r = reach (here + 4) js h r
  reach here (raw w ∷ js) h r = reach (here + 4) js h r
  reach here (jump k l x ∷ js) h r = (
    set_some l h.0 r.0.known,
    subst (λ (p : ℕ). Valid (jump_instr k x (sub_ℕ p here))) (place_known b is ts s a l h.0)
        (subst (λ (c : JumpKind). Valid (jump_instr c x (sub_ℕ (at_label s.labels l) here))) (kind_back k) r.0.valid),
    reach (here + 4) js h.1 r.1,
  )
  reach here (label l ∷ js) h r = reach here js h.1 r

  pub finish_reaching : Labelled is → (finish s).answer ≡ accepted tt → Reaching is 0 is
  finish_reaching h e =
      reach 0 is h
      (subst (Each (Right s.labels s.asm.len)) (ap (jumps_of s.jumps 0) a.count ∙ a.noted)
      (all_of (Right s.labels s.asm.len) s.jumps 0 s.asm.jumps
      (λ k q. subst (λ (x : ℕ). Right s.labels s.asm.len (jump_at s.jumps x)) (start k) (finish_right s (finish_accepts s e).0 k q))))
    where
      start : (k : ℕ) → k ≡ 0 + k
      start k = omega arith

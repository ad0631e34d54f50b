-- The encoder's answers for valid instructions, collected, are a plan of their words. Assumes nothing.
use mathlib.Core.Path.{◌≡◌, refl, sym, ap, ap₂, ◌∙◌}
use mathlib.Core.Bool.{Bool, true, false, cond}
use mathlib.Core.List.{List, [], ◌∷◌, ◌++◌, map, map-append, append-nil}
use Prim.Native.Nat.{ℕ, ◌+◌, ◌-◌, ◌%◌, ◌≤◌, ◌<◌, min}
use native.Mathlib.Nat.{min-eq_left, mod-eq_of_lt}
use native.Mathlib.Omega.{arith}
use native.Mathlib.Numerals.{add-one}
use borrow.Author.Tests.{lt-ltb, le-ltb}
use lib.Dec.{eqb, ltb}
use lib.ListN.{length, take, length-set, length-append, length-map}
use lib.Seq.{take-suc-set, append_snoc}
use lib.IntN.{ℤ, pos, negsuc}
use lib.Signed.{mag}
use mir.Syntax.{w32}
use mir.Val.{SFits}
use Rattle.isa.specs.Immediate.{twos, hi, lo}
use Rattle.isa.specs.Instr.{Instr, I, U, ADDI, LUI, operands, registers_hold, valid}
use Rattle.isa.specs.Encode.{encode}
use Rattle.refusal.specs.Answer.{accepted, refused}
use Rattle.refusal.specs.Number.{number_of}
use Rattle.refusal.specs.declared.Refusal.{Refusal}
use Rattle.refusal.specs.declared.Refusal.TheVariants.{Register, Value, Label, Twice, Unset, Far, Full, Closed, Count, Base, Unsaved, Line}
use Rattle.encoder.specs.Answer.{Encoded, word_answer, encoded}
use Rattle.encoder.proofs.Answers.{bad_register, bad_value, good}
use Rattle.encoder.specs.Sign.{sign_of}
use Rattle.encoder.specs.declared.Sign.TheVariants.{NonNeg, Neg}
use Rattle.std.specs.Prelude.{Ok, Err}
use Rattle.refusal.specs.declared.Refused.{Refused}
use Rattle.machine.proofs.Placed.{Valids}
use Rattle.isa.proofs.Validity.{Valid, Valid_valid, Valid_registers}
use Rattle.assembler.specs.Plan.{no_words, pushed, plan_words}
use Rattle.std.proofs.Common.{None}
use Rattle.assembler.specs.declared.Plan.{Plan}
use Rattle.accesses.specs.Plans.{answer_of, pushes_from, pushes, plan_of}
use Rattle.accesses.specs.Code.{low_op, li_code}

-- the encoder's refusals, by their number
refusal_is : (r : Refusal) (k : ℕ) → number_of r ≡ k → k ≤ 2 → r ≡ cond (eqb k 1) Register Value
refusal_is Register k e h = rw (← e)
refusal_is Value k e h = rw (← e)
refusal_is Label k e h = absurd (omega arith)
refusal_is Twice k e h = absurd (omega arith)
refusal_is Unset k e h = absurd (omega arith)
refusal_is Far k e h = absurd (omega arith)
refusal_is Full k e h = absurd (omega arith)
refusal_is Closed k e h = absurd (omega arith)
refusal_is Count k e h = absurd (omega arith)
refusal_is Base k e h = absurd (omega arith)
refusal_is Unsaved k e h = absurd (omega arith)
refusal_is Line k e h = absurd (omega arith)

refused_is : (e : Refused) {r : Refusal} {p : ℕ} → e.why ≡ r → e.place ≡ p → e ≡ record { why = r; place = p }
refused_is e s q = ap₂ (λ (r : Refusal) (p : ℕ). record { why = r; place = p }) s q

-- the encoder's promise gives its answer
by_told : (e : Encoded) (w : ℕ) (b c : Bool) → word_answer e ≡ cond b (cond c (accepted w) (refused 2 0)) (refused 1 0)
    → e ≡ cond b (cond c (Ok w) (Err (record { why = Value; place = 0 }))) (Err (record { why = Register; place = 0 }))
by_told (Ok x) w true true t = let z : x ≡ w = cc in ap Ok z
by_told (Ok x) w true false t = let z : ◌≡◌ {A = ℕ} 0 1 = cc in absurd (omega arith)
by_told (Ok x) w false c t = let z : ◌≡◌ {A = ℕ} 0 1 = cc in absurd (omega arith)
by_told (Err e) w true true t = let z : ◌≡◌ {A = ℕ} 0 1 = cc in absurd (omega arith)
by_told (Err e) w true false t =
    let z : number_of e.why ≡ 2 = cc in
    let q : e.place ≡ 0 = cc in
    let s : e.why ≡ Value = refusal_is e.why 2 z (omega arith) in
    ap Err (refused_is e s q)
by_told (Err e) w false c t =
    let z : number_of e.why ≡ 1 = cc in
    let q : e.place ≡ 0 = cc in
    let s : e.why ≡ Register = refusal_is e.why 1 z (omega arith) in
    ap Err (refused_is e s q)

pub answered : (e : Encoded) (i : Instr) → word_answer e ≡ encoded i → e ≡ answer_of i
answered e i t = by (registers_hold (operands i)) (valid i) refl refl
  where
    by : (b c : Bool) → registers_hold (operands i) ≡ b → valid i ≡ c → e ≡ cond b (cond c (Ok (encode i)) (Err (record { why = Value; place = 0 }))) (Err (record { why = Register; place = 0 }))
    by true true p q = by_told e (encode i) true true (t ∙ sym (good i q (encode i) refl p))
    by true false p q = by_told e (encode i) true false (t ∙ sym (bad_value i p q))
    by false c p q = by_told e (encode i) false c (t ∙ sym (bad_register i p))

pub word : (i : Instr) → Valid i → answer_of i ≡ Ok (encode i)
word i v = rw (Valid_registers i v, Valid_valid i v)

-- a plan that holds the words ws, the first of its twelve
record Holding (p : Plan) (ws : List ℕ) : Type 0 where
  n : p.n ≡ length ws
  fault : p.fault ≡ None
  size : length p.w ≡ 12
  words : take (length ws) p.w ≡ ws

one_more : (p : Plan) (ws : List ℕ) (e : Encoded) (w : ℕ) → e ≡ Ok w → length ws < 12 → Holding p ws → Holding (pushed p e) (ws ++ (w ∷ []))
unfolding pushed
one_more p ws e w q l h =
    let t : ltb p.n 12 ≡ true = lt-ltb p.n 12 (omega (arith, h.n)) in
    let s : length (ws ++ (w ∷ [])) ≡ length ws + 1 = length-append ws (w ∷ []) in
    rw (q, t)
    (record {
      n = ap (λ (k : ℕ). k + 1) h.n ∙ sym s;
      fault = h.fault;
      size = length-set p.w p.n w ∙ h.size;
      words =
          rw (s, add-one, h.n)
          (take-suc-set p.w (length ws) w (omega (arith, h.size)) ∙ ap (λ (l : List ℕ). l ++ (w ∷ [])) h.words);
    })

abbrev pub AllValid : List Instr → Type 0
AllValid is = Valids is

collect : (is : List Instr) (p : Plan) (ws : List ℕ) → AllValid is → length ws + length is ≤ 12 → Holding p ws
    → Holding (pushes_from p (map answer_of is)) (ws ++ map encode is)
collect [] p ws a l h = rw append-nil h
collect (i ∷ is) p ws a l h =
    let k : Holding (pushed p (answer_of i)) (ws ++ (encode i ∷ [])) = one_more p ws (answer_of i) (encode i) (word i a.0) (omega arith) h in
    let s : length (ws ++ (encode i ∷ [])) ≡ length ws + 1 = length-append ws (encode i ∷ []) in
    rw append_snoc at (collect is (pushed p (answer_of i)) (ws ++ (encode i ∷ [])) a.1 (omega arith) k)

empty : Holding no_words []
empty = record { n = refl; fault = refl; size = refl; words = refl }

-- the plan holds the words of these instructions, and no fault
pub record Built (p : Plan) (is : List Instr) : Type 0 where
  pub words : plan_words p ≡ map encode is
  pub fault : p.fault ≡ None

-- The plan of up to twelve valid instructions holds their words.
pub built : (is : List Instr) → length is ≤ 12 → AllValid is → Built (plan_of is) is
built is l a =
    let h : Holding (plan_of is) (map encode is) = collect is no_words [] a (omega arith) empty in
    let m : min (plan_of is).n 12 ≡ length (map encode is) = rw h.n (min-eq_left (rw length-map l)) in
    record { words = ap (λ (k : ℕ). take k (plan_of is).w) m ∙ h.words; fault = h.fault }

-- answers that are those for the instructions
abbrev pub Answers : List Encoded → List Instr → Type 0
Answers [] [] = Unit {0}
Answers [] (i ∷ is) = ⊥
Answers (e ∷ es) [] = ⊥
Answers (e ∷ es) (i ∷ is) = (e ≡ answer_of i) × Answers es is

same : (es : List Encoded) (is : List Instr) → Answers es is → es ≡ map answer_of is
same [] [] a = refl
same [] (i ∷ is) a = absurd a
same (e ∷ es) [] a = absurd a
same (e ∷ es) (i ∷ is) a = ap₂ ◌∷◌ a.0 (same es is a.1)

-- They are collected into the instructions' plan.
pub collected : (es : List Encoded) (is : List Instr) → Answers es is → pushes es ≡ plan_of is
collected es is a = ap pushes (same es is a)

-- ---- li, by the sign of its number

module _ (d : ℕ) where
  pub li_near : (z : ℤ) → mag z < 2048 → I ADDI d 0 z ∷ [] ≡ li_code d z
  unfolding li_code
  li_near z h = rw (lt-ltb (mag z) 2048 h)

  pub li_far : (z : ℤ) → 2048 ≤ mag z → U LUI d (pos (hi (twos 32 z))) ∷ I (low_op z) d d (lo (twos 32 z)) ∷ [] ≡ li_code d z
  unfolding li_code
  li_far z h = rw (le-ltb (mag z) 2048 h)

-- a number by its sign: itself, its size, and its words
pub is_pos : (z : ℤ) (n : ℕ) → sign_of z ≡ NonNeg n → pos n ≡ z
is_pos (pos m) n e = let q : m ≡ n = cc in rw q
is_pos (negsuc m) n e = let z : ◌≡◌ {A = ℕ} 0 1 = cc in absurd (omega arith)

pub size_of_neg : (z : ℤ) (n : ℕ) → sign_of z ≡ Neg n → mag z ≡ n
size_of_neg (negsuc m) n e = cc
size_of_neg (pos m) n e = let z : ◌≡◌ {A = ℕ} 0 1 = cc in absurd (omega arith)

pub li_below : (d : ℕ) (z : ℤ) (n : ℕ) → sign_of z ≡ Neg n → SFits w32 z → 2048 ≤ n → U LUI d (pos (hi (4294967295 - n))) ∷ I ADDI d d (lo (4294967295 - n)) ∷ [] ≡ li_code d z
li_below d (negsuc m) n e h l =
    let q : m ≡ n = cc in
    let r : m % 4294967296 ≡ m = mod-eq_of_lt (omega (arith, h.sfits)) in
    let g : 4294967295 - n ≡ twos 32 (negsuc m) = rw (r, q) in
    rw g (li_far d (negsuc m) (omega arith))
li_below d (pos m) n e h l = let z : ◌≡◌ {A = ℕ} 0 1 = cc in absurd (omega arith)

-- instructions behind others
pushes_behind : (ds es : List Encoded) (p : Plan) → pushes_from (pushes_from p ds) es ≡ pushes_from p (ds ++ es)
pushes_behind [] es p = refl
pushes_behind (d ∷ ds) es p = pushes_behind ds es (pushed p d)

pub pushed_behind : (is js : List Instr) (es : List Encoded) → Answers es js → pushes_from (plan_of is) es ≡ plan_of (is ++ js)
pushed_behind is js es a =
    ap (pushes_from (plan_of is)) (same es js a)
    ∙ pushes_behind (map answer_of is) (map answer_of js) no_words
    ∙ ap pushes (sym (map-append answer_of is js))

pub pushed_last : (is : List Instr) (i : Instr) {e : Encoded} → e ≡ answer_of i → pushed (plan_of is) e ≡ plan_of (is ++ (i ∷ []))
pushed_last is i {e} q = pushed_behind is (i ∷ []) (e ∷ []) (q, tt)

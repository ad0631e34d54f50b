-- The sentences: which number has which, how long they are, and the line on standard error, stored part by part.
use mathlib.Core.Path.{◌≡◌, refl, sym, ap, ◌∙◌}
use mathlib.Core.Bool.{Bool, true, false, ◌&&◌}
use mathlib.Core.List.{List, [], ◌∷◌, ◌++◌}
use Rattle.std.specs.declared.result.Result.{Result}
use Rattle.std.specs.declared.result.Result.TheVariants.{Ok, Err}
use Prim.Native.Nat.{ℕ, zero, suc, ◌+◌, ◌^◌, ◌<◌, ◌≤◌}
use Prim.Native.String.{String}
use native.Mathlib.Omega.{arith}
use borrow.Author.Tests.{leb-true, le-leb, ltb-true, ltb-false}
use lib.Dec.{leb, ltb}
use lib.ListN.{length, get_or, set, take, replicate, length-append, length-replicate, get_or-eq_default}
use lib.Seq.{sets, sets-eq, take_at}
use Rattle.text.specs.Ascii.{bytes}
use Rattle.text.specs.Digits.{decimal}
use Rattle.print.specs.Text.{Puts}
use Rattle.print.specs.Reason.{sentences, refusal_text, reason_front, reason_line}
use Rattle.print.specs.declared.TooLong.{TooLong}
use Rattle.print.proofs.Counts.{decimal_short}
use Rattle.print.proofs.Fitting.{fits}
use Rattle.print.proofs.Stores.{sets_append}

-- ---- the sentences

abbrev all_short : List String → Bool
all_short [] = true
all_short (s ∷ ss) = leb (length (bytes s)) 80 && all_short ss

first_holds : (t u : Bool) → (t && u) ≡ true → t ≡ true
first_holds true u e = refl
first_holds false u e = e

rest_holds : (t u : Bool) → (t && u) ≡ true → u ≡ true
rest_holds true u e = e
rest_holds false u e = absurd (let z : ◌≡◌ {A = ℕ} 0 1 = cc in omega arith)

each_short : (ss : List String) (n : ℕ) → all_short ss ≡ true → length (bytes (get_or ss n "")) ≤ 80
each_short [] n e = omega arith
each_short (s ∷ ss) zero e = leb-true (length (bytes s)) 80 (first_holds _ (all_short ss) e)
each_short (s ∷ ss) (suc n) e = each_short ss n (rest_holds (leb (length (bytes s)) 80) _ e)

pub sentence_short : (n : ℕ) → length (refusal_text n) ≤ 80
unfolding refusal_text
sentence_short n = each_short sentences n refl

-- the promise of `refusal_text`
abbrev pub Tells : (number : ℕ) → (out : List ℕ) → (r : Result ℕ TooLong) → (after : List ℕ) → Type 0
Tells number out r after = Puts (refusal_text number) 0 out r after × (length (refusal_text number) ≤ 80)

pub told : (number n : ℕ) (s out after : List ℕ) (r : Result ℕ TooLong) → number ≡ n → s ≡ bytes (get_or sentences n "") → Puts s 0 out r after → Tells number out r after
unfolding refusal_text
told number n s out after r e f p = (rw (e, ← f) p, sentence_short number)

at_zero : (number : ℕ) → number ≡ 0 → refusal_text number ≡ []
unfolding refusal_text
at_zero number e = rw e

at_thirteen : (number : ℕ) → number ≡ 13 → refusal_text number ≡ []
unfolding refusal_text
at_thirteen number e = rw e

beyond : (number : ℕ) → length sentences ≤ number → refusal_text number ≡ []
unfolding refusal_text
beyond number h = ap bytes (get_or-eq_default sentences "" h)

none_told : (number : ℕ) (out : List ℕ) → refusal_text number ≡ [] → Tells number out (Ok 0) out
none_told number out e =
    rw e (fits [] 0 out out 0 (le-leb 0 (length out) (omega arith)) refl refl, omega arith)

-- a number that is none of 1 to k
abbrev pub Other : (number k : ℕ) → Type 0
Other number zero = Unit {0}
Other number (suc k) = Other number k × (number ≡ suc k → ⊥)

other_zero : (number k : ℕ) → Other number k → number < suc k → number ≡ 0
other_zero number zero o h = omega arith
other_zero number (suc k) o h = other_zero number k o.0 (let d = o.1 in omega (arith, d, h))

pub no_sentence : (number : ℕ) (out : List ℕ) → Other number 12 → (number ≡ 14 → ⊥) → Tells number out (Ok 0) out
no_sentence number out o n = none_told number out (go (ltb number 13) refl (ltb number 15) refl)
  where
    go : (t : Bool) → ltb number 13 ≡ t → (u : Bool) → ltb number 15 ≡ u → refusal_text number ≡ []
    go true f u g = at_zero number (other_zero number 12 o (ltb-true number 13 f))
    go false f true g = at_thirteen number (let h = ltb-false number 13 f in let k = ltb-true number 15 g in omega (arith, h, k, n))
    go false f false g = beyond number (ltb-false number 15 g)

-- ---- a sentence in 80 bytes

abbrev zeros : List ℕ
zeros = replicate 80 0

module _ (t after : List ℕ) (r : Result ℕ TooLong) (short : length t ≤ 80) (p : Puts t 0 zeros r after) where
  fit : leb (0 + length t) (length zeros) ≡ true
  fit = let l = length-replicate {A = ℕ} 80 0 in le-leb (0 + length t) (length zeros) (omega arith)

  whole : r ≡ Ok (length t)
  whole = p.0 ∙ rw fit

  -- it is there
  pub filled : (n : ℕ) → r ≡ Ok n → take n after ≡ t
  filled n e =
      let l = length-replicate {A = ℕ} 80 0 in
      let w = whole in
      let f : length t ≡ n = cc in
      let a : after ≡ sets zeros 0 t = p.1 ∙ rw fit in
      rw (a, sets-eq t zeros 0 (omega arith)) (take_at t _ n f)

  pub never_long : (x : TooLong) → r ≡ Err x → ⊥
  never_long x e =
      let w = whole in
      let z : ◌≡◌ {A = ℕ} 0 1 = cc in
      omega arith

-- ---- the line

pub length_front : (number line : ℕ) → length (reason_front number line) ≡ length (decimal line) + length (decimal number) + 9
unfolding reason_front
length_front number line = simp length-append (omega arith)

step : (o o1 xs ys : List ℕ) (at e : ℕ) → o1 ≡ sets o at xs → e ≡ at + length xs → sets o1 e ys ≡ sets o at (xs ++ ys)
step o o1 xs ys at e h g = rw (h, g) (sym (sets_append o at xs ys))

pub front_put : (o o1 o2 o3 o4 o5 : List ℕ) (e f number line : ℕ) → o1 ≡ sets o 0 (bytes "line ") → o2 ≡ sets o1 5 (decimal line) → e ≡ 5 + length (decimal line)
    → o3 ≡ sets o2 e (bytes ": ") → o4 ≡ sets o3 (e + 2) (decimal number) → f ≡ e + 2 + length (decimal number) → o5 ≡ sets o4 f (bytes ", ")
    → o5 ≡ sets o 0 (reason_front number line)
unfolding reason_front
front_put o o1 o2 o3 o4 o5 e f number line h1 h2 g1 h3 h4 g2 h5 =
    let a : List ℕ = decimal number ++ bytes ", " in
    let b : List ℕ = bytes ": " ++ a in
    h5
    ∙ step o3 o4 (decimal number) (bytes ", ") (e + 2) f h4 g2
    ∙ step o2 o3 (bytes ": ") a e (e + 2) h3 refl
    ∙ step o1 o2 (decimal line) b 5 e h2 g1
    ∙ step o o1 (bytes "line ") (decimal line ++ b) 0 5 h1 refl

pub length_reason : (number line : ℕ) (t : List ℕ) → length (reason_front number line ++ (t ++ (10 ∷ []))) ≡ length (decimal line) + length (decimal number) + length t + 10
length_reason number line t =
    let f = length_front number line in
    simp length-append (omega arith)

pub reason_put : (o o1 o2 t : List ℕ) (e number line : ℕ) → o1 ≡ sets o 0 (reason_front number line) → e ≡ length (reason_front number line) → o2 ≡ sets o1 e t
    → set o2 (e + length t) 10 ≡ sets o 0 (reason_front number line ++ (t ++ (10 ∷ [])))
reason_put o o1 o2 t e number line h g i =
    step o1 o2 t (10 ∷ []) e (e + length t) i refl
    ∙ step o o1 (reason_front number line) (t ++ (10 ∷ [])) 0 e h (omega (arith, g))

-- the line of a refusal is short
pub reason_short : (number line : ℕ) → number < 256 → line < 2 ^ 32 → length (reason_line number line) ≤ 128
unfolding reason_line
reason_short number line h g =
    let a = length_reason number line (refusal_text number) in
    let b = decimal_short 2 number (omega arith) in
    let c = decimal_short 9 line (omega arith) in
    omega (arith, a, b, c, sentence_short number)

pub reason_told : (number line : ℕ) (text out after : List ℕ) (r : Result ℕ TooLong) → text ≡ refusal_text number
    → Puts (reason_front number line ++ (text ++ (10 ∷ []))) 0 out r after → Puts (reason_line number line) 0 out r after
unfolding reason_line
reason_told number line text out after r e p = rw (← e) p

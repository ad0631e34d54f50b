-- The listing of code, case by case. Assumes nothing.
use mathlib.Core.Path.{◌≡◌, refl, sym, ap, ◌∙◌}
use mathlib.Core.Bool.{Bool, true, false, ◌&&◌, cond}
use mathlib.Core.List.{List, [], ◌∷◌}
use mathlib.Core.Option.{Option, some, none, get_or}
use Rattle.std.specs.declared.result.Result.{Result}
use Rattle.std.specs.declared.result.Result.TheVariants.{Ok}
use Prim.Native.Nat.{ℕ, suc, ◌+◌, ◌*◌, ◌/◌, ◌%◌, ◌≤◌}
use native.Mathlib.Omega.{arith}
use borrow.Author.Tests.{eq-eqb, ne_eqb}
use lib.Dec.{eqb, leb}
use lib.ListN.{length}
use Rattle.refusal.specs.Answer.{Answer, accepted, refused}
use Rattle.print.specs.Text.{words_of, Puts}
use Rattle.print.specs.Listing.{foreign, foreign_from, listing_lines}
use Rattle.print.specs.declared.TooLong.{TooLong}
use Rattle.print.proofs.Short.{words_few, refusal_short}
use Rattle.print.proofs.Brief.{listing_short}
use Rattle.listing.specs.Listing.{unless_foreign, listed, text_of, Lists}
use Rattle.listing.specs.declared.CodeListing.{CodeListing}

-- ---- which case

module _ (code : List ℕ) (constants : ℕ) where
  abbrev pub fine : Bool
  fine = leb constants (length code) && eqb (constants % 4) 0

  abbrev pub first : Option ℕ
  first = foreign_from constants 0 (words_of code)

  abbrev pub lines : List ℕ
  lines = listing_lines constants 0 (words_of code)

  pub not_fine : fine ≡ false → listed code constants ≡ refused 2 0
  unfolding listed
  not_fine e = rw e

  pub cut : fine ≡ true → (length code % 4 ≡ 0 → ⊥) → listed code constants ≡ refused 14 (get_or first (length code / 4 * 4))
  unfolding listed
  cut e n = rw (e, ne_eqb (length code % 4) 0 n) (by first)
    where
      by : (o : Option ℕ) → unless_foreign o (refused 14 (length code / 4 * 4)) ≡ refused 14 (get_or o (length code / 4 * 4))
      by (some place) = refl
      by none = refl

  pub whole : fine ≡ true → length code % 4 ≡ 0 → listed code constants ≡ unless_foreign first (accepted lines)
  unfolding listed
  whole e n = rw (e, eq-eqb (length code % 4) 0 n)

  module _ (e : fine ≡ true) (n : length code % 4 ≡ 0) where
    pub is_foreign : (place : ℕ) → some place ≡ first → listed code constants ≡ refused 14 place
    is_foreign place f = whole e n ∙ ap (λ (o : Option ℕ). unless_foreign o (accepted lines)) (sym f)

    pub is_listed : none ≡ first → listed code constants ≡ accepted lines
    is_listed f = whole e n ∙ ap (λ (o : Option ℕ). unless_foreign o (accepted lines)) (sym f)

-- ---- how long it is

-- a foreign word stands before the end
first_within : (constants o : ℕ) (ws : List ℕ) (place : ℕ) → foreign_from constants o ws ≡ some place → place ≤ o + 4 * length ws
unfolding foreign_from
first_within constants o [] place e = let z : ◌≡◌ {A = ℕ} 0 1 = cc in absurd (omega arith)
first_within constants o (w ∷ ws) place e = by (foreign constants o w) (first_within constants (o + 4) ws place) e
  where
    by : (t : Bool) → (foreign_from constants (o + 4) ws ≡ some place → place ≤ o + 4 + 4 * length ws) → cond t (some o) (foreign_from constants (o + 4) ws) ≡ some place → place ≤ o + 4 * suc (length ws)
    by true r f = let p : o ≡ place = cc in omega arith
    by false r f = omega (arith, r f)

module _ (code : List ℕ) (constants : ℕ) (small : length code ≤ 65536) where
  pub brief : length (text_of (listed code constants)) ≤ 475136
  unfolding listed
  brief = by (fine code constants) (first code constants) refl (eqb (length code % 4) 0)
    where
      by : (t : Bool) (o : Option ℕ) → first code constants ≡ o → (u : Bool)
          → length (text_of (cond t (unless_foreign o (unless_foreign (cond u none (some (length code / 4 * 4))) (accepted (lines code constants)))) (refused 2 0))) ≤ 475136
      by false o e u = omega (arith, refusal_short 2 0 (omega arith) (omega arith))
      by true (some place) e u =
          let h = first_within constants 0 (words_of code) place e in
          let f = words_few code in
          omega (arith, refusal_short 14 place (omega arith) (omega arith))
      by true none e false = omega (arith, refusal_short 14 (length code / 4 * 4) (omega arith) (omega arith))
      by true none e true = listing_short constants code small

-- ---- the promise

-- with the bound
abbrev pub Tells : (code : List ℕ) → (constants : ℕ) → (buf : List ℕ) → CodeListing → (after : List ℕ) → Type 0
Tells code constants buf r after =
    Lists (listed code constants) buf r after × (length code ≤ 65536 → length (text_of (listed code constants)) ≤ 475136)

module _ (code : List ℕ) (constants : ℕ) (buf after : List ℕ) where
  pub told_lines : (t : Result ℕ TooLong) → listed code constants ≡ accepted (lines code constants) → Puts (lines code constants) 0 buf t after → Tells code constants buf (record { answer = Ok tt; text = t }) after
  told_lines t e p = (rw e (refl, p), λ h. brief code constants h)

  pub told_as : (r : CodeListing) (a : Answer (List ℕ)) → listed code constants ≡ a → Lists a buf r after → Tells code constants buf r after
  told_as r a e l = (rw e l, λ h. brief code constants h)

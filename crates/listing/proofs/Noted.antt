-- The marks of constants, as the loop over the file's lines makes them. Assumes nothing.
use mathlib.Core.Path.{◌≡◌, refl, sym, ap, ◌∙◌}
use mathlib.Core.Bool.{Bool, true, false, not, ◌&&◌}
use mathlib.Core.List.{List, [], ◌∷◌, ◌++◌, append_assoc, append-nil}
use Rattle.std.specs.declared.option.Option.TheVariants.{Some, None}
use Prim.Native.Nat.{ℕ, ◌+◌, ◌≤◌, ◌<◌}
use native.Mathlib.Omega.{arith}
use borrow.Author.Tests.{ltb-true, ltb-false}
use lib.Dec.{eqb, ltb}
use lib.ListN.{length, take, drop, get_or, set, replicate, length-append, length-set, length-take, length-replicate, drop_of_length-le, get_or-replicate, get_or-append, get_or-eq_default}
use lib.Seq.{get_or-set_same, get_or-set_other, get_or_at}
use Rattle.text.specs.Lines.{lines_of, Ends}
use Rattle.text.proofs.Steps.{same_length}
use Rattle.print.specs.Listing.{marked}
use Rattle.listing.specs.Inner.Marks.{starts, mark_of, marks_of, hidden_by}
use Rattle.listing.specs.declared.View.TheVariants.{Maintainer, Attendant}

-- ---- a line's mark

pub too_short : (w t : List ℕ) → length t < length w → starts w t ≡ false
too_short w t h = same_length (take (length w) t) w (λ e. omega (arith, e, length-take (length w) t))

pub not_marked : (t : List ℕ) (ts : List (List ℕ)) → mark_of t ≡ None → marks_of (t ∷ ts) ≡ marks_of ts
unfolding marks_of
not_marked t ts e = rw e

pub one_mark : (t : List ℕ) (ts : List (List ℕ)) (m : ℕ) → mark_of t ≡ Some m → marks_of (t ∷ ts) ≡ m ∷ marks_of ts
unfolding marks_of
one_mark t ts m e = rw e

pub no_marks : (file : List ℕ) (at : ℕ) → length file ≤ at → marks_of (lines_of (drop at file)) ≡ []
unfolding marks_of lines_of
no_marks file at h = ap (λ (s : List ℕ). marks_of (lines_of s)) (drop_of_length-le file h)

-- ---- the loop

-- k marks are noted, of all; the rest is of the lines that are left
pub record Noted (all rest marks : List ℕ) (k : ℕ) : Type 0 where
  pub few : k ≤ 1008
  pub size : length marks ≡ 1008
  pub done : List ℕ
  pub count : length done ≡ k
  pub parts : all ≡ done ++ rest
  pub noted : (j : ℕ) → j < 1008 → get_or marks j 0 ≡ get_or done j 0

-- what the function answers
abbrev pub Marks : (all marks : List ℕ) → Type 0
Marks all marks = (length marks ≡ 1008) × ((j : ℕ) → j < 1008 → get_or marks j 0 ≡ get_or all j 0)

pub none_noted : (all : List ℕ) → Noted all all (replicate 1008 0) 0
none_noted all =
    record {
      few = omega arith;
      size = length-replicate {A = ℕ} 1008 0;
      done = [];
      count = refl;
      parts = refl;
      noted = λ j h. get_or-replicate 1008 j 0 0 h;
    }

module _ {all marks : List ℕ} {k : ℕ} {ls ts : List (List ℕ)} {t : List ℕ} (e : ls ≡ t ∷ ts) (n : Noted all (marks_of ls) marks k) where
  pub passed_by : mark_of t ≡ None → Noted all (marks_of ts) marks k
  passed_by o =
      record { few = n.few; size = n.size; done = n.done; count = n.count; parts = n.parts ∙ ap (λ (r : List ℕ). n.done ++ r) (ap marks_of e ∙ not_marked t ts o); noted = n.noted }

  pub noted_one : (m : ℕ) → mark_of t ≡ Some m → k < 1008 → Noted all (marks_of ts) (set marks k m) (k + 1)
  noted_one m o h =
      record {
        few = omega arith;
        size = simp length-set n.size;
        done = n.done ++ (m ∷ []);
        count = omega (arith, n.count, length-append n.done (m ∷ []));
        parts = n.parts ∙ ap (λ (r : List ℕ). n.done ++ r) (ap marks_of e ∙ one_mark t ts m o) ∙ sym (append_assoc n.done (m ∷ []) (marks_of ts));
        noted = λ j g. by j g (ltb j k) refl (ltb k j) refl;
      }
    where
      by : (j : ℕ) → j < 1008 → (a : Bool) → ltb j k ≡ a → (b : Bool) → ltb k j ≡ b → get_or (set marks k m) j 0 ≡ get_or (n.done ++ (m ∷ [])) j 0
      by j g true x b y =
          let l = ltb-true j k x in
          get_or-set_other marks k j m 0 (λ z. omega (arith, z)) ∙ n.noted j g ∙ sym (get_or-append n.done (m ∷ []) 0 j (omega (arith, n.count)))
      by j g false x true y =
          let l = ltb-true k j y in
          get_or-set_other marks k j m 0 (λ z. omega (arith, z)) ∙ n.noted j g ∙ get_or-eq_default n.done 0 {n = j} (omega (arith, n.count))
          ∙ sym (get_or-eq_default (n.done ++ (m ∷ [])) 0 {n = j} (omega (arith, n.count, length-append n.done (m ∷ []))))
      by j g false x false y =
          let z : j ≡ k = omega (arith, ltb-false j k x, ltb-false k j y) in
          rw z (get_or-set_same marks k m 0 (omega (arith, n.size)) ∙ sym (get_or_at n.done m [] 0 k n.count))

pub all_noted : (all rest marks : List ℕ) (k : ℕ) → Noted all rest marks k → (k < 1008 → rest ≡ []) → Marks all marks
all_noted all rest marks k n r = (n.size, λ j g. n.noted j g ∙ by j (ltb j k) refl g)
  where
    by : (j : ℕ) → (a : Bool) → ltb j k ≡ a → j < 1008 → get_or n.done j 0 ≡ get_or all j 0
    by j true x g = sym (ap (λ (s : List ℕ). get_or s j 0) n.parts ∙ get_or-append n.done rest 0 j (omega (arith, n.count, ltb-true j k x)))
    by j false x g =
        let e : all ≡ n.done = n.parts ∙ ap (λ (s : List ℕ). n.done ++ s) (r (omega (arith, ltb-false j k x))) ∙ append-nil n.done in
        ap (λ (s : List ℕ). get_or s j 0) (sym e)

-- ---- what a view hides

pub nothing_hidden : (file : List ℕ) (k : ℕ) → marked (replicate 1008 0) k ≡ hidden_by Maintainer file k
nothing_hidden file k = by (ltb k 1008) refl
  where
    by : (t : Bool) → ltb k 1008 ≡ t → marked (replicate 1008 0) k ≡ false
    by true e = rw (get_or-replicate {A = ℕ} 1008 k 0 0 (ltb-true k 1008 e))
    by false e = rw (get_or-eq_default {A = ℕ} (replicate 1008 0) 0 {n = k} (omega (arith, ltb-false k 1008 e, length-replicate {A = ℕ} 1008 0)))

-- the lines behind line 1
pub behind_line_1 : (file : List ℕ) (r : ℕ) → Ends file 0 r → lines_of (drop r file) ≡ drop 1 (lines_of file)
unfolding lines_of
behind_line_1 [] r e = rw e.0
behind_line_1 (b ∷ bs) r e = ap (drop 1) (sym (e.1 (omega arith)).2)

pub bits_hidden : (file : List ℕ) (r : ℕ) (marks : List ℕ) → Ends file 0 r → Marks (marks_of (lines_of (drop r file))) marks → (k : ℕ) → marked marks k ≡ hidden_by Attendant file k
bits_hidden file r marks e m k = by (ltb k 1008) refl
  where
    all : List ℕ
    all = marks_of (drop 1 (lines_of file))

    by : (t : Bool) → ltb k 1008 ≡ t → marked marks k ≡ (t && marked all k)
    by true x = ap (λ (n : ℕ). not (eqb n 0)) (m.1 k (ltb-true k 1008 x) ∙ ap (λ (ts : List (List ℕ)). get_or (marks_of ts) k 0) (behind_line_1 file r e))
    by false x = rw (get_or-eq_default marks 0 {n = k} (omega (arith, m.0, ltb-false k 1008 x)))

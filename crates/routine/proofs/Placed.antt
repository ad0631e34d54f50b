-- Constants by their lines' places. Assumes nothing.
use mathlib.Core.Path.{◌≡◌, ap, ◌∙◌}
use mathlib.Core.Bool.{true}
use mathlib.Core.List.{List, ◌∷◌, ◌++◌, map-append}
use Prim.Native.Nat.{ℕ, ◌+◌, ◌-◌, ◌≤◌, ◌<◌}
use native.Mathlib.Numerals.{add-one}
use native.Mathlib.Omega.{arith}
use lib.ListN.{length, get_or, set, take, drop, length-map, drop_of_length-le}
use lib.Seq.{drop-cons, take-suc-set}
use Rattle.ast.specs.declared.Constant.{Constant}
use Rattle.ast.specs.declared.Constant.TheVariants.{Bits}
use Rattle.text.specs.Lines.{lines_of}
use Rattle.assembler.specs.Constant.{constant_items, constant_fault}
use Rattle.assembler.specs.State.{State}
use Rattle.assembler.specs.Put.{put}
use Rattle.refusal.specs.Answer.{Answer}
use Rattle.refusal.specs.declared.Refused.{Refused}
use Rattle.std.specs.Prelude.{Result, Ok, Err}
use Rattle.deck.specs.Judge.{Content}
use Rattle.routine.specs.Run.{says, RunOutcome, next, waiting, constants_run}
use Rattle.routine.specs.Inner.Places.{is_constant, first_said, constant_at, constants_at}
use Rattle.routine.proofs.Onward.{told, constants_stop, constants_go}
use Rattle.routine.proofs.Lined.{no_lines, one_waits}

module _ (file : List ℕ) (place : ℕ) where
  pub behind_file : length file ≤ place → Bits 0 ≡ constant_at file place
  unfolding constant_at
  behind_file h = rw (drop_of_length-le file h, no_lines)

  pub said_at : (t : List ℕ) (ts : List (List ℕ)) → lines_of (drop place file) ≡ t ∷ ts → first_said (waiting (says t)) ≡ constant_at file place
  unfolding constant_at
  said_at t ts i = rw i

  -- by the line that ends at e
  pub constant_is : (e : ℕ) → lines_of (drop place file) ≡ take (e - place) (drop place file) ∷ lines_of (drop e file) → (x : Answer Content) → x ≡ says (take (e - place) (drop place file)) → first_said (waiting x) ≡ constant_at file place
  constant_is e i x h = ap (λ (y : Answer Content). first_said (waiting y)) h ∙ said_at _ _ i

-- one place more
pub place_kept : (file ps : List ℕ) (k place : ℕ) (t : List ℕ) (ts : List (List ℕ)) → lines_of (drop place file) ≡ t ∷ ts → k < length ps → is_constant (says t) ≡ true
    → constants_at file (take k ps) ++ waiting (says t) ≡ constants_at file (take (k + 1) (set ps k place))
unfolding constants_at
place_kept file ps k place t ts i h e = rw (add-one k, take-suc-set ps k place h, map-append, ← said_at file place t ts i, ← one_waits (says t) e)

module _ (file ps : List ℕ) where
  pub places_length : length (constants_at file ps) ≡ length ps
  unfolding constants_at
  places_length = length-map ps (constant_at file)

  module _ (k : ℕ) where
    pub places_done : length ps ≤ k → (s : State) (line : ℕ) (f : State → RunOutcome) → constants_run line k (constants_at file (drop k ps)) s f ≡ f s
    unfolding constants_at constants_run
    places_done g s line f = rw (drop_of_length-le ps g)

    place_next : k < length ps → constants_at file (drop k ps) ≡ constant_at file (get_or ps k 0) ∷ constants_at file (drop (k + 1) ps)
    unfolding constants_at
    place_next g = rw (drop-cons ps k 0 g, add-one k)

    -- the constant c at place k leaves the state u
    module _ (g : k < length ps) (c : Constant) (i : c ≡ constant_at file (get_or ps k 0)) (s u : State) (line : ℕ) (f : State → RunOutcome) where
      pub place_stops : (r : Result (Unit {0}) Refused) (e : Refused) → r ≡ Err e → told (Err e) u ≡ put 0 (constant_fault k) (constant_items k c) s → constants_run line k (constants_at file (drop k ps)) s f ≡ next (told r u) line f
      place_stops r e q h = constants_stop line k _ (constants_at file (drop (k + 1) ps)) (constant_at file (get_or ps k 0)) (place_next g) s u f r e q (rw i at h)

      pub place_goes : told (Ok tt) u ≡ put 0 (constant_fault k) (constant_items k c) s
          → constants_run line k (constants_at file (drop k ps)) s f ≡ constants_run line (k + 1) (constants_at file (drop (k + 1) ps)) u f
      place_goes h = constants_go line k _ (constants_at file (drop (k + 1) ps)) (constant_at file (get_or ps k 0)) (place_next g) s u f (rw i at h)

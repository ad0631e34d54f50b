-- Finishing over memory is the plain definition's finishing. Assumes nothing.
use mathlib.Core.Path.{◌≡◌, refl, sym, ap, subst, ◌∙◌}
use mathlib.Core.Bool.{Bool, true, false, not, ◌||◌, cond}
use mathlib.Core.List.{List, [], ◌∷◌}
use mathlib.Core.Option.{Option, none, some}
use Prim.Native.Nat.{ℕ, zero, suc, ◌+◌, ◌-◌, ◌*◌, ◌/◌, ◌%◌, ◌^◌, ◌≤◌, ◌<◌}
use native.Mathlib.Nat.{add-zero, zero-add}
use native.Mathlib.Omega.{arith}
use borrow.Author.Tests.{le-leb, lt-ltb, le-ltb, eq-eqb, ltb-true, ltb-false}
use lib.Dec.{eqb, ltb}
use lib.ListN.{length, get_or}
use Rattle.base.proofs.Each.{Each, each_both, each_map}
use Rattle.refusal.specs.Answer.{accepted, refused}
use Rattle.assembler.specs.Item.{Item, instr, raw, jump, label}
use Rattle.assembler.specs.Jump.{kind_number}
use Rattle.assembler.specs.Label.{is_set}
use Rattle.assembler.specs.Memory.{Jump, jump_at, tag_at, jumps_of}
use Rattle.assembler.proofs.Tags.{tags_of}
use Rattle.assembler.specs.State.{State}
use Rattle.assembler.specs.Put.{targets, times}
use Rattle.assembler.specs.Resolved.{label_place, jumps_in}
use Rattle.assembler.specs.declared.JumpKind.{JumpKind}
use Rattle.assembler.specs.declared.JumpKind.TheVariants.{Auipc, Ld, Jalr, Fld, Beq, Bne}
use Rattle.finish.specs.Finish as Finish
use Rattle.finish.specs.Finish.{FinishOutcome, first, label_good, labels_good, jump_good, jump_number, first_with, finish_number, about, finish}
use Rattle.finish.proofs.Represents.{Represents, entry}
use Rattle.finish.proofs.Resolves.{place_known, finish_represents}
use Rattle.reading.specs.Program.{Program, constants}
use Rattle.call.specs.Layout.{span, items, place, constants_offset}
use Rattle.call.proofs.Items.{within, resolved_length}
use Rattle.routine.specs.Routine.{unset, far, first_line, jump_lines, finished, refused_at}
use Rattle.routine.specs.Run.{finish_run}
use Rattle.routine.proofs.LawRoom.{span_words, laid_sound, set_among, made_among, made_few}
use Rattle.routine.proofs.LawFit.{Fit, fit_labelled}
use Rattle.routine.proofs.LawParts.{Left, Agrees, laid_unmade}

-- ---- the first that passes a test

first_all : (t : ℕ → Bool) (i n : ℕ) → ((j : ℕ) → j < n → t (i + j) ≡ false) → n ≤ first t i n
unfolding first
first_all t i zero h = omega arith
first_all t i (suc n) h =
    let e : t i ≡ false = ap t (sym (add-zero i)) ∙ h 0 (omega arith) in
    let r = first_all t (i + 1) n (λ j q. let z : i + 1 + j ≡ i + suc j = omega arith in ap t z ∙ h (suc j) (omega arith)) in
    rw e (omega arith)

-- over the memory, and over the list of jumps with their tags
first_told : (t : Jump → Bool) (m : List ℕ) (i n : ℕ)
    → first_line t (jumps_of m i n) (tags_of m i n) ≡ cond (ltb (first (λ k. t (jump_at m k)) i n) n) (some (tag_at m (i + first (λ k. t (jump_at m k)) i n))) none
unfolding first first_line jumps_of tags_of
first_told t m i zero = refl
first_told t m i (suc n) = by (t (jump_at m i)) (first (λ k. t (jump_at m k)) (i + 1) n) (first_told t m (i + 1) n)
  where
    by : (c : Bool) (f : ℕ) → first_line t (jumps_of m (i + 1) n) (tags_of m (i + 1) n) ≡ cond (ltb f n) (some (tag_at m (i + 1 + f))) none
        → cond c (some (tag_at m i)) (first_line t (jumps_of m (i + 1) n) (tags_of m (i + 1) n)) ≡ cond (ltb (cond c 0 (1 + f)) (suc n)) (some (tag_at m (i + cond c 0 (1 + f)))) none
    by true f e = rw (lt-ltb 0 (suc n) (omega arith), add-zero i)
    by false f e =
        let z : i + (1 + f) ≡ i + 1 + f = omega arith in
        e ∙ rw z (ap (λ (c : Bool). cond c (some (tag_at m (i + 1 + f))) none) (test (ltb f n) refl))
      where
        test : (c : Bool) → ltb f n ≡ c → ltb f n ≡ ltb (1 + f) (suc n)
        test true q = q ∙ sym (lt-ltb (1 + f) (suc n) (omega (arith, ltb-true f n q)))
        test false q = q ∙ sym (le-ltb (1 + f) (suc n) (omega (arith, ltb-false f n q)))

first_same : (t u : Jump → Bool) (js : List Jump) (ns : List ℕ) → Each (λ j. t j ≡ u j) js → first_line t js ns ≡ first_line u js ns
unfolding first_line
first_same t u [] ns a = refl
first_same t u (j ∷ js) [] a = refl
first_same t u (j ∷ js) (n ∷ ns) a = rw (a.0, first_same t u js ns a.1)

first_never : (t : Jump → Bool) (js : List Jump) (ns : List ℕ) → Each (λ j. t j ≡ false) js → first_line t js ns ≡ none
unfolding first_line
first_never t [] ns a = refl
first_never t (j ∷ js) [] a = refl
first_never t (j ∷ js) (n ∷ ns) a = rw a.0 (first_never t js ns a.1)

-- where none is found none passes
none_passes : (t : Jump → Bool) (m : List ℕ) (i n : ℕ) → first_line t (jumps_of m i n) (tags_of m i n) ≡ none → Each (λ j. t j ≡ false) (jumps_of m i n)
unfolding first_line jumps_of tags_of
none_passes t m i zero e = tt
none_passes t m i (suc n) e = by (t (jump_at m i)) refl (λ q. none_passes t m (i + 1) n q) e
  where
    by : (c : Bool) → t (jump_at m i) ≡ c → (first_line t (jumps_of m (i + 1) n) (tags_of m (i + 1) n) ≡ none → Each (λ j. t j ≡ false) (jumps_of m (i + 1) n))
        → cond c (some (tag_at m i)) (first_line t (jumps_of m (i + 1) n) (tags_of m (i + 1) n)) ≡ none → (t (jump_at m i) ≡ false) × Each (λ j. t j ≡ false) (jumps_of m (i + 1) n)
    by true q r e = let z : ◌≡◌ {A = ℕ} 0 1 = cc in absurd (omega arith)
    by false q r e = (q, r e)

-- ---- labels and jumps of placed items

entry_good : (len n : ℕ) (o : Option ℕ) → ((p : ℕ) → o ≡ some p → (p ≤ len) × (p % 4 ≡ 0)) → len ≤ 65536 → n ≤ 4096 → label_good len (entry o + 2 ^ 32 * n) ≡ true
entry_good len n none h l f =
    let a : (0 + 2 ^ 32 * n) / 2 ^ 32 ≤ 4096 = omega arith in
    let b : (0 + 2 ^ 32 * n) % 2 ^ 32 ≡ 0 = omega arith in
    rw (le-leb ((0 + 2 ^ 32 * n) / 2 ^ 32) 4096 a, eq-eqb ((0 + 2 ^ 32 * n) % 2 ^ 32) 0 b)
entry_good len n (some p) h l f =
    let q = h p refl in
    let a : (p + 1 + 2 ^ 32 * n) / 2 ^ 32 ≤ 4096 = omega arith in
    let b : (p + 1 + 2 ^ 32 * n) % 2 ^ 32 - 1 ≡ p = omega arith in
    rw (le-leb ((p + 1 + 2 ^ 32 * n) / 2 ^ 32) 4096 a, b, le-leb p len q.0, eq-eqb (p % 4) 0 q.1) (or_true (not (is_set (p + 1 + 2 ^ 32 * n))))
  where
    or_true : (t : Bool) → (t || true) ≡ true
    or_true true = refl
    or_true false = refl

kind_small : (k : JumpKind) → ltb (kind_number k) 6 ≡ true
kind_small Auipc = refl
kind_small Ld = refl
kind_small Jalr = refl
kind_small Fld = refl
kind_small Beq = refl
kind_small Bne = refl

abbrev Sound : ℕ → Jump → Type 0
Sound len j = (jump_good len j ≡ true) × (j.label < 2039)

jumps_sound : (len here : ℕ) (is : List Item) → Fit is → here % 4 ≡ 0 → here + span is ≤ len → Each (Sound len) (jumps_in here is)
unfolding jumps_in span
jumps_sound len here [] f e h = tt
jumps_sound len here (instr i ∷ is) f e h = jumps_sound len (here + 4) is f (omega arith) (omega arith)
jumps_sound len here (raw w ∷ is) f e h = jumps_sound len (here + 4) is f (omega arith) (omega arith)
jumps_sound len here (jump k l r ∷ is) f e h = (
  (rw (le-leb (here + 4) len (omega arith), eq-eqb (here % 4) 0 e, lt-ltb r 32 f.1, lt-ltb l 2039 f.0, kind_small k), f.0),
  jumps_sound len (here + 4) is f.2 (omega arith) (omega arith),
)
jumps_sound len here (label l ∷ is) f e h = jumps_sound len here is f.1 e h

-- what 2, 5 and 6 are on, by the two tests
abbrev by_tests : Bool → Bool → ℕ
by_tests u f = cond u 5 (cond f 6 0)

tests_two : (u f : Bool) → eqb (by_tests u f) 2 ≡ false
tests_two true f = refl
tests_two false true = refl
tests_two false false = refl

tests_five : (u f : Bool) → eqb (by_tests u f) 5 ≡ u
tests_five true f = refl
tests_five false true = refl
tests_five false false = refl

tests_six : (f : Bool) → eqb (by_tests false f) 6 ≡ f
tests_six true = refl
tests_six false = refl

module _ (b : List ℕ) (is : List Item) (ts : List ℕ) (s : State) (a : Represents b is ts s) (f : Fit is) where
  len_span : s.asm.len ≡ span is
  len_span = a.len ∙ span_words is

  laid_labels : labels_good s.asm.len s.labels ≡ true
  unfolding labels_good
  laid_labels = le-leb 2039 _ (first_all (λ i. not (label_good s.asm.len (get_or s.labels i 0))) 0 2039 (λ l h. rw (zero-add l) (ap not (each l h))))
    where
      each : (l : ℕ) → l < 2039 → label_good s.asm.len (get_or s.labels l 0) ≡ true
      each l h =
          let w = a.within in
          let m : times l (targets is) ≤ 4096 = omega (arith, made_few b is ts s a l h, made_among b is ts s a l h, a.few) in
          rw (a.set_labels l h)
          (entry_good s.asm.len (times l (targets is)) (label_place l 0 is) (λ p e. let q = within l 0 p is e in (omega (arith, len_span), omega arith)) (omega (arith, a.len)) m)

  jump_is : (j : Jump) → Sound s.asm.len j → jump_number s.labels s.asm.len j ≡ by_tests (unset is j) (far is j)
  unfolding jump_number
  jump_is j g =
      let u : not (is_set (get_or s.labels j.label 0)) ≡ unset is j = ap not (set_among b is ts s a j.label g.1) in
      rw (g.0, u, place_known b is ts s a j.label g.1)

  all_sound : Each (Sound s.asm.len) (jumps_in 0 is)
  all_sound = jumps_sound s.asm.len 0 is f refl (omega (arith, len_span))

  -- a jump has this number
  abbrev has : ℕ → Jump → Bool
  has k j = eqb (jump_number s.labels s.asm.len j) k

  memory_jumps : jumps_of s.jumps 0 s.asm.jumps ≡ jumps_in 0 is
  memory_jumps = ap (jumps_of s.jumps 0) a.count ∙ a.noted

  memory_tags : tags_of s.jumps 0 s.asm.jumps ≡ ts
  memory_tags = ap (tags_of s.jumps 0) a.count ∙ a.tagged

  line_with : (k : ℕ) → first_line (has k) (jumps_in 0 is) ts ≡ cond (ltb (first_with k s) s.asm.jumps) (some (tag_at s.jumps (first_with k s))) none
  unfolding first_with
  line_with k =
      rw (← memory_jumps, ← memory_tags) (first_told (has k) s.jumps 0 s.asm.jumps
      ∙ rw (zero-add (first (λ i. has k (jump_at s.jumps i)) 0 s.asm.jumps)))

  no_two : first_line (has 2) (jumps_in 0 is) ts ≡ none
  no_two = first_never (has 2) (jumps_in 0 is) ts (each_map (Sound s.asm.len) (λ j. has 2 j ≡ false) (λ j g. rw (jump_is j g) (tests_two (unset is j) (far is j))) (jumps_in 0 is) all_sound)

  five : first_line (has 5) (jumps_in 0 is) ts ≡ first_line (unset is) (jumps_in 0 is) ts
  five = first_same (has 5) (unset is) (jumps_in 0 is) ts (each_map (Sound s.asm.len) (λ j. has 5 j ≡ unset is j) (λ j g. rw (jump_is j g) (tests_five (unset is j) (far is j))) (jumps_in 0 is) all_sound)

  all_set : first_line (unset is) (jumps_in 0 is) ts ≡ none → Each (λ j. unset is j ≡ false) (jumps_in 0 is)
  all_set e = subst (Each (λ j. unset is j ≡ false)) memory_jumps (none_passes (unset is) s.jumps 0 s.asm.jumps (rw (memory_jumps, memory_tags) e))

  six : first_line (unset is) (jumps_in 0 is) ts ≡ none → first_line (has 6) (jumps_in 0 is) ts ≡ first_line (far is) (jumps_in 0 is) ts
  six e =
      first_same (has 6) (far is) (jumps_in 0 is) ts
      (each_map (λ j. Sound s.asm.len j × (unset is j ≡ false)) (λ j. has 6 j ≡ far is j) (λ j g. rw (jump_is j g.0, g.1) (tests_six (far is j))) (jumps_in 0 is)
      (each_both (Sound s.asm.len) (λ j. unset is j ≡ false) (jumps_in 0 is) all_sound (all_set e)))

  not_found : (k : ℕ) → first_line (has k) (jumps_in 0 is) ts ≡ none → ltb (first_with k s) s.asm.jumps ≡ false
  not_found k e = by (ltb (first_with k s) s.asm.jumps) (sym (line_with k) ∙ e)
    where
      by : (t : Bool) → cond t (some (tag_at s.jumps (first_with k s))) none ≡ none → t ≡ false
      by true q = let z : ◌≡◌ {A = ℕ} 0 1 = cc in absurd (omega arith)
      by false q = refl

  found : (k line : ℕ) → first_line (has k) (jumps_in 0 is) ts ≡ some line → (ltb (first_with k s) s.asm.jumps ≡ true) × (tag_at s.jumps (first_with k s) ≡ line)
  found k line e = by (ltb (first_with k s) s.asm.jumps) (sym (line_with k) ∙ e)
    where
      by : (t : Bool) → cond t (some (tag_at s.jumps (first_with k s))) none ≡ some line → (t ≡ true) × (tag_at s.jumps (first_with k s) ≡ line)
      by true q = (refl, cc)
      by false q = let z : ◌≡◌ {A = ℕ} 0 1 = cc in absurd (omega arith)

  number_is : finish_number s ≡ cond (ltb (first_with 5 s) s.asm.jumps) 5 (cond (ltb (first_with 6 s) s.asm.jumps) 6 0)
  unfolding finish_number
  number_is = rw (laid_sound b is ts s a, laid_labels, not_found 2 no_two, a.unclosed)

  -- ---- how finishing ends

  pub ends_unset : (line : ℕ) → first_line (unset is) (jumps_in 0 is) ts ≡ some line → (finish s ≡ about 5 s) × ((about 5 s).tag ≡ line)
  unfolding finish
  ends_unset line e =
      let q = found 5 line (five ∙ e) in
      let k : finish_number s ≡ 5 = number_is ∙ rw q.0 in
      (ap (λ (k : ℕ). Finish.ended k s) k, q.1)

  module _ (e : first_line (unset is) (jumps_in 0 is) ts ≡ none) where
    pub ends_far : (line : ℕ) → first_line (far is) (jumps_in 0 is) ts ≡ some line → (finish s ≡ about 6 s) × ((about 6 s).tag ≡ line)
    unfolding finish
    ends_far line g =
        let q = found 6 line (six e ∙ g) in
        let k : finish_number s ≡ 6 = number_is ∙ rw (not_found 5 (five ∙ e), q.0) in
        (ap (λ (k : ℕ). Finish.ended k s) k, q.1)

    pub ends_well : first_line (far is) (jumps_in 0 is) ts ≡ none → finish s ≡ record { answer = accepted tt; tag = 0; state = Finish.finished s }
    unfolding finish
    ends_well g =
        let k : finish_number s ≡ 0 = number_is ∙ rw (not_found 5 (five ∙ e), not_found 6 (six e ∙ g)) in
        ap (λ (k : ℕ). Finish.ended k s) k

-- ---- the routine's

module _ (b : List ℕ) (p : Program) (s : State) (a : Represents b (items p) (jump_lines p) s) (f : Fit (items p)) where
  left : (finish s).answer ≡ accepted tt → (finish s).state ≡ Finish.finished s → Left b p (Finish.finished s)
  unfolding place
  left e g =
      let w = a.within in
      record {
        asm = rw (a.len, span_words (items p), a.count);
        within = omega (arith, resolved_length (place p) 0 (items p), span_words (items p));
        buf = ap (λ (t : State). t.buf) (sym g) ∙ finish_represents b (items p) (jump_lines p) s a (fit_labelled (items p) f) e;
        few = a.few;
        set_labels = a.set_labels;
        noted = a.noted;
        tagged = a.tagged;
      }

  pub finish_agrees : (at n : ℕ) → at ≡ constants_offset p → n ≡ length (constants p.lines) → Agrees b (finished p) (finish_run p.head at n s)
  unfolding finished
  finish_agrees at n x y = by (first_line (unset (items p)) (jumps_in 0 (items p)) (jump_lines p)) (first_line (far (items p)) (jumps_in 0 (items p)) (jump_lines p)) refl refl
    where
      by : (o q : Option ℕ) → first_line (unset (items p)) (jumps_in 0 (items p)) (jump_lines p) ≡ o → first_line (far (items p)) (jumps_in 0 (items p)) (jump_lines p) ≡ q
          → Agrees b (refused_at 5 o (refused_at 6 q (accepted p))) (finish_run p.head at n s)
      by (some line) q e g =
          let r = ends_unset b (items p) (jump_lines p) s a f line e in
          rw r.0 (ap (refused 5) r.1, laid_unmade b (items p) (jump_lines p) s a)
      by none (some line) e g =
          let r = ends_far b (items p) (jump_lines p) s a f e line g in
          rw r.0 (ap (refused 6) r.1, laid_unmade b (items p) (jump_lines p) s a)
      by none none e g =
          let r = ends_well b (items p) (jump_lines p) s a f e g in
          rw r (rw (x, y, a.len, span_words (items p), a.count), left (ap (λ (t : FinishOutcome). t.answer) r) (ap (λ (t : FinishOutcome). t.state) r))

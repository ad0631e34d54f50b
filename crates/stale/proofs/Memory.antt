-- The list of the memory that a routine leaves is that of its program. Assumes nothing.
use mathlib.Core.Path.{◌≡◌, refl, ap, ◌∙◌}
use mathlib.Core.Bool.{Bool, true, false, not, ◌&&◌, ◌||◌, cond}
use mathlib.Core.List.{List, [], ◌∷◌}
use mathlib.Core.Option.{Option, some, none}
use Prim.Native.Nat.{ℕ, zero, suc, ◌+◌, ◌*◌, ◌%◌, ◌^◌, ◌≤◌, ◌<◌}
use native.Mathlib.Omega.{arith}
use borrow.Author.Tests.{ne_eqb, le-leb}
use lib.Dec.{eqb}
use lib.ListN.{length, get_or}
use Rattle.base.specs.Tests.{member}
use Rattle.refusal.specs.Answer.{accepted}
use Rattle.assembler.specs.Item.{Item}
use Rattle.assembler.specs.Label.{is_set, made}
use Rattle.assembler.specs.Put.{words, jumps, targets, labels, times}
use Rattle.assembler.specs.Resolved.{label_place}
use Rattle.assembler.specs.State.{sound}
use Rattle.assembler.specs.declared.Asm.{Asm}
use Rattle.finish.proofs.Append.{label_within}
use Rattle.finish.proofs.All.{jumps_are}
use Rattle.finish.proofs.Both.{sound_is}
use Rattle.finish.proofs.Represents.{entry}
use Rattle.reading.specs.Program.{Program}
use Rattle.call.specs.Layout.{items, code_length}
use Rattle.routine.specs.Routine.{program_of}
use Rattle.routine.specs.Run.{cleared, run}
use Rattle.routine.proofs.Law.{run_accepted}
use Rattle.routine.proofs.LawParts.{Left}
use Rattle.routine.proofs.LawRoom.{is_none, place_among, span_words, times_few}
use Rattle.correctness.proofs.Taken.{taken}
use Rattle.correctness.proofs.Whole.{fits_room}
use Rattle.unused.specs.Unused.{is_unused, passing, numbers_good, listed}
use Rattle.stale.specs.Deck.{unused_by, unused_of}
use Rattle.stale.specs.Laws.{FileSays}
use Rattle.unused.proofs.From.{passing_same}
use Rattle.unused.proofs.From.{is_list}

-- ---- numbers

times_none : (l : ℕ) (ts : List ℕ) → eqb (times l ts) 0 ≡ not (member l ts)
times_none l [] = refl
times_none l (t ∷ ts) = by (eqb l t) (times_none l ts)
  where
    by : (b : Bool) → eqb (times l ts) 0 ≡ not (member l ts) → eqb (cond b 1 0 + times l ts) 0 ≡ not (b || member l ts)
    by true e = ne_eqb (1 + times l ts) 0 (λ z. omega arith)
    by false e = let z : 0 + times l ts ≡ times l ts = omega arith in ap (λ (n : ℕ). eqb n 0) z ∙ e

few_times : (l : ℕ) (is : List Item) → times l (targets is) ≤ jumps is
few_times l is = omega (arith, times_few l (targets is), jumps_are is)

-- ---- entries

-- an entry with a place and a number
module _ (o : Option ℕ) (k : ℕ) (h : (p : ℕ) → o ≡ some p → p ≤ 65536) where
  small : entry o < 2 ^ 32
  small = by o h
    where
      by : (o : Option ℕ) → ((p : ℕ) → o ≡ some p → p ≤ 65536) → entry o < 2 ^ 32
      by none h = omega arith
      by (some p) h = omega (arith, h p refl)

  entry_made : made (entry o + 2 ^ 32 * k) ≡ k
  entry_made = omega (arith, small)

  entry_low : (entry o + 2 ^ 32 * k) % 2 ^ 32 ≡ entry o
  entry_low = omega (arith, small)

placed_set : (o : Option ℕ) → not (eqb (entry o) 0) ≡ not (is_none o)
placed_set none = refl
placed_set (some p) = ap not (ne_eqb (p + 1) 0 (λ z. omega arith))

-- ---- a memory that items left

-- what entries there are
abbrev pub Entries : List Item → (memory : List ℕ) → Type 0
Entries is m = (l : ℕ) → l < 2039 → get_or m l 0 ≡ entry (label_place l 0 is) + 2 ^ 32 * times l (targets is)

module _ (is : List Item) (m : List ℕ) (e : Entries is m) (short : 4 * length (words is) ≤ 65536) (few : jumps is ≤ 4096) where
  place_small : (l p : ℕ) → label_place l 0 is ≡ some p → p ≤ 65536
  place_small l p q = omega (arith, label_within l 0 p is q)

  own : (l : ℕ) → l < 2039 → is_unused (get_or m l 0) ≡ unused_by is l
  own l h =
      let o : Option ℕ = label_place l 0 is in
      let k : ℕ = times l (targets is) in
      let b = place_small l in
      let x : is_set (entry o + 2 ^ 32 * k) ≡ member l (labels is) = ap (λ (n : ℕ). not (eqb n 0)) (entry_low o k b) ∙ placed_set o ∙ place_among l 0 is in
      let y : eqb (made (entry o + 2 ^ 32 * k)) 0 ≡ not (member l (targets is)) = ap (λ (n : ℕ). eqb n 0) (entry_made o k b) ∙ times_none l (targets is) in
      ap is_unused (e l h) ∙ ap (λ (t : Bool). t && eqb (made (entry o + 2 ^ 32 * k)) 0) x ∙ ap (λ (t : Bool). member l (labels is) && t) y

  made_few : (l : ℕ) → l < 2039 → made (get_or m l 0) ≤ 4096
  made_few l h =
      let q = ap made (e l h) ∙ entry_made (label_place l 0 is) (times l (targets is)) (place_small l) in
      omega (arith, q, few_times l is)

  all_few : (k i : ℕ) → i + k ≡ 2039 → numbers_good m i k ≡ true
  unfolding numbers_good
  all_few zero i q = refl
  all_few (suc k) i q = rw (le-leb (made (get_or m i 0)) 4096 (made_few i (omega arith))) (all_few k (i + 1) (omega arith))

  pub left_listed : (a : Asm) → a.closed ≡ true → sound 65536 a ≡ true → listed m a ≡ accepted (passing (unused_by is) 0 2039)
  left_listed a c s = is_list m a c s (all_few 2039 0 refl) ∙ ap accepted (passing_same _ (unused_by is) 0 2039 (λ l h. own l (omega arith)))

-- ---- an accepted file

module _ (file js b : List ℕ) (p : Program) (n : length js ≡ 20480) (e : program_of (length b) file ≡ accepted p) where
  left : Left (cleared b) p (run file js b).state
  left = run_accepted file js b n p e

  -- once the routine's record `Left` has the numbers: left.set_labels
  entries : Entries (items p) (run file js b).state.labels
  entries = left.set_labels

  pub run_listed : listed (run file js b).state.labels (run file js b).state.asm ≡ accepted (unused_of p)
  run_listed =
      let t = taken (length b) file p e in
      let a = left.asm in
      let r = fits_room (length b) p t.roomy in
      let w = span_words (items p) in
      let k : ℕ = length (words (items p)) in
      let j = left.few in
      let s : sound 65536 (run file js b).state.asm ≡ true = rw a (sound_is 65536 (record { len = code_length p; jumps = jumps (items p); closed = true }) (omega arith) (omega arith) (omega arith)) in
      left_listed (items p) (run file js b).state.labels entries (omega arith) j (run file js b).state.asm (ap (λ (x : Asm). x.closed) a) s

pub file_says : FileSays
file_says file js b p n e = run_listed file js b p n e

-- How finishing ends. Assumes nothing.
use mathlib.Core.Path.{◌≡◌, refl}
use mathlib.Core.Bool.{true, false}
use Prim.Native.Nat.{ℕ, ◌+◌, ◌≤◌, ◌<◌}
use native.Mathlib.Omega.{arith}
use borrow.Author.Tests.{lt-ltb, le-ltb, eqb-false}
use lib.ListN.{length}
use Rattle.std.proofs.Common.{Err}
use Rattle.refusal.specs.declared.Refusal.{Refusal}
use Rattle.refusal.specs.declared.Refusal.TheVariants.{Value, Unset, Far, Closed}
use Rattle.assembler.specs.Memory.{jump_at, tag_at}
use Rattle.assembler.specs.Memory as Memory
use Rattle.assembler.specs.State.{State, sound}
use Rattle.finish.specs.Finish.{FinishOutcome, labels_good, jump_number, first_with, finish_number, ended, finish, finish_outcome}
use Rattle.finish.specs.Inner.Finish.{AllRight, Fit, Ready}
use Rattle.finish.proofs.First.{none}
use Rattle.finish.proofs.Wrong.{one_of}

module _ (s : State) where
  pub ends : (k : ℕ) (r : FinishOutcome) → k ≡ finish_number s → r ≡ ended k s → r ≡ finish s
  unfolding finish
  ends k r e h = rw (← e) h

  -- finishing refuses, and says this
  abbrev pub Refused : Refusal → (place tag : ℕ) → Type 0
  Refused why place tag = finish_outcome (Err (record { refused = record { why = why; place = place }; tag = tag })) s.asm s.labels s.jumps s.buf ≡ finish s

  closed_number : s.asm.closed ≡ true → 8 ≡ finish_number s
  unfolding finish_number
  closed_number e = simp e

  record_number : s.asm.closed ≡ false → sound (length s.buf) s.asm ≡ false → 2 ≡ finish_number s
  unfolding finish_number
  record_number e f = simp (e, f)

  label_number : s.asm.closed ≡ false → sound (length s.buf) s.asm ≡ true → labels_good s.asm.len s.labels ≡ false → 2 ≡ finish_number s
  unfolding finish_number
  label_number e f g = simp (e, f, g)

  pub ends_closed : s.asm.closed ≡ true → Refused Closed 0 0
  ends_closed e = ends 8 _ (closed_number e) refl

  pub ends_record : s.asm.closed ≡ false → sound (length s.buf) s.asm ≡ false → Refused Value 0 0
  ends_record e f = ends 2 _ (record_number e f) refl

  pub ends_label : s.asm.closed ≡ false → sound (length s.buf) s.asm ≡ true → labels_good s.asm.len s.labels ≡ false → Refused Value 0 0
  ends_label e f g = ends 2 _ (label_number e f g) refl

  -- with nothing wrong no jump has a number
  pub each_right : s.asm.jumps ≤ first_with 2 s → s.asm.jumps ≤ first_with 5 s → s.asm.jumps ≤ first_with 6 s → AllRight s.labels s.asm.len s.jumps s.asm.jumps
  unfolding first_with
  each_right a b c i h =
      let z : 0 + i ≡ i = omega arith in
      let n = jump_number s.labels s.asm.len (jump_at s.jumps i) in
      one_of s.labels s.asm.len (jump_at s.jumps i)
      (eqb-false n 2 (rw z at (none _ 0 s.asm.jumps a i h))) (eqb-false n 5 (rw z at (none _ 0 s.asm.jumps b i h))) (eqb-false n 6 (rw z at (none _ 0 s.asm.jumps c i h)))

  module _ (k : Fit s) where
    value_number : first_with 2 s < s.asm.jumps → 2 ≡ finish_number s
    unfolding finish_number
    value_number a = simp (k.unclosed, k.well, k.good, lt-ltb _ _ a)

    unset_number : s.asm.jumps ≤ first_with 2 s → first_with 5 s < s.asm.jumps → 5 ≡ finish_number s
    unfolding finish_number
    unset_number a b = simp (k.unclosed, k.well, k.good, le-ltb _ _ a, lt-ltb _ _ b)

    far_number : s.asm.jumps ≤ first_with 2 s → s.asm.jumps ≤ first_with 5 s → first_with 6 s < s.asm.jumps → 6 ≡ finish_number s
    unfolding finish_number
    far_number a b c = simp (k.unclosed, k.well, k.good, le-ltb _ _ a, le-ltb _ _ b, lt-ltb _ _ c)

    no_number : s.asm.jumps ≤ first_with 2 s → s.asm.jumps ≤ first_with 5 s → s.asm.jumps ≤ first_with 6 s → finish_number s ≡ 0
    unfolding finish_number
    no_number a b c = simp (k.unclosed, k.well, k.good, le-ltb _ _ a, le-ltb _ _ b, le-ltb _ _ c)

    pub ends_value : first_with 2 s < s.asm.jumps → Refused Value 0 0
    ends_value a = ends 2 _ (value_number a) refl

    -- about jump i
    module _ (i : ℕ) (j : Memory.Jump) (t : ℕ) (g : j ≡ jump_at s.jumps i) (h : t ≡ tag_at s.jumps i) (a : s.asm.jumps ≤ first_with 2 s) where
      pub ends_unset : (first_with 5 s ≡ i) × (i < s.asm.jumps) → Refused Unset j.word t
      ends_unset f = rw (g, h, ← f.0) (ends 5 _ (unset_number a (omega (arith, f.0, f.1))) refl)

      pub ends_far : s.asm.jumps ≤ first_with 5 s → (first_with 6 s ≡ i) × (i < s.asm.jumps) → Refused Far j.word t
      ends_far b f = rw (g, h, ← f.0) (ends 6 _ (far_number a b (omega (arith, f.0, f.1))) refl)

    pub all_right : s.asm.jumps ≤ first_with 2 s → s.asm.jumps ≤ first_with 5 s → s.asm.jumps ≤ first_with 6 s → Ready s
    all_right a b c = (k, no_number a b c, each_right a b c)

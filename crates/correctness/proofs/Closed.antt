-- Demand 3 applied to closed files and machines.
use mathlib.Core.Path.{◌≡◌, refl, sym, ap, subst, ◌∙◌}
use mathlib.Core.List.{List}
use mathlib.Core.Option.{some}
use Prim.Native.Nat.{ℕ, zero, suc, ◌^◌, ◌≤◌, ◌<◌}
use native.Mathlib.Omega.{arith}
use lib.ListN.{length, take, replicate}
use Rattle.machine.specs.Word.{upd, dist, load8, store8}
use Rattle.machine.specs.Floats.{Floats}
use Rattle.machine.proofs.Binary64.{binary64}
use Rattle.machine.specs.State.{State}
use Rattle.machine.specs.Step.{Run}
use Rattle.refusal.specs.Answer.{accepted}
use Rattle.ast.specs.declared.Place.TheVariants.{Mem, Param}
use Rattle.assembler.specs.Bytes.{bytes}
use Rattle.accesses.specs.Code.{li_code, sub_stack_code}
use Rattle.reading.specs.Meaning.{meaning, binary}
use Rattle.ast.specs.Mask.{saved}
use Rattle.reading.specs.Program.{Program, constants, label_line}
use Rattle.call.specs.Layout.{code_length, routine_words}
use Rattle.reading.specs.Plain.{with_cell, does, passes, none_read, line_read, Forward}
use Rattle.reading.specs.Terms.{start, Terms}
use Rattle.call.specs.Returned.{Returned}
use Rattle.call.proofs.Calls.{with_bytes, loaded, Bytes, words_small, upd_small, machine, machine_sound, machine_terms, sample, first, first_called, product, block, block_called, table, table_called, r4, four}
use Rattle.reading.proofs.Decks.{larger, scaled, Read}
use Rattle.routine.specs.Routine.{Summary, summary_of, buffer_after, program_of, Promise}
use Rattle.correctness.specs.Claim.{CallSetup}
use Rattle.correctness.proofs.Whole.{accepted_good}
use Rattle.correctness.proofs.Correct.{answered, code_fits, code_left, set_up, correct, forward_correct}
use Rattle.correctness.proofs.Files.{sample_text, sample_told, sample_after, product_text, larger_text, scaled_text, scaled_told, scaled_after, countdown_text, countdown, files}

-- ---- document 01's sample: its 21 words at 0x10000, ra 0x20000, sp 0x80000

module _ (Q : Floats) (f : ℕ → ℕ) (small : (r : ℕ) → f r < 2 ^ 64) where
  pub sample_set_up : CallSetup sample_text (replicate 100 255) sample_told sample_after sample (first Q f small)
  sample_set_up =
      set_up sample_text (replicate 100 255) sample_told sample_after sample (first Q f small) files.sample_promise files.sample_reads (first_called Q f small)

  -- it comes back to ra in at most 21 words, with f10 as the result
  pub sample_returns : (n : ℕ) × (t : State) × Run Q (first Q f small) n t × (n ≤ 21) × (t.pc ≡ 0x20000) × (t.x 2 ≡ 0x80000) × (t.f 10 ≡ f 10)
  unfolding upd saved li_code sub_stack_code
  sample_returns =
      let r = correct Q sample_text (replicate 100 255) sample_told sample_after sample (first Q f small) sample_set_up 0 (start sample.head (first Q f small)) none_read (omega arith) in
      (r.count, r.end, r.runs, r.few, r.pc, r.x 2 tt, r.fa0 refl)

-- ---- an indirect frame, in a buffer of just its size: with a1 zero, and with a table

abbrev product_buffer : List ℕ
product_buffer = replicate 204 7

abbrev product_after : List ℕ
product_after = buffer_after (accepted product) product_buffer

product_promise : Promise product_text product_buffer (accepted (summary_of product)) product_after
product_promise = answered product_text product_buffer product files.product_reads

module _ (s : State) (h : CallSetup product_text product_buffer (summary_of product) product_after product s) where
  product_back : Returned binary64 product (summary_of product).length s 4 (r4 s)
  product_back = correct binary64 product_text product_buffer (summary_of product) product_after product s h 4 (r4 s) (four s) (omega arith)

pub block_handed : CallSetup product_text product_buffer (summary_of product) product_after product block
block_handed = set_up product_text product_buffer (summary_of product) product_after product block product_promise files.product_reads block_called

-- 2.0 × 3.0 in the block's second cell, and the parameter as it was
pub block_returns : (t : State) × (t.pc ≡ 0x20000) × (load8 t.mem 0x30008 ≡ 0x4018000000000000) × (load8 t.mem 0x40000 ≡ 0x4008000000000000)
unfolding upd meaning binary with_cell with_bytes load8 binary64
block_returns =
    let r = product_back block block_handed in
    (r.end, r.pc, r.cells Mem 1 (omega arith), r.cells Param 0 (omega arith))

pub table_handed : CallSetup product_text product_buffer (summary_of product) product_after product table
table_handed = set_up product_text product_buffer (summary_of product) product_after product table product_promise files.product_reads table_called

-- the two high bytes of 6.0 in the observation cell at 0x70008
pub table_returns : (t : State) × (t.pc ≡ 0x20000) × (t.mem 0x7000f ≡ 0x40) × (t.mem 0x7000e ≡ 0x18)
unfolding upd meaning binary with_cell with_bytes load8 store8 dist binary64
table_returns =
    let r = product_back table table_handed in
    (r.end, r.pc, r.obs 0x7000f (tt, 0, omega arith, (7, omega arith, refl)), r.obs 0x7000e (tt, 0, omega arith, (6, omega arith, refl)))

-- ---- fast frames: a machine whose memory is what the routine left, at 0x10000

module _ (file buf : List ℕ) (t : Summary) (after : List ℕ) (p : Program) (f : ℕ → ℕ) (h : Promise file buf (accepted t) after) (e : program_of (length buf) file ≡ accepted p) where
  abbrev left : List ℕ
  left = take t.length after

  fast_handed : ((r : ℕ) → f r < 2 ^ 64) → Terms p.head t.length (machine left f) → CallSetup file buf t after p (machine left f)
  fast_handed small k =
      let c : left ≡ bytes (routine_words p) = code_left file buf t after h p e in
      let n : length left ≡ code_length p = ap length c ∙ code_fits p in
      record {
        promised = h;
        lines = e;
        sound = machine_sound left f (subst Bytes (sym c) (words_small (routine_words p))) small;
        code = loaded 0x10000 left (λ x. 0) (omega (arith, n, (accepted_good (length buf) file p e).room));
        terms = k;
      }

-- ---- a constant: 2.0 × 1.5

abbrev two : ℕ → ℕ
two r = 0x4000000000000000

abbrev pub scaled_machine : State
scaled_machine = machine (take 112 scaled_after) two

pub scaled_set_up : CallSetup scaled_text (replicate 256 255) scaled_told scaled_after scaled scaled_machine
scaled_set_up =
    fast_handed scaled_text (replicate 256 255) scaled_told scaled_after scaled two files.scaled_promise files.scaled_reads (λ r. omega arith) (machine_terms (take 112 scaled_after) two 1 112 (omega arith) (omega arith))

scaled_read : Read scaled (start scaled.head scaled_machine) 4 5 0x4008000000000000 0x4008000000000000
unfolding meaning binary constants with_cell upd binary64
scaled_read =
    record {
      end = _;
      reads = line_read refl (does refl) (line_read refl (does refl) (line_read refl (does refl) (line_read refl passes (line_read refl (does refl) none_read))));
      line_is = refl;
      f2_is = refl;
      cell_is = refl;
    }

pub scaled_returns : (t : State) × (t.pc ≡ 0x20000) × (t.f 10 ≡ 0x4008000000000000)
unfolding upd
scaled_returns =
    let q = scaled_read in
    let r = correct binary64 scaled_text (replicate 256 255) scaled_told scaled_after scaled scaled_machine scaled_set_up 4 q.end q.reads (omega (arith, q.line_is)) in
    (r.end, r.pc, r.fa0 refl ∙ q.cell_is)

-- ---- a branch that goes back: the reading ends, so the call comes back

abbrev two_more : ℕ → ℕ
two_more = upd (λ r. 0) 10 0x4000000000000000

abbrev countdown_left : List ℕ
countdown_left = buffer_after (accepted countdown) (replicate 256 255)

abbrev pub countdown_machine : State
countdown_machine = machine (take (summary_of countdown).length countdown_left) two_more

pub countdown_set_up : CallSetup countdown_text (replicate 256 255) (summary_of countdown) countdown_left countdown countdown_machine
countdown_set_up =
    fast_handed countdown_text (replicate 256 255) (summary_of countdown) countdown_left countdown two_more (answered countdown_text (replicate 256 255) countdown files.countdown_reads) files.countdown_reads
    (upd_small (λ r. 0) 10 0x4000000000000000 (omega arith) (λ r. omega arith))
    (machine_terms (take (summary_of countdown).length countdown_left) two_more 1 (summary_of countdown).length (omega arith) (accepted_good 256 countdown_text countdown files.countdown_reads).room)

-- 2.0 - 1.0 is above 0.0, and 1.0 - 1.0 isn't: 9 orders are read
countdown_read : Read countdown (start countdown.head countdown_machine) 9 8 0 0
unfolding meaning binary constants label_line with_cell upd binary64
countdown_read =
    record {
      end = _;
      reads =
          line_read refl (does refl)
          (line_read refl (does refl)
          (line_read refl (does refl)
          (line_read refl (does refl)
          (line_read refl (does refl)
          (line_read refl (does refl)
          (line_read refl (does refl)
          (line_read refl (does refl)
          (line_read refl (does refl)
          (line_read refl (does refl)
          (line_read refl (does refl)
          (line_read refl passes none_read)))))))))));
      line_is = refl;
      f2_is = refl;
      cell_is = refl;
    }

pub countdown_returns : (t : State) × (t.pc ≡ 0x20000) × (t.f 10 ≡ 0)
unfolding upd
countdown_returns =
    let q = countdown_read in
    let r = correct binary64 countdown_text (replicate 256 255) (summary_of countdown) countdown_left countdown countdown_machine countdown_set_up 9 q.end q.reads (omega (arith, q.line_is)) in
    (r.end, r.pc, r.fa0 refl ∙ q.cell_is)

-- ---- a branch that goes forward: the call comes back from every state of the float registers, on every Floats

larger_forward : Forward larger
unfolding label_line
larger_forward zero c l e g j h = let z : ◌≡◌ {A = ℕ} 0 1 = cc in absurd (omega arith)
larger_forward (suc zero) c l e g j h = let z : ◌≡◌ {A = ℕ} 0 1 = cc in absurd (omega arith)
larger_forward (suc (suc zero)) c l e g j h = let z : ◌≡◌ {A = ℕ} 0 1 = cc in absurd (omega arith)
larger_forward (suc (suc (suc zero))) c l e g j h =
    let z : l ≡ 7 = cc in
    let y : label_line 7 0 larger.lines ≡ some j = ap (λ (k : ℕ). label_line k 0 larger.lines) (sym z) ∙ h in
    let x : 5 ≡ j = cc in
    omega arith
larger_forward (suc (suc (suc (suc zero)))) c l e g j h = let z : ◌≡◌ {A = ℕ} 0 1 = cc in absurd (omega arith)
larger_forward (suc (suc (suc (suc (suc zero))))) c l e g j h = let z : ◌≡◌ {A = ℕ} 0 1 = cc in absurd (omega arith)
larger_forward (suc (suc (suc (suc (suc (suc i)))))) c l e g j h = let z : ◌≡◌ {A = ℕ} 0 1 = cc in absurd (omega arith)

module _ (Q : Floats) (f : ℕ → ℕ) (small : (r : ℕ) → f r < 2 ^ 64) where
  abbrev larger_left : List ℕ
  larger_left = buffer_after (accepted larger) (replicate 256 255)

  abbrev pub larger_machine : State
  larger_machine = machine (take (summary_of larger).length larger_left) f

  pub larger_set_up : CallSetup larger_text (replicate 256 255) (summary_of larger) larger_left larger larger_machine
  larger_set_up =
      fast_handed larger_text (replicate 256 255) (summary_of larger) larger_left larger f (answered larger_text (replicate 256 255) larger files.larger_reads) files.larger_reads small
      (machine_terms (take (summary_of larger).length larger_left) f 2 (summary_of larger).length (omega arith) (accepted_good 256 larger_text larger files.larger_reads).room)

  pub larger_returns : (t : State) × (n : ℕ) × Run Q larger_machine n t × (t.pc ≡ 0x20000)
  unfolding upd
  larger_returns =
      let r = forward_correct Q larger_text (replicate 256 255) (summary_of larger) larger_left larger larger_machine larger_set_up larger_forward in
      (r.4.end, r.4.count, r.4.runs, r.4.pc)

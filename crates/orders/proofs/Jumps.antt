-- Orders with a pair of jumps do what they mean, once the pair is as finishing leaves it. Assumes nothing.
use mathlib.Core.Path.{◌≡◌, refl, ◌∙◌, ap}
use mathlib.Core.Bool.{Bool, true, false, not, cond}
use mathlib.Core.List.{List, [], ◌∷◌}
use Prim.Native.Nat.{ℕ, ◌+◌, ◌*◌, ◌/◌, ◌%◌, ◌≤◌, ◌<◌}
use native.Mathlib.Omega.{arith}
use lib.Dec.{eqb}
use lib.IntN.{ℤ, pos, sub_ℕ}
use lib.Signed.{mag}
use Rattle.isa.specs.Immediate.{twos, hi, lo}
use Rattle.isa.specs.Instr.{Instr, M, I, B, U, BOp, FMV_X_D, JALR, FLD, AUIPC}
use Rattle.isa.proofs.Validity.{Valid}
use Rattle.isa.proofs.HiLo.{lo_fits, hi_fits}
use Rattle.machine.specs.Word.{w64, upd, load8}
use Rattle.machine.specs.Floats.{Floats}
use Rattle.machine.specs.State.{State, setx}
use Rattle.machine.specs.Effect.{effect, apply, taken}
use Rattle.machine.specs.Ends.{temporary}
use Rattle.machine.proofs.Straight.{at_first, by_straight, by_path}
use Rattle.machine.proofs.Placed.{Valids}
use Rattle.assembler.specs.Item.{Item, instr, jump, label}
use Rattle.assembler.specs.Resolved.{resolved}
use Rattle.assembler.specs.declared.JumpKind.TheVariants.{Auipc, Jalr, Fld}
use Rattle.accesses.proofs.Parts.{pair_reaches}
use Rattle.accesses.proofs.Then.{fits}
use Rattle.reading.specs.Meaning.{on, to, jumps}
use Rattle.orders.specs.Code.{skip}
use Rattle.orders.specs.Does.{Placed, At, Done}
use Rattle.orders.proofs.Items.{at_aligned}

-- ---- the two words of a pair, the first at `here`

module _ (places : ℕ → ℕ) (here l : ℕ) where
  abbrev upper_part : ℤ
  upper_part = pos (hi (twos 32 (sub_ℕ (places l) here)))

  abbrev lower_part : ℤ
  lower_part = lo (twos 32 (sub_ℕ (places l) (here + 4)) + 4)

  first_valid : Valid (U AUIPC 5 upper_part)
  first_valid = (omega arith, (hi_fits (twos 32 (sub_ℕ (places l) here)), tt))

  lower_fits : mag lower_part < 2048
  lower_fits = lo_fits (twos 32 (sub_ℕ (places l) (here + 4)) + 4)

module _ (places : ℕ → ℕ) (here : ℕ) where
  abbrev pub const_instrs : (d l : ℕ) → List Instr
  const_instrs d l = U AUIPC 5 (upper_part places here l) ∷ I FLD d 5 (lower_part places here l) ∷ []

  pub const_valid : (d l : ℕ) → d < 32 → Valids (const_instrs d l)
  const_valid d l hd = (first_valid places here l, ((hd, (omega arith, (lower_fits places here l, tt))), tt))

  abbrev pub branch_instrs : (c l : ℕ) → BOp → List Instr
  branch_instrs c l k =
      M FMV_X_D 5 c ∷ B k 5 0 (pos 12) ∷ U AUIPC 5 (upper_part places (here + 4 + 4) l) ∷ I JALR 0 5 (lower_part places (here + 4 + 4) l) ∷ []

  pub branch_valid : (c l : ℕ) (k : BOp) → c < 32 → Valids (branch_instrs c l k)
  branch_valid c l k hc = (
    omega arith,
    (omega arith, (first_valid places (here + 4 + 4) l, ((omega arith, (omega arith, (lower_fits places (here + 4 + 4) l, tt))), tt))),
  )

-- ---- what is tested

-- the test passes exactly where there is no jump
pub tested : (e : Bool) (v : ℕ) → taken (skip e) v 0 ≡ not (jumps e v)
tested true v = by (eqb v 0)
  where
    by : (b : Bool) → b ≡ not (not b)
    by true = refl
    by false = refl
tested false v = refl

-- ---- numbers

four : (p : ℕ) → p % 4 ≡ 0 → w64 (p + 4) % 4 ≡ 0
four p h = omega arith

even : (a p : ℕ) → a % 4 ≡ 0 → p % 4 ≡ 0 → w64 (a + p) / 2 * 2 ≡ w64 (a + p)
even a p h k = omega arith

twelve : (a : ℕ) → w64 (w64 (a + 4) + 12) ≡ w64 (a + 16)
twelve a = omega arith

eight : (a : ℕ) → w64 (w64 (a + 4) + 4) ≡ w64 (a + 8)
eight a = omega arith

last : (a : ℕ) → w64 (w64 (w64 (a + 4) + 4) + 4) ≡ w64 (a + 12)
last a = omega arith

third : (start here : ℕ) → w64 (w64 (w64 (start + here) + 4) + 4) ≡ w64 (start + (here + 4 + 4))
third start here = omega arith

abbrev pub items : (c l : ℕ) → BOp → List Item
items c l k = instr (M FMV_X_D 5 c) ∷ instr (B k 5 0 (pos 12)) ∷ jump Auipc l 0 ∷ jump Jalr l 0 ∷ []

module _ (places : ℕ → ℕ) (start here : ℕ) (s : State) (Q : Floats) (g : Placed places) where
  -- a constant from its place
  pub const_does : (d l : ℕ) → d < 32 → w64 (start + places l) % 8 ≡ 0 → At places start here (jump Auipc l 0 ∷ jump Fld l d ∷ []) s → Done places start Q here (jump Auipc l 0 ∷ jump Fld l d ∷ []) s (upd s.f d (load8 s.mem (w64 (start + places l)))) s.mem on
  unfolding resolved effect apply setx upd temporary
  const_does d l hd c o =
      let is : List Instr = const_instrs places here d l in
      let h : here ≤ 65536 = o.here_small in
      let p : places l ≤ 65536 = g.small l in
      let e = pair_reaches start (places l) here (omega arith) (omega arith) in
      let v = const_valid places here d l hd in
      record {
        count = 2;
        few = omega arith;
        ends = by_straight Q temporary is s _ _ (v.0, tt, (v.1.0, rw (o.pc, e) c, tt)) tt o.sound (at_aligned places start here s o) o.code (rw (o.pc, e)) refl;
      }

  -- ---- a branch: the test, then the pair or a jump over it

  module _ (c l : ℕ) (k : BOp) (hc : c < 32) where
    branch_over : taken k (s.f c) 0 ≡ true → At places start here (items c l k) s → Done places start Q here (items c l k) s s.f s.mem on
    unfolding resolved effect apply setx upd temporary
    branch_over t o =
        let is : List Instr = M FMV_X_D 5 c ∷ B k 5 0 (pos 12) ∷ [] in
        let a = at_aligned places start here s o in
        record {
          count = 2;
          few = omega arith;
          ends =
              by_path Q temporary is s 4 _ _ _ (fits Q is s (omega arith) tt) tt
              (at_first s.pc 3 o.sound.pc, a, o.code.0, ((1, omega arith, refl), four s.pc a, o.code.1.0, tt))
              (rw (t, twelve s.pc)) refl refl;
        }

    branch_jump : taken k (s.f c) 0 ≡ false → At places start here (items c l k) s → Done places start Q here (items c l k) s s.f s.mem (to l)
    unfolding resolved effect apply setx upd temporary
    branch_jump t o =
        let is : List Instr = branch_instrs places here c l k in
        let a = at_aligned places start here s o in
        let h : here ≤ 65536 = o.here_small in
        let p : places l ≤ 65536 = g.small l in
        let b : w64 (s.pc + 4) % 4 ≡ 0 = four s.pc a in
        let e = pair_reaches start (places l) (here + 4 + 4) (omega arith) (omega arith) in
        record {
          count = 4;
          few = omega arith;
          ends =
              by_path Q temporary is s 4 _ _ _ (fits Q is s (branch_valid places here c l k hc) tt) tt (
                at_first s.pc 3 o.sound.pc,
                a,
                o.code.0,
                (
                  (1, omega arith, refl),
                  b,
                  o.code.1.0,
                  (
                    (2, omega arith, rw t (eight s.pc)),
                    rw t (four _ b),
                    rw t o.code.1.1.0,
                    ((3, omega arith, rw t (last s.pc)), rw t (four _ (four _ b)), rw t o.code.1.1.1.0, tt),
                  ),
                ),
              )
              (rw (t, o.pc, third start here, e) (even start (places l) o.start_aligned (g.aligned l)))
              refl refl;
        }

  pub branch_does : (c l : ℕ) (e : Bool) → c < 32 → At places start here (items c l (skip e)) s → Done places start Q here (items c l (skip e)) s s.f s.mem (cond (jumps e (s.f c)) (to l) on)
  branch_does c l e hc o = by (jumps e (s.f c)) refl
    where
      by : (t : Bool) → jumps e (s.f c) ≡ t → Done places start Q here (items c l (skip e)) s s.f s.mem (cond t (to l) on)
      by true q = branch_jump c l (skip e) hc (tested e (s.f c) ∙ ap not q) o
      by false q = branch_over c l (skip e) hc (tested e (s.f c) ∙ ap not q) o

-- a label has no word
pub label_does : (places : ℕ → ℕ) (start here : ℕ) (s : State) (Q : Floats) (l : ℕ) → At places start here (label l ∷ []) s → Done places start Q here (label l ∷ []) s s.f s.mem on
unfolding resolved
label_does places start here s Q l o =
    record {
      count = 0;
      few = omega arith;
      ends = by_straight Q temporary [] s _ _ tt tt o.sound (at_aligned places start here s o) tt refl refl;
    }

-- Items that are instructions alone, what is not refused, and ends that go on. Assumes nothing.
use mathlib.Core.Path.{◌≡◌, refl, ap}
use mathlib.Core.Bool.{◌&&◌, cond}
use mathlib.Core.List.{List, [], ◌∷◌, map}
use Prim.Native.Nat.{ℕ, suc, ◌+◌, ◌*◌, ◌%◌, ◌≤◌, ◌<◌}
use native.Mathlib.Nat.{le_refl}
use native.Mathlib.Omega.{arith}
use lib.Dec.{T, ltb, leb, ltb→lt, leb→le}
use lib.IntN.{sub_ℕ}
use lib.ListN.{length, length-map}
use Rattle.isa.specs.Instr.{Instr}
use Rattle.isa.specs.Encode.{encode}
use Rattle.machine.specs.Word.{w64}
use Rattle.machine.specs.Floats.{Floats}
use Rattle.machine.specs.State.{State}
use Rattle.machine.proofs.Exec.{execs}
use Rattle.machine.specs.Ends.{temporary, Ends}
use Rattle.base.proofs.Bools.{and_l, and_r, passed}
use Rattle.machine.proofs.Straight.{straight, by_straight}
use Rattle.machine.proofs.Placed.{Valids}
use Rattle.assembler.specs.Item.{Item, instr, raw, jump, label}
use Rattle.assembler.specs.Jump.{jump_instr}
use Rattle.assembler.specs.Resolved.{resolved}
pub use Rattle.assembler.proofs.Items.{resolved_instrs}
use Rattle.accesses.specs.Stands.{Stands}
use Rattle.accesses.proofs.Then.{silent, fits}
use Rattle.reading.specs.Meaning.{on}
use Rattle.ast.specs.Uses.{registers_fit}
use Rattle.orders.specs.Does.{At, Done}

-- ---- instructions as items

-- The instructions of items of which the first is at `here`, once every label has its place. (Items of an order are no raw words.)
unfoldable pub resolve : (places : ℕ → ℕ) → (here : ℕ) → List Item → List Instr
resolve places here [] = []
resolve places here (instr i ∷ is) = i ∷ resolve places (here + 4) is
resolve places here (raw w ∷ is) = resolve places (here + 4) is
resolve places here (jump k l r ∷ is) = jump_instr k r (sub_ℕ (places l) here) ∷ resolve places (here + 4) is
resolve places here (label l ∷ is) = resolve places here is

pub resolve_instrs : (places : ℕ → ℕ) (here : ℕ) (is : List Instr) → resolve places here (map instr is) ≡ is
unfolding resolve
resolve_instrs places here [] = refl
resolve_instrs places here (i ∷ is) = ap {B = List Instr} (λ r. i ∷ r) (resolve_instrs places (here + 4) is)

pub resolved_length : (places : ℕ → ℕ) (here : ℕ) (is : List Instr) → length (resolved places here (map instr is)) ≡ length is
resolved_length places here is = rw (resolved_instrs places here is) (length-map is encode)

-- ---- registers that are not refused

abbrev pub Below : List ℕ → Type 0
Below [] = Unit {0}
Below (r ∷ rs) = (r < 32) × Below rs

pub below : (rs : List ℕ) → T (registers_fit rs) → Below rs
below [] h = tt
below (r ∷ rs) h = (ltb→lt r 32 (and_l (ltb r 32) (registers_fit rs) h), below rs (and_r (ltb r 32) (registers_fit rs) h))

pub registers_below : (rs : List ℕ) → ◌≡◌ {A = ℕ} (cond (registers_fit rs) 0 1) 0 → Below rs
registers_below rs e = below rs (passed (registers_fit rs) 0 0 e).0

pub checked_below : (rs : List ℕ) (n last k : ℕ) → ◌≡◌ {A = ℕ} (cond (registers_fit rs) (cond (leb n last) 0 (suc k)) 1) 0 → Below rs × (n ≤ last)
checked_below rs n last k e =
    let p = passed (registers_fit rs) _ _ e in
    (below rs p.0, leb→le n last (passed (leb n last) 0 k p.1).0)

-- ---- from where it stands

module _ (places : ℕ → ℕ) (start here : ℕ) (s : State) where
  pub at_aligned : {is : List Item} → At places start here is s → s.pc % 4 ≡ 0
  at_aligned o =
      let a : start % 4 ≡ 0 = o.start_aligned in
      let b : here % 4 ≡ 0 = o.here_aligned in
      rw o.pc (omega arith)

  module _ (is : List Instr) (o : At places start here (map instr is) s) where
    pub at_stands : Stands is s
    at_stands =
        record { sound = o.sound; aligned = at_aligned o; code = rw (resolved_instrs places here is) at o.code }

    -- instructions that end behind themselves
    pub goes_on : (Q : Floats) (f m : ℕ → ℕ) → Ends Q temporary s (length is) (length is) (w64 (s.pc + 4 * length is)) f m → Done places start Q here (map instr is) s f m on
    goes_on Q f m e =
        let n = resolved_length places here is in
        record { count = length is; few = rw n (le_refl (length is)); ends = rw n e }

    -- straight code
    pub straight_done : (Q : Floats) (f m : ℕ → ℕ) → Valids is → T (silent Q is s && straight Q temporary is s) → (execs Q is s).f ≡ f → (execs Q is s).mem ≡ m → Done places start Q here (map instr is) s f m on
    straight_done Q f m v h p q =
        goes_on Q f m (by_straight Q temporary is s f m (fits Q is s v (and_l (silent Q is s) _ h)) (and_r (silent Q is s) _ h) o.sound (at_aligned o) at_stands.code p q)

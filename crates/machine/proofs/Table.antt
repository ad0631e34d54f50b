-- `step` gives what an outside machine gave: one computed test over the rows of `Rows`.
use mathlib.Core.Path.{◌≡◌, refl}
use mathlib.Core.Bool.{Bool, true, false, ◌&&◌, cond}
use mathlib.Core.Option.{Option, some, none, bind}
use mathlib.Core.List.{List, [], ◌∷◌, ◌++◌, map}
use Prim.Native.Nat.{ℕ, zero, suc, ◌+◌, ◌-◌, ◌/◌, ◌%◌, ◌^◌}
use lib.Dec.{T, eqb, ltb, leb}
use Rattle.isa.specs.Encode.{encode, join, fields}
use Rattle.isa.specs.Decode.{decode, reading, cut}
use Rattle.machine.specs.Word.{upd, dist, load4, load8, store8}
use Rattle.machine.specs.Floats.{Floats}
use Rattle.machine.proofs.Binary64.{binary64}
use Rattle.machine.specs.State.{State, setx}
use Rattle.machine.specs.Effect.{access, effect, apply}
use Rattle.machine.specs.Step.{fetch, step}
use Rattle.machine.proofs.Rows.{Row, row, Change, reg, freg, bytes, whole, shifts, jumps, memory, parts, moves, sums, products, roots, comparisons, conversions, stopped, trapped, asked_f, asked_x}

-- ---- the state before

-- the value given for k, else d
abbrev given : List (ℕ × ℕ) → ℕ → ℕ → ℕ
given [] k d = d
given (p ∷ ps) k d = cond (eqb p.0 k) p.1 (given ps k d)

-- the n bytes of v from a on, and m elsewhere
abbrev laid : (n a v : ℕ) → (ℕ → ℕ) → ℕ → ℕ
laid n a v m y = cond (leb a y && ltb y (a + n)) (v / 256 ^ (y - a) % 256) (m y)

-- the word at pc, the cell, and 0 elsewhere
abbrev bytes_of : (word pc a v : ℕ) → ℕ → ℕ
bytes_of w pc a v = laid 8 a v (laid 4 pc w (λ y. 0))

-- A register that isn't given holds 7000 plus its number (x0 too: it must read 0), a float register 9000 plus its number.
abbrev start : Row → State
start (row w pc rm xs fs c pc' cs) =
    record {
      pc = pc;
      x = λ r. given xs r (7000 + r);
      f = λ r. given fs r (9000 + r);
      rm = rm;
      mem = bytes_of w pc c.0 c.1;
    }

-- ---- the state after

-- a register, a float register and the cell, where d was before
abbrev reg_after : List Change → ℕ → ℕ → ℕ
reg_after [] r d = d
reg_after (reg k v ∷ cs) r d = cond (eqb k r) v (reg_after cs r d)
reg_after (freg k v ∷ cs) r d = reg_after cs r d
reg_after (bytes v ∷ cs) r d = reg_after cs r d

abbrev freg_after : List Change → ℕ → ℕ → ℕ
freg_after [] r d = d
freg_after (reg k v ∷ cs) r d = freg_after cs r d
freg_after (freg k v ∷ cs) r d = cond (eqb k r) v (freg_after cs r d)
freg_after (bytes v ∷ cs) r d = freg_after cs r d

abbrev cell_after : List Change → ℕ → ℕ
cell_after [] d = d
cell_after (reg k v ∷ cs) d = cell_after cs d
cell_after (freg k v ∷ cs) d = cell_after cs d
cell_after (bytes v ∷ cs) d = v

module _ {X : Type 0} where
  abbrev is_none : Option X → Bool
  is_none none = true
  is_none (some x) = false

  -- p holds of all members
  abbrev every : (X → Bool) → List X → Bool
  every p [] = true
  every p (x ∷ xs) = p x && every p xs

-- p holds at the n numbers from a on
abbrev throughout : (n a : ℕ) → (ℕ → Bool) → Bool
throughout zero a p = true
throughout (suc n) a p = p a && throughout n (suc a) p

-- There is a next state, with the pc and the changes of the row. Looked at are all 32 registers of both kinds, the mode, the cell with
-- the eight bytes on either side, and the word with the four on either side.
abbrev as_made : Row → Option State → Bool
as_made r none = false
as_made (row w pc rm xs fs c pc' cs) (some t) =
    let m = bytes_of w pc c.0 (cell_after cs c.1) in
    eqb t.pc pc' && eqb t.rm rm && throughout 32 0 (λ r. eqb (t.x r) (reg_after cs r (given xs r (7000 + r))))
    && throughout 32 0 (λ r. eqb (t.f r) (freg_after cs r (given fs r (9000 + r))))
    && throughout 24 (c.0 - 8) (λ y. eqb (t.mem y) (m y))
    && throughout 12 (pc - 4) (λ y. eqb (t.mem y) (m y))

abbrev agrees : Row → Bool
agrees r = as_made r (step binary64 (start r))

-- the rows of instructions that neither read nor write memory
abbrev inner : List Row
inner = whole ++ (shifts ++ (jumps ++ (moves ++ (sums ++ (products ++ (roots ++ (comparisons ++ conversions)))))))

-- Every row: the step is what the outside machine made.
pub rows_agree : T (every agrees (memory ++ (parts ++ inner)))
unfolding memory parts whole shifts jumps moves sums products roots comparisons conversions step fetch decode reading cut encode join fields effect apply setx upd dist load4 load8 store8 binary64 bind
rows_agree = tt

-- ---- what is accessed

-- the address that the row's instruction reads or writes, if any
abbrev accessed : Row → Option ℕ
accessed r = bind (bind (fetch (start r)) decode) (λ i. access i (start r))

abbrev at_cell : Row → Option ℕ → Bool
at_cell r none = false
at_cell (row w pc rm xs fs c pc' cs) (some a) = eqb a c.0

-- `access` names the cell in every load and store, and nothing in the other rows.
pub cells_accessed : T (every (λ r. at_cell r (accessed r)) memory)
unfolding memory fetch decode reading cut encode join fields load4 bind
cells_accessed = tt

pub nothing_accessed : T (every (λ r. is_none (accessed r)) inner)
unfolding whole shifts jumps moves sums products roots comparisons conversions fetch decode reading cut encode join fields load4 bind
nothing_accessed = tt

-- ---- no next state

-- Every word and pc of `stopped`: there is no step.
pub stopped_stop : T (every (λ p. is_none (step binary64 (start (row p.0 p.1 0 [] [] (0, 0) 0 [])))) stopped)
unfolding stopped step fetch decode reading cut encode join fields load4 bind
stopped_stop = tt

-- Every word and x6 of `trapped`: there is no step, by document 02 (the outside machine doesn't trap).
pub trapped_stop : T (every (λ p. is_none (step binary64 (start (row p.0 0x40400000 0 ((6, p.1) ∷ []) [] (0, 0) 0 [])))) trapped)
unfolding trapped step fetch decode reading cut encode join fields load4 bind
trapped_stop = tt

-- ---- any `Floats`: the rows leave open which mode and which order of operands a sum is asked with

abbrev after : Option State → (State → ℕ) → ℕ
after none g = 0
after (some t) g = g t

module _ (Q : Floats) where
  -- what g finds after a word, in the mode m
  abbrev found : (State → ℕ) → (word m : ℕ) → ℕ
  found g w m = after (step Q (start (row w 0 m [] [] (0x50000000, 0) 0 []))) g

  -- Each float instruction asks the function that the Manual names, with its operands in order and in the mode of its rounding field.
  pub asked_f_is : map (λ p. found (λ t. t.f 5) p.0 p.1) asked_f ≡ map (λ p. p.2 Q) asked_f
  unfolding asked_f step fetch decode reading cut encode join fields effect apply upd load4 bind
  asked_f_is = refl

  pub asked_x_is : map (λ p. found (λ t. t.x 5) p.0 p.1) asked_x ≡ map (λ p. p.2 Q) asked_x
  unfolding asked_x step fetch decode reading cut encode join fields effect apply setx upd load4 bind
  asked_x_is = refl

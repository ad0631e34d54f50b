-- A line that the fast path takes. Assumes nothing.
use mathlib.Core.Path.{◌≡◌, refl}
use mathlib.Core.Bool.{Bool, true, false, cond}
use mathlib.Core.List.{List, ◌∷◌}
use mathlib.Core.Option.{Option, some, none}
use Prim.Native.Nat.{ℕ, ◌+◌}
use native.Mathlib.Omega.{arith}
use Rattle.refusal.specs.Answer.{Answer, accepted, refused}
use Rattle.ast.specs.declared.Head.{Head}
use Rattle.ast.specs.declared.Order.{Order}
use Rattle.ast.specs.declared.Constant.{Constant}
use Rattle.deck.specs.Judge.{Content}
use Rattle.deck.specs.Judge as Deck
use Rattle.assembler.specs.State.{State, Outcome}
use Rattle.orders.specs.Wrote.{roomy}
use Rattle.orders.specs.Emitted.{emitted_in}
use Rattle.fast.specs.Inner.Fast.{only_order, if_accepted, taken, placed_in, fast_line}
use Rattle.routine.specs.Run.{says, lines_run}
use Rattle.routine.proofs.Lined.{order_passes}

no_state : {P : Type 0} (u : State) → ◌≡◌ {A = Option State} none (some u) → P
no_state u e = let z : ◌≡◌ {A = ℕ} 0 1 = cc in absurd (omega arith)

taken_is : (a : Answer (Unit {0})) (s u : State) → if_accepted a s ≡ some u → ◌≡◌ {A = Outcome} (record { answer = a; state = s }) (record { answer = accepted tt; state = u })
taken_is (accepted x) s u e = let z : s ≡ u = cc in rw z
taken_is (refused n place) s u e = no_state u e

module _ (H : Head) (n : ℕ) (cs : List Constant) (l ts : List (List ℕ)) (t : List ℕ) (s u : State) (i : l ≡ t ∷ ts) where
  placed_passes : (o : Order) → says t ≡ accepted (Deck.order o) → placed_in H (n + 1) (some o) s ≡ some u → lines_run H n cs l s ≡ lines_run H (n + 1) cs ts u
  placed_passes o j e = by (roomy s.asm.len s.buf) e
    where
      by : (b : Bool) → cond b (taken (emitted_in H (n + 1) o s)) none ≡ some u → lines_run H n cs l s ≡ lines_run H (n + 1) cs ts u
      by true f = order_passes H n cs l ts t s u o i j (taken_is _ _ u f)
      by false f = no_state u f

  -- the state that it leaves is the run's
  pub fast_passes : fast_line H (n + 1) t s ≡ some u → lines_run H n cs l s ≡ lines_run H (n + 1) cs ts u
  unfolding fast_line
  fast_passes e = by (says t) refl e
    where
      by : (x : Answer Content) → says t ≡ x → placed_in H (n + 1) (only_order x) s ≡ some u → lines_run H n cs l s ≡ lines_run H (n + 1) cs ts u
      by (accepted (Deck.order o)) j f = placed_passes o j f
      by (accepted (Deck.head h)) j f = no_state u f
      by (accepted (Deck.constant c)) j f = no_state u f
      by (refused k place) j f = no_state u f

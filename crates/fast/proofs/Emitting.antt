-- Orders that have jumps or set a label, by what emitting them answers. Assumes nothing.
use mathlib.Core.Path.{◌≡◌, refl, sym, ap, ◌∙◌}
use mathlib.Core.Bool.{Bool, false}
use Prim.Native.Nat.{ℕ, zero, suc}
use native.Mathlib.Omega.{arith}
use Rattle.std.specs.Prelude.{Result, Ok, Err}
use Rattle.std.specs.Result.{is_ok}
use Rattle.refusal.specs.Answer.{Answer, accepted, refused}
use Rattle.refusal.specs.Number.{number_of}
use Rattle.refusal.specs.declared.Refused.{Refused}
use Rattle.ast.specs.declared.Order.{Order}
use Rattle.assembler.specs.State.{State, Outcome, emit_answer}
use Rattle.assembler.specs.Put.{placed, put_number, settled, put}
use Rattle.orders.specs.Emitted.{items, emitted}
use Rattle.orders.specs.Fault.{fault}
use Rattle.fast.specs.Inner.Fast.{taken, if_accepted, left, Leaves}

clash : (n p : ℕ) → ◌≡◌ {A = Answer (Unit {0})} (accepted tt) (refused n p) → ⊥
clash n p e = let z : ◌≡◌ {A = ℕ} 0 1 = cc in omega arith

-- refused: nothing has changed
settled_kept : (n p k : ℕ) (s t : State) → (settled k s t).answer ≡ refused n p → (settled k s t).state ≡ s
unfolding settled
settled_kept n p zero s t e = absurd (clash n p e)
settled_kept n p (suc k) s t e = refl

emitted_kept : (tag : ℕ) (o : Order) (s : State) (n p : ℕ) → (emitted tag o s).answer ≡ refused n p → (emitted tag o s).state ≡ s
unfolding put
emitted_kept tag o s n p e = settled_kept n p (put_number (fault o) (items o) s) s (placed tag (items o) s) e

-- taken where it is accepted
left_is : (r : Result (Unit {0}) Refused) (t : State) → left (is_ok r) t ≡ if_accepted (emit_answer r) t
left_is (Ok x) t = refl
left_is (Err e) t = refl

module _ (tag : ℕ) (o : Order) (s t : State) where
  pub jumped : (r : Result (Unit {0}) Refused) (b : Bool) → b ≡ is_ok r → ◌≡◌ {A = Outcome} (record { answer = emit_answer r; state = t }) (emitted tag o s) → Leaves (taken (emitted tag o s)) b s t
  jumped r b h e = rw h (left_is r t ∙ ap taken e, kept r e)
    where
      kept : (r : Result (Unit {0}) Refused) → ◌≡◌ {A = Outcome} (record { answer = emit_answer r; state = t }) (emitted tag o s) → is_ok r ≡ false → t ≡ s
      kept (Ok x) e q = let z : ◌≡◌ {A = ℕ} 0 1 = cc in absurd (omega arith)
      kept (Err f) e q = ap (λ (x : Outcome). x.state) e ∙ emitted_kept tag o s (number_of f.why) f.place (sym (ap (λ (x : Outcome). x.answer) e))

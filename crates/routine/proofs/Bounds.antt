-- The record that is accepted is within its bounds. Assumes nothing.
use mathlib.Core.Path.{◌≡◌, sym, ap, ◌∙◌}
use mathlib.Core.Bool.{true, ◌&&◌}
use mathlib.Core.List.{List, [], ◌++◌, append-nil}
use Prim.Native.Nat.{ℕ, ◌%◌, ◌≤◌}
use native.Mathlib.Omega.{arith}
use borrow.Author.Tests.{leb-true}
use lib.Dec.{leb, eqb}
use lib.ListN.{length}
use Rattle.base.proofs.Bools.{both}
use Rattle.refusal.specs.Answer.{accepted}
use Rattle.assembler.specs.Item.{Item}
use Rattle.assembler.specs.Bytes.{room}
use Rattle.assembler.specs.Put.{put, placed}
use Rattle.assembler.specs.State.{State, sound}
use Rattle.assembler.specs.declared.Asm.{Asm}
use Rattle.finish.specs.Finish.{FinishOutcome, finish, finish_number, finished, finish_outcome}
use Rattle.std.specs.Prelude.{Result, Ok, Err, OnOk}
use Rattle.refusal.specs.declared.Refused.{Refused}
use Rattle.finish.proofs.All.{accepts, zero_then, zero_else}
use Rattle.finish.proofs.Both.{moved, Accepts, put_split}
use Rattle.finish.proofs.Resolves.{finish_accepts}
use Rattle.routine.specs.Inner.Places.{Open}
use Rattle.routine.proofs.Onward.{told}

pub sound_bounds : (n : ℕ) (a : Asm) → sound n a ≡ true → (a.len ≤ 65536) × (a.jumps ≤ 4096)
unfolding sound
sound_bounds n a e =
    let u = both (leb a.len (room n)) (eqb (a.len % 4) 0 && leb a.jumps 4096) e in
    let v = both (eqb (a.len % 4) 0) (leb a.jumps 4096) u.1 in
    (omega (arith, leb-true a.len (room n) u.0), leb-true a.jumps 4096 v.1)

finish_sound : (s : State) → finish_number s ≡ 0 → sound (length s.buf) s.asm ≡ true
unfolding finish_number
finish_sound s e = (zero_else (sound (length s.buf) s.asm) _ 1 (zero_then s.asm.closed 7 _ e).1).0

pub finish_bounds : (s : State) (a : Asm) (ls js b : List ℕ) → finish_outcome (Ok tt) a ls js b ≡ finish s → (a.len ≤ 65536) × (a.jumps ≤ 4096)
finish_bounds s a ls js b e =
    let p = finish_accepts s (sym (ap (λ (r : FinishOutcome). r.answer) e)) in
    let q : a ≡ (finished s).asm = ap (λ (r : FinishOutcome). r.state.asm) e ∙ ap (λ (t : State). t.asm) p.1 in
    rw q (sound_bounds (length s.buf) s.asm (finish_sound s p.0))

-- what an accepted order leaves is open to others
pub put_open : (tag fault : ℕ) (is : List Item) (s : State) (t : State) → told (Ok tt) t ≡ put tag fault is s → Open t
unfolding put placed
put_open tag fault is s t e =
    let a : put tag fault is s ≡ record { answer = accepted tt; state = t } = sym e in
    let p = accepts tag fault is s t a in
    let q : Accepts tag (is ++ []) s t = rw (append-nil is) (ap (λ (k : ℕ). put tag k is s) (sym p.0.no_fault) ∙ a) in
    rw (← p.1) at (put_split tag is [] s t q).1

pub ok_open : (tag fault : ℕ) (is : List Item) (s : State) (r : Result (Unit {0}) Refused) (t : State) → told r t ≡ put tag fault is s → OnOk r (Open t)
ok_open tag fault is s (Ok u) t e = put_open tag fault is s t e
ok_open tag fault is s (Err x) t e = tt

pub put_bound : (tag fault : ℕ) (is : List Item) (s : State) (t : State) → told (Ok tt) t ≡ put tag fault is s → t.asm.len ≤ 65536
put_bound tag fault is s t e =
    let a : put tag fault is s ≡ record { answer = accepted tt; state = t } = sym e in
    let p = accepts tag fault is s t a in
    omega (arith, ap (λ (u : State). u.asm.len) p.1, (moved tag is s).len, p.0.room_left)

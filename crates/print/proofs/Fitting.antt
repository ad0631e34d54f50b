-- A text that fits, and one that does not.
use mathlib.Core.Path.{◌≡◌, refl, sym, ap, ◌∙◌}
use mathlib.Core.Bool.{Bool, true, false, cond}
use mathlib.Core.List.{List}
use Rattle.std.specs.declared.result.Result.{Result}
use Rattle.std.specs.declared.result.Result.TheVariants.{Ok, Err}
use Prim.Native.Nat.{ℕ, ◌+◌, ◌≤◌}
use native.Mathlib.Nat.{zero-add}
use native.Mathlib.Omega.{arith}
use borrow.Author.Tests.{leb-true}
use lib.Dec.{leb}
use lib.ListN.{length}
use lib.Seq.{sets}
use Rattle.print.specs.Text.{Puts, length_in}
use Rattle.print.specs.Writer.{Wrote}
use Rattle.print.specs.declared.writer.Writer.{Writer}
use Rattle.print.specs.declared.TooLong.{TooLong}

pub too_long : (text : List ℕ) (at : ℕ) (buf : List ℕ) → leb (at + length text) (length buf) ≡ false → Puts text at buf (Err (record {})) buf
too_long text at buf e = (simp e, simp e)

pub fits : (text : List ℕ) (at : ℕ) (buf after : List ℕ) (k : ℕ) → leb (at + length text) (length buf) ≡ true → k ≡ length text → after ≡ sets buf at text → Puts text at buf (Ok k) after
fits text at buf after k e h o = (simp e (ap Ok h), simp e o)

-- from the first byte on
pub from_start : (text buf : List ℕ) {t : Bool} → leb (length text) (length buf) ≡ t → leb (0 + length text) (length buf) ≡ t
from_start text buf e = rw zero-add e

-- it has room, as an answer says
pub room_said : (text : List ℕ) (at : ℕ) (buf : List ℕ) (n : ℕ) → length_in text at buf ≡ Ok n → (leb (at + length text) (length buf) ≡ true) × (n ≡ length text)
room_said text at buf n e = go (leb (at + length text) (length buf)) refl e
  where
    go : (t : Bool) → leb (at + length text) (length buf) ≡ t → cond {A = Result ℕ TooLong} t (Ok (length text)) (Err (record {})) ≡ Ok n → (leb (at + length text) (length buf) ≡ true) × (n ≡ length text)
    go true h f = (h, cc)
    go false h f = absurd (let z : ◌≡◌ {A = ℕ} 0 1 = cc in omega arith)

pub room_for : (text : List ℕ) (at : ℕ) (buf : List ℕ) {n : ℕ} → length_in text at buf ≡ Ok n → at + length text ≤ length buf
room_for text at buf {n = n} e = leb-true (at + length text) (length buf) (room_said text at buf n e).0

-- and so it is put
pub put_whole : {text : List ℕ} {n : ℕ} {v w : Writer} → length_in text v.at v.out.now ≡ Ok n → Wrote text v w → Puts text v.at v.out.now (Ok n) w.out.now
put_whole {text = text} {n = n} {v = v} e p =
    let r = room_said text v.at v.out.now n e in
    fits text v.at v.out.now _ n r.0 r.1 p.out

-- a text that was put is no longer than the buffer
pub text_room : (text buf left : List ℕ) (n : ℕ) (r : Result ℕ TooLong) → r ≡ length_in text 0 buf → r ≡ Ok n → length left ≡ length buf → n ≤ length left
text_room text buf left n r e f g =
    let h = room_said text 0 buf n (sym e ∙ f) in
    let k = leb-true (0 + length text) (length buf) h.0 in
    omega (arith, h.1, k, g)

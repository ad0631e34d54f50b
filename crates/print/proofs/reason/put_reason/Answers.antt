use mathlib.Core.Path.{sym, ◌∙◌}
use mathlib.Core.List.{List, [], ◌∷◌, ◌++◌}
use Prim.Native.Nat.{ℕ}
use native.Mathlib.Omega.{arith}
use borrow.Author.Rules.{rules}
use Rattle.print.specs.Reason.{reason_front}
use Rattle.print.proofs.Fitting.{room_for, put_whole}
use Rattle.print.proofs.Sentences.{length_front, length_reason}
use Rattle.print.proofs.Written.{behind}
use Rattle.print.proofs.reason.put_reason.Goals as goal

-- the whole text
abbrev whole : (number line : ℕ) → List ℕ → List ℕ
whole number line t = reason_front number line ++ (t ++ (10 ∷ []))

pub returns-in_err-k : goal.returns-in_err-k
returns-in_err-k c =
    let a = c.args in
    let e = c.room.ensures (whole a.number a.line a.text.now) (omega (arith, length_reason a.number a.line a.text.now, c.decimal_length.ensures.0, c.decimal_length-2.ensures.0)) in
    search rules

pub put_front-requires : goal.put_front-requires
put_front-requires c =
    let a = c.args in
    let e = c.room.ensures (whole a.number a.line a.text.now) (omega (arith, length_reason a.number a.line a.text.now, c.decimal_length.ensures.0, c.decimal_length-2.ensures.0)) in
    omega (arith, room_for (whole a.number a.line a.text.now) 0 a.out.now (sym e ∙ c.in_ok-k.was), length_reason a.number a.line a.text.now, length_front a.number a.line)

pub bytes-requires : goal.bytes-requires
bytes-requires c =
    let a = c.args in
    let e = c.room.ensures (whole a.number a.line a.text.now) (omega (arith, length_reason a.number a.line a.text.now, c.decimal_length.ensures.0, c.decimal_length-2.ensures.0)) in
    omega (arith, room_for (whole a.number a.line a.text.now) 0 a.out.now (sym e ∙ c.in_ok-k.was), length_reason a.number a.line a.text.now, length_front a.number a.line, c.put_front.ensures.at, c.put_front.ensures.as_long)

pub byte-requires : goal.byte-requires
byte-requires c =
    let a = c.args in
    let e = c.room.ensures (whole a.number a.line a.text.now) (omega (arith, length_reason a.number a.line a.text.now, c.decimal_length.ensures.0, c.decimal_length-2.ensures.0)) in
    omega (arith, room_for (whole a.number a.line a.text.now) 0 a.out.now (sym e ∙ c.in_ok-k.was), length_reason a.number a.line a.text.now, length_front a.number a.line, c.put_front.ensures.at, c.put_front.ensures.as_long, c.bytes.ensures.at, c.bytes.ensures.as_long)

pub returns : goal.returns
returns c =
    let a = c.args in
    let e = c.room.ensures (whole a.number a.line a.text.now) (omega (arith, length_reason a.number a.line a.text.now, c.decimal_length.ensures.0, c.decimal_length-2.ensures.0)) in
    let p = put_whole (sym e ∙ c.in_ok-k.was) (behind c.put_front.ensures (behind c.bytes.ensures c.byte.ensures)) in
    (p.0, let q = p.1 in search rules)

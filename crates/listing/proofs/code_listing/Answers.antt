use mathlib.Core.Path.{◌≡◌, sym, ap, ◌∙◌}
use mathlib.Core.Bool.{true}
use Prim.Native.Nat.{ℕ}
use Rattle.refusal.specs.Answer.{refused}
use Rattle.print.specs.Listing.{first_answer}
use Rattle.listing.proofs.Listed.{fine, not_fine, cut, is_foreign, is_listed, told_lines, told_as}
use Rattle.listing.proofs.code_listing.Goals as goal

pub returns-then-not-is_offset : goal.returns-then-not-is_offset
returns-then-not-is_offset c =
    let a = c.args in
    let b = c.bad_offset in
    told_as a.code.now a.constants a.out.now _ b.result _ (not_fine a.code.now a.constants (sym c.is_offset.ensures ∙ c.if-not-is_offset.true)) b.ensures

pub returns-then-code-ne0 : goal.returns-then-code-ne0
returns-then-code-ne0 c =
    let in_order : fine c.args.code.now c.args.constants ≡ true = sym c.is_offset.ensures ∙ c.if-not-is_offset.false in
    let a = c.args in
    let f = c.foreign in
    told_as a.code.now a.constants a.out.now _ f.result _ (cut a.code.now a.constants in_order c.if-code-ne0.true ∙ ap (λ (n : ℕ). refused 14 n) (sym c.cut_place.ensures)) f.ensures

pub returns-in-Some : goal.returns-in-Some
returns-in-Some c =
    let in_order : fine c.args.code.now c.args.constants ≡ true = sym c.is_offset.ensures ∙ c.if-not-is_offset.false in
    let f = c.foreign-in-Some in
    let a = c.args in
    told_as a.code.now a.constants a.out.now _ f.result _ (is_foreign a.code.now a.constants in_order c.if-code-ne0.false _ (sym (ap first_answer c.in-Some.is) ∙ c.first_foreign-first.ensures)) f.ensures

pub returns-in-None : goal.returns-in-None
returns-in-None c =
    let in_order : fine c.args.code.now c.args.constants ≡ true = sym c.is_offset.ensures ∙ c.if-not-is_offset.false in
    let p = c.lines_text-text in
    let a = c.args in
    told_lines a.code.now a.constants a.out.now _ p.result (is_listed a.code.now a.constants in_order c.if-code-ne0.false (sym (ap first_answer c.in-None.is) ∙ c.first_foreign-first.ensures)) p.ensures

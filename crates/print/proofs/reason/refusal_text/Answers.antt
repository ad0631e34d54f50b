use mathlib.Core.Path.{refl}
use Rattle.print.proofs.Sentences.{told, no_sentence}
use Rattle.print.proofs.reason.refusal_text.Goals as goal

pub returns-in_default : goal.returns-in_default
returns-in_default c =
    let a = c.args in
    no_sentence a.number a.out.now c.in_default.in_default-own.rest.0 c.in_default.in_default-own.rest.1

pub returns-in-1 : goal.returns-in-1
returns-in-1 c = told _ 1 _ c.args.out.now _ _ c.in-1.is refl c.put_text.ensures

pub returns-in-2 : goal.returns-in-2
returns-in-2 c = told _ 2 _ c.args.out.now _ _ c.in-2.is refl c.put_text-in-2.ensures

pub returns-in-3 : goal.returns-in-3
returns-in-3 c = told _ 3 _ c.args.out.now _ _ c.in-3.is refl c.put_text-in-3.ensures

pub returns-in-4 : goal.returns-in-4
returns-in-4 c = told _ 4 _ c.args.out.now _ _ c.in-4.is refl c.put_text-in-4.ensures

pub returns-in-5 : goal.returns-in-5
returns-in-5 c = told _ 5 _ c.args.out.now _ _ c.in-5.is refl c.put_text-in-5.ensures

pub returns-in-6 : goal.returns-in-6
returns-in-6 c = told _ 6 _ c.args.out.now _ _ c.in-6.is refl c.put_text-in-6.ensures

pub returns-in-7 : goal.returns-in-7
returns-in-7 c = told _ 7 _ c.args.out.now _ _ c.in-7.is refl c.put_text-in-7.ensures

pub returns-in-8 : goal.returns-in-8
returns-in-8 c = told _ 8 _ c.args.out.now _ _ c.in-8.is refl c.put_text-in-8.ensures

pub returns-in-9 : goal.returns-in-9
returns-in-9 c = told _ 9 _ c.args.out.now _ _ c.in-9.is refl c.put_text-in-9.ensures

pub returns-in-10 : goal.returns-in-10
returns-in-10 c = told _ 10 _ c.args.out.now _ _ c.in-10.is refl c.put_text-in-10.ensures

pub returns-in-11 : goal.returns-in-11
returns-in-11 c = told _ 11 _ c.args.out.now _ _ c.in-11.is refl c.put_text-in-11.ensures

pub returns-in-12 : goal.returns-in-12
returns-in-12 c = told _ 12 _ c.args.out.now _ _ c.in-12.is refl c.put_text-in-12.ensures

pub returns-in-14 : goal.returns-in-14
returns-in-14 c = told _ 14 _ c.args.out.now _ _ c.in-14.is refl c.put_text-in-14.ensures

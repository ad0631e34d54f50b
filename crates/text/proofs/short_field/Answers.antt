use Rattle.text.specs.Readers.{read_decimal, field}
use Rattle.text.specs.Inner.Short.{short_of}
use Rattle.text.proofs.Near.{few_is, few_read}
use Rattle.text.proofs.short_field.Goals as goal

pub returns : goal.returns
unfolding short_of
returns c =
    rw (few_is _ _ c.and_then.ensures, c.read_number-numeral.ensures, few_read (read_decimal (field c.args.s.now)))

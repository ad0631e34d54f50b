use Rattle.deck.proofs.Floats.{plain_is, negated_is}
use Rattle.deck.proofs.judge_float.Goals as goal

pub returns-then-minus : goal.returns-then-minus
returns-then-minus c = negated_is _ c.if-v-gt9007199254740992.false _ _ c.in-Value.is c.if-minus.true

pub returns-else-minus : goal.returns-else-minus
returns-else-minus c = plain_is _ c.if-v-gt9007199254740992.false _ _ c.in-Value.is c.if-minus.false

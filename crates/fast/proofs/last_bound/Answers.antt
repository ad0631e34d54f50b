use Rattle.fast.proofs.Fields.{other_bound}
use Rattle.fast.proofs.last_bound.Goals as goal

pub returns-else-shape-eq-LOAD_CONST : goal.returns-else-shape-eq-LOAD_CONST
returns-else-shape-eq-LOAD_CONST c = other_bound c.args.shape c.requires c.if-shape-eq-LOAD_CONST.false

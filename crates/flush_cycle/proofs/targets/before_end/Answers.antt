use Rattle.flush_cycle.proofs.StrippedNames.{strips_end}
use Rattle.flush_cycle.proofs.targets.before_end.Goals as goal

pub returns : goal.returns
returns c = strips_end c.args.end.now c.args.name.now c.strip_suffix.result c.strip_suffix.ensures.cases

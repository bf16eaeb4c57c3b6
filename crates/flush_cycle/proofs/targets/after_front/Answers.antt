use Rattle.flush_cycle.proofs.StrippedNames.{strips_front}
use Rattle.flush_cycle.proofs.targets.after_front.Goals as goal

pub returns : goal.returns
returns c = strips_front c.args.front.now c.args.name.now c.strip_prefix.result c.strip_prefix.ensures.cases

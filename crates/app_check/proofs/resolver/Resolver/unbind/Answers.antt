use Rattle.app_check.proofs.Placed.{stand_cut}
use Rattle.app_check.proofs.resolver.Resolver.unbind.Goals as goal

pub invariant_of-self : goal.invariant_of-self
invariant_of-self c = stand_cut c.self.inside.parameters c.take.result c.kept.result c.self.inside.variables.items c.truncate.new.self.items c.args.count c.take.ensures.value c.kept.ensures c.truncate.ensures.items c.self.invariant

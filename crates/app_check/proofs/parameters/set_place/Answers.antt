use Rattle.app_check.proofs.Keyed.{set_by_name}
use Rattle.app_check.proofs.parameters.set_place.Goals as goal

pub returns-in-Ok-clause-set : goal.returns-in-Ok-clause-set
returns-in-Ok-clause-set c = set_by_name c.as_str.result.now c.args.name.now c.args.places.now c.insert.new.self _ c.as_str.ensures c.in-Ok.ensures.updates

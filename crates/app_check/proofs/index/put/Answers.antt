use Rattle.app_check.proofs.Keyed.{set_by_name}
use Rattle.app_check.proofs.index.put.Goals as goal

pub returns-in-Ok : goal.returns-in-Ok
returns-in-Ok c = set_by_name c.as_str.result.now c.args.entry.now.name.now c.args.first.now c.insert.new.self _ c.as_str.ensures c.in-Ok.ensures.updates

use Rattle.app_tree.specs.View.{shape_of}
use Rattle.key_cover.proofs.Covering.{covered_where_none}
use Rattle.key_cover.proofs.walking.cover.Goals as goal

pub returns-clause-covered : goal.returns-clause-covered
returns-clause-covered c = covered_where_none (shape_of c.args.app.now) c.args.node c.first_met.result c.first_met.ensures

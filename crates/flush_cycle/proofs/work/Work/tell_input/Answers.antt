use Rattle.app_tree.specs.View.{shape_of}
use Rattle.session_model.specs.Observing as observing
use Rattle.flush_cycle.specs.contracts.work.Work.{the_view}
use Rattle.flush_cycle.proofs.Composing.{does_telling}
use Rattle.flush_cycle.proofs.work.Work.tell_input.Goals as goal

pub returns : goal.returns
returns c =
    does_telling c.args.self.now (the_view c.self.inside) c.in_ok-name.name
    (observing.input_name (shape_of c.args.self.now.app) c.args.source) c.args.value c.push.new.self
    c.self.view_is c.requires c.in_ok-name.ensures c.in_ok-push.ensures.ok

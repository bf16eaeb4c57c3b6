use Rattle.app_tree.specs.View.{shape_of}
use Rattle.session_model.specs.Alone.{flush_with_pairs}
use Rattle.taken_cycle.specs.State.{state_of}
use Rattle.taken_cycle.proofs.Sending.{sends_later}
use Rattle.taken_cycle.proofs.event.later_event.Goals as goal

pub returns-clause-sends : goal.returns-clause-sends
returns-clause-sends c =
    let app = shape_of c.args.app.now in
    sends_later app (flush_with_pairs app c.args.pairs.now (state_of c.args.values.now.items c.args.readers.now.items)) _ c.in_ok-pass.pass.outputs _ c.in_ok-pass.ensures.passes c.in_ok-texts.ensures

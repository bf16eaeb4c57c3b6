use Rattle.session_host.proofs.Handled.{text_handled}
use Rattle.session_host.proofs.host.Host.take_text.Goals as goal

pub returns-clause-handles : goal.returns-clause-handles
returns-clause-handles g c =
    text_handled c.self.view_is c.answer.new.self c.apply_read-applied.new.flusher c.push.new.self.events c.push.new.self.room
    c.args.steps.now c.apply_read-applied.new.steps c.answer.result
    c.args.text c.label.result.now c.read_client-read.result c.apply_read-applied.result
    c.requires.has c.push.ensures c.label.ensures c.read_client-read.ensures c.apply_read-applied.ensures.does c.answer.ensures

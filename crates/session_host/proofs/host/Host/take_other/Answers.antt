use Rattle.session_host.proofs.Handled.{other_handled}
use Rattle.session_host.proofs.host.Host.take_other.Goals as goal

pub returns : goal.returns
returns g c = record {
  handles = λ bodies. other_handled c.self.view_is c.answer.new.self c.push.new.self.events c.push.new.self.room bodies c.answer.result c.requires.has c.push.ensures c.answer.ensures;
}

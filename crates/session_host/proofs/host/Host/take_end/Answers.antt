use Rattle.session_host.proofs.Turns.{link_ended_in}
use Rattle.session_host.proofs.host.Host.take_end.Goals as goal

pub returns-clause-kept : goal.returns-clause-kept
returns-clause-kept g c =
    (link_ended_in c.self.view_is c.close.new.self c.push.new.self.events c.push.new.self.room c.close.result c.requires.has c.push.ensures c.close.ensures).kept

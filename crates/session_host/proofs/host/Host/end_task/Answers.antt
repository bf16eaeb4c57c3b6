use Rattle.std.proofs.Common.{refl, arith}
use Rattle.session_host.proofs.Turns.{task_turned}
use Rattle.session_host.proofs.host.Host.end_task.Goals as goal

pub returns-clause-ends : goal.returns-clause-ends
returns-clause-ends g c =
    task_turned c.args.done.task c.args.done.number c.self.view_is c.take_task_end.ensures.handles
    (record { app = refl; label = refl; sent = refl; later = omega arith; gives = refl; journal = c.reserve.ensures.events; flusher = refl })

use Rattle.std.proofs.Common.{[], ◌∷◌, ◌++◌, ap, ◌∙◌}
use Rattle.session_model.specs.declared.event.Event.TheVariants as event
use Rattle.session_host.specs.Hosting.{Hosting}
use Rattle.session_host.proofs.Effects.{runs_open}
use Rattle.session_host.proofs.Handled.{task_handled}
use Rattle.session_host.proofs.host.Host.take_task_end.Goals as goal

pub task_end-flushed-requires-clause-stage : goal.task_end-flushed-requires-clause-stage
task_end-flushed-requires-clause-stage g c =
    ap (λ (h : Hosting). h.flusher.stage) c.self.view_is
    ∙ runs_open c.args.self.now c.args.done.task (record { number = c.args.done.number; args = c.args.done.args }) c.requires.has.goes_on c.requires.running.runs

pub returns-clause-handles : goal.returns-clause-handles
returns-clause-handles g c =
    let e = c.task_end-flushed.ensures in
    task_handled c.self.view_is c.answer.new.self c.task_end-flushed.new.self c.push.new.self.events c.push.new.self.room
    c.args.steps.now c.task_end-flushed.new.steps c.answer.result
    c.args.done.task c.args.done.number c.task_end-flushed.result c.requires.has
    (c.push.ensures ∙ (λ j. c.self.inside.journal.events ++ event.TaskEnd (c.task.ensures j) (c.number.ensures j) ∷ []))
    e.app e.stage e.flushes e.settled e.jobs c.answer.ensures

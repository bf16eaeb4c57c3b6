use Rattle.std.proofs.Common.{sym, ◌∙◌}
use Rattle.flush_cycle.proofs.TaskSteps.{started_fits, starts_does, waits_does, refuses_does}
use Rattle.flush_cycle.proofs.work.Work.start.Goals as goal

pub take_job-requires : goal.take_job-requires
take_job-requires c =
    started_fits c.args.task c.args.args c.args.self.now c.begin_invocation.new.self c.begin_invocation.ensures.known c.requires.task
    c.in_ok-job.ensures.ok c.in-Started.job (sym c.in-Started.is ∙ c.in_ok-job.ensures.answer)

pub returns-in_ok-take_job-in-Started : goal.returns-in_ok-take_job-in-Started
returns-in_ok-take_job-in-Started c =
    starts_does c.args.task c.args.args c.args.self.now c.begin_invocation.new.self c.take_job.new.self c.see_task.new.self
    c.begin_invocation.ensures.known c.in_ok-job.ensures.ok c.in-Started.job (sym c.in-Started.is ∙ c.in_ok-job.ensures.answer)
    c.in_ok-take_job-in-Started.ensures.ok c.see_task.ensures

pub returns-in-Queued : goal.returns-in-Queued
returns-in-Queued c =
    waits_does c.args.task c.args.args c.args.self.now c.begin_invocation.new.self c.begin_invocation.ensures.known c.requires.ready
    c.in_ok-job.ensures.ok (sym c.in-Queued.is ∙ c.in_ok-job.ensures.answer)

pub returns-in_ok-from_str-in-QueueFull : goal.returns-in_ok-from_str-in-QueueFull
returns-in_ok-from_str-in-QueueFull c =
    refuses_does c.args.task c.args.args c.args.self.now c.begin_invocation.new.self c.begin_invocation.ensures.known c.requires.ready
    c.in_ok-job.ensures.ok (sym c.in-QueueFull.is ∙ c.in_ok-job.ensures.answer)
    c.in_ok-from_str-in-QueueFull.field-0 c.in_ok-from_str-in-QueueFull.ensures

use Rattle.std.proofs.Common.{sym, ap, ◌∙◌, subst}
use Rattle.rx_value.specs.declared.source.TaskView.TheVariants.{Running}
use Rattle.app_tree.specs.Tasks.{task_outcome}
use Rattle.app_tree.specs.View.{shape_of}
use Rattle.session_model.specs.Tasks.{ended_view, see_task}
use Rattle.task_board.specs.declared.job.Invocation.{Invocation}
use Rattle.flush_cycle.specs.inner.Acting.{Moved}
use Rattle.flush_cycle.proofs.TaskSteps.{next_fits, next_ends, quiet_ends}
use Rattle.flush_cycle.proofs.work.Work.end_task.Goals as goal

pub take_job-requires : goal.take_job-requires
take_job-requires c =
    let done = c.args.done.now in
    next_fits done.task (record { number = done.number; args = done.args }) c.args.self.now c.end_invocation.new.self
    c.end_invocation.ensures.known c.requires.running.runs c.end_invocation.ensures.board c.in_ok-job.ensures.ok c.in-Next.job
    (sym c.in-Next.is ∙ c.in_ok-job.ensures.answer)

pub returns-in_ok-take_job-in-Next-clause-ended : goal.returns-in_ok-take_job-in-Next-clause-ended
returns-in_ok-take_job-in-Next-clause-ended c =
    let done = c.args.done.now in
    let i : Invocation = record { number = done.number; args = done.args } in
    let shown = c.in_ok-view.ensures ∙ ap ended_view (c.outcome.ensures.of_body ∙ ap (λ app. task_outcome app done.task done.args) c.requires.running.app_is) in
    let two = c.take_job.new.self in
    let between = c.see_task.new.self in
    next_ends done.task i c.args.self.now c.end_invocation.new.self two between c.see_task-in-Next.new.self
    c.end_invocation.ensures.known c.requires.running.runs c.in_ok-job.ensures.ok c.in-Next.job (sym c.in-Next.is ∙ c.in_ok-job.ensures.answer)
    c.end_invocation.ensures.board.last c.in_ok-take_job-in-Next.ensures.ok c.in_ok-view.view shown
    (subst (λ k. Moved (see_task (shape_of two.app) k c.in_ok-view.view) two between) c.task.ensures c.see_task.ensures)
    (subst (λ k. Moved (see_task (shape_of between.app) k Running) between c.see_task-in-Next.new.self) c.task-in-Next.ensures c.see_task-in-Next.ensures)

pub returns-in-Quiet-clause-ended : goal.returns-in-Quiet-clause-ended
returns-in-Quiet-clause-ended c =
    let done = c.args.done.now in
    let i : Invocation = record { number = done.number; args = done.args } in
    let shown = c.in_ok-view.ensures ∙ ap ended_view (c.outcome.ensures.of_body ∙ ap (λ app. task_outcome app done.task done.args) c.requires.running.app_is) in
    let one = c.end_invocation.new.self in
    quiet_ends done.task i c.args.self.now one c.see_task-in-Quiet.new.self
    c.end_invocation.ensures.known c.requires.running.runs c.in_ok-job.ensures.ok (sym c.in-Quiet.is ∙ c.in_ok-job.ensures.answer)
    c.in_ok-view.view shown
    (subst (λ k. Moved (see_task (shape_of one.app) k c.in_ok-view.view) one c.see_task-in-Quiet.new.self) c.task-in-Quiet.ensures c.see_task-in-Quiet.ensures)

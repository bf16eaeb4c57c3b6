use Rattle.std.proofs.Common.{arith, ◌<◌, ◌≤◌, ◌+◌, length, filter, sym, subst}
use Rattle.app_tree.specs.View.{shape_of}
use Rattle.app_tree.specs.Numbering.{is_task, starting_values}
use Rattle.flush_cycle.specs.Working.{Working}
use Rattle.flush_cycle.proofs.TaskSources.{task_source, task_number}
use Rattle.flush_cycle.proofs.work.Work.see_task.Goals as goal

pub overflow_add-self : goal.overflow_add-self
overflow_add-self c =
    let s = c.write.inside in
    let task = subst (λ (w : Working). c.args.task < length (filter is_task (shape_of w.app).items)) (sym c.write.view_is) c.requires.task in
    let few : s.first_task + c.args.task ≤ 500 = subst (λ k. k + c.args.task ≤ 500) (sym c.write.invariant.first_is) (task_number s.app.value c.write.invariant.proper c.args.task task) in
    omega (few, arith)

pub write-requires-clause-known : goal.write-requires-clause-known
write-requires-clause-known c =
    let s = c.write.inside in
    let task = subst (λ (w : Working). c.args.task < length (filter is_task (shape_of w.app).items)) (sym c.write.view_is) c.requires.task in
    subst (λ (w : Working). s.first_task + c.args.task < length (starting_values (shape_of w.app).items)) c.write.view_is
    (subst (λ k. k + c.args.task < length (starting_values (shape_of s.app.value).items)) (sym c.write.invariant.first_is) (task_source (shape_of s.app.value) c.args.task task))

use Rattle.std.proofs.Common.{◌<◌, List, length, filter, slice_set, sym, subst}
use Rattle.app_tree.specs.View.{shape_of}
use Rattle.app_tree.specs.Numbering.{is_task}
use Rattle.task_board.specs.Board.{TaskBoard, board_at, invocation_result}
use Rattle.flush_cycle.specs.Working.{Working}
use Rattle.flush_cycle.specs.inner.Parts.{HasArguments, IsHeld}
use Rattle.flush_cycle.proofs.ChangedBoards.{invoked_fits, held_boards, either_way}
use Rattle.flush_cycle.proofs.TaskSources.{task_within}
use Rattle.flush_cycle.proofs.work.Work.begin_invocation.Goals as goal

pub invariant_of-self : goal.invariant_of-self
invariant_of-self c =
    let s = c.self.inside in
    let h = c.self.invariant in
    let app = shape_of s.app.value in
    let fits = subst (λ (w : Working). HasArguments (shape_of w.app) c.args.task c.args.args) (sym c.self.view_is) c.requires in
    let inside : c.args.task < length s.boards = subst (λ k. c.args.task < k) (sym h.tasks) (task_within (filter is_task app.items) c.args.task (length c.args.args) fits) in
    let board = board_at s.boards c.args.task in
    let after = (invocation_result c.args.task c.args.args board).board in
    either_way (λ (boards : List TaskBoard). IsHeld s.app.value s.numbers s.first_task s.session s.outputs.items boards s.pending s.marked s.jobs.items) c.invoke.result
    s.boards c.invoke.new.self (slice_set s.boards c.args.task after) c.invoke.ensures.ok c.invoke.ensures.err h
    (held_boards s.app.value s.numbers s.first_task s.session s.outputs.items s.boards s.pending s.marked s.jobs.items h c.args.task after inside
    (invoked_fits app c.args.task c.args.args board fits (h.boards_fit c.args.task)))

pub returns-clause-known : goal.returns-clause-known
returns-clause-known c =
    let s = c.self.inside in
    let h = c.self.invariant in
    let app = shape_of s.app.value in
    let fits = subst (λ (w : Working). HasArguments (shape_of w.app) c.args.task c.args.args) (sym c.self.view_is) c.requires in
    subst (λ (w : Working). c.args.task < length w.kept.boards) c.self.view_is
    (subst (λ k. c.args.task < k) (sym h.tasks) (task_within (filter is_task app.items) c.args.task (length c.args.args) fits))

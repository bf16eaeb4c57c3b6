use Rattle.std.proofs.Common.{◌≡◌, List, Some, slice_set, sym, ap, ◌∙◌, subst}
use Rattle.app_tree.specs.View.{shape_of}
use Rattle.task_board.specs.declared.job.Invocation.{Invocation}
use Rattle.task_board.specs.Board.{TaskBoard, board_at, end_result}
use Rattle.flush_cycle.specs.Working.{Working}
use Rattle.flush_cycle.specs.inner.Parts.{IsHeld}
use Rattle.flush_cycle.proofs.ChangedBoards.{ended_fits, held_boards, either_way}
use Rattle.flush_cycle.proofs.TaskSources.{board_within}
use Rattle.flush_cycle.proofs.work.Work.end_invocation.Goals as goal

pub invariant_of-self : goal.invariant_of-self
invariant_of-self c =
    let s = c.self.inside in
    let h = c.self.invariant in
    let done = c.args.done.now in
    let t = c.task.result in
    let i : Invocation = record { number = c.number.result; args = done.args } in
    let board : TaskBoard = board_at s.boards t in
    let was = subst (λ (w : Working). (board_at w.kept.boards done.task).running ≡ Some (record { number = done.number; args = done.args })) (sym c.self.view_is) c.requires.runs in
    let runs : board.running ≡ Some i = ap (λ k. (board_at s.boards k).running) c.task.ensures ∙ was ∙ ap (λ k. Some (record { number = k; args = done.args })) (sym c.number.ensures) in
    let after = (end_result t c.number.result board).board in
    either_way (λ (boards : List TaskBoard). IsHeld s.app.value s.numbers s.first_task s.session s.outputs.items boards s.pending s.marked s.jobs.items) c.end.result
    s.boards c.end.new.self (slice_set s.boards t after) c.end.ensures.ok c.end.ensures.err h
    (held_boards s.app.value s.numbers s.first_task s.session s.outputs.items s.boards s.pending s.marked s.jobs.items h t after (board_within s.boards t i runs)
    (ended_fits (shape_of s.app.value) t board i runs (h.boards_fit t)))

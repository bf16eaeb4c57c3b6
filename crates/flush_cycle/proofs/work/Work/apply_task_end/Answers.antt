use Rattle.std.proofs.Common.{ℕ, sym, ap, ◌∙◌, subst}
use Rattle.std.specs.Prelude.{Result}
use Rattle.std.proofs.lemmas.Result.{err_from_is_err_and}
use Rattle.rx_value.specs.declared.memory.Memory.{Memory}
use Rattle.app_tree.specs.View.{shape_of}
use Rattle.session_model.specs.Change.{thaw}
use Rattle.task_board.specs.Board.{board_at}
use Rattle.flush_cycle.specs.Flushing.{flush_task_end}
use Rattle.flush_cycle.specs.declared.flushing.End.{End}
use Rattle.flush_cycle.specs.Working.{Working}
use Rattle.flush_cycle.specs.inner.Parts.{IsBoardOf}
use Rattle.flush_cycle.specs.inner.Acting.{Moved}
use Rattle.flush_cycle.specs.inner.Passing.{PassesAnew}
use Rattle.flush_cycle.proofs.EventSteps.{proper_by, lost_before, task_end_passes}
use Rattle.flush_cycle.proofs.work.Work.apply_task_end.Goals as goal

pub returns-in_err-thaw : goal.returns-in_err-thaw
returns-in_err-thaw g c =
    let w : Working = c.args.self.now in
    let steps : ℕ = c.args.steps.now in
    let event = flush_task_end (shape_of w.app) c.args.done.now.task in
    let p = err_from_is_err_and c.from_residual.result c.from_residual.ensures.1 in
    subst (λ (r : Result End Memory). PassesAnew g.A.Asker.follows g.A.Asker.out event w c.thaw.new.self c.args.asker.now c.args.asker.now steps steps r) (sym p.1)
    (lost_before g.A.Asker.follows g.A.Asker.out event w c.thaw.new.self c.args.asker.now steps p.0
    (c.in_err-thaw.ensures.app ∙ ap (λ (z : Working). z.app) c.self.view_is) (proper_by c.self.inside.app.value w.app (ap (λ (z : Working). z.app) c.self.view_is) c.self.invariant.proper) (g.met.A.Asker.stays c.args.asker.now) c.requires.ask.none_out)

pub returns-in_err-end_task : goal.returns-in_err-end_task
returns-in_err-end_task g c =
    let w : Working = c.args.self.now in
    let steps : ℕ = c.args.steps.now in
    let event = flush_task_end (shape_of w.app) c.args.done.now.task in
    let p = err_from_is_err_and c.from_residual-in_err-end_task.result c.from_residual-in_err-end_task.ensures.1 in
    subst (λ (r : Result End Memory). PassesAnew g.A.Asker.follows g.A.Asker.out event w c.end_task.new.self c.args.asker.now c.args.asker.now steps steps r) (sym p.1)
    (lost_before g.A.Asker.follows g.A.Asker.out event w c.end_task.new.self c.args.asker.now steps p.0
    (c.in_err-end_task.ensures.app ∙ c.in_ok-thaw.ensures.app ∙ ap (λ (z : Working). z.app) c.self.view_is) (proper_by c.self.inside.app.value w.app (ap (λ (z : Working). z.app) c.self.view_is) c.self.invariant.proper) (g.met.A.Asker.stays c.args.asker.now) c.requires.ask.none_out)

pub returns : goal.returns
returns g c =
    let w : Working = c.args.self.now in
    let thawed : Working = c.thaw.new.self in
    let mid : Working = c.end_task.new.self in
    let view = c.self.view_is in
    let start =
    ap (λ (z : Working). record z { made = c.nothing_made.result }) view ∙ ap (λ m. record w { made = m }) c.nothing_made.ensures in
    task_end_passes w thawed (subst (λ (z : Working). Moved thaw z thawed) start c.in_ok-thaw.ensures.moved)
    g.A.Asker.follows g.A.Asker.out mid c.flush.new.self c.args.asker.now c.flush.new.asker c.args.steps.now c.flush.new.steps c.flush.result c.flush.ensures
    (proper_by c.self.inside.app.value w.app (ap (λ (z : Working). z.app) view) c.self.invariant.proper)
    (subst (λ (z : Working). (task : ℕ) → IsBoardOf (shape_of z.app) task (board_at z.kept.boards task)) view c.self.invariant.boards_fit)
    c.args.done.now.task c.in_ok-end_task.ensures.ended

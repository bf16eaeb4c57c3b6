use Rattle.std.proofs.Common.{None, ap, ◌∙◌}
use Rattle.app_tree.specs.Tree.{Shape}
use Rattle.app_tree.specs.View.{shape_of}
use Rattle.session_model.specs.Change.{thaw}
use Rattle.session_model.specs.Tasks.{end_task}
use Rattle.session_laws.proofs.Journeys.{right_ended}
use Rattle.session_model.specs.Texts.{later_texts}
use Rattle.flush_cycle.specs.Flushing.{Flushing, flush_task_end}
use Rattle.flush_cycle.proofs.TextsMade.{later_made-runs}
use Rattle.session_laws.proofs.Expected.{nobody_waits}
use Rattle.session_laws.proofs.Proper.{orderly, covered}
use Rattle.flush_cycle.specs.Working.{Working}
use Rattle.flush_cycle.proofs.EventTold.{open_goes_on, answered, goes_on_told}
use Rattle.flush_cycle.proofs.flusher.Flusher.task_end.Goals as goal

pub returns : goal.returns
returns g c =
    let s = c.self.inside in
    let w : Working = s.work in
    let app : Shape = shape_of w.app in
    let p = c.apply_task_end-passed.ensures in
    let own = orderly app p.proper in
    let whole = covered app p.proper in
    let stood = (c.self.invariant (open_goes_on s.stage (ap (λ (z : Flushing). z.stage) c.self.view_is ∙ c.requires.stage))).stands in
    let r = answered g.A.Asker.follows g.A.Asker.out (λ a. flush_task_end a c.args.done.task) (λ a. later_texts a) w c.apply_task_end-passed.new.self c.tell-told.new.self c.args.asker.now c.apply_task_end-passed.new.asker
    c.args.steps.now c.apply_task_end-passed.new.steps c.apply_task_end-passed.result p c.tell-told.ensures.same None c.tell-told.result c.tell-told.ensures.told
    (λ f e is. later_made-runs app f e is) (λ M right. right_ended app own whole c.args.done.task M right) (λ M is. nobody_waits app (end_task app c.args.done.task (thaw M)) is)
    stood s.stage c.answer.new.stage s.report c.answer.new.report c.answer.result c.answer.ensures.answer c.answer.ensures.stage c.answer.ensures.report c.args.self.now c.self.view_is in
    record {
      app = r.app;
      stage = c.answer.ensures.stage;
      flushes = r.flushes;
      settled = r.settled;
      jobs = r.jobs;
      report = r.report;
      most = r.most;
      follows = r.succeeds;
      none_out = r.leaves;
    }

pub invariant_of-self : goal.invariant_of-self
invariant_of-self g c =
    let s = c.self.inside in
    let w : Working = s.work in
    let app : Shape = shape_of w.app in
    let p = c.apply_task_end-passed.ensures in
    let own = orderly app p.proper in
    let whole = covered app p.proper in
    let stood = (c.self.invariant (open_goes_on s.stage (ap (λ (z : Flushing). z.stage) c.self.view_is ∙ c.requires.stage))).stands in
    goes_on_told g.A.Asker.follows g.A.Asker.out (λ a. flush_task_end a c.args.done.task) (λ a. later_texts a) w c.apply_task_end-passed.new.self c.tell-told.new.self c.args.asker.now c.apply_task_end-passed.new.asker
    c.args.steps.now c.apply_task_end-passed.new.steps c.apply_task_end-passed.result p c.tell-told.ensures.same None c.tell-told.result c.tell-told.ensures.told
    (λ f e is. later_made-runs app f e is) (λ M right. right_ended app own whole c.args.done.task M right) (λ M is. nobody_waits app (end_task app c.args.done.task (thaw M)) is)
    stood s.stage c.answer.new.stage s.report c.answer.new.report c.answer.result c.answer.ensures.answer c.answer.ensures.stage c.answer.ensures.report

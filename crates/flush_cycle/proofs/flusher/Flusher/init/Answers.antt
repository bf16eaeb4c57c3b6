use Rattle.std.proofs.Common.{Some, ap, ◌∙◌}
use Rattle.app_tree.specs.Tree.{Shape}
use Rattle.app_tree.specs.View.{shape_of}
use Rattle.session_model.specs.Change.{thaw}
use Rattle.session_model.specs.Apply.{apply_pairs}
use Rattle.session_model.specs.Alone.{flush_with_pairs}
use Rattle.session_laws.proofs.Journeys.{right_applied}
use Rattle.session_model.specs.Texts.{first_texts}
use Rattle.flush_cycle.specs.Flushing.{Flushing}
use Rattle.flush_cycle.proofs.TextsMade.{first_made-runs}
use Rattle.session_laws.proofs.Expected.{nobody_waits}
use Rattle.session_laws.proofs.Proper.{orderly, covered}
use Rattle.flush_cycle.specs.Working.{Working}
use Rattle.flush_cycle.proofs.EventTold.{new_goes_on, answered, goes_on_told}
use Rattle.flush_cycle.proofs.flusher.Flusher.init.Goals as goal

pub returns : goal.returns
returns g c =
    let s = c.self.inside in
    let w : Working = s.work in
    let app : Shape = shape_of w.app in
    let p = c.apply_message-passed.ensures in
    let own = orderly app p.proper in
    let whole = covered app p.proper in
    let stood = (c.self.invariant (new_goes_on s.stage (ap (λ (z : Flushing). z.stage) c.self.view_is ∙ c.requires.stage))).stands in
    let r = answered g.A.Asker.follows g.A.Asker.out (λ a. flush_with_pairs a c.args.pairs.now) (λ a. first_texts a c.args.label.now) w c.apply_message-passed.new.self c.tell-told.new.self c.args.asker.now c.apply_message-passed.new.asker
    c.args.steps.now c.apply_message-passed.new.steps c.apply_message-passed.result p c.tell-told.ensures.same (Some c.args.label.now) c.tell-told.result c.tell-told.ensures.told
    (λ f e is. first_made-runs app c.args.label.now f e is) (λ M right. right_applied app own whole c.args.pairs.now M right) (λ M is. nobody_waits app (apply_pairs app c.args.pairs.now (thaw M)) is)
    stood s.stage c.answer.new.stage s.report c.answer.new.report c.answer.result c.answer.ensures.answer c.answer.ensures.stage c.answer.ensures.report c.args.self.now c.self.view_is in
    record {
      app = r.app;
      stage = c.answer.ensures.stage;
      flushes = r.flushes;
      settled = r.settled;
      jobs = r.jobs;
      report = r.report;
      most = r.most;
      follows = r.succeeds;
      none_out = r.leaves;
    }

pub invariant_of-self : goal.invariant_of-self
invariant_of-self g c =
    let s = c.self.inside in
    let w : Working = s.work in
    let app : Shape = shape_of w.app in
    let p = c.apply_message-passed.ensures in
    let own = orderly app p.proper in
    let whole = covered app p.proper in
    let stood = (c.self.invariant (new_goes_on s.stage (ap (λ (z : Flushing). z.stage) c.self.view_is ∙ c.requires.stage))).stands in
    goes_on_told g.A.Asker.follows g.A.Asker.out (λ a. flush_with_pairs a c.args.pairs.now) (λ a. first_texts a c.args.label.now) w c.apply_message-passed.new.self c.tell-told.new.self c.args.asker.now c.apply_message-passed.new.asker
    c.args.steps.now c.apply_message-passed.new.steps c.apply_message-passed.result p c.tell-told.ensures.same (Some c.args.label.now) c.tell-told.result c.tell-told.ensures.told
    (λ f e is. first_made-runs app c.args.label.now f e is) (λ M right. right_applied app own whole c.args.pairs.now M right) (λ M is. nobody_waits app (apply_pairs app c.args.pairs.now (thaw M)) is)
    stood s.stage c.answer.new.stage s.report c.answer.new.report c.answer.result c.answer.ensures.answer c.answer.ensures.stage c.answer.ensures.report

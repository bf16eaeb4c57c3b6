use Rattle.std.proofs.Common.{true, sym, ap, ◌∙◌, subst}
use Rattle.std.specs.Prelude.{not}
use Rattle.std.proofs.lemmas.Result.{err_from_is_err_and}
use Rattle.app_tree.specs.Held.{Held}
use Rattle.app_tree.specs.ObserverTerms.{observer_terms}
use Rattle.app_tree.specs.View.{node_of, shape_of}
use Rattle.app_laws.specs.Proper.{IsProper}
use Rattle.session_model.specs.Flush.{make_run, failure_by}
use Rattle.session_model.specs.Standing.{did_run, kept_reader}
use Rattle.flush_cycle.specs.contracts.work.Work.{the_view}
use Rattle.flush_cycle.specs.inner.Acting.{Finishes, Runs}
use Rattle.flush_cycle.specs.inner.Observing.{IsObserverOf}
use Rattle.flush_cycle.specs.Working.{Working}
use Rattle.flush_cycle.proofs.ObserverRuns.{text_lost, end_lost, run_ended, none_failed}
use Rattle.flush_cycle.proofs.ObserverTexts.{observer_of}
use Rattle.flush_cycle.proofs.work.Work.run_observer.Goals as goal

pub observe-requires-clause-item : goal.observe-requires-clause-item
observe-requires-clause-item g c =
    let node = node_of c.args.item.now in
    let proper : IsProper (shape_of c.args.self.now.app) = subst (λ (w : Working). IsProper (shape_of w.app)) c.self.view_is c.self.invariant.proper in
    subst (λ (h : Held). IsObserverOf (shape_of h) node) (sym c.begin.ensures.app)
    (observer_of (shape_of c.args.self.now.app) proper c.args.n node c.requires.item c.requires.observer)

pub returns-in_err-outcome : goal.returns-in_err-outcome
returns-in_err-outcome g c =
    let old = c.args.self.now in
    let node = node_of c.args.item.now in
    let told = ap not (c.ran-first.ensures ∙ ap (λ (w : Working). did_run (kept_reader w.kept.session c.args.n).dependence) c.self.view_is) in
    let p = err_from_is_err_and c.from_residual.result c.from_residual.ensures.1 in
    subst (λ r. Runs g.A.Asker.follows g.A.Asker.out (observer_terms node) (make_run (shape_of old.app) c.args.n) old c.observe.new.self c.args.asker.now c.observe.new.asker c.args.steps.now c.observe.new.steps r) (sym p.1)
    (text_lost g.A.Asker.follows g.A.Asker.out c.args.n node (not c.ran-first.result) old c.begin.new.self c.observe.new.self c.args.asker.now c.observe.new.asker
    c.args.steps.now c.observe.new.steps c.requires.item c.requires.observer told c.begin.ensures c.in_err-outcome.field-0.0 p.0 c.in_err-outcome.ensures)

pub returns-in_err-push : goal.returns-in_err-push
returns-in_err-push g c =
    let old = c.args.self.now in
    let node = node_of c.args.item.now in
    let told = ap not (c.ran-first.ensures ∙ ap (λ (w : Working). did_run (kept_reader w.kept.session c.args.n).dependence) c.self.view_is) in
    let finished : Working = the_view c.self-2.inside in
    let finishes = subst (λ (w : Working). Finishes c.observe.new.self w) (sym c.self-2.view_is) c.finish.ensures in
    let after : Working = record finished { made = record { runs = c.push.new.self; batch = finished.made.batch } } in
    let p = err_from_is_err_and c.from_residual-in_err-push.result c.from_residual-in_err-push.ensures.1 in
    subst (λ r. Runs g.A.Asker.follows g.A.Asker.out (observer_terms node) (make_run (shape_of old.app) c.args.n) old after c.args.asker.now c.observe.new.asker c.args.steps.now c.observe.new.steps r) (sym p.1)
    (end_lost g.A.Asker.follows g.A.Asker.out c.args.n node (not c.ran-first.result) old c.begin.new.self c.observe.new.self c.args.asker.now c.observe.new.asker
    c.args.steps.now c.observe.new.steps c.requires.item c.requires.observer told c.begin.ensures finished c.push.new.self c.in_ok-outcome.outcome c.in_ok-outcome.ensures finishes p.0)

pub returns-in-Fail : goal.returns-in-Fail
returns-in-Fail g c =
    let old = c.args.self.now in
    let node = node_of c.args.item.now in
    let told = ap not (c.ran-first.ensures ∙ ap (λ (w : Working). did_run (kept_reader w.kept.session c.args.n).dependence) c.self.view_is) in
    let finished : Working = the_view c.self-2.inside in
    let finishes = subst (λ (w : Working). Finishes c.observe.new.self w) (sym c.self-2.view_is) c.finish.ensures in
    run_ended g.A.Asker.follows g.A.Asker.out c.args.n node (not c.ran-first.result) old c.begin.new.self c.observe.new.self c.args.asker.now c.observe.new.asker
    c.args.steps.now c.observe.new.steps c.requires.item c.requires.observer told c.begin.ensures finished c.push.new.self c.in_ok-outcome.outcome c.in_ok-outcome.ensures finishes
    c.in_ok-push.ensures.ok _ (sym (ap (failure_by true) c.in-Fail.is))

pub returns : goal.returns
returns g c =
    let old = c.args.self.now in
    let node = node_of c.args.item.now in
    let told = ap not (c.ran-first.ensures ∙ ap (λ (w : Working). did_run (kept_reader w.kept.session c.args.n).dependence) c.self.view_is) in
    let finished : Working = the_view c.self-2.inside in
    let finishes = subst (λ (w : Working). Finishes c.observe.new.self w) (sym c.self-2.view_is) c.finish.ensures in
    run_ended g.A.Asker.follows g.A.Asker.out c.args.n node (not c.ran-first.result) old c.begin.new.self c.observe.new.self c.args.asker.now c.observe.new.asker
    c.args.steps.now c.observe.new.steps c.requires.item c.requires.observer told c.begin.ensures finished c.push.new.self c.in_ok-outcome.outcome c.in_ok-outcome.ensures finishes
    c.in_ok-push.ensures.ok _ (none_failed c.in_ok-outcome.outcome c.in_default.not-Fail)

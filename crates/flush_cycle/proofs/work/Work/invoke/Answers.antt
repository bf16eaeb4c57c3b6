use Rattle.std.proofs.Common.{◌≡◌, ℕ, ◌-◌, ◌+◌, ◌∙◌, List, [], ◌∷◌, ◌++◌, sym, ap, subst, drop}
use Rattle.std.specs.Prelude.{Result}
use Rattle.std.proofs.lemmas.List.{drop_all}
use Rattle.std.proofs.lemmas.Result.{err_from_is_err_and}
use Rattle.rx_value.specs.declared.memory.Memory.{Memory}
use Rattle.rx_value.specs.declared.value.Value.{Value}
use Rattle.rx_value.specs.declared.outcome.Outcome.{Outcome}
use Rattle.app_tree.specs.Held.{Held}
use Rattle.app_tree.specs.Tree as tree
use Rattle.app_tree.specs.View.{shape_of, tree_of, trees_of_terms}
use Rattle.app_tree.specs.ObserverTerms.{term_count}
use Rattle.app_laws.specs.Statements.{IsTaskSource}
use Rattle.session_model.specs.Tasks.{first_task}
use Rattle.session_model.specs.Observing as observing
use Rattle.term_eval.proofs.Walking.{at_front}
use Rattle.flush_cycle.specs.Working.{Working}
use Rattle.flush_cycle.specs.inner.Acting.{Acts, Does}
use Rattle.flush_cycle.proofs.Composing.{fails_unless}
use Rattle.flush_cycle.proofs.RunBlocks.{TermsLeft, term_left, terms_later, terms_failure, terms_lost, terms_dropped, terms_ended, all_counted, has_arguments}
use Rattle.flush_cycle.proofs.work.Work.invoke.Goals as goal

pub term-requires-clause-term : goal.term-requires-clause-term
term-requires-clause-term g c =
    term_left g.A.Asker.follows g.A.Asker.out g.A.Asker.app g.met.A.Asker.stays g.met.A.Asker.chains g.met.A.Asker.same_app
    c.args.observer.number c.args.observer.isolated (trees_of_terms c.args.terms.now)
    (observing.invoke_task (shape_of c.args.self.now.app) (c.args.source - first_task (shape_of c.args.self.now.app)))
    c.args.self.now c.args.asker.now c.args.steps.now
    (tree_of c.term-item.result) (trees_of_terms (drop (c.loop-term.term-index + 1) c.args.terms.now))
    (trees_of_terms (drop c.loop-term.term-index c.args.terms.now))
    (ap trees_of_terms (at_front c.args.terms.now c.loop-term.term-index c.term-item.result c.loop-term-test.true c.term-item.is))
    c.loop-term.args c.loop-term.self c.loop-term.asker c.loop-term.steps c.loop-term.invariant

pub returns-in_err-failure : goal.returns-in_err-failure
returns-in_err-failure g c =
    let p = err_from_is_err_and c.from_residual.result c.from_residual.ensures.1 in
    subst (λ (r : Result Outcome Memory). Acts g.A.Asker.follows g.A.Asker.out c.args.observer.number (term_count (trees_of_terms c.args.terms.now))
    (observing.run_statement (shape_of c.args.self.now.app) c.args.observer.number c.args.observer.isolated (tree.invoke c.args.source (trees_of_terms c.args.terms.now)))
    c.args.self.now c.term.new.self c.args.asker.now c.term.new.asker c.args.steps.now c.term.new.steps r)
    (sym p.1)
    (terms_lost g.A.Asker.follows g.A.Asker.out g.A.Asker.app g.met.A.Asker.stays g.met.A.Asker.chains g.met.A.Asker.same_app
    c.args.observer.number c.args.observer.isolated (trees_of_terms c.args.terms.now)
    (observing.invoke_task (shape_of c.args.self.now.app) (c.args.source - first_task (shape_of c.args.self.now.app)))
    c.args.self.now c.args.asker.now c.args.steps.now
    (tree_of c.term-item.result) (trees_of_terms (drop (c.loop-term.term-index + 1) c.args.terms.now))
    (trees_of_terms (drop c.loop-term.term-index c.args.terms.now))
    (ap trees_of_terms (at_front c.args.terms.now c.loop-term.term-index c.term-item.result c.loop-term-test.true c.term-item.is))
    c.loop-term.args c.loop-term.self c.loop-term.asker c.loop-term.steps c.loop-term.invariant
    c.term.new.self c.term.new.asker c.term.new.steps c.in_err-failure.field-0.0 p.0 c.in_err-failure.ensures)

pub returns-in_err-push-in-Val : goal.returns-in_err-push-in-Val
returns-in_err-push-in-Val g c =
    let p = err_from_is_err_and c.from_residual-in_err-push-in-Val.result c.from_residual-in_err-push-in-Val.ensures.1 in
    subst (λ (r : Result Outcome Memory). Acts g.A.Asker.follows g.A.Asker.out c.args.observer.number (term_count (trees_of_terms c.args.terms.now))
    (observing.run_statement (shape_of c.args.self.now.app) c.args.observer.number c.args.observer.isolated (tree.invoke c.args.source (trees_of_terms c.args.terms.now)))
    c.args.self.now c.term.new.self c.args.asker.now c.term.new.asker c.args.steps.now c.term.new.steps r)
    (sym p.1)
    (terms_dropped g.A.Asker.follows g.A.Asker.out g.A.Asker.app g.met.A.Asker.stays g.met.A.Asker.chains g.met.A.Asker.same_app
    c.args.observer.number c.args.observer.isolated (trees_of_terms c.args.terms.now)
    (observing.invoke_task (shape_of c.args.self.now.app) (c.args.source - first_task (shape_of c.args.self.now.app)))
    c.args.self.now c.args.asker.now c.args.steps.now
    (trees_of_terms (drop (c.loop-term.term-index + 1) c.args.terms.now)) (c.loop-term.args ++ c.in-Val.value ∷ [])
    c.term.new.self c.term.new.asker c.term.new.steps p.0
    (terms_later g.A.Asker.follows g.A.Asker.out g.A.Asker.app g.met.A.Asker.stays g.met.A.Asker.chains g.met.A.Asker.same_app
    c.args.observer.number c.args.observer.isolated (trees_of_terms c.args.terms.now)
    (observing.invoke_task (shape_of c.args.self.now.app) (c.args.source - first_task (shape_of c.args.self.now.app)))
    c.args.self.now c.args.asker.now c.args.steps.now
    (tree_of c.term-item.result) (trees_of_terms (drop (c.loop-term.term-index + 1) c.args.terms.now))
    (trees_of_terms (drop c.loop-term.term-index c.args.terms.now))
    (ap trees_of_terms (at_front c.args.terms.now c.loop-term.term-index c.term-item.result c.loop-term-test.true c.term-item.is))
    c.loop-term.args c.loop-term.self c.loop-term.asker c.loop-term.steps c.loop-term.invariant
    c.term.new.self c.term.new.asker c.term.new.steps c.in_ok-failure.failure c.in-Val.value c.in-Val.is c.in_ok-failure.ensures))

pub returns-in_default : goal.returns-in_default
returns-in_default g c =
    terms_failure g.A.Asker.follows g.A.Asker.out g.A.Asker.app g.met.A.Asker.stays g.met.A.Asker.chains g.met.A.Asker.same_app
    c.args.observer.number c.args.observer.isolated (trees_of_terms c.args.terms.now)
    (observing.invoke_task (shape_of c.args.self.now.app) (c.args.source - first_task (shape_of c.args.self.now.app)))
    c.args.self.now c.args.asker.now c.args.steps.now
    (tree_of c.term-item.result) (trees_of_terms (drop (c.loop-term.term-index + 1) c.args.terms.now))
    (trees_of_terms (drop c.loop-term.term-index c.args.terms.now))
    (ap trees_of_terms (at_front c.args.terms.now c.loop-term.term-index c.term-item.result c.loop-term-test.true c.term-item.is))
    c.loop-term.args c.loop-term.self c.loop-term.asker c.loop-term.steps c.loop-term.invariant
    c.term.new.self c.term.new.asker c.term.new.steps c.in_ok-failure.failure (fails_unless c.in_ok-failure.failure c.in_default.not-Val) c.in_ok-failure.ensures

pub loop-term-preserved : goal.loop-term-preserved
loop-term-preserved g c =
    subst (λ (done : List Value). TermsLeft g.A.Asker.follows g.A.Asker.out g.A.Asker.app c.args.observer.number c.args.observer.isolated
    (trees_of_terms c.args.terms.now) (trees_of_terms (drop (c.loop-term.term-index + 1) c.args.terms.now)) done
    (observing.invoke_task (shape_of c.args.self.now.app) (c.args.source - first_task (shape_of c.args.self.now.app)))
    c.args.self.now c.term.new.self c.args.asker.now c.term.new.asker c.args.steps.now c.term.new.steps)
    (sym c.in_ok-push-in-Val.ensures.ok)
    (terms_later g.A.Asker.follows g.A.Asker.out g.A.Asker.app g.met.A.Asker.stays g.met.A.Asker.chains g.met.A.Asker.same_app
    c.args.observer.number c.args.observer.isolated (trees_of_terms c.args.terms.now)
    (observing.invoke_task (shape_of c.args.self.now.app) (c.args.source - first_task (shape_of c.args.self.now.app)))
    c.args.self.now c.args.asker.now c.args.steps.now
    (tree_of c.term-item.result) (trees_of_terms (drop (c.loop-term.term-index + 1) c.args.terms.now))
    (trees_of_terms (drop c.loop-term.term-index c.args.terms.now))
    (ap trees_of_terms (at_front c.args.terms.now c.loop-term.term-index c.term-item.result c.loop-term-test.true c.term-item.is))
    c.loop-term.args c.loop-term.self c.loop-term.asker c.loop-term.steps c.loop-term.invariant
    c.term.new.self c.term.new.asker c.term.new.steps c.in_ok-failure.failure c.in-Val.value c.in-Val.is c.in_ok-failure.ensures)

pub start-requires-clause-task : goal.start-requires-clause-task
start-requires-clause-task g c =
    let count : ℕ = term_count (trees_of_terms c.args.terms.now) in
    has_arguments (shape_of c.loop-term.self.app) c.args.source count c.start.inside.first_task
    (subst (λ (held : Held). IsTaskSource (shape_of held) c.args.source count) (sym c.loop-term.invariant.same) c.requires.task)
    (c.start.invariant.first_is ∙ ap (λ (w : Working). first_task (shape_of w.app)) c.start.view_is)
    c.loop-term.args
    (all_counted g.A.Asker.follows g.A.Asker.out g.A.Asker.app g.met.A.Asker.stays g.met.A.Asker.chains g.met.A.Asker.same_app
    c.args.observer.number c.args.observer.isolated (trees_of_terms c.args.terms.now)
    (observing.invoke_task (shape_of c.args.self.now.app) (c.args.source - first_task (shape_of c.args.self.now.app)))
    c.args.self.now c.args.asker.now c.args.steps.now
    (trees_of_terms (drop c.loop-term.term-index c.args.terms.now))
    (ap trees_of_terms (drop_all c.loop-term.term-index c.args.terms.now c.loop-term-test.false))
    c.loop-term.args c.loop-term.self c.loop-term.asker c.loop-term.steps c.loop-term.invariant)

pub returns : goal.returns
returns g c =
    let same : c.start.inside.app.value ≡ c.args.self.now.app = ap (λ (w : Working). w.app) c.start.view_is ∙ c.loop-term.invariant.same in
    let first : c.start.inside.first_task ≡ first_task (shape_of c.args.self.now.app) = c.start.invariant.first_is ∙ ap (λ (held : Held). first_task (shape_of held)) same in
    terms_ended g.A.Asker.follows g.A.Asker.out g.A.Asker.app g.met.A.Asker.stays g.met.A.Asker.chains g.met.A.Asker.same_app
    c.args.observer.number c.args.observer.isolated (trees_of_terms c.args.terms.now)
    (observing.invoke_task (shape_of c.args.self.now.app) (c.args.source - first_task (shape_of c.args.self.now.app)))
    c.args.self.now c.args.asker.now c.args.steps.now
    (trees_of_terms (drop c.loop-term.term-index c.args.terms.now))
    (ap trees_of_terms (drop_all c.loop-term.term-index c.args.terms.now c.loop-term-test.false))
    c.loop-term.args c.loop-term.self c.start-2.new.self c.loop-term.asker c.loop-term.steps c.start-2.result c.loop-term.invariant
    (subst (λ (f : ℕ). Does (observing.invoke_task (shape_of c.args.self.now.app) (c.args.source - f) c.loop-term.args) c.loop-term.self c.start-2.new.self c.start-2.result) first
    (subst (λ (held : Held). Does (observing.invoke_task (shape_of held) (c.args.source - c.start.inside.first_task) c.loop-term.args) c.loop-term.self c.start-2.new.self c.start-2.result) c.loop-term.invariant.same
    c.start-2.ensures))

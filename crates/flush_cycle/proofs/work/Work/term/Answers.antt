use Rattle.std.proofs.Common.{sym, subst}
use Rattle.app_tree.specs.Held.{Held}
use Rattle.app_tree.specs.Tree.{perform}
use Rattle.app_tree.specs.View.{shape_of, tree_of}
use Rattle.session_model.specs.Observing.{run_statement}
use Rattle.react_session.specs.Keeping.{Keeping}
use Rattle.react_session.specs.Terms.{TermComes}
use Rattle.flush_cycle.specs.contracts.work.Work as work
use Rattle.flush_cycle.specs.inner.Statements.{IsTermOf}
use Rattle.flush_cycle.specs.Working.{Working}
use Rattle.flush_cycle.specs.inner.Acting.{MayAct, Acts}
use Rattle.flush_cycle.proofs.SessionSteps.{with_step, held_after, term_size, term_acts}
use Rattle.flush_cycle.proofs.work.Work.term.Goals as goal

pub invariant_of-self : goal.invariant_of-self
invariant_of-self g c =
    let s : Keeping = c.self.inside.session in
    let new : Keeping = c.term.new.self in
    held_after c.self.invariant new c.term.ensures.app c.term.ensures.values
    (term_size (shape_of s.app) c.args.observer.number c.args.observer.isolated (tree_of c.args.term.now) s.session new.session c.args.steps.now c.term.new.steps c.term.result c.term.ensures.comes)

pub returns : goal.returns
returns g c =
    let w : Working = work.the_view c.self.inside in
    let s : Keeping = c.self.inside.session in
    let new : Keeping = c.term.new.self in
    let n = c.args.observer.number in
    let isolated = c.args.observer.isolated in
    let t = tree_of c.args.term.now in
    let comes : TermComes (shape_of w.app) n isolated t s.session new.session c.args.steps.now c.term.new.steps c.term.result =
    subst (λ (h : Held). TermComes (shape_of h) n isolated t s.session new.session c.args.steps.now c.term.new.steps c.term.result) c.self.invariant.app c.term.ensures.comes in
    subst (λ (old : Working). Acts g.A.Asker.follows g.A.Asker.out n 1 (run_statement (shape_of old.app) n isolated (perform t)) old (with_step new.session new.whole w)
    c.args.asker.now c.term.new.asker c.args.steps.now c.term.new.steps c.term.result) c.self.view_is
    (term_acts w c.self.invariant.proper c.self.invariant.contexts n (subst (λ (old : Working). MayAct n old) (sym c.self.view_is) c.requires.act) isolated t
    (subst (λ (old : Working). IsTermOf (shape_of old.app) t) (sym c.self.view_is) c.requires.term) new.session new.whole c.term.ensures.running c.args.steps.now c.term.new.steps
    g.A.Asker.follows g.A.Asker.out c.args.asker.now c.term.new.asker c.term.result comes c.term.ensures.whole c.term.ensures.follows c.term.ensures.none_out)

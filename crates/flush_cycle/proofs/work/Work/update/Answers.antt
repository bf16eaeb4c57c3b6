use Rattle.std.proofs.Common.{refl, subst}
use Rattle.app_tree.specs.Tree as tree
use Rattle.app_tree.specs.View.{shape_of, tree_of}
use Rattle.session_model.specs.Observing as observing
use Rattle.flush_cycle.specs.inner.Acting.{Does}
use Rattle.flush_cycle.proofs.Composing.{term_then_does}
use Rattle.flush_cycle.proofs.work.Work.update.Goals as goal

pub returns-in-Val : goal.returns-in-Val
returns-in-Val g c =
    term_then_does g.A.Asker.follows g.A.Asker.out g.met.A.Asker.stays g.met.A.Asker.chains c.args.observer.number
    c.args.observer.isolated (tree_of c.args.term.now) c.args.self.now c.args.asker.now c.args.steps.now
    (observing.run_statement (shape_of c.args.self.now.app) c.args.observer.number c.args.observer.isolated (tree.update c.args.source (tree_of c.args.term.now)))
    (observing.tell_input (shape_of c.args.self.now.app) c.args.source) (λ state. refl)
    c.term.new.self c.term.new.asker c.term.new.steps c.in_ok-failure.failure c.in_ok-failure.ensures
    c.in-Val.value c.in-Val.is c.tell_input.new.self c.tell_input.result
    (λ same. subst (λ held. Does (observing.tell_input (shape_of held) c.args.source c.in-Val.value) c.term.new.self c.tell_input.new.self c.tell_input.result) same c.tell_input.ensures)

use Rattle.std.proofs.Common.{refl}
use Rattle.rx_value.specs.declared.source.SourceValue.TheVariants.{Plain}
use Rattle.app_tree.specs.Tree as tree
use Rattle.app_tree.specs.View.{shape_of, tree_of}
use Rattle.session_model.specs.Change.{change}
use Rattle.session_model.specs.Observing as observing
use Rattle.flush_cycle.proofs.Composing.{term_then_does}
use Rattle.flush_cycle.proofs.work.Work.set.Goals as goal

pub returns-in-Val : goal.returns-in-Val
returns-in-Val g c =
    term_then_does g.A.Asker.follows g.A.Asker.out g.met.A.Asker.stays g.met.A.Asker.chains c.args.observer.number
    c.args.observer.isolated (tree_of c.args.term.now) c.args.self.now c.args.asker.now c.args.steps.now
    (observing.run_statement (shape_of c.args.self.now.app) c.args.observer.number c.args.observer.isolated (tree.set c.args.source (tree_of c.args.term.now)))
    (λ x after. observing.done_result (change c.args.source (Plain x) after)) (λ state. refl)
    c.term.new.self c.term.new.asker c.term.new.steps c.in_ok-failure.failure c.in_ok-failure.ensures
    c.in-Val.value c.in-Val.is c.put.new.self c.put.result (λ same. c.put.ensures)

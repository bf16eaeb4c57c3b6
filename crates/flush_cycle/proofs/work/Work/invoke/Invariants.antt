use Rattle.std.proofs.Common.{◌-◌, drop}
use Rattle.app_tree.specs.View.{shape_of, trees_of_terms}
use Rattle.session_model.specs.Tasks.{first_task}
use Rattle.session_model.specs.Observing.{invoke_task}
use Rattle.flush_cycle.proofs.RunBlocks.{TermsLeft}
use Rattle.flush_cycle.proofs.work.Work.invoke.Given as goal

abbrev pub invariant-loop-term : goal.invariant-loop-term
invariant-loop-term g l =
    TermsLeft g.A.Asker.follows g.A.Asker.out g.A.Asker.app l.observer.number l.observer.isolated
    (trees_of_terms l.terms) (trees_of_terms (drop l.term-index l.terms)) l.args
    (invoke_task (shape_of l.fn.self.app) (l.source - first_task (shape_of l.fn.self.app)))
    l.fn.self l.self l.fn.asker l.asker l.fn.steps l.steps

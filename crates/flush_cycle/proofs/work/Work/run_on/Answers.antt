use Rattle.std.proofs.Common.{subst}
use Rattle.std.specs.Prelude.{false, Ok}
use Rattle.app_tree.specs.Tree.{perform}
use Rattle.app_tree.specs.View.{acts_of_block, shape_of, tree_of}
use Rattle.app_tree.specs.ObserverTerms.{terms_in_acts}
use Rattle.session_model.specs.Observing.{run_statement}
use Rattle.flush_cycle.specs.inner.Acting.{Acts}
use Rattle.flush_cycle.proofs.ActsBehind.{acts_behind}
use Rattle.flush_cycle.proofs.work.Work.run_on.Goals as goal

pub returns-in-Val : goal.returns-in-Val
returns-in-Val g c =
    let old = c.args.self.now in
    let mid = c.term.new.self in
    acts_behind g.A.Asker.follows g.A.Asker.out g.met.A.Asker.chains c.args.number (terms_in_acts (acts_of_block c.args.block.now)) c.args.behind.flags
    c.args.behind.first (tree_of c.args.event.now) (acts_of_block c.args.block.now) c.in-Val.value old mid c.run_behind.new.self c.args.asker.now
    c.term.new.asker c.run_behind.new.asker c.args.steps.now c.term.new.steps c.run_behind.new.steps
    (subst (λ o. Acts g.A.Asker.follows g.A.Asker.out c.args.number 1 (run_statement (shape_of old.app) c.args.number false (perform (tree_of c.args.event.now))) old mid
    c.args.asker.now c.term.new.asker c.args.steps.now c.term.new.steps (Ok o)) c.in-Val.is c.in_ok-failure.ensures)
    c.run_behind.result c.run_behind.ensures

use Rattle.std.proofs.Common.{◌≡◌, true, sym, subst}
use Rattle.flush_cycle.specs.Working.{Working}
use Rattle.flush_cycle.specs.inner.Acting.{IsNext, Begins}
use Rattle.flush_cycle.proofs.SessionSteps.{with_step, begins_run}
use Rattle.app_tree.specs.View.{shape_of}
use Rattle.app_tree.specs.Numbering.{reader}
use Rattle.session_model.specs.Flush.{is_observer_at}
use Rattle.flush_cycle.specs.contracts.work.Work as work
use Rattle.flush_cycle.proofs.work.Work.begin.Goals as goal

pub returns : goal.returns
returns c =
    let w : Working = work.the_view c.self.inside in
    let new = c.begin.new.self in
    subst (λ (old : Working). Begins c.args.n old (with_step new.session new.whole w)) c.self.view_is
    (begins_run w c.self.invariant.proper c.self.invariant.contexts c.args.n (subst (λ (old : Working). IsNext c.args.n old) (sym c.self.view_is) c.requires.next)
    (subst (λ (old : Working). is_observer_at (reader (shape_of old.app) c.args.n) ≡ true) (sym c.self.view_is) c.requires.observer)
    new.session new.whole c.begin.ensures.whole c.begin.ensures.session)

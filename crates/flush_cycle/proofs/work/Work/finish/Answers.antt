use Rattle.std.proofs.Common.{sym, subst}
use Rattle.flush_cycle.specs.contracts.work.Work as work
use Rattle.flush_cycle.specs.Working.{Working}
use Rattle.flush_cycle.specs.inner.Acting.{MayAct, Finishes}
use Rattle.flush_cycle.proofs.SessionSteps.{with_step, finishes_run}
use Rattle.flush_cycle.proofs.work.Work.finish.Goals as goal

pub returns : goal.returns
returns c =
    let w : Working = work.the_view c.self.inside in
    let new = c.finish-alive.new.self in
    subst (λ (old : Working). Finishes old (with_step new.session new.whole w)) c.self.view_is
    (finishes_run w c.args.n (subst (λ (old : Working). MayAct c.args.n old) (sym c.self.view_is) c.requires)
    new.session new.whole c.finish-alive.ensures.whole c.finish-alive.ensures.session)

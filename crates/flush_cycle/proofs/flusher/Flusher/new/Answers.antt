use Rattle.std.proofs.Common.{subst}
use Rattle.app_tree.specs.View.{shape_of}
use Rattle.app_laws.specs.Proper.{IsProper}
use Rattle.flush_cycle.specs.Working.{Working}
use Rattle.flush_cycle.proofs.EventTold.{begins_rightly}
use Rattle.flush_cycle.proofs.flusher.Flusher.new.Goals as goal

pub invariant_of-result : goal.invariant_of-result
invariant_of-result c = λ h.
    let w : Working = c.in_ok-work.work in
    let e = c.in_ok-work.ensures in
    let proper : IsProper (shape_of w.app) = subst (λ (z : Working). IsProper (shape_of z.app)) c.work.view_is c.work.invariant.proper in
    record { rests = e.rests; stands = begins_rightly w c.args.app.value e.app e.kept proper }

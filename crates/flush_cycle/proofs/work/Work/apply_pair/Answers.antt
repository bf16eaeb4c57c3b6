use Rattle.std.proofs.Common.{◌≡◌, ap, ◌∙◌, subst}
use Rattle.app_tree.specs.Held.{Held}
use Rattle.app_tree.specs.View.{shape_of}
use Rattle.flush_cycle.specs.inner.Applying.{IsTargetOf}
use Rattle.flush_cycle.specs.inner.Targets.{target_is}
use Rattle.flush_cycle.specs.Working.{Working}
use Rattle.flush_cycle.proofs.OwnTargets.{found_target}
use Rattle.flush_cycle.proofs.work.Work.apply_pair.Goals as goal

pub apply_to-requires-clause-target : goal.apply_to-requires-clause-target
apply_to-requires-clause-target c =
    let app : c.deref.result.now ≡ c.args.self.now.app = c.deref.ensures ∙ ap (λ (w : Working). w.app) c.self.view_is in
    subst (λ (h : Held). IsTargetOf (shape_of h) (target_is c.in-Some.target)) app
    (found_target (shape_of c.deref.result.now) c.as_str.result.now (target_is c.in-Some.target) c.in-Some.ensures)

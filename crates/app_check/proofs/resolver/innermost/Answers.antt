use Rattle.std.proofs.Common.{Bor, ℕ, List, cond, Some, ap, sym, ◌∙◌}
use Rattle.app_check.proofs.Placed.{innermost-split, innermost_step}
use Rattle.app_check.proofs.resolver.innermost.Goals as goal
use Rattle.app_check.proofs.resolver.innermost.Goals.{then-same, else-same}

pub loop-place-init : goal.loop-place-init
loop-place-init c = innermost-split (λ (v : Bor (List ℕ)). v.now) c.args.variables.now c.args.count c.args.name.now c.args.among_first c.requires.within c.requires.first

pub loop-place-preserved : goal.loop-place-preserved
loop-place-preserved c =
    innermost_step (λ (v : Bor (List ℕ)). v.now) c.args.variables.now c.loop-place.place c.index-variables-place.result c.args.name.now c.same.result c.loop-place.found c.if-same.found _ c.loop-place-test.true c.index-variables-place.is c.same.ensures.test
    (elim c.if-same.branch [
      | then-same w ↦ w.found-is ∙ sym (ap (λ b. cond b (Some c.loop-place.place) c.loop-place.found) w.if-same.true)
      | else-same w ↦ w.found-is ∙ sym (ap (λ b. cond b (Some c.loop-place.place) c.loop-place.found) w.if-same.false)
    ])
    c.loop-place.invariant

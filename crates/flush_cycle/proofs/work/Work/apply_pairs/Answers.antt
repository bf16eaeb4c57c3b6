use Rattle.std.proofs.Common.{arith, ◌≡◌, ◌+◌, suc, take, subst}
use Rattle.app_tree.specs.Held.{Held}
use Rattle.app_tree.specs.View.{shape_of}
use Rattle.session_model.specs.State.{SessionState}
use Rattle.session_model.specs.Apply.{apply_pair, apply_pairs}
use Rattle.flush_cycle.specs.inner.Acting.{Moved}
use Rattle.flush_cycle.proofs.MovedWork.{moved_on, moved_as}
use Rattle.flush_cycle.proofs.AppliedPairs.{applied_next}
use Rattle.flush_cycle.proofs.work.Work.apply_pairs.Goals as goal

pub loop-pair-preserved : goal.loop-pair-preserved
loop-pair-preserved c =
    let old = c.args.self.now in
    let between = c.loop-pair.self in
    let new = c.apply_pair.new.self in
    let app = shape_of old.app in
    let pairs = c.args.pairs.now in
    let i = c.loop-pair.pair-index in
    let p = c.pair-item.result in
    let next : i + 1 ≡ suc i = omega arith in
    moved_as (λ (state : SessionState). apply_pair app p (apply_pairs app (take i pairs) state)) (apply_pairs app (take (i + 1) pairs)) old new
    (moved_on (apply_pairs app (take i pairs)) (apply_pair app p) old between new c.loop-pair.invariant
    (subst (λ (h : Held). Moved (apply_pair (shape_of h) p) between new) c.loop-pair.invariant.app c.in_ok-apply_pair.ensures.moved))
    (λ state stands. applied_next app pairs i (i + 1) p c.loop-pair-test.true c.pair-item.is next state)

use Rattle.std.proofs.Common.{arith, ◌≡◌, ◌+◌, suc, length, ap, ◌∙◌, subst}
use Rattle.app_tree.specs.Held.{Held}
use Rattle.app_tree.specs.View.{shape_of}
use Rattle.app_tree.specs.Numbering.{starting_values}
use Rattle.session_model.specs.Change.{thaw}
use Rattle.flush_cycle.specs.inner.Acting.{Moved}
use Rattle.flush_cycle.specs.inner.Applying.{thawed_at}
use Rattle.flush_cycle.specs.Working.{Working}
use Rattle.flush_cycle.proofs.MovedWork.{moved_on, moved_as}
use Rattle.flush_cycle.proofs.ThawedBelow.{thawed_below, thaw_is}
use Rattle.flush_cycle.proofs.work.Work.thaw.Goals as goal

pub loop-source-preserved : goal.loop-source-preserved
loop-source-preserved c =
    let i = c.loop-source.source in
    let next : suc i ≡ i + 1 = omega arith in
    subst (λ n. Moved (thawed_below n) c.args.self.now c.thaw_at.new.self) next
    (moved_on (thawed_below i) (thawed_at i) c.args.self.now c.loop-source.self c.thaw_at.new.self c.loop-source.invariant c.in_ok-thaw_at.ensures.moved)

pub returns-clause-moved : goal.returns-clause-moved
returns-clause-moved c =
    let old = c.args.self.now in
    let s = c.self.inside in
    let i = c.loop-source.source in
    let end : c.sources-source-end.result ≡ length (starting_values (shape_of s.app.value).items) = c.sources-source-end.ensures ∙ ap (λ (h : Held). length (starting_values (shape_of h).items)) c.deref.ensures in
    let all : length s.session.session.values ≡ length (starting_values (shape_of s.app.value).items) = c.self.invariant.sources in
    let whole : i ≡ length s.session.session.values = omega (arith, end, all, c.loop-source-test.false, c.loop-source.auto.source-end) in
    let count : i ≡ length old.kept.session.values = whole ∙ ap (λ (w : Working). length w.kept.session.values) c.self.view_is in
    moved_as (thawed_below i) thaw old c.loop-source.self c.loop-source.invariant
    (λ state stands. thaw_is state i (count ∙ ap length stands.session.values))

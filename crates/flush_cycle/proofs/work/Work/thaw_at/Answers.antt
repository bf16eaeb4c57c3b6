use Rattle.std.proofs.Common.{◌≡◌, Some, slice_get, ap, ◌∙◌, subst}
use Rattle.rx_value.specs.declared.source.SourceValue.TheVariants.{Plain, Frozen}
use Rattle.app_tree.specs.View.{shape_of}
use Rattle.session_model.specs.Change.{change}
use Rattle.flush_cycle.specs.inner.Acting.{Moved}
use Rattle.flush_cycle.specs.inner.Applying.{thawed_at}
use Rattle.flush_cycle.specs.Working.{Working}
use Rattle.flush_cycle.proofs.MovedWork.{moved_as, moved_none}
use Rattle.flush_cycle.proofs.ThawedBelow.{not_frozen, thaws_nothing, thaws_frozen}
use Rattle.flush_cycle.proofs.work.Work.thaw_at.Goals as goal

pub returns-in_default-clause-moved : goal.returns-in_default-clause-moved
returns-in_default-clause-moved c =
    let old = c.args.self.now in
    let x = c.source.result.now in
    let has : slice_get old.kept.session.values c.args.source ≡ Some x = subst (λ (w : Working). slice_get w.kept.session.values c.args.source ≡ Some x) c.self.view_is c.source.ensures in
    moved_none (thawed_at c.args.source) old c.requires.ready
    (λ state stands. thaws_nothing (shape_of old.app) old.kept state stands c.args.source x has (not_frozen x c.in_default.not-Frozen))

pub returns-clause-moved : goal.returns-clause-moved
returns-clause-moved c =
    let old = c.args.self.now in
    let new = c.write.new.self in
    let v = c.in-Frozen.value in
    let has : slice_get old.kept.session.values c.args.source ≡ Some (Frozen v) =
    subst (λ (w : Working). slice_get w.kept.session.values c.args.source ≡ Some c.source.result.now) c.self.view_is c.source.ensures ∙ ap Some c.in-Frozen.is in
    moved_as (change c.args.source (Plain v)) (thawed_at c.args.source) old new
    (subst (λ x. Moved (change c.args.source (Plain x)) old new) c.in_ok-value.ensures c.write.ensures)
    (λ state stands. thaws_frozen (shape_of old.app) old.kept state stands c.args.source v has)

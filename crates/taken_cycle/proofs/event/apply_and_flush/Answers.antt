use Rattle.std.proofs.Common.{List, ◌∙◌, ap, sym, subst, IfOk}
use Rattle.rx_value.specs.declared.source.SourceValue.{SourceValue}
use Rattle.app_tree.specs.View.{shape_of}
use Rattle.session_model.specs.Apply.{apply_pairs}
use Rattle.session_model.specs.Flush.{FlushResult, flush}
use Rattle.taken_cycle.specs.State.{state_of}
use Rattle.taken_cycle.specs.inner.Passed.{Passes}
use Rattle.taken_cycle.proofs.Thawing.{thaw_same}
use Rattle.taken_cycle.proofs.event.apply_and_flush.Goals as goal

pub returns-clause-passes : goal.returns-clause-passes
returns-clause-passes c =
    let app = shape_of c.args.app.now in
    let old = state_of c.args.values.now.items c.args.readers.now.items in
    let values = c.apply_pairs.new.values.items in
    let readers = c.apply_pairs.new.readers.items in
    let after = c.flush.new.readers.items in
    let from = ap (flush app) (c.in_ok-apply_pairs.ensures.applied ∙ ap (apply_pairs app c.args.pairs.now) (sym (thaw_same old c.requires.thawed))) in
    let over_flushed : FlushResult → Type 0 = λ f. IfOk c.flush.result (λ p. Passes app f (state_of values after) p.outputs p.spent) in
    let over_values : List SourceValue → Type 0 = λ vs. IfOk c.flush.result (λ p. Passes app (flush app (state_of vs readers)) (state_of vs after) p.outputs p.spent) in
    subst over_flushed from (subst over_values c.as_slice.ensures.value c.flush.ensures)

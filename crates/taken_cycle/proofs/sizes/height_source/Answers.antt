use Rattle.std.proofs.Common.{◌+◌, ◌∙◌, ap, ap₂, sym, map, length}
use Rattle.app_tree.proofs.SortLaws.{outputs_before_is}
use Rattle.app_tree.specs.View.{node_of, shape_of}
use Rattle.app_tree.specs.Numbering.{declared_sources, output_count}
use Rattle.taken_cycle.specs.inner.Targets.{outputs_before}
use Rattle.taken_cycle.proofs.Counted.{declared_counted}
use Rattle.taken_cycle.proofs.sizes.height_source.Goals as goal

pub returns : goal.returns
returns c =
    let same = ap (map node_of) (c.as_slice-items.ensures ∙ c.items.ensures.items) in
    let declared = c.declared_count.ensures ∙ declared_counted (map node_of c.as_slice-items.result.now) ∙ ap (λ is. length (declared_sources is)) same in
    let before = c.outputs_before.ensures ∙ ap (λ is. outputs_before is c.args.reader) same ∙ sym (outputs_before_is (shape_of c.args.app.now) c.args.reader) in
    ap₂ (λ m n. m + n) (ap₂ (λ m n. m + n) declared before) (c.output_count.ensures ∙ ap output_count same)

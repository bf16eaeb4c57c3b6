use Rattle.std.proofs.Common.{◌≡◌, filter, map, rules}
use Rattle.app_tree.specs.Numbering.{is_reader, outputs_before_each}
use Rattle.app_tree.specs.View.{node_of, shape_of}
use Rattle.app_tree.proofs.SortLaws.{has_few}
use Rattle.app_tree.proofs.source_numbers.SourceNumbers.new.Goals as goal

pub invariant_of-result : goal.invariant_of-result
invariant_of-result c =
    let before : c.in_ok-before.before.items ≡ outputs_before_each 0 (filter is_reader (map node_of c.args.app.now.items)) = search rules in
    has_few _ (shape_of c.args.app.now) c.declared.ensures.most c.outputs.ensures.most c.outputs.ensures.value before

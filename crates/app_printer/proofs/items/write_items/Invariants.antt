use Rattle.std.proofs.Common.{◌≡◌, ◌++◌, drop, map}
use Rattle.app_tree.specs.View.{node_of}
use Rattle.app_tree.specs.Named.{named_item}
use Rattle.app_printer.specs.Canonical.{items_text}
use Rattle.app_printer.proofs.items.write_items.Given as goal

abbrev pub invariant-loop-item : goal.invariant-loop-item
invariant-loop-item l =
    l.out ++ items_text (map (named_item l.names) (map node_of (drop l.item-index l.items)))
    ≡ l.fn.out ++ items_text (map (named_item l.names) (map node_of l.items))

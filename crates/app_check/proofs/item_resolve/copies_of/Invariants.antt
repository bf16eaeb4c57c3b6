use Rattle.std.proofs.Common.{◌≡◌, ◌++◌, drop, map}
use Rattle.app_tree.specs.Resolve.{text_of_name}
use Rattle.app_check.proofs.item_resolve.copies_of.Given as goal

abbrev pub invariant-loop-name : goal.invariant-loop-name
invariant-loop-name l = l.copies ++ map text_of_name (drop l.name-index l.names) ≡ map text_of_name l.names

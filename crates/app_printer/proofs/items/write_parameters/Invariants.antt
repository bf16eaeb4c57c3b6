use Rattle.std.proofs.Common.{◌≡◌, ◌++◌, drop, map}
use Rattle.app_tree.specs.Named.{unplaced_name}
use Rattle.app_printer.specs.Canonical.{names_text, more_names}
use Rattle.app_printer.proofs.items.write_parameters.Given as goal

abbrev pub invariant-loop-parameter : goal.invariant-loop-parameter
invariant-loop-parameter l =
    l.out ++ more_names (map unplaced_name (drop l.parameter-index l.later))
    ≡ l.fn.out ++ names_text (map unplaced_name l.parameters)

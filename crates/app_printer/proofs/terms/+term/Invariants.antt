use Rattle.std.proofs.Common.{◌≡◌, ◌++◌, drop}
use Rattle.app_tree.specs.View.{trees_of_terms}
use Rattle.app_tree.specs.Named.{named_trees}
use Rattle.app_printer.specs.Canonical.{more_terms}
use Rattle.app_printer.specs.inner.Written.{texts_in}
use Rattle.app_printer.proofs.terms.+term.Given as goal

abbrev pub invariant-write_terms-loop-term : goal.invariant-write_terms-loop-term
invariant-write_terms-loop-term l =
    l.out ++ more_terms (named_trees l.scope.table l.scope.variables (trees_of_terms (drop l.term-index l.later)))
    ≡ l.fn.out ++ texts_in l.scope (trees_of_terms l.terms)

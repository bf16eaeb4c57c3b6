use Rattle.std.proofs.Common.{◌≡◌, ◌++◌, drop}
use Rattle.app_printer.specs.inner.Names.{texts_of}
use Rattle.app_printer.proofs.scope.push_same.Given as goal

abbrev pub invariant-loop-text : goal.invariant-loop-text
invariant-loop-text l =
    texts_of l.variables.items ++ texts_of (drop l.text-index l.from) ≡ texts_of l.initial.variables.items ++ texts_of l.from

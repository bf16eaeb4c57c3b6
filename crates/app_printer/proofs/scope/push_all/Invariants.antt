use Rattle.std.proofs.Common.{◌≡◌, ◌++◌, drop}
use Rattle.app_printer.specs.inner.Names.{texts_of}
use Rattle.app_printer.proofs.scope.push_all.Given as goal

abbrev pub invariant-loop-text : goal.invariant-loop-text
invariant-loop-text l = texts_of l.variables.items ++ drop l.text-index l.texts ≡ texts_of l.initial.variables.items ++ l.texts

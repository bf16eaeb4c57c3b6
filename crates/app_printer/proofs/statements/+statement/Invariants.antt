use Rattle.std.proofs.Common.{◌≡◌, ◌++◌, drop, codes}
use Rattle.app_tree.specs.View.{acts_of_block}
use Rattle.app_tree.specs.Named.{named_acts}
use Rattle.app_printer.specs.Canonical.{acts_text}
use Rattle.app_printer.proofs.statements.+statement.Given as goal

abbrev pub invariant-write_block-loop-statement : goal.invariant-write_block-loop-statement
invariant-write_block-loop-statement l =
    l.out ++ acts_text (named_acts l.names (acts_of_block (drop l.statement-index l.block)))
    ≡ l.fn.out ++ (codes "{ " ++ acts_text (named_acts l.names (acts_of_block l.block)))

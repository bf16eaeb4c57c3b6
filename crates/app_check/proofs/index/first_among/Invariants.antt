use Rattle.std.proofs.Common.{◌≡◌, ℕ, List, drop, map}
use Rattle.std.specs.Option.{option_or}
use Rattle.app_tree.specs.Declarations.{declaration_from, declaration}
use Rattle.app_tree.specs.Sorts.{sorts_of}
use Rattle.app_check.specs.inner.Tables.{declared_of, without_name}
use Rattle.app_check.specs.inner.ByName.{by_name}
use Rattle.app_check.proofs.index.first_among.Given as goal

abbrev pub invariant-loop-item : goal.invariant-loop-item
invariant-loop-item l = (name : List ℕ) → option_or (by_name l.first name) (without_name (declaration_from l.item (sorts_of l.sought) name (map declared_of (drop l.item l.entries)))) ≡ without_name (declaration (sorts_of l.sought) name (map declared_of l.entries))

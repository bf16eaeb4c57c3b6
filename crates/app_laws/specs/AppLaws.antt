-- What is expected of an app that a text can give and no check refuses.
use Rattle.app_tree.specs.Tree.{Shape}
use Rattle.app_tree.specs.WellFormed.{IsWellFormed}
use Rattle.app_laws.specs.Orderly.{IsOrderly}

-- its expressions read earlier ones alone, its readers read its own sources, and each isolated site of a reader has a number of its own
abbrev pub WellFormedIsOrderly : Type 0
WellFormedIsOrderly = (app : Shape) → IsWellFormed app → IsOrderly app

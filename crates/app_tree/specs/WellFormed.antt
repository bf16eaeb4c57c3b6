-- Which apps there are: those that a draft stands for, which a text can give, but for the spelling of item names, and which
-- no check refuses.
use Rattle.std.specs.Prelude.{◌≡◌, true, []}
use Rattle.app_tree.specs.Tree.{Shape}
use Rattle.app_tree.specs.DraftTree.{DraftShape}
use Rattle.app_tree.specs.Fits.{fits}
use Rattle.app_tree.specs.Resolve.{resolved}
use Rattle.app_tree.specs.Faults.{faults}

-- so each number is of the sort that its place needs, each variable is bound, and an expression reads earlier ones alone
pub record IsWellFormed (app : Shape) : Type 0 where
  pub draft : DraftShape
  pub fits : fits draft ≡ true
  pub passes : faults draft ≡ []
  pub stands : resolved draft ≡ app

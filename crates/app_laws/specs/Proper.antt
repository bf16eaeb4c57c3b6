-- The apps that the laws speak of.
use Rattle.std.specs.Prelude.{◌≡◌, true}
use Rattle.app_tree.specs.Tree.{Shape}
use Rattle.app_tree.specs.Cover.{is_sound}
use Rattle.app_tree.specs.WellFormed.{IsWellFormed}

-- one that a text can give, that no check refuses, and whose cached readers are covered
pub record IsProper (app : Shape) : Type 0 where
  pub well_formed : IsWellFormed app
  pub covered : is_sound app ≡ true

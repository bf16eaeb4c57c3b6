-- What is expected of what is met first.
use Rattle.std.specs.Prelude.{◌≡◌, ◌↔◌, ℕ, true}
use Rattle.app_tree.specs.Tree.{Shape}
use Rattle.app_tree.specs.Cover.{is_covered}
use Rattle.key_cover.specs.declared.coverage.Coverage.TheVariants.{Covered}
use Rattle.key_cover.specs.Met.{first_met}

-- nothing is met exactly where the keys cover the body
abbrev pub CoveredWhereNothingIsMet : Type 0
CoveredWhereNothingIsMet = (app : Shape) (n : ℕ) → (first_met app n ≡ Covered) ↔ (is_covered app n ≡ true)

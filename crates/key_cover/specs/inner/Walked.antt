-- What a call of the walk remembers: which expressions were walked and met nothing.
use Rattle.std.specs.Prelude.{◌≡◌, ◌≤◌, ℕ, true, Bool, List, length, Some, slice_get}
use Rattle.app_tree.specs.Tree.{Trees, Shape}
use Rattle.app_tree.specs.Numbering.{readers, reader}
use Rattle.key_cover.specs.declared.coverage.Coverage.{Coverage}
use Rattle.key_cover.specs.declared.coverage.Coverage.TheVariants.{Covered}
use Rattle.key_cover.specs.Met.{met_in_node, met_below}

-- what is met in the place of reader m
abbrev pub met_at : Shape → Trees → ℕ → Coverage
met_at app keys m = met_in_node keys (met_below app keys m) m (reader app m)

-- there is a mark for each reader, and a reader that is marked was walked, and nothing was met
pub record HasWalked (app : Shape) (keys : Trees) (marks : List Bool) : Type 0 where
  pub each : length (readers app) ≤ length marks
  pub nothing_met : (m : ℕ) → slice_get marks m ≡ Some true → met_at app keys m ≡ Covered

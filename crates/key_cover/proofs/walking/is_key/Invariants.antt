use Rattle.std.proofs.Common.{◌≡◌, drop}
use Rattle.app_tree.specs.View.{trees_of_terms}
use Rattle.app_tree.specs.Cover.{is_key}
use Rattle.key_cover.proofs.walking.is_key.Given as goal

abbrev pub invariant-every : goal.invariant-every
invariant-every l = is_key (trees_of_terms (drop l.key-index l.keys)) l.read ≡ is_key (trees_of_terms l.keys) l.read

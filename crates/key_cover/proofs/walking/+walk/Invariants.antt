use Rattle.std.proofs.Common.{◌≡◌, ◌+◌, ◌*◌, Some, drop}
use Rattle.app_tree.specs.Numbering.{reader}
use Rattle.app_tree.specs.View.{tree_of, trees_of_terms, node_of}
use Rattle.key_cover.specs.inner.Walks.{app_of, met_for_all, IsMarked}
use Rattle.key_cover.proofs.Sizes.{tree_size, trees_size, node_size, size_below}
use Rattle.key_cover.proofs.walking.+walk.Given as goal

-- what is left of the terms is met as all of them are
abbrev pub invariant-all-terms : goal.invariant-all-terms
invariant-all-terms l = record {
  met : met_for_all l.walk l.below (trees_of_terms (drop l.inner-index l.terms)) ≡ met_for_all l.walk l.below (trees_of_terms l.terms);
  marked : IsMarked l.walk l.marks;
}

-- ---- a function calls those that are as large and of lower rank, and those that are smaller

abbrev pub decreases-term : goal.decreases-term
decreases-term l = (size_below (app_of l.walk.now) l.below + tree_size (tree_of l.inner.now)) * 4

abbrev pub decreases-two : goal.decreases-two
decreases-two l = (size_below (app_of l.walk.now) l.below + (tree_size (tree_of l.first.now) + tree_size (tree_of l.second.now))) * 4 + 1

abbrev pub decreases-three : goal.decreases-three
decreases-three l = (size_below (app_of l.walk.now) l.below + (tree_size (tree_of l.first.now) + (tree_size (tree_of l.second.now) + tree_size (tree_of l.third.now)))) * 4 + 2

abbrev pub decreases-all : goal.decreases-all
decreases-all l = (size_below (app_of l.walk.now) l.below + trees_size (trees_of_terms l.terms.now)) * 4 + 1

abbrev pub decreases-read : goal.decreases-read
decreases-read l = size_below (app_of l.walk.now) l.below * 4 + 3

abbrev pub decreases-once : goal.decreases-once
decreases-once l = (size_below (app_of l.walk.now) l.number + node_size (reader (app_of l.walk.now) l.number)) * 4 + 2

abbrev pub decreases-item : goal.decreases-item
decreases-item l = (size_below (app_of l.walk.now) l.number + node_size (Some (node_of l.inner.now))) * 4 + 1

abbrev pub decreases-reactive : goal.decreases-reactive
decreases-reactive l = (size_below (app_of l.walk.now) l.number + (trees_size (trees_of_terms l.keys.now) + tree_size (tree_of l.body.now))) * 4 + 2

abbrev pub decreases-site_behind : goal.decreases-site_behind
decreases-site_behind l = (size_below (app_of l.walk.now) l.number + tree_size (tree_of l.event.now)) * 4 + 1

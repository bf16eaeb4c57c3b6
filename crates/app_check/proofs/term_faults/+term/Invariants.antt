use Rattle.std.proofs.Common.{◌≡◌, ◌+◌, ◌*◌, drop}
use Rattle.app_tree.specs.DraftView.{draft_tree_of, draft_trees_of}
use Rattle.app_tree.specs.Faults.{first_with, terms_faults}
use Rattle.app_check.specs.inner.Spots.{spot_of}
use Rattle.app_check.proofs.Sizes.{tree_size, trees_size}
use Rattle.app_check.proofs.term_faults.+term.Given as goal

abbrev pub invariant-terms-terms : goal.invariant-terms-terms
invariant-terms-terms l = first_with l.best (terms_faults (spot_of l.spot) (draft_trees_of (drop l.inner-index l.written))) ≡ first_with l.fn.best (terms_faults (spot_of l.spot) (draft_trees_of l.written))

-- ---- a function calls those that are as large and of lower rank, and those that are smaller

abbrev pub decreases-term : goal.decreases-term
decreases-term l = tree_size (draft_tree_of l.written.now) * 2

abbrev pub decreases-last_part : goal.decreases-last_part
decreases-last_part l = tree_size (draft_tree_of l.body.now) * 2 + 1

abbrev pub decreases-isolate : goal.decreases-isolate
decreases-isolate l = tree_size (draft_tree_of l.inner.now) * 2 + 1

abbrev pub decreases-binary : goal.decreases-binary
decreases-binary l = (tree_size (draft_tree_of l.left.now) + tree_size (draft_tree_of l.right.now)) * 2 + 1

abbrev pub decreases-choice : goal.decreases-choice
decreases-choice l = (tree_size (draft_tree_of l.condition.now) + (tree_size (draft_tree_of l.chosen.now) + tree_size (draft_tree_of l.otherwise.now))) * 2 + 1

abbrev pub decreases-terms : goal.decreases-terms
decreases-terms l = trees_size (draft_trees_of l.written.now) * 2 + 1

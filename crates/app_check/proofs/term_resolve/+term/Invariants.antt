use Rattle.std.proofs.Common.{◌≡◌, ◌+◌, ◌*◌, drop}
use Rattle.app_tree.specs.View.{trees_of_terms}
use Rattle.app_tree.specs.DraftView.{draft_tree_of, draft_trees_of}
use Rattle.app_check.specs.inner.Resolving.{trees_made}
use Rattle.app_check.specs.inner.Joined.{joined_made}
use Rattle.app_check.proofs.Sizes.{tree_size, trees_size}
use Rattle.app_check.proofs.term_resolve.+term.Given as goal

abbrev pub invariant-terms-terms : goal.invariant-terms-terms
invariant-terms-terms l = joined_made (trees_of_terms l.made) (trees_made l.resolver (draft_trees_of (drop l.inner-index l.written))) ≡ trees_made l.fn.resolver (draft_trees_of l.written)

-- ---- a function calls those that are as large and of lower rank, and those that are smaller

abbrev pub decreases-term : goal.decreases-term
decreases-term l = tree_size (draft_tree_of l.written.now) * 4

abbrev pub decreases-inside : goal.decreases-inside
decreases-inside l = tree_size (draft_tree_of l.written.now) * 4 + 1

abbrev pub decreases-isolate : goal.decreases-isolate
decreases-isolate l = tree_size (draft_tree_of l.inner.now) * 4 + 2

abbrev pub decreases-require : goal.decreases-require
decreases-require l = tree_size (draft_tree_of l.inner.now) * 4 + 2

abbrev pub decreases-fold : goal.decreases-fold
decreases-fold l = (tree_size (draft_tree_of l.list.now) + (tree_size (draft_tree_of l.start.now) + tree_size (draft_tree_of l.body.now))) * 4 + 3

abbrev pub decreases-unary : goal.decreases-unary
decreases-unary l = tree_size (draft_tree_of l.inner.now) * 4 + 2

abbrev pub decreases-binary : goal.decreases-binary
decreases-binary l = (tree_size (draft_tree_of l.left.now) + tree_size (draft_tree_of l.right.now)) * 4 + 2

abbrev pub decreases-choice : goal.decreases-choice
decreases-choice l = (tree_size (draft_tree_of l.condition.now) + (tree_size (draft_tree_of l.chosen.now) + tree_size (draft_tree_of l.otherwise.now))) * 4 + 2

abbrev pub decreases-last_part : goal.decreases-last_part
decreases-last_part l = tree_size (draft_tree_of l.body.now) * 4 + 2

abbrev pub decreases-call : goal.decreases-call
decreases-call l = trees_size (draft_trees_of l.arguments.now) * 4 + 2

abbrev pub decreases-terms : goal.decreases-terms
decreases-terms l = trees_size (draft_trees_of l.written.now) * 4 + 1

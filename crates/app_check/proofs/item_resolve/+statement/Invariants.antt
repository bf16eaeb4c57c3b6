use Rattle.std.proofs.Common.{◌≡◌, [], drop}
use Rattle.app_tree.specs.View.{acts_of_block}
use Rattle.app_tree.specs.DraftView.{draft_acts_of}
use Rattle.app_check.specs.inner.Resolving.{acts_made}
use Rattle.app_check.specs.inner.Joined.{joined_acts_made}
use Rattle.app_check.proofs.item_resolve.+statement.Given as goal

abbrev pub invariant-block-statements : goal.invariant-block-statements
invariant-block-statements l = record {
  made : joined_acts_made (acts_of_block l.made) (acts_made l.resolver (draft_acts_of (drop l.inner-index l.written))) ≡ acts_made l.fn.resolver (draft_acts_of l.written);
  outside : l.resolver.scope ≡ [];
}

use Rattle.std.proofs.Common.{length}
use Rattle.app_reader.specs.State.{is_more}
use Rattle.app_reader.specs.Items.{further_item_at, items_at}
use Rattle.app_reader.specs.inner.View.{items_of}
use Rattle.app_reader.specs.inner.Loop.{Leads}
use Rattle.app_reader.proofs.items.items.Given as goal

abbrev pub invariant-items : goal.invariant-items
invariant-items l = Leads (λ b. b.1) (λ b. is_more b.1) further_item_at (items_of l.items, l.reader) (items_at l.fn.reader)

abbrev pub decreases-items : goal.decreases-items
decreases-items l = length l.reader.tokens

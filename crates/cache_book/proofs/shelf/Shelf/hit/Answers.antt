use Rattle.std.proofs.Common.{sym, ◌∙◌}
use Rattle.cache_book.proofs.Entries.{promoted_used, weight_promoted}
use Rattle.cache_book.proofs.shelf.Shelf.hit.Goals as goal

pub invariant_of-self : goal.invariant_of-self
invariant_of-self c = rw c.promote.ensures.entries (c.self.invariant.0, c.self.invariant.1 ∙ sym (weight_promoted _ c.self.inside.kept.entries))

pub returns-clause-ok : goal.returns-clause-ok
returns-clause-ok c = rw (c.promote.ensures.entries, ← c.self.view_is) (promoted_used c.args.key.now c.self.inside.kept.entries)

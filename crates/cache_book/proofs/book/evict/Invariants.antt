use Rattle.std.proofs.Common.{length}
use Rattle.cache_book.proofs.Eviction.{IsOnTheWay}
use Rattle.cache_book.proofs.book.evict.Given as goal

-- so many went from the back, and with fewer gone the rest did not fit
abbrev pub invariant-loop-shelf : goal.invariant-loop-shelf
invariant-loop-shelf l = IsOnTheWay l.limits l.fn.shelf l.dropped l.shelf

abbrev pub decreases-loop-shelf : goal.decreases-loop-shelf
decreases-loop-shelf l = length l.shelf

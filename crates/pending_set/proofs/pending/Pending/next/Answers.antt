use Rattle.std.proofs.Common.{◌≡◌, ◌<◌, length, slice_index, sym, arith}
use Rattle.std.proofs.lemmas.Grind.{common_steps}
use Rattle.pending_set.specs.Waiting.{Waiting}
use Rattle.pending_set.proofs.Choice.{next-is, next_waiting-none, next_waiting-some, NoneWaits-passed, IsPassed-first, IsPassed-none}
use Rattle.pending_set.proofs.pending.Pending.next.Goals as goal

pub returns-in_default-clause-next : goal.returns-in_default-clause-next
returns-in_default-clause-next c =
    let a = c.self.inside in
    let kept = c.self.invariant in
    let w : Waiting = record { priorities = a.priorities.items; waits = a.waits.items } in
    let long : length a.waits.items ≡ length a.order.items = omega (arith, kept.long, kept.order.long) in
    let none = NoneWaits-passed w a.order.items a.ranks.items kept.ranks long (IsPassed-none a.order.items a.ranks.items a.waits.items a.places kept.shown c.in_default.ensures.none) in
    rw (← c.self.view_is) (sym (next_waiting-none w none))

pub returns-clause-some : goal.returns-clause-some
returns-clause-some c =
    let a = c.self.inside in
    let kept = c.self.invariant in
    let w : Waiting = record { priorities = a.priorities.items; waits = a.waits.items } in
    let long : length a.waits.items ≡ length a.order.items = omega (arith, kept.long, kept.order.long) in
    let first = c.in-Some.ensures.some in
    let place = c.in-Some.place in
    let ordered : place < length a.order.items = kept.shown.within place first.found in
    let same : slice_index a.order.items place ≡ c.index-number.result.now = grind (arith, common_steps, ordered) in
    rw (← c.self.view_is, ← same) (next-is w a.order.items a.ranks.items place kept.order kept.ranks long (IsPassed-first a.order.items a.ranks.items a.waits.items a.places place kept.shown first) (kept.shown.stands place first.found))

pub returns-clause-next : goal.returns-clause-next
returns-clause-next c = sym (next_waiting-some c.args.self.now c.index-number.result.now (returns-clause-some c))

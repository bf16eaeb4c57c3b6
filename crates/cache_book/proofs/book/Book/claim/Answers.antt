use Rattle.std.proofs.Common.{◌≡◌, Some, None, sym, ◌∙◌}
use Rattle.std.specs.Map.{lookup}
use Rattle.rx_value.specs.Value.{key_eq}
use Rattle.cache_book.specs.Machine.{entries_after_use}
use Rattle.cache_book.proofs.Entries.{are_within-entries_after_use}
use Rattle.cache_book.proofs.Apart.{apart_used, apart_taken_off}
use Rattle.cache_book.proofs.book.Book.claim.Goals as goal
use Rattle.cache_book.proofs.book.Book.claim.Goals.{in-Ok, in-Err-take_off}

pub invariant_of-self-in-Ok-Some : goal.invariant_of-self-in-Ok-Some
invariant_of-self-in-Ok-Some c =
    let found : lookup (key_eq c.args.key.now) c.self.inside.shelf ≡ Some c.in-Ok-Some.outcome = sym c.in-Ok-Some.ensures.found ∙ c.in-Ok-Some.field-0-is in
    let now : c.hit.new.self ≡ entries_after_use c.args.key.now c.in-Ok-Some.outcome c.self.inside.shelf = rw found at c.in-Ok-Some.ensures.ok in
    rw now (c.self.invariant.0, are_within-entries_after_use c.self.inside.limits c.args.key.now c.self.inside.shelf c.in-Ok-Some.outcome found ∙ c.self.invariant.1, apart_used c.self.inside.in_flight.entries c.self.inside.shelf c.args.key.now c.in-Ok-Some.outcome found c.self.invariant.2)

pub invariant_of-self-in-None : goal.invariant_of-self-in-None
invariant_of-self-in-None c =
    let missed : lookup (key_eq c.args.key.now) c.self.inside.shelf ≡ None = sym c.in-Ok-None.ensures.found ∙ c.in-Ok-None.field-0-is in
    let same : c.hit.new.self ≡ c.self.inside.shelf = rw missed at c.in-Ok-None.ensures.ok in
    rw same (elim c.match-take_off.branch [
      | in-Ok w ↦ rw w.in-Ok.ensures.ok (c.self.invariant.0, c.self.invariant.1, apart_taken_off c.self.inside.in_flight.entries c.self.inside.shelf c.args.key.now c.args.owner missed c.self.invariant.2)
      | in-Err-take_off w ↦ rw w.in-Err-take_off.ensures.err c.self.invariant
    ])

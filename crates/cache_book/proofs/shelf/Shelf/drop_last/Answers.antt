use Rattle.std.proofs.Common.{◌≡◌, ◌<◌, List, Some, length, sym, subst, ◌∙◌, arith}
use Rattle.rx_value.specs.declared.key.Key.{Key}
use Rattle.rx_value.specs.declared.outcome.Outcome.{Outcome}
use Rattle.lru.specs.LruCache.{last_entry}
use Rattle.cache_book.specs.Machine.{total_weight}
use Rattle.cache_book.proofs.Entries.{weight_last, last_there}
use Rattle.cache_book.proofs.shelf.Shelf.drop_last.Goals as goal

pub overflow_sub-self : goal.overflow_sub-self
overflow_sub-self c =
    let is : last_entry c.self.inside.kept.entries ≡ Some (c.in-Some.key, c.in-Some.outcome) = cc in
    let weight : c.self.inside.weight ≡ total_weight c.self.inside.kept.entries = c.self.invariant.1 in
    omega (arith, weight, c.weight_of.ensures, weight_last c.self.inside.kept.entries _ is)

pub invariant_of-self : goal.invariant_of-self
invariant_of-self c =
    let is : last_entry c.self.inside.kept.entries ≡ Some (c.in-Some.key, c.in-Some.outcome) = cc in
    let weight : c.self.inside.weight ≡ total_weight c.self.inside.kept.entries = c.self.invariant.1 in
    rw c.pop_lru.ensures.entries (c.self.invariant.0, omega (arith, weight, c.weight_of.ensures, weight_last c.self.inside.kept.entries _ is))

pub invariant_of-self-in_default : goal.invariant_of-self-in_default
invariant_of-self-in_default c =
    let some : 0 < length c.self.inside.kept.entries = subst (λ (es : List (Key × Outcome)). 0 < length es) (sym c.self.view_is) c.requires in
    absurd (last_there c.self.inside.kept.entries some (sym c.pop_lru.ensures.value ∙ c.in_default.is))

use Rattle.std.proofs.Common.{◌≡◌, ◌≤◌, ◌<◌, ℕ, Some, None, sym, subst, ◌∙◌, min, ◌+◌}
use Rattle.std.specs.Map.{lookup}
use Rattle.std.proofs.lemmas.Map.Made.{lookup_key_same}
use Rattle.rx_value.specs.declared.key.Key.{Key}
use Rattle.rx_value.specs.Value.{key_eq}
use Rattle.rx_value.specs.Keys.{key_eq-Decides}
use Rattle.rx_value.specs.Weight.{entry_weight}
use Rattle.cache_book.specs.Machine.{CacheState, owner_in_flight}
use Rattle.cache_book.specs.Answers.{Stores}
use Rattle.cache_book.specs.contracts.book.Book.{the_view}
use Rattle.cache_book.proofs.Filling.{refused, answered, kept_within, kept_apart}
use Rattle.cache_book.proofs.book.Book.fill.Goals as goal

pub returns-then-saturating_add-self : goal.returns-then-saturating_add-self
returns-then-saturating_add-self c =
    let key : c.args.key.now ≡ c.in-Some.key = lookup_key_same key_eq-Decides c.args.key.now c.self.inside.in_flight.entries c.in-Some.key (sym c.in-Some.ensures.key) in
    let weight : c.saturating_add.result ≡ entry_weight c.in-Some.key c.args.got.now = c.saturating_add.ensures ∙ (λ i. min (c.weight.ensures i + c.weight-2.ensures i) 18446744073709551615) in
    let heavy : c.self.inside.limits.bytes < entry_weight c.args.key.now c.args.got.now =
    subst (λ (k : Key). c.self.inside.limits.bytes < entry_weight k c.args.got.now) (sym key) (subst (λ (n : ℕ). c.self.inside.limits.bytes < n) weight c.if-saturating_add-self.true) in
    rw (← c.self.view_is, c.shift_remove_entry.ensures.entries) (refused (the_view c.self.inside) c.args.key.now c.args.owner c.args.got.now heavy)

pub store-requires-clause-new : goal.store-requires-clause-new
store-requires-clause-new c =
    let key : c.args.key.now ≡ c.in-Some.key = lookup_key_same key_eq-Decides c.args.key.now c.self.inside.in_flight.entries c.in-Some.key (sym c.in-Some.ensures.key) in
    let flies : owner_in_flight (the_view c.self.inside) c.args.key.now ≡ Some c.args.owner =
    subst (λ (s : CacheState). owner_in_flight s c.args.key.now ≡ Some c.args.owner) (sym c.self.view_is) c.requires in
    subst (λ (k : Key). lookup (key_eq k) c.self.inside.shelf ≡ None) key (c.self.invariant.2.apart c.args.key.now c.args.owner flies)

pub invariant_of-self-2 : goal.invariant_of-self-2
invariant_of-self-2 c =
    let key : c.args.key.now ≡ c.in-Some.key = lookup_key_same key_eq-Decides c.args.key.now c.self.inside.in_flight.entries c.in-Some.key (sym c.in-Some.ensures.key) in
    let kept : Stores c.self.inside.limits (c.args.key.now, c.args.got.now) c.self.inside.shelf c.store.result c.store.new.shelf =
    subst (λ (k : Key). Stores c.self.inside.limits (k, c.args.got.now) c.self.inside.shelf c.store.result c.store.new.shelf) (sym key) c.store.ensures in (
      c.self.invariant.0,
      kept_within (the_view c.self.inside) c.args.key.now c.args.got.now c.store.result c.store.new.shelf c.self.invariant.1 kept,
      kept_apart (the_view c.self.inside) c.args.key.now c.args.got.now c.store.result c.store.new.shelf c.shift_remove_entry.new.self.entries
          c.shift_remove_entry.ensures.updates.0 c.self.invariant.2 kept,
    )

pub returns : goal.returns
returns c =
    let key : c.args.key.now ≡ c.in-Some.key = lookup_key_same key_eq-Decides c.args.key.now c.self.inside.in_flight.entries c.in-Some.key (sym c.in-Some.ensures.key) in
    let weight : c.saturating_add.result ≡ entry_weight c.in-Some.key c.args.got.now = c.saturating_add.ensures ∙ (λ i. min (c.weight.ensures i + c.weight-2.ensures i) 18446744073709551615) in
    let light : entry_weight c.args.key.now c.args.got.now ≤ c.self.inside.limits.bytes =
    subst (λ (k : Key). entry_weight k c.args.got.now ≤ c.self.inside.limits.bytes) (sym key) (subst (λ (n : ℕ). n ≤ c.self.inside.limits.bytes) weight c.if-saturating_add-self.false) in
    let kept : Stores c.self.inside.limits (c.args.key.now, c.args.got.now) c.self.inside.shelf c.store.result c.store.new.shelf =
    subst (λ (k : Key). Stores c.self.inside.limits (k, c.args.got.now) c.self.inside.shelf c.store.result c.store.new.shelf) (sym key) c.store.ensures in
    rw (← c.self.view_is, c.shift_remove_entry.ensures.entries)
    (answered (the_view c.self.inside) c.args.key.now c.args.owner c.args.got.now c.store.result c.store.new.shelf light kept)

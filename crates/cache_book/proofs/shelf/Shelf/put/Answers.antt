use Rattle.std.proofs.Common.{◌≡◌, ◌∷◌, ◌≤◌, ◌-◌, ◌^◌, List, None, length, sym, ap, subst, ◌∙◌, refl, arith}
use Rattle.std.specs.Map.{lookup}
use Rattle.rx_value.specs.Value.{key_eq}
use Rattle.rx_value.specs.declared.key.Key.{Key}
use Rattle.rx_value.specs.declared.outcome.Outcome.{Outcome}
use Rattle.lru.specs.LruCache.{lru_cache}
use Rattle.cache_book.specs.Machine.{total_weight}
use Rattle.cache_book.proofs.Entries.{put_new, weight_put}
use Rattle.cache_book.proofs.shelf.Shelf.put.Goals as goal

is_put : (c : goal.Joined-put-2) → c.put.new.self ≡ lru_cache ((c.args.key, c.args.outcome) ∷ c.self.inside.kept.entries) c.self.inside.kept.cap
is_put c =
    let new : lookup (key_eq c.args.key) c.self.inside.kept.entries ≡ None = subst (λ (es : List (Key × Outcome)). lookup (key_eq c.args.key) es ≡ None) (sym c.self.view_is) c.requires.new in
    let cap : c.self.inside.kept.cap ≡ 2 ^ 64 - 1 = c.self.invariant.0 in
    let room : length c.self.inside.kept.entries ≤ c.self.inside.kept.cap - 1 = omega (arith, cap, c.len-count.ensures.len, c.len-count.ensures.fits) in
    c.in-Ok.ensures.entries ∙ ap (λ (es : List (Key × Outcome)). lru_cache es c.self.inside.kept.cap) (put_new c.self.inside.kept c.args.key c.args.outcome new room)

pub invariant_of-self : goal.invariant_of-self
invariant_of-self c =
    let weight : c.self.inside.weight ≡ total_weight c.self.inside.kept.entries = c.self.invariant.1 in
    let more = weight_put c.args.key c.args.outcome c.self.inside.kept.entries in
    rw (is_put c) (c.self.invariant.0, omega (arith, weight, more, c.weight_of-weight.ensures))

pub returns-in-Ok-clause-ok : goal.returns-in-Ok-clause-ok
returns-in-Ok-clause-ok c = rw (is_put c, ← c.self.view_is) refl

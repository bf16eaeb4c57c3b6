use Rattle.std.proofs.Common.{◌≡◌, ◌∷◌, ap, ◌∙◌}
use Rattle.rx_value.specs.declared.outcome.Outcome.{Outcome}
use Rattle.cache_book.proofs.Eviction.{stores}
use Rattle.cache_book.proofs.book.store.Goals as goal

pub returns-in-Ok-put : goal.returns-in-Ok-put
returns-in-Ok-put c =
    let copy : c.in-Ok.outcome ≡ c.args.got.now = c.in-Ok.ensures in
    let all : c.put.new.self ≡ (c.args.key, c.args.got.now) ∷ c.args.shelf.now =
    c.in-Ok-put.ensures.ok ∙ ap (λ (o : Outcome). (c.args.key, o) ∷ c.args.shelf.now) copy in
    stores c.args.limits.now (c.args.key, c.args.got.now) c.args.shelf.now c.evict.result c.put.new.self c.evict.new.shelf all c.evict.ensures.least c.evict.ensures.after

use Rattle.std.proofs.Common.{◌≡◌, ◌++◌, ◌∷◌, [], ap, subst, ◌∙◌}
use Rattle.rx_value.specs.declared.key.Key.{Key}
use Rattle.rx_value.specs.Value.{key_eq}
use Rattle.std.specs.Map.{lookup}
use Rattle.std.proofs.Common.{None, sym}
use Rattle.indexmap.proofs.CallerLemmas.{insert_entry-new}
use Rattle.cache_book.proofs.book.take_off.Goals as goal
use Rattle.cache_book.proofs.book.take_off.Goals.{in-Ok, in-Err}

pub returns-clause-ok : goal.returns-clause-ok
returns-clause-ok c =
    let key : c.in_ok-copy.field-0 ≡ c.args.key.now = c.in_ok-copy.ensures in
    let none : lookup (key_eq c.in_ok-copy.field-0) c.args.in_flight.now.entries ≡ None =
    subst (λ (k : Key). lookup (key_eq k) c.args.in_flight.now.entries ≡ None) (sym key) c.requires in
    let last = insert_entry-new key_eq c.args.in_flight.now c.in_ok-copy.field-0 c.args.owner none in
    let moved = ap (λ (k : Key). c.args.in_flight.now.entries ++ (k, c.args.owner) ∷ []) key in
    elim c.match-insert.branch [
      | in-Ok w ↦ rw w.result-is (w.in-Ok.ensures.entries ∙ last ∙ moved)
      | in-Err w ↦ rw w.result-is tt
    ]

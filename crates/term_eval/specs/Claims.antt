-- What a claim of a key gives.
use Rattle.std.specs.Prelude.{◌≡◌, List, [], ◌∷◌, ◌++◌}
use Rattle.rx_value.specs.declared.key.Key.{Key}
use Rattle.rx_value.specs.declared.outcome.Outcome.{Outcome}
use Rattle.app_tree.specs.Tree.{Shape}
use Rattle.app_tree.specs.Cover.{keyed_outcome}
use Rattle.term_eval.specs.declared.asker.Asked.{Asked}
use Rattle.term_eval.specs.declared.asker.Asked.TheVariants.{Hit, Go, Memory}
use Rattle.term_eval.specs.Lent.{Lent}

-- what the body of the key's reader comes to where the reader's keys have the key's values
abbrev pub key_outcome : Shape → Key → Outcome
key_outcome app key = keyed_outcome app key.node key.parts

-- a hit is the outcome of the key; a Leave is one of the key, and goes out behind those that are out
abbrev pub Claims : {L : Type 0} → (L → Lent) → Shape → Key → List Lent → Asked L → List Lent → Type 0
Claims lent app key old (Hit outcome) new = (outcome ≡ key_outcome app key) × (new ≡ old)
Claims lent app key old (Go leave) new = ((lent leave).key ≡ key) × (new ≡ old ++ lent leave ∷ [])
Claims lent app key old Memory new = new ≡ old

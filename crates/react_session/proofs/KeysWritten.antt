-- A reader that is written with keys is cached.
use Rattle.std.proofs.Common.{◌≡◌, Bool, true, false, List, [], ◌∷◌, refl}
use Rattle.std.specs.Prelude.{not, is_some}
use Rattle.std.specs.Bool.{IsTrue}
use Rattle.std.proofs.lemmas.Bool.{false≢true}
use Rattle.app_tree.specs.declared.term.Term.{Term}
use Rattle.app_tree.specs.Tree.{Tree}
use Rattle.app_tree.specs.View.{trees_of_terms}
use Rattle.app_tree.specs.Cover.{with_keys}

-- by whether its keys are none
pub keys_written : (keys : List Term) (body : Tree) (none : Bool) → (IsTrue none → keys ≡ []) × (keys ≡ [] → IsTrue none) → not none ≡ is_some (with_keys (trees_of_terms keys) body)
keys_written [] body true h = refl
keys_written [] body false h = absurd (false≢true (h.1 refl))
keys_written (k ∷ keys) body true h = let no = h.0 refl in absurd cc
keys_written (k ∷ keys) body false h = refl

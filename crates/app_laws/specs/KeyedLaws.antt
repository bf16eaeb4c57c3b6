-- What the keys of a cached reader say of its body, on which each cache of bodies rests.
use Rattle.std.specs.Prelude.{◌≡◌, ℕ, true, List, [], Some, Ok, Err}
use Rattle.rx_value.specs.declared.value.Value.{Value}
use Rattle.rx_value.specs.declared.outcome.Outcome.{Outcome}
use Rattle.app_tree.specs.Tree.{Tree, Trees, Shape}
use Rattle.app_tree.specs.Numbering.{reader}
use Rattle.app_tree.specs.Current.{CurrentValues}
use Rattle.app_tree.specs.Evaluate.{Answers, outcome_of}
use Rattle.app_tree.specs.Fresh.{Sites, answer_to, cached, known_expressions}
use Rattle.app_tree.specs.Keys.{KeysResult, keys_result}
use Rattle.app_tree.specs.Cover.{Cached, cached_node, is_covered, keyed_outcome}
use Rattle.app_tree.specs.WellFormed.{IsWellFormed}

-- what reader n is answered: the current values, what the expressions come to on them, and its own isolated sites
abbrev pub answers_at : Shape → CurrentValues → Sites → ℕ → Answers
answers_at app values sites n = record { read = answer_to app values (known_expressions app values sites); site = sites n }

-- whatever answers the sites, a covered body comes to what the values of its keys say, also where another cached reader
-- isn't covered
abbrev pub CoveredBodyIsKeyed : Type 0
CoveredBodyIsKeyed =
    (app : Shape) → IsWellFormed app → (n : ℕ) (c : Cached) → cached_node (reader app n) ≡ Some c → is_covered app n ≡ true
    → (values : CurrentValues) (sites : Sites) (xs : List Value) → keys_result c.keys (answers_at app values sites n) ≡ Ok xs
    → outcome_of c.body (answers_at app values sites n) [] ≡ keyed_outcome app n xs

-- so with equal values of the keys it comes to the same, whatever the current values are and whatever answers the sites
abbrev pub EqualKeysGiveEqual : Type 0
EqualKeysGiveEqual =
    (app : Shape) → IsWellFormed app → (n : ℕ) (c : Cached) → cached_node (reader app n) ≡ Some c → is_covered app n ≡ true
    → (values values' : CurrentValues) (sites sites' : Sites) (xs : List Value)
    → keys_result c.keys (answers_at app values sites n) ≡ Ok xs → keys_result c.keys (answers_at app values' sites' n) ≡ Ok xs
    → outcome_of c.body (answers_at app values sites n) [] ≡ outcome_of c.body (answers_at app values' sites' n) []

-- the failure of the keys, or else the outcome of the body
abbrev pub unless_failed : KeysResult → Outcome → Outcome
unless_failed (Ok xs) outcome = outcome
unless_failed (Err failure) outcome = failure

-- the keys come first, and the first of them that fails is what a cached reader comes to
abbrev pub KeysComeFirst : Type 0
KeysComeFirst = (keys : Trees) (body : Tree) (answers : Answers) → (cached keys body answers).outcome ≡ unless_failed (keys_result keys answers) (outcome_of body answers [])

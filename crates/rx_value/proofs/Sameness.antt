-- The tests whether two texts, values, keys, outcomes, tasks' views or sources' values are the same are true exactly where
-- the two are equal.
use Rattle.std.proofs.Common.{◌≡◌, ℕ, List, bytes_eq, ◌↔◌}
use Rattle.std.specs.Prelude.{IsTrue}
use Rattle.std.proofs.lemmas.Slice.Eq.{bytes_eq-Decides}
use Rattle.rx_value.specs.declared.value.Value.{Value}
use Rattle.rx_value.specs.declared.key.Key.{Key}
use Rattle.rx_value.specs.declared.outcome.Outcome.{Outcome}
use Rattle.rx_value.specs.declared.source.TaskView.{TaskView}
use Rattle.rx_value.specs.declared.source.SourceValue.{SourceValue}
use Rattle.rx_value.specs.Value.{value_eq, key_eq, outcome_eq, view_eq, source_eq}
use Rattle.rx_value.specs.Keys.{value_eq-Decides, key_eq-Decides}
use Rattle.rx_value.proofs.SameSources.{outcome_eq-Decides, view_eq-Decides, source_eq-Decides}

pub same_texts : (a b : List ℕ) → IsTrue (bytes_eq a b) ↔ (a ≡ b)
same_texts a b = bytes_eq-Decides a b

pub same_values : (a b : Value) → IsTrue (value_eq a b) ↔ (a ≡ b)
same_values a b = value_eq-Decides a b

pub same_keys : (a b : Key) → IsTrue (key_eq a b) ↔ (a ≡ b)
same_keys a b = key_eq-Decides a b

pub same_outcomes : (a b : Outcome) → IsTrue (outcome_eq a b) ↔ (a ≡ b)
same_outcomes a b = outcome_eq-Decides a b

pub same_views : (a b : TaskView) → IsTrue (view_eq a b) ↔ (a ≡ b)
same_views a b = view_eq-Decides a b

pub same_sources : (a b : SourceValue) → IsTrue (source_eq a b) ↔ (a ≡ b)
same_sources a b = source_eq-Decides a b

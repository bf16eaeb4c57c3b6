-- The parameters of a task, as the code has them.
use Rattle.std.specs.Prelude.{◌≡◌, ℕ, List, [], map, take, length, Option, Some, None, unwrap_or, nat_le, if◌then◌else◌}
use Rattle.std.specs.Borrow.{Bor}
use Rattle.std.specs.BTreeMap.{BTreeMap}
use Rattle.app_tree.specs.declared.draft_term.Name.{Name}
use Rattle.app_tree.specs.declared.refusal.Fault.TheVariants as fault
use Rattle.app_tree.specs.declared.refusal.Refusal.{Refusal}
use Rattle.app_tree.specs.Resolve.{text_of_name, innermost}
use Rattle.app_tree.specs.Faults.{name_refused, repeated_names}
use Rattle.app_check.specs.inner.ByName.{by_name}

-- the refusals of these parameters
abbrev pub refused_names : List (Bor Name) → List Refusal
refused_names names = map (λ name. name_refused fault.NameTwice name.now) names

-- a map has the place of the innermost of each of these names
abbrev pub HasPlaces : BTreeMap (Bor (List ℕ)) ℕ → List Name → Type 0
HasPlaces places names = (name : List ℕ) → by_name places name ≡ innermost name (map text_of_name names)

-- these are the parameters of the name of an earlier one
abbrev pub AreRepeated : List (Bor Name) → List Name → Type 0
AreRepeated repeated names = refused_names repeated ≡ repeated_names [] names

-- the parameters, none where there are none, are the first of these variables
abbrev pub StandFirst : Option (List Name) → List (List ℕ) → Type 0
StandFirst names variables = map text_of_name (unwrap_or names []) ≡ take (length (unwrap_or names [])) variables

-- the parameters, where so many variables have all of them
abbrev pub kept_parameters : ℕ → Option (List Name) → Option (List Name)
kept_parameters count None = None
kept_parameters count (Some names) = if nat_le (length names) count then Some names else None

-- The isolated sites that an evaluation meets, with their outcomes.
use Rattle.std.specs.Prelude.{ℕ, List, [], ◌∷◌, Option, Some, None}
use Rattle.rx_value.specs.declared.outcome.Outcome.{Outcome}
use Rattle.rx_value.specs.declared.outcome.Outcome.TheVariants as o
use Rattle.app_tree.specs.Evaluate.{TraceEntry, reads, given, enters, leaves}

abbrev pub given_outcome : Option Outcome → Outcome
given_outcome (Some outcome) = outcome
given_outcome None = o.Stop

-- in the order in which it leaves them
abbrev pub recorded : (ℕ → Option Outcome) → List TraceEntry → List (ℕ × Outcome)
recorded site [] = []
recorded site (reads r ∷ more) = recorded site more
recorded site (given s ∷ more) = (s, given_outcome (site s)) ∷ recorded site more
recorded site (enters s ∷ more) = recorded site more
recorded site (leaves s outcome ∷ more) = (s, outcome) ∷ recorded site more

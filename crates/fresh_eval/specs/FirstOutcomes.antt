-- What the outputs of an app come to where every reader runs for the first time.
use Rattle.std.specs.Prelude.{ℕ, suc, Bool, true, false, List, [], ◌∷◌}
use Rattle.rx_value.specs.declared.outcome.Outcome.{Outcome}
use Rattle.app_tree.specs.Tree.{Node, Shape}
use Rattle.app_tree.specs.Numbering.{readers, is_output}
use Rattle.app_tree.specs.Current.{CurrentValues}
use Rattle.app_tree.specs.Fresh.{first_outcome}

-- before those of the later readers that of reader n, where it is an output
abbrev pub with_outcome : (ℕ → Outcome) → ℕ → Bool → List Outcome → List Outcome
with_outcome outcome n true later = outcome n ∷ later
with_outcome outcome n false later = later

-- of the outputs among these readers, of which the first has number n
abbrev pub outcomes_from : (ℕ → Outcome) → ℕ → List Node → List Outcome
outcomes_from outcome n [] = []
outcomes_from outcome n (i ∷ more) = with_outcome outcome n (is_output i) (outcomes_from outcome (suc n) more)

-- of each output on these current values, in the order of the text
abbrev pub first_outcomes : Shape → CurrentValues → List Outcome
first_outcomes app values = outcomes_from (first_outcome app values) 0 (readers app)

-- The names by which a term is written.
use Rattle.std.specs.Prelude.{ℕ, List, map}
use Rattle.std.specs.Borrow.{Bor}
use Rattle.app_tree.specs.Declarations.{Declared}
use Rattle.app_tree.specs.Resolve.{inner_scope}

-- what borrowed names are
abbrev pub texts_of : List (Bor (List ℕ)) → List (List ℕ)
texts_of = map (λ b. b.now)

-- what the app's items declare, and the variables in scope, by number
pub record ScopeNames : Type 0 where
  pub table : List Declared
  pub variables : List (List ℕ)

-- those in the last part of a fold
abbrev pub names_inside : ScopeNames → List ℕ → List ℕ → ScopeNames
names_inside names accumulator element = record names { variables = inner_scope names.variables accumulator element }

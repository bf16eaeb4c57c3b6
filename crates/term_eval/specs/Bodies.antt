-- The bodies of readers: those without keys, and those behind keys.
use Rattle.std.specs.Prelude.{◌≡◌, ℕ, true, Option, Some, None, IsSome}
use Rattle.rx_value.specs.declared.value.Value.TheVariants.{Null}
use Rattle.rx_value.specs.declared.outcome.Outcome.{Outcome}
use Rattle.app_tree.specs.Tree.{Tree, constant, Trees, no_trees, Node, plot}
use Rattle.app_tree.specs.Numbering.{is_evaluated}
use Rattle.app_tree.specs.Cover.{Cached, cached_node}
use Rattle.app_tree.specs.Fresh.{picture}
use Rattle.term_eval.specs.declared.evaled.Evaled.{Evaled}
use Rattle.term_eval.specs.declared.evaled.Evaled.TheVariants.{Done}

-- an expression or an output, which has no keys
abbrev pub IsUncached : Option Node → Type 0
IsUncached None = ⊥
IsUncached (Some i) = (is_evaluated i ≡ true) × (cached_node (Some i) ≡ None)

-- an expression or an output, which has keys
abbrev pub IsCached : Option Node → Type 0
IsCached n = IsSome (cached_node n)

-- the keys of a cached reader; no other has any
abbrev pub keys_of : Option Cached → Trees
keys_of (Some c) = c.keys
keys_of None = no_trees

-- the body of a cached reader
abbrev pub body_of : Option Cached → Tree
body_of (Some c) = c.body
body_of None = constant Null

-- what an output makes of its body's outcome: a plot wants a picture, and all else leaves it as it is
abbrev pub last_step : Option Node → Outcome → Outcome
last_step (Some (plot name shown)) outcome = picture outcome
last_step _ outcome = outcome

-- how many bodies came to their end
abbrev pub bodies_done : Evaled → ℕ
bodies_done (Done outcome) = 1
bodies_done _ = 0

-- What the end of a reader's run leaves of a session, by what its evaluation depends on.
use Rattle.std.specs.Prelude.{◌≡◌, ◌≢◌, ◌<◌, ℕ, Bool, true, false, List, [], ◌∷◌, length, Option, Some, None}
use Rattle.rx_value.specs.declared.outcome.Outcome.{Outcome}
use Rattle.app_tree.specs.Tree.{Node, Shape}
use Rattle.app_tree.specs.Numbering.{reader, is_evaluated}
use Rattle.app_tree.specs.Fresh.{union, is_expression_at}
use Rattle.session_model.specs.Standing.{alive, KeptSession, kept_reader}
use Rattle.session_steps.specs.Keeping.{lives, reached_by, with_kept, IsAlike}
use Rattle.dep_graph.specs.declared.on.On.{On}
use Rattle.dep_graph.specs.declared.on.On.TheVariants as on
use Rattle.dep_graph.specs.Contexts.{Contexts, context_at, is_running, after_depend}
use Rattle.dep_graph.specs.SameGraph.{IsSameStage}
use Rattle.react_session.specs.Holding.{StandsForSome}

-- ---- in words of the session

-- a source itself, and of an expression all that it has reached
abbrev pub sources_of_on : KeptSession → On → List ℕ
sources_of_on session (on.Source s) = s ∷ []
sources_of_on session (on.Expr m) = reached_by (kept_reader session m).dependence

-- beside these sources those that each of `reached` leads to
abbrev pub with_members : KeptSession → List ℕ → List On → List ℕ
with_members session sources [] = sources
with_members session sources (o ∷ more) = with_members session (union sources (sources_of_on session o)) more

abbrev pub members_reached : KeptSession → List On → List ℕ
members_reached session reached = with_members session [] reached

-- reader n depends on what was reached, and keeps the outcomes of its sites and its own
abbrev pub stored_kept : ℕ → List On → List (ℕ × Outcome) → Outcome → KeptSession → KeptSession
stored_kept n reached isolated outcome session =
    with_kept n
    (record { dependence = alive (members_reached session reached); isolated = isolated; outcome = outcome })
    session

-- ---- conditions

abbrev pub is_evaluated_at : Option Node → Bool
is_evaluated_at (Some i) = is_evaluated i
is_evaluated_at None = false

-- a source of the app, or another expression that lives
abbrev pub MayReach : Shape → ℕ → KeptSession → On → Type 0
MayReach app n session (on.Source s) = s < length session.values
MayReach app n session (on.Expr m) = (m ≢ n) × (is_expression_at (reader app m) ≡ true) × (lives session m ≡ true)

-- in whatever order its sources stand, there is a state that the session stands for
abbrev pub StandsInAnyOrder : Shape → KeptSession → Type 0
StandsInAnyOrder app session = (other : KeptSession) → IsAlike session other → StandsForSome app other

-- ---- in words of the graph

abbrev pub after_depends : ℕ → List On → Contexts → Contexts
after_depends n [] g = g
after_depends n (o ∷ more) g = after_depends n more (after_depend n o g)

-- reader n runs, and every other one stands as before
pub record StillRuns (n : ℕ) (old new : Contexts) : Type 0 where
  pub sources : new.sources ≡ old.sources
  pub count : length new.readers ≡ length old.readers
  pub others : (m : ℕ) → m ≢ n → IsSameStage (context_at new m).stage (context_at old m).stage
  pub runs : is_running new n ≡ true

-- What holds of the parts of a session.
use Rattle.std.specs.Prelude.{◌≡◌, ℕ, Bool, true, List, length, Option, Some}
use Rattle.app_tree.specs.Tree.{Shape}
use Rattle.app_tree.specs.Numbering.{readers, reader, numbers_of, starting_values}
use Rattle.app_tree.specs.Fresh.{is_expression_at}
use Rattle.app_laws.specs.Proper.{IsProper}
use Rattle.rx_source.specs.NumberedValues.{NumberedValues}
use Rattle.session_model.specs.State.{SessionState}
use Rattle.session_model.specs.Standing.{KeptSession, StandsForState}
use Rattle.dep_graph.specs.Contexts.{Contexts, context_at, is_alive, is_running}
use Rattle.react_session.specs.declared.kept.Kept.{Kept}
use Rattle.react_session.specs.Seen.{kept_at, session_seen}

-- there is a state that the session stands for
pub record StandsForSome (app : Shape) (session : KeptSession) : Type 0 where
  pub state : SessionState
  pub stands : StandsForState app session state

-- While every call found its memory: just the observer runs, only expressions were read by others, and there is a state that
-- the session stands for.
pub record IsWhole (app : Shape) (values : NumberedValues) (g : Contexts) (kept : List Kept) (observer : Option ℕ) : Type 0 where
  pub runs : (n : ℕ) → is_running g n ≡ true → observer ≡ Some n
  pub observes : (n : ℕ) → observer ≡ Some n → is_running g n ≡ true
  pub used : (n : ℕ) → (context_at g n).used ≡ true → is_expression_at (reader app n) ≡ true
  pub stands : StandsForSome app (session_seen values.values g.readers kept observer)

-- There is a value for each source. What is alive has run, and so has the observer that runs.
pub record IsHeld (app : Shape) (values : NumberedValues) (g : Contexts) (kept : List Kept) (observer : Option ℕ) (found : Bool) : Type 0 where
  pub proper : IsProper app
  pub numbers : values.numbers ≡ numbers_of app
  pub known : length values.values ≡ length (starting_values app.items)
  pub sources : g.sources ≡ length values.values
  pub contexts : length g.readers ≡ length (readers app)
  pub each_kept : length kept ≡ length (readers app)
  pub alive_ran : (n : ℕ) → is_alive g n ≡ true → (kept_at kept n).ran ≡ true
  pub observer_ran : (n : ℕ) → observer ≡ Some n → (kept_at kept n).ran ≡ true
  pub whole : found ≡ true → IsWhole app values g kept observer

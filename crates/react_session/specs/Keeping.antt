-- What contracts see of a session.
use Rattle.std.specs.Prelude.{Bool}
use Rattle.app_tree.specs.Held.{Held}
use Rattle.session_model.specs.Standing.{KeptSession}

-- the app, what is kept, and whether every call so far found the memory that it needed
pub record Keeping : Type 0 where
  pub app : Held
  pub session : KeptSession
  pub whole : Bool

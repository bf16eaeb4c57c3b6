-- What holds in every state that a session comes to: each expression or output that is alive depends on what it reaches
-- now, and all that it reads is alive too.
use Rattle.std.specs.Prelude.{◌≡◌, ℕ, true, [], length, Some}
use Rattle.app_tree.specs.Tree.{Node, Shape}
use Rattle.app_tree.specs.Numbering.{readers, reader, is_output, is_evaluated}
use Rattle.app_tree.specs.Fresh.{sources_of_reads}
use Rattle.session_model.specs.State.{SessionState, reader_state, sources_in, is_alive}
use Rattle.app_tree.specs.Trace.{EveryRead}
use Rattle.session_model.specs.Standing.{IsAliveRead, HasSameMembers}
use Rattle.session_laws.specs.Now.{known_now, evaluation_now}

-- it depends on the sources that it reaches now, and each expression that it asks for is alive: that is through its
-- keys and, where these all came to values, through its body
pub record IsSoundAt (app : Shape) (state : SessionState) (n : ℕ) : Type 0 where
  pub sources : HasSameMembers
      (sources_in (reader_state state n).dependencies)
      (sources_of_reads app (known_now app state) [] (evaluation_now app state n).outside)
  pub closed : EveryRead (IsAliveRead state) (evaluation_now app state n).asked

pub record IsSound (app : Shape) (state : SessionState) : Type 0 where
  pub size : length state.readers ≡ length (readers app)
  pub at : (n : ℕ) (i : Node) → reader app n ≡ Some i → is_evaluated i ≡ true → is_alive (reader_state state n) ≡ true
      → IsSoundAt app state n

-- each output that is alive has last come to what it gives now
pub record LastIsNow (app : Shape) (state : SessionState) : Type 0 where
  pub at : (n : ℕ) (i : Node) → reader app n ≡ Some i → is_output i ≡ true → is_alive (reader_state state n) ≡ true
      → (reader_state state n).last ≡ Some (evaluation_now app state n).outcome

-- what a session keeps is right
pub record IsRight (app : Shape) (state : SessionState) : Type 0 where
  pub sound : IsSound app state
  pub last : LastIsNow app state

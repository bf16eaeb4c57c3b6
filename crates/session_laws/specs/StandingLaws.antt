-- Which sessions stand for which states.
use Rattle.std.specs.Prelude.{◌≡◌, List}
use Rattle.app_tree.specs.Tree.{Shape}
use Rattle.session_model.specs.declared.event.Event.{Event}
use Rattle.session_model.specs.State.{SessionState, first_state}
use Rattle.session_model.specs.Alone.{state_after}
use Rattle.session_model.specs.Standing.{IsConsistent, first_kept_flush, StandsForState, StandsWholly, missing_readers, session_keeping_all, flush_keeping_all}
use Rattle.app_laws.specs.Proper.{IsProper}

-- what each journal leaves is consistent
abbrev pub JournalIsConsistent : Type 0
JournalIsConsistent = (app : Shape) → IsProper app → (journal : List Event) → IsConsistent app (state_after app journal)

-- a session in which nothing ran stands for the first state
abbrev pub FirstStands : Type 0
FirstStands = (app : Shape) → IsProper app → StandsWholly app (first_kept_flush app) (first_state app)

-- one that keeps all stands for the state
abbrev pub KeepingAllStands : Type 0
KeepingAllStands =
    (app : Shape) (state : SessionState) → IsConsistent app state
    → StandsForState app (session_keeping_all app state) state

abbrev pub KeepingWhollyStands : Type 0
KeepingWhollyStands =
    (app : Shape) (state : SessionState) → IsConsistent app state → StandsWholly app (flush_keeping_all app state) state

-- with no reader missing
abbrev pub NoneIsMissing : Type 0
NoneIsMissing = (app : Shape) (state : SessionState) → missing_readers app (session_keeping_all app state) state ≡ 0

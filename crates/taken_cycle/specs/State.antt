-- The state that the Flusher's lists stand for.
use Rattle.std.specs.Prelude.{◌≡◌, List, []}
use Rattle.rx_value.specs.declared.source.SourceValue.{SourceValue}
use Rattle.session_model.specs.declared.state.ReaderState.{ReaderState}
use Rattle.session_model.specs.State.{SessionState}
use Rattle.session_model.specs.Change.{thawed_value}
use Rattle.app_tree.specs.Trace.{Every}

-- no task of today has a board
abbrev pub state_of : List SourceValue → List ReaderState → SessionState
state_of values readers = record { values = values; readers = readers; boards = [] }

-- no app of today freezes an input
abbrev pub IsThawed : SourceValue → Type 0
IsThawed x = thawed_value x ≡ x

abbrev pub AreThawed : List SourceValue → Type 0
AreThawed values = Every IsThawed values

-- What is expected of a session, whatever its app.
use Rattle.std.specs.Prelude.{◌≡◌, ◌≤◌, ℕ, false, List, [], ◌++◌, length, Some, slice_get}
use Rattle.rx_value.specs.declared.source.SourceValue.{SourceValue}
use Rattle.app_tree.specs.Tree.{Node, Shape}
use Rattle.app_tree.specs.Numbering.{readers}
use Rattle.app_tree.specs.Current.{value_at}
use Rattle.session_model.specs.declared.event.Event.{Event}
use Rattle.session_model.specs.declared.state.ReaderState.{ReaderState}
use Rattle.session_model.specs.State.{SessionState}
use Rattle.session_model.specs.Change.{change}
use Rattle.session_model.specs.Flush.{is_waiting, done, flush}
use Rattle.session_model.specs.Alone.{Ending, JournalResult, result_from, answers_from, answers, journal_result}

-- setting a source to the value that it has changes nothing
abbrev pub EqualValueChangesNothing : Type 0
EqualValueChangesNothing =
    (state : SessionState) (s : ℕ) (x : SourceValue) → value_at state.values s ≡ x → change s x state ≡ state

-- no observer waits, no output that is shown, and none that runs while it is hidden
abbrev pub IsSettled : Shape → SessionState → Type 0
IsSettled app state =
    (n : ℕ) (i : Node) (r : ReaderState) → slice_get (readers app) n ≡ Some i → slice_get state.readers n ≡ Some r
    → is_waiting i r ≡ false

-- a flush that is done leaves nobody waiting
abbrev pub DoneIsSettled : Type 0
DoneIsSettled =
    (app : Shape) (state : SessionState) → (flush app state).end ≡ done → IsSettled app (flush app state).state

-- a flush makes at most as many runs as the budget
abbrev pub IsWithinBudget : Type 0
IsWithinBudget = (app : Shape) (state : SessionState) → length (flush app state).runs ≤ app.budget

-- what is sent in answer to a journal begins with what is sent in answer to each front of it, and what follows is said
-- by how far the front has come
abbrev pub AnswersGoOn : Type 0
AnswersGoOn =
    (app : Shape) (label : List ℕ) (front back : List Event)
    → answers app label (front ++ back)
    ≡ answers app label front ++ answers_from app label (journal_result app front) back

-- a session that is over stays as it is, whatever comes
abbrev pub OverStays : Type 0
OverStays =
    (app : Shape) (so_far : JournalResult) (end : Ending) (journal : List Event) → so_far.ending ≡ Some end
    → result_from app so_far journal ≡ so_far

-- and is sent nothing
abbrev pub OverIsSilent : Type 0
OverIsSilent =
    (app : Shape) (label : List ℕ) (so_far : JournalResult) (end : Ending) (journal : List Event)
    → so_far.ending ≡ Some end → answers_from app label so_far journal ≡ []

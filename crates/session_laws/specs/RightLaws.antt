-- What is expected of the states that a session comes to: what it keeps is right, and with it each output that a client
-- sees.
use Rattle.std.specs.Prelude.{◌≡◌, ℕ, true, List, Some, None}
use Rattle.rx_value.specs.declared.source.SourceValue.{SourceValue}
use Rattle.app_tree.specs.Tree.{Node, Shape}
use Rattle.app_tree.specs.Numbering.{reader, is_output}
use Rattle.app_tree.specs.Fresh.{fresh_outcome}
use Rattle.session_model.specs.declared.event.Event.{Event}
use Rattle.session_model.specs.State.{SessionState, first_state, isolated_of, reader_state}
use Rattle.session_model.specs.Change.{change}
use Rattle.session_model.specs.Flush.{is_wanted, next_waiting, make_run, flush}
use Rattle.session_model.specs.Alone.{journal_result, ending, state_after}
use Rattle.app_laws.specs.Proper.{IsProper}
use Rattle.session_laws.specs.Sound.{IsRight}

-- ---- what a session keeps is right, from the first state on, through each change, each run of a flush, each flush and
-- each journal

abbrev pub FirstIsRight : Type 0
FirstIsRight = (app : Shape) → IsProper app → IsRight app (first_state app)

abbrev pub ChangeKeepsRight : Type 0
ChangeKeepsRight =
    (app : Shape) → IsProper app → (state : SessionState) (s : ℕ) (x : SourceValue) → IsRight app state
    → IsRight app (change s x state)

abbrev pub RunKeepsRight : Type 0
RunKeepsRight =
    (app : Shape) → IsProper app → (state : SessionState) (n : ℕ) → IsRight app state → next_waiting app state ≡ Some n
    → IsRight app (make_run app n state).state

abbrev pub FlushKeepsRight : Type 0
FlushKeepsRight =
    (app : Shape) → IsProper app → (state : SessionState) → IsRight app state → IsRight app (flush app state).state

abbrev pub JournalIsRight : Type 0
JournalIsRight = (app : Shape) → IsProper app → (journal : List Event) → IsRight app (state_after app journal)

-- ---- what a client sees

-- after a journal that has not ended the session, and with an accepted init in it, each output that is wanted has last
-- come to what it comes to afresh
abbrev pub WantedIsFresh : Type 0
WantedIsFresh =
    (app : Shape) → IsProper app → (journal : List Event) → ending app journal ≡ None
    → (journal_result app journal).begun ≡ true → (n : ℕ) (i : Node) → reader app n ≡ Some i → is_output i ≡ true
    → is_wanted i (reader_state (state_after app journal) n) ≡ true
    → (reader_state (state_after app journal) n).last
    ≡ Some (fresh_outcome app (state_after app journal).values (isolated_of (state_after app journal)) n)

-- so it is of each output that is shown, also before the first message, when none is
abbrev pub ShownIsFresh : Type 0
ShownIsFresh =
    (app : Shape) → IsProper app → (journal : List Event) → ending app journal ≡ None → (n : ℕ) (i : Node)
    → reader app n ≡ Some i → is_output i ≡ true
    → (reader_state (state_after app journal) n).shown ≡ true
    → (reader_state (state_after app journal) n).last
    ≡ Some (fresh_outcome app (state_after app journal).values (isolated_of (state_after app journal)) n)

-- A transcript of the messages of several sessions, and the output that its replay writes.
use Rattle.std.specs.Prelude.{ℕ, suc, ◌==◌, Bool, true, false, ◌&&◌, ◌||◌, nat_le, nat_lt, List, [], ◌∷◌, ◌++◌, length, take, drop, filter, Option, Some, None, is_some, codes, bytes_eq, decimal, if◌then◌else◌}
use Rattle.std.specs.List.{before_first, after_first}
use Rattle.std.specs.Str.{is_utf8}
use Rattle.serde_json.specs.Data.{string}
use Rattle.serde_json.specs.Written.{compact_text}
use Rattle.task_board.specs.Board.{board_at, running_number}
use Rattle.app_tree.specs.Tree.{Node, Shape}
use Rattle.app_tree.specs.Numbering.{is_task, number_from}
use Rattle.session_model.specs.declared.event.Event.{Event}
use Rattle.session_model.specs.declared.event.Event.TheVariants.{Text, TaskEnd, End}
use Rattle.session_model.specs.Alone.{Ending, ended, refused, budget_spent, observer_failed, answers, ending, state_after}
use Rattle.session_model.specs.Journal.{is_full}
use Rattle.session_model.specs.Lines.{lines_of, is_space, is_label, has_space}
use Rattle.session_model.specs.WrittenLines.{cause_name, send_lines, over_text}
use Rattle.session_model.specs.declared.limits.TheConstants.{LINE_LIMIT, TRANSCRIPT_LIMIT, SESSION_LIMIT}

-- ---- lines

abbrev pub is_feed : ℕ → Bool
is_feed b = b == 10

-- the number of the line that holds the first byte past the limit, with its line feed counted as its own
abbrev pub line_past_limit : List ℕ → Option ℕ
line_past_limit bytes =
    if nat_lt TRANSCRIPT_LIMIT (length bytes)
    then Some (suc (length (filter is_feed (take TRANSCRIPT_LIMIT bytes))))
    else None

-- a client message for a session, the end of what runs of a task of it, or the end of its link
pub data Line : Type 0 where
  recv : List ℕ → List ℕ → Line
  ends : List ℕ → ℕ → Line
  closes : List ℕ → Line

-- by number among the tasks
abbrev pub task_named : List ℕ → List Node → Option ℕ
task_named name items = number_from is_task is_task 0 name items

abbrev pub ends_of : List ℕ → Option ℕ → Option Line
ends_of label None = None
ends_of label (Some t) = Some (ends label t)

-- by the word behind the label, and what follows one space behind it, which may be empty
abbrev pub line_by : List Node → List ℕ → List ℕ → List ℕ → Option Line
line_by items label word rest =
    if bytes_eq word (codes "recv")
    then Some (recv label rest)
    else (if bytes_eq word (codes "end") then ends_of label (task_named rest items) else None)

-- behind the label and a space
abbrev pub line_behind : List Node → List ℕ → List ℕ → Option Line
line_behind items label rest =
    if has_space rest
    then line_by items label (before_first is_space rest) (after_first is_space rest)
    else (if bytes_eq rest (codes "close") then Some (closes label) else None)

abbrev pub parts_of : List Node → List ℕ → Option Line
parts_of items line =
    if has_space line && is_label (before_first is_space line)
    then line_behind items (before_first is_space line) (after_first is_space line)
    else None

-- what a line says; None where it has no such form
abbrev pub line_of : List Node → List ℕ → Option Line
line_of items line = if nat_le (length line) LINE_LIMIT && is_utf8 line then parts_of items line else None

-- ---- sessions

-- a session of the transcript: its own journal, and whether it is over since its journal was full
pub record Open : Type 0 where
  pub label : List ℕ
  pub journal : List Event
  pub full : Bool

abbrev pub new_session : List ℕ → Open
new_session label = record { label = label; journal = []; full = false }

abbrev pub is_over : Shape → Open → Bool
is_over app s = s.full || is_some (ending app s.journal)

abbrev pub session_of : List ℕ → List Open → Option Open
session_of label [] = None
session_of label (s ∷ more) = if bytes_eq label s.label then Some s else session_of label more

-- this session in the place of the one of its label, or behind all others
abbrev pub with_session : Open → List Open → List Open
with_session s [] = s ∷ []
with_session s (other ∷ more) = if bytes_eq s.label other.label then s ∷ more else other ∷ with_session s more

-- ---- output

abbrev pub ending_text : Ending → List ℕ
ending_text ended = codes "ended"
ending_text (refused k cause) = codes "refused " ++ decimal k ++ codes " " ++ cause_name cause
ending_text budget_spent = codes "budget"
ending_text (observer_failed t) = codes "observer " ++ compact_text (string t)

-- that line, where the session has ended
abbrev pub over_line : List ℕ → Option Ending → List ℕ
over_line label None = []
over_line label (Some end) = over_text label (ending_text end)

abbrev pub with_event : Event → Open → Open
with_event event s = record s { journal = s.journal ++ event ∷ [] }

-- what the answers to the longer journal add to those to the shorter one
abbrev pub added_texts : Shape → List ℕ → List Event → List Event → List (List ℕ)
added_texts app label journal longer = drop (length (answers app label journal)) (answers app label longer)

-- what a session's event writes: the texts that it adds, then the over line where the session has ended
abbrev pub event_output : Shape → Event → Open → List ℕ
event_output app event s =
    send_lines s.label (added_texts app s.label s.journal (with_event event s).journal)
    ++ over_line s.label (ending app (with_event event s).journal)

-- a session behind an event, and what was written
pub record StepResult : Type 0 where
  pub output : List ℕ
  pub session : Open

-- a session whose journal is full is over in place of the event
abbrev pub step_by : Bool → Shape → Event → Open → StepResult
step_by true app event s = record { output = over_text s.label (codes "journal"); session = record s { full = true } }
step_by false app event s = record { output = event_output app event s; session = with_event event s }

abbrev pub step : Shape → Event → Open → StepResult
step app event s = step_by (is_full s.journal) app event s

-- ---- a line

-- how a replay ends: all lines were taken, or the first one that was refused, by its number from 1, has no form, is for
-- no open session, or ends a task that doesn't run
pub data ReplayEnd : Type 0 where
  done : ReplayEnd
  bad_line : ℕ → ReplayEnd
  no_session : ℕ → ReplayEnd
  not_running : ℕ → ReplayEnd

-- what becomes of a line: a session takes an event, or the line is refused and ends the replay
pub data LineTaken : Type 0 where
  takes : Event → Open → LineTaken
  refuses : ReplayEnd → LineTaken

-- a session that is there and not over
abbrev pub still_open : Shape → Option Open → Option Open
still_open app None = None
still_open app (Some s) = if is_over app s then None else Some s

-- the first message of a name opens its session, but one name more than the limit opens none
abbrev pub open_or_new : Shape → List ℕ → List Open → Option Open → Option Open
open_or_new app label sessions None = if nat_le SESSION_LIMIT (length sessions) then None else Some (new_session label)
open_or_new app label sessions (Some s) = still_open app (Some s)

abbrev pub taken_by_open : ℕ → Event → Option Open → LineTaken
taken_by_open k event None = refuses (no_session k)
taken_by_open k event (Some s) = takes event s

-- the end of the invocation that runs
abbrev pub running_ends : ℕ → ℕ → Open → Option ℕ → LineTaken
running_ends k t s None = refuses (not_running k)
running_ends k t s (Some number) = takes (TaskEnd t number) s

abbrev pub task_ends : Shape → ℕ → ℕ → Option Open → LineTaken
task_ends app k t None = refuses (no_session k)
task_ends app k t (Some s) = running_ends k t s (running_number (board_at (state_after app s.journal).boards t))

-- which session takes which event of line k, by what the line says, or why the line is refused
abbrev pub line_taken : Shape → ℕ → List Open → Option Line → LineTaken
line_taken app k sessions None = refuses (bad_line k)
line_taken app k sessions (Some (recv label t)) =
    taken_by_open k (Text t) (open_or_new app label sessions (session_of label sessions))
line_taken app k sessions (Some (ends label t)) = task_ends app k t (still_open app (session_of label sessions))
line_taken app k sessions (Some (closes label)) = taken_by_open k End (still_open app (session_of label sessions))

-- ---- the replay

-- what was written, the sessions with their journals, in the order in which they were opened, and how the replay ended
pub record ReplayResult : Type 0 where
  pub output : List ℕ
  pub sessions : List Open
  pub end : ReplayEnd

-- what follows, where the sessions have come so far
abbrev pub Rest : Type 0
Rest = List Open → ReplayResult

abbrev pub ended_replay : List Open → ReplayEnd → ReplayResult
ended_replay sessions end = record { output = []; sessions = sessions; end = end }

abbrev pub after_output : List ℕ → ReplayResult → ReplayResult
after_output before r = record r { output = before ++ r.output }

-- at the end of the input the link of a session ends that is open
abbrev pub closing_step : Bool → Shape → Open → StepResult
closing_step true app s = record { output = []; session = s }
closing_step false app s = step app End s

abbrev pub with_closing_step : StepResult → ReplayResult → ReplayResult
with_closing_step closed r = record {
  output = closed.output ++ r.output;
  sessions = closed.session ∷ r.sessions;
  end = r.end;
}

abbrev pub closing_replay : Shape → List Open → ReplayResult
closing_replay app [] = record { output = []; sessions = []; end = done }
closing_replay app (s ∷ more) = with_closing_step (closing_step (is_over app s) app s) (closing_replay app more)

abbrev pub replay_after_step : List Open → StepResult → Rest → ReplayResult
replay_after_step sessions after next = after_output after.output (next (with_session after.session sessions))

-- the session that takes the event steps, and what follows goes on behind it
abbrev pub replay_after_line : Shape → List Open → LineTaken → Rest → ReplayResult
replay_after_line app sessions (refuses end) next = ended_replay sessions end
replay_after_line app sessions (takes event s) next = replay_after_step sessions (step app event s) next

-- line k, which says this
abbrev pub replay_line : Shape → ℕ → List Open → Option Line → Rest → ReplayResult
replay_line app k sessions said next = replay_after_line app sessions (line_taken app k sessions said) next

abbrev pub is_line : ℕ → Option ℕ → Bool
is_line k None = false
is_line k (Some j) = k == j

-- what line k says, unless it is the one that goes past the limit of the transcript
abbrev pub line_unless_past : Shape → Option ℕ → ℕ → List Open → List ℕ → Option Line
line_unless_past app past k sessions line = if is_line k past then None else line_of app.items line

-- these lines, the first of which has number k, where `said` tells what a line says by its number and the sessions
-- before it
abbrev pub replay_from : Shape → (ℕ → List Open → List ℕ → Option Line) → ℕ → List Open → List (List ℕ) → ReplayResult
replay_from app said k sessions [] = closing_replay app sessions
replay_from app said k sessions (line ∷ more) =
    replay_line app k sessions (said k sessions line) (λ next. replay_from app said (suc k) next more)

-- the output of a transcript's replay, the journals of its sessions, and how it ends
abbrev pub replayed : Shape → List ℕ → ReplayResult
replayed app bytes = replay_from app (line_unless_past app (line_past_limit bytes)) 1 [] (lines_of bytes)

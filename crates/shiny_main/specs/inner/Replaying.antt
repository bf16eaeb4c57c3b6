-- What the parts of a replay answer, in the words of its definition.
use Rattle.std.specs.Prelude.{◌≡◌, ◌≢◌, ◌≤◌, ◌+◌, ◌*◌, ℕ, suc, Bool, true, false, not, List, [], ◌∷◌, ◌++◌, length, Option, Some, None, Result, Ok, Err, IfSome, ⊤, codes}
use Rattle.std.specs.Io.KnownBytes.{append_known, IsAtEnd}
use Rattle.rx_ports.specs.Sink.{PutsFront}
use Rattle.rx_value.specs.declared.memory.Memory.{Memory}
use Rattle.app_tree.specs.Tree.{Shape}
use Rattle.app_tree.specs.View.{shape_of}
use Rattle.shiny_json.specs.declared.message.Pair.{Pair}
use Rattle.shiny_json.specs.declared.message.Client.TheVariants.{Init, Update}
use Rattle.shiny_json.specs.declared.limits.TheConstants.{MESSAGE_LIMIT}
use Rattle.shiny_json.specs.Client.{client_message}
use Rattle.session_model.specs.declared.event.Event.TheVariants.{Text}
use Rattle.session_model.specs.Alone.{Ending, budget_spent, journal_result}
use Rattle.session_model.specs.Transcript.{Open, new_session, with_event, event_output, Line, ReplayEnd, done, bad_line, no_session, Rest, ended_replay, after_output, replay_line, replay_from}
use Rattle.session_model.specs.Journal.{text_bytes}
use Rattle.session_model.specs.Lines.{lines_of}
use Rattle.session_model.specs.TakenLines.{taken_line, taken_by}
use Rattle.session_model.specs.WrittenLines.{send_lines, over_text}
use Rattle.taken_cycle.specs.declared.stage.Stage.{Stage}
use Rattle.taken_cycle.specs.declared.stage.Stage.TheVariants as stage
use Rattle.shiny_main.specs.declared.session.OpenSession.{OpenSession}
use Rattle.shiny_main.specs.declared.session.Answered.{Answered}
use Rattle.shiny_main.specs.declared.replay.Taken.{Taken}
use Rattle.shiny_main.specs.declared.replay.Taken.TheVariants as taken
use Rattle.shiny_main.specs.declared.transcript.Replayed.{Replayed as ReplayAnswer}
use Rattle.shiny_main.specs.declared.transcript.Replayed.TheVariants as answer
use Rattle.shiny_main.specs.declared.transcript.Turn.{Turn}
use Rattle.shiny_main.specs.declared.transcript.Turn.TheVariants as turn
use Rattle.shiny_main.specs.Ports.{Ports}
use Rattle.shiny_main.specs.inner.Pieces.{with_feed, BeginsWith}
use Rattle.shiny_main.specs.inner.Lines.{LinesState, coming}
use Rattle.shiny_main.specs.SoFar.{HasWritten, whole_lines, so_far_from}
use Rattle.session_model.specs.declared.limits.TheConstants.{LINE_LIMIT, TAKEN_LINE_LIMIT}

-- a session that goes on takes further events; one that is over ended by its budget
abbrev pub EndsSo : Stage → Option Ending → Type 0
EndsSo stage.New end = ⊥
EndsSo stage.Open end = end ≡ None
EndsSo stage.Over end = end ≡ Some budget_spent

-- the code's session has come where the journal of the definition's has
pub record HoldsOpen (app : Shape) (s : Open) (code : OpenSession) : Type 0 where
  pub label : code.label ≡ s.label
  pub of_app : shape_of code.flusher.app ≡ app
  pub state : code.flusher.state ≡ (journal_result app s.journal).state
  pub begun : (journal_result app s.journal).begun ≡ true
  pub ending : EndsSo code.flusher.stage (journal_result app s.journal).ending
  pub goes_on : s.full ≡ false

-- before line k its journal is far from full
pub record IsShort (k : ℕ) (s : Open) : Type 0 where
  pub few : length s.journal ≤ k
  pub within : k ≤ suc TAKEN_LINE_LIMIT
  pub short : text_bytes s.journal ≤ MESSAGE_LIMIT * length s.journal

abbrev pub budget_line : List ℕ → Bool → List ℕ
budget_line label true = over_text label (codes "budget")
budget_line label false = []

-- the output lines of an event that sent these texts, and whether it ended the session
abbrev pub event_lines : List ℕ → List (List ℕ) → Bool → List ℕ
event_lines label texts over = send_lines label texts ++ budget_line label over

-- a client message was answered: its output is that of its event, and the session holds it
pub record AnswersText (app : Shape) (s : Open) (text : List ℕ) (answered : Answered) : Type 0 where
  pub output : answered.output ≡ event_output app (Text text) s
  pub holds : HoldsOpen app (with_event (Text text) s) answered.session

-- whatever text says so as a session's first
abbrev pub AnswersFirst : Shape → List ℕ → List Pair → Answered → Type 0
AnswersFirst app label pairs answered = (text : List ℕ) → client_message text ≡ Init pairs → AnswersText app (new_session label) text answered

-- and as a later one of a session that goes on
abbrev pub AnswersLater : OpenSession → List Pair → Answered → Type 0
AnswersLater code pairs answered = (app : Shape) (s : Open) (text : List ℕ) → HoldsOpen app s code → code.flusher.stage ≡ stage.Open → client_message text ≡ Update pairs → AnswersText app s text answered

-- ---- lines

-- the code's session, if one is open, is the definition's one
abbrev pub HoldsSession : Shape → ℕ → List Open → Option OpenSession → Type 0
HoldsSession app k [] None = ⊤
HoldsSession app k (s ∷ []) (Some code) = HoldsOpen app s code × IsShort k s
HoldsSession app k _ _ = ⊥

-- the line was answered, and the replay goes on with the session after it
pub record GoesOn (app : Shape) (k : ℕ) (sessions : List Open) (said : Option Line) (answered : Answered) : Type 0 where
  pub within : k ≤ TAKEN_LINE_LIMIT
  pub after : Open
  pub holds : HoldsOpen app after answered.session
  pub short : IsShort (suc k) after
  pub is : (next : Rest) → replay_line app k sessions said next ≡ after_output answered.output (next (after ∷ []))

-- what a line comes to, by what it says
abbrev pub TakesLine : Shape → ℕ → List Open → Option Line → Taken → Type 0
TakesLine app k sessions said (taken.Answered answered) = GoesOn app k sessions said answered
TakesLine app k sessions said taken.Bad = (next : Rest) → replay_line app k sessions said next ≡ ended_replay sessions (bad_line k)
TakesLine app k sessions said taken.NoSession = (next : Rest) → replay_line app k sessions said next ≡ ended_replay sessions (no_session k)

-- whatever sessions of the definition the code holds, its line comes to what it comes to in these
abbrev pub TakesAsHeld : Shape → ℕ → Option OpenSession → Option Line → Taken → Type 0
TakesAsHeld app k code said t =
    (sessions : List Open) → HoldsSession app k sessions code → TakesLine app k sessions (taken_line app k sessions said) t

-- an update was handed to a session: it was answered where the session went on, and refused where it was over
abbrev pub Updates : OpenSession → List Pair → Taken → Type 0
Updates code pairs (taken.Answered answered) = (code.flusher.stage ≡ stage.Open) × AnswersLater code pairs answered
Updates code pairs taken.Bad = ⊥
Updates code pairs taken.NoSession = code.flusher.stage ≢ stage.Open

-- ---- turns

-- the bytes that are to come end the replay so, and this was written
pub record Ends (app : Shape) (k : ℕ) (sessions : List Open) (bytes before after : Option (List ℕ)) (end : ReplayEnd) : Type 0 where
  pub output : List ℕ
  pub sank : after ≡ append_known before output
  pub is : IfSome bytes (λ bs. HasWritten output end (replay_from app (taken_by app) k sessions (lines_of bs)))

-- a front of their output was written
pub record Stops (app : Shape) (k : ℕ) (sessions : List Open) (bytes before after : Option (List ℕ)) : Type 0 where
  pub output : List ℕ
  pub sank : after ≡ append_known before output
  pub front : IfSome bytes (λ bs. (more : List ℕ) × ((replay_from app (taken_by app) k sessions (lines_of bs)).output ≡ output ++ more))

-- of these bytes some at the front were read, the others are left, and this is the output of the whole lines that were read,
-- each of which was taken
pub record IsOutputOfFront (app : Shape) (k : ℕ) (sessions : List Open) (bytes : List ℕ) (left : Option (List ℕ)) (output : List ℕ) : Type 0 where
  pub front : List ℕ
  pub rest : List ℕ
  pub parted : bytes ≡ front ++ rest
  pub is_left : left ≡ Some rest
  pub is : HasWritten output done (so_far_from app (taken_by app) k sessions (whole_lines front))

-- the output of the whole lines that were read was written
pub record Leaves (app : Shape) (k : ℕ) (sessions : List Open) (bytes left before after : Option (List ℕ)) : Type 0 where
  pub output : List ℕ
  pub sank : after ≡ append_known before output
  pub is : IfSome bytes (λ bs. IsOutputOfFront app k sessions bs left output)

-- one line was answered, and the replay goes on behind it
pub record TurnGoesOn (app : Shape) (sessions : List Open) (code : OpenSession) (lines rest : LinesState) (bytes bytes_after before after : Option (List ℕ)) : Type 0 where
  pub within : lines.number ≤ TAKEN_LINE_LIMIT
  pub next : Open
  pub holds : HoldsOpen app next code
  pub short : IsShort rest.number next
  pub output : List ℕ
  pub sank : after ≡ append_known before output
  pub line : List ℕ
  pub feed : Bool
  pub begins : BeginsWith line feed bytes bytes_after
  pub few : length line ≤ LINE_LIMIT
  pub number : rest.number ≡ suc lines.number
  pub behind : rest.behind ≡ lines.behind + length (with_feed line feed)
  pub ended : rest.ended ≡ not feed
  pub is : (more : Rest) → replay_line app lines.number sessions (taken_by app lines.number sessions line) more ≡ after_output output (more (next ∷ []))

-- how a replay ended, with what was written
abbrev pub ReplayGives : Shape → ℕ → List Open → Option (List ℕ) → Option (List ℕ) → Option (List ℕ) → Option (List ℕ) → ReplayAnswer → Type 0
ReplayGives app k s bytes left before after answer.Done = Ends app k s bytes before after done × IsAtEnd left
ReplayGives app k s bytes left before after (answer.BadLine j) = Ends app k s bytes before after (bad_line j)
ReplayGives app k s bytes left before after (answer.NoSession j) = Ends app k s bytes before after (no_session j)
ReplayGives app k s bytes left before after answer.ReadFault = Stops app k s bytes before after × Leaves app k s bytes left before after
ReplayGives app k s bytes left before after answer.WriteFault = Stops app k s bytes before after
ReplayGives app k s bytes left before after answer.Memory = Stops app k s bytes before after

-- how a whole replay ended, from its first line on
abbrev pub WholeReplayGives : Shape → Ports → ReplayAnswer → Type 0
WholeReplayGives app p a = ReplayGives app 1 [] p.left p.left_after p.held p.held_after a

-- only a reader that has not come to the end of its source meets a fault
abbrev pub NotEnded : Bool → ReplayAnswer → Type 0
NotEnded ended answer.ReadFault = ended ≡ false
NotEnded ended _ = ⊤

-- what the next line came to, where the reader stands here before it and there after it
abbrev pub TurnGives : Shape → List Open → LinesState → LinesState → Ports → Turn → Type 0
TurnGives app s lines rest p (turn.Goes code) =
    TurnGoesOn app s code lines rest (coming lines p.left) (coming rest p.left_after) p.held p.held_after
TurnGives app s lines rest p (turn.Ends a) =
    ReplayGives app lines.number s (coming lines p.left) p.left_after p.held p.held_after a × NotEnded lines.ended a

-- no more lines stand before the next one than are taken, each with no more bytes than a line may have, and its line feed
abbrev pub HasFewBehind : LinesState → Type 0
HasFewBehind lines = (lines.number ≤ suc TAKEN_LINE_LIMIT) × (lines.behind + suc LINE_LIMIT ≤ suc LINE_LIMIT * lines.number)

-- an answer was put, and the session goes on; or a front of it was
abbrev pub PutsAnswer : Answered → Option (List ℕ) → Option (List ℕ) → Turn → Type 0
PutsAnswer answered before after (turn.Goes code) = (code ≡ answered.session) × (after ≡ append_known before answered.output)
PutsAnswer answered before after (turn.Ends answer.WriteFault) = PutsFront before after answered.output
PutsAnswer answered before after (turn.Ends _) = ⊥

-- the over line was put, or a front of it
abbrev pub PutsOver : List ℕ → Option (List ℕ) → Option (List ℕ) → ReplayAnswer → Type 0
PutsOver label before after answer.Done = after ≡ append_known before (over_text label (codes "ended"))
PutsOver label before after answer.WriteFault = PutsFront before after (over_text label (codes "ended"))
PutsOver label before after answer.Memory = after ≡ before
PutsOver label before after _ = ⊥

abbrev pub ClosesAt : Stage → List ℕ → Option (List ℕ) → Option (List ℕ) → ReplayAnswer → Type 0
ClosesAt stage.Open label before after a = PutsOver label before after a
ClosesAt stage.New label before after a = (after ≡ before) × (a ≡ answer.Done)
ClosesAt stage.Over label before after a = (after ≡ before) × (a ≡ answer.Done)

-- a session that goes on gets its over line
abbrev pub ClosesOpen : OpenSession → Option (List ℕ) → Option (List ℕ) → ReplayAnswer → Type 0
ClosesOpen code before after a = ClosesAt code.flusher.stage code.label before after a

abbrev pub Closes : Option OpenSession → Option (List ℕ) → Option (List ℕ) → ReplayAnswer → Type 0
Closes (Some code) before after a = ClosesOpen code before after a
Closes None before after a = (after ≡ before) × (a ≡ answer.Done)

-- what was taken was answered: its output was put, or its refusal told
abbrev pub AnswersTaken : Result Taken Memory → ℕ → Option (List ℕ) → Option (List ℕ) → Turn → Type 0
AnswersTaken (Ok (taken.Answered answered)) k before after t = PutsAnswer answered before after t
AnswersTaken (Ok taken.Bad) k before after t = (after ≡ before) × (t ≡ turn.Ends (answer.BadLine k))
AnswersTaken (Ok taken.NoSession) k before after t = (after ≡ before) × (t ≡ turn.Ends (answer.NoSession k))
AnswersTaken (Err e) k before after t = (after ≡ before) × (t ≡ turn.Ends answer.Memory)

-- The sessions of a transcript stand apart: its output is an interleaving of what the journal of each session is
-- answered, and that is what the lines of each session write and leave alone.
use Rattle.std.specs.Prelude.{◌≡◌, ℕ, Bool, false, List, [], ◌∷◌, ◌++◌, filter, Option, Some, None, option_map, codes, bytes_eq, if◌then◌else◌}
use Rattle.app_tree.specs.Tree.{Shape}
use Rattle.session_model.specs.Alone.{answers, ending}
use Rattle.session_model.specs.Lines.{lines_of}
use Rattle.app_tree.specs.Trace.{Every}
use Rattle.session_model.specs.WrittenLines.{send_lines, over_text}
use Rattle.session_model.specs.Transcript.{Line, recv, ends, closes, line_of, Open, session_of, ending_text, done, ReplayResult, line_unless_past, replay_from, replayed}

-- ---- a session's lines

-- whether what a line says is for the session of this label
abbrev pub is_said_to : List ℕ → Option Line → Bool
is_said_to label None = false
is_said_to label (Some (recv other text)) = bytes_eq label other
is_said_to label (Some (ends other t)) = bytes_eq label other
is_said_to label (Some (closes other)) = bytes_eq label other

-- those of these lines that are for the session of this label
abbrev pub lines_for : Shape → List ℕ → List (List ℕ) → List (List ℕ)
lines_for app label lines = filter (λ line. is_said_to label (line_of app.items line)) lines

-- lines replayed by themselves
abbrev pub replay_alone : Shape → List (List ℕ) → ReplayResult
replay_alone app lines = replay_from app (line_unless_past app None) 1 [] lines

-- that session alone, where there is one
abbrev pub session_list : Option Open → List Open
session_list None = []
session_list (Some s) = s ∷ []

-- ---- pieces of an output

-- some of its bytes, and the label of the session that they are for
pub record Piece : Type 0 where
  pub label : List ℕ
  pub bytes : List ℕ

-- one piece behind the other
abbrev pub bytes_of_pieces : List Piece → List ℕ
bytes_of_pieces [] = []
bytes_of_pieces (piece ∷ more) = piece.bytes ++ bytes_of_pieces more

-- those for one session
abbrev pub pieces_for : List ℕ → List Piece → List Piece
pieces_for label pieces = filter (λ piece. bytes_eq label piece.label) pieces

-- the last line of a session that has ended
abbrev pub last_line : List ℕ → Option (List ℕ) → List ℕ
last_line label None = []
last_line label (Some reason) = over_text label reason

-- a piece is whole lines of its session: those of the texts that are sent, and the last one where the session has ended
pub record IsOfLines (piece : Piece) : Type 0 where
  pub texts : List (List ℕ)
  pub end : Option (List ℕ)
  pub lines : piece.bytes ≡ send_lines piece.label texts ++ last_line piece.label end

-- ---- what is written for a session

-- why a session is over, where it is: its journal was full, or how its journal ends it
abbrev pub over_reason : Shape → Open → Option (List ℕ)
over_reason app s = if s.full then Some (codes "journal") else option_map ending_text (ending app s.journal)

-- the answers to its journal, and then why it is over
pub record IsAnswered (app : Shape) (label : List ℕ) (s : Open) (output : List ℕ) : Type 0 where
  pub reason : List ℕ
  pub over : over_reason app s ≡ Some reason
  pub lines : output ≡ send_lines label (answers app label s.journal) ++ over_text label reason

-- and nothing where there is no session
abbrev pub IsOutputFor : Shape → List ℕ → Option Open → List ℕ → Type 0
IsOutputFor app label None output = output ≡ []
IsOutputFor app label (Some s) output = IsAnswered app label s output

-- ---- the law

-- the output is made of pieces, and the pieces for each session are the answers to its journal and then why it is over;
-- the lines of a session, replayed without those of the others, are taken too, their output is made of the pieces for
-- that session, and they leave that session alone, with the journal that it has among the others
pub record IsInterleaved (app : Shape) (lines : List (List ℕ)) (all : ReplayResult) : Type 0 where
  pub pieces : List Piece
  pub own : Every IsOfLines pieces
  pub whole : all.output ≡ bytes_of_pieces pieces
  pub answered : (label : List ℕ)
      → IsOutputFor app label (session_of label all.sessions) (bytes_of_pieces (pieces_for label pieces))
  pub taken : (label : List ℕ) → (replay_alone app (lines_for app label lines)).end ≡ done
  pub parts : (label : List ℕ)
      → (replay_alone app (lines_for app label lines)).output ≡ bytes_of_pieces (pieces_for label pieces)
  pub journals : (label : List ℕ)
      → (replay_alone app (lines_for app label lines)).sessions ≡ session_list (session_of label all.sessions)

-- so it is with lines that are all taken
abbrev pub LinesInterleave : Type 0
LinesInterleave =
    (app : Shape) (lines : List (List ℕ)) → (replay_alone app lines).end ≡ done
    → IsInterleaved app lines (replay_alone app lines)

-- and with each transcript whose lines are all taken: none of them goes past the limit, since such a line is refused
abbrev pub TranscriptsInterleave : Type 0
TranscriptsInterleave =
    (app : Shape) (bytes : List ℕ) → (replayed app bytes).end ≡ done
    → IsInterleaved app (lines_of bytes) (replayed app bytes)

-- The sessions of a transcript stand apart.
use Rattle.std.proofs.Common.{◌≡◌, ℕ, suc, Bool, true, false, List, [], ◌∷◌, ◌++◌, Option, Some, None, bytes_eq, refl, sym, ◌∙◌, ap, subst}
use Rattle.std.specs.Prelude.{if◌then◌else◌}
use Rattle.app_tree.specs.Tree.{Shape}
use Rattle.app_tree.specs.Trace.{Every}
use Rattle.session_model.specs.Lines.{lines_of}
use Rattle.session_model.specs.Transcript.{line_past_limit, Line, line_of, Open, is_over, session_of, with_session, StepResult, step, done, LineTaken, takes, refuses, line_taken, ReplayResult, after_output, closing_step, with_closing_step, closing_replay, replay_after_line, is_line, line_unless_past, replay_from, replayed}
use Rattle.session_laws.specs.Apart.{is_said_to, lines_for, replay_alone, session_list, Piece, bytes_of_pieces, pieces_for, IsOfLines, IsInterleaved, LinesInterleave, TranscriptsInterleave}
use Rattle.session_laws.proofs.Answered.{alone_answered}
use Rattle.session_laws.proofs.OneLine.{sessions_for, equal, found_label, moved_for, others_for, label_kept, closed_label, found_lines, closing_lines, IsTaken, is_taken, HaveOneEach, one_of_label, moved_each}

-- ---- all lines

-- what the lines of one session come to alone, by the pieces for it and the sessions of its label
abbrev part : List ℕ → List Piece → List Open → ReplayResult
part label pieces sessions = record { output = bytes_of_pieces (pieces_for label pieces); sessions = sessions_for label sessions; end = done }

-- from these sessions on: the output is made of pieces, and each label's lines from the sessions of that label come to
-- the pieces and the sessions of that label
record Parts (app : Shape) (sessions : List Open) (lines : List (List ℕ)) (all : ReplayResult) : Type 0 where
  pieces : List Piece
  own : Every IsOfLines pieces
  whole : all.output ≡ bytes_of_pieces pieces
  parts : (label : List ℕ) (j : ℕ) → replay_from app (line_unless_past app None) j (sessions_for label sessions) (lines_for app label lines) ≡ part label pieces all.sessions

-- a session that is closed at the end, where it isn't over
abbrev at_the_end : Shape → Open → StepResult
at_the_end app s = closing_step (is_over app s) app s

closing : Shape → List Open → List Piece
closing app [] = []
closing app (s ∷ more) = record { label = s.label; bytes = (at_the_end app s).output } ∷ closing app more

closing_joined : (app : Shape) (sessions : List Open) → (closing_replay app sessions).output ≡ bytes_of_pieces (closing app sessions)
unfolding closing
closing_joined app [] = refl
closing_joined app (s ∷ more) = ap (λ l. (at_the_end app s).output ++ l) (closing_joined app more)

closing_for : (app : Shape) (label : List ℕ) (sessions : List Open) → closing_replay app (sessions_for label sessions) ≡ part label (closing app sessions) (closing_replay app sessions).sessions
unfolding closing
closing_for app label [] = refl
closing_for app label (s ∷ more) = decide (bytes_eq label s.label) refl (closing_for app label more)
  where
    kept : bytes_eq label (at_the_end app s).session.label ≡ bytes_eq label s.label
    kept = ap (bytes_eq label) (closed_label app s (is_over app s))

    decide : (b : Bool) → bytes_eq label s.label ≡ b → closing_replay app (sessions_for label more) ≡ part label (closing app more) (closing_replay app more).sessions
        → closing_replay app (sessions_for label (s ∷ more)) ≡ part label (closing app (s ∷ more)) (closing_replay app (s ∷ more)).sessions
    decide true b rest = rw (b, kept ∙ b) (ap (with_closing_step (at_the_end app s)) rest)
    decide false b rest = rw (b, kept ∙ b) rest

all_closing_lines : (app : Shape) (sessions : List Open) → Every IsOfLines (closing app sessions)
unfolding closing
all_closing_lines app [] = tt
all_closing_lines app (s ∷ more) = (closing_lines app s (is_over app s), all_closing_lines app more)

at_end : (app : Shape) (sessions : List Open) → Parts app sessions [] (closing_replay app sessions)
at_end app sessions = record {
  pieces = closing app sessions;
  own = all_closing_lines app sessions;
  whole = closing_joined app sessions;
  parts = λ label j. closing_for app label sessions;
}

module _ (app : Shape) (sessions : List Open) (line : List ℕ) (more : List (List ℕ)) (k : ℕ) (t : IsTaken app k sessions (line_of app.items line)) where
  abbrev after : StepResult
  after = step app t.event t.session

  abbrev first : Piece
  first = record { label = t.label; bytes = after.output }

  keeps : after.session.label ≡ t.label
  keeps = label_kept app t.event t.session ∙ t.own

  module _ (next : List Open → ReplayResult) (rest : Parts app (with_session after.session sessions) more (next (with_session after.session sessions))) where
    abbrev behind : List Open
    behind = (next (with_session after.session sessions)).sessions

    part_of : (label : List ℕ) (j : ℕ) (own : Bool) → bytes_eq label t.label ≡ own
        → replay_from app (line_unless_past app None) j (sessions_for label sessions) (lines_for app label (line ∷ more)) ≡ part label (first ∷ rest.pieces) behind
    part_of label j true own =
        let same : label ≡ t.label = equal label t.label own in
        let said : is_said_to label (line_of app.items line) ≡ true = t.said_to label ∙ own in
        let alike : sessions_for label (with_session after.session sessions) ≡ with_session after.session (sessions_for label sessions) =
        subst (λ (l : List ℕ). sessions_for l (with_session after.session sessions) ≡ with_session after.session (sessions_for l sessions)) (keeps ∙ sym same) (moved_for after.session sessions) in
        let later : List Open → ReplayResult = λ l. replay_from app (line_unless_past app None) (suc j) l (lines_for app label more) in
        let takes_it : line_taken app j (sessions_for label sessions) (line_of app.items line) ≡ takes t.event t.session =
        subst (λ (l : List ℕ). line_taken app j (sessions_for l sessions) (line_of app.items line) ≡ takes t.event t.session) (sym same) (t.is_alone j) in
        rw (said, own)
        (ap (λ x. replay_after_line app (sessions_for label sessions) x later) takes_it
        ∙ ap (λ l. after_output after.output (later l)) (sym alike)
        ∙ ap (after_output after.output) (rest.parts label (suc j)))
    part_of label j false own =
        let said : is_said_to label (line_of app.items line) ≡ false = t.said_to label ∙ own in
        let stay : sessions_for label (with_session after.session sessions) ≡ sessions_for label sessions = others_for label after.session sessions (ap (bytes_eq label) keeps ∙ own) in
        rw (said, own) (ap (λ l. replay_from app (line_unless_past app None) j l (lines_for app label more)) (sym stay) ∙ rest.parts label j)

    one_more : Parts app sessions (line ∷ more) (replay_after_line app sessions (takes t.event t.session) next)
    one_more = record {
      pieces = first ∷ rest.pieces;
      own = (found_lines app t.event t.session t.label t.own, rest.own);
      whole = ap (λ l. after.output ++ l) rest.whole;
      parts = λ label j. part_of label j (bytes_eq label t.label) refl;
    }

interleaves : (app : Shape) (k : ℕ) (past : Option ℕ) (sessions : List Open) (lines : List (List ℕ)) → (replay_from app (line_unless_past app past) k sessions lines).end ≡ done
    → Parts app sessions lines (replay_from app (line_unless_past app past) k sessions lines)
interleaves app k past sessions [] e = at_end app sessions
interleaves app k past sessions (line ∷ more) e = decide (is_line k past) (λ l. interleaves app (suc k) past l more) e
  where
    next : List Open → ReplayResult
    next l = replay_from app (line_unless_past app past) (suc k) l more

    goes : Option Line → ReplayResult
    goes said = replay_after_line app sessions (line_taken app k sessions said) next

    decide : (beyond : Bool) → ((l : List Open) → (next l).end ≡ done → Parts app l more (next l))
        → (goes (if beyond then None else line_of app.items line)).end ≡ done
        → Parts app sessions (line ∷ more) (goes (if beyond then None else line_of app.items line))
    decide true each e = absurd cc
    decide false each e =
        let t = is_taken app k sessions next (line_of app.items line) e in
        let goes_on : goes (line_of app.items line) ≡ replay_after_line app sessions (takes t.event t.session) next = ap (λ x. replay_after_line app sessions x next) t.is in
        let later : (next (with_session (step app t.event t.session).session sessions)).end ≡ done = ap (λ (r : ReplayResult). r.end) (sym goes_on) ∙ e in
        subst (λ (r : ReplayResult). Parts app sessions (line ∷ more) r) (sym goes_on)
        (one_more app sessions line more k t next (each (with_session (step app t.event t.session).session sessions) later))

-- ---- each label has one session at the end

closed_each : (app : Shape) (sessions : List Open) → HaveOneEach sessions → HaveOneEach (closing_replay app sessions).sessions
closed_each app sessions each label =
    let is : sessions_for label (closing_replay app sessions).sessions ≡ (closing_replay app (session_list (session_of label sessions))).sessions =
    ap (λ (r : ReplayResult). r.sessions) (sym (closing_for app label sessions)) ∙ ap (λ l. (closing_replay app l).sessions) (each label) in
    by (session_of label sessions) (found_label label sessions) is
  where
    by : (there : Option Open) → ((s : Open) → there ≡ Some s → s.label ≡ label) → sessions_for label (closing_replay app sessions).sessions ≡ (closing_replay app (session_list there)).sessions
        → sessions_for label (closing_replay app sessions).sessions ≡ session_list (session_of label (closing_replay app sessions).sessions)
    by None own is = one_of_label label (closing_replay app sessions).sessions None is (λ o e. absurd cc)
    by (Some s) own is =
        one_of_label label (closing_replay app sessions).sessions (Some (at_the_end app s).session) is
        (λ o e. let it : (at_the_end app s).session ≡ o = cc in ap (λ (x : Open). x.label) (sym it) ∙ closed_label app s (is_over app s) ∙ own s refl)

replayed_each : (app : Shape) (said : ℕ → List Open → List ℕ → Option Line) (k : ℕ) (sessions : List Open) (lines : List (List ℕ)) → HaveOneEach sessions
    → HaveOneEach (replay_from app said k sessions lines).sessions
replayed_each app said k sessions [] each = closed_each app sessions each
replayed_each app said k sessions (line ∷ more) each = by (line_taken app k sessions (said k sessions line)) (λ l. replayed_each app said (suc k) l more)
  where
    next : List Open → ReplayResult
    next l = replay_from app said (suc k) l more

    by : (t : LineTaken) → ((l : List Open) → HaveOneEach l → HaveOneEach (next l).sessions) → HaveOneEach (replay_after_line app sessions t next).sessions
    by (refuses end) later = each
    by (takes event s) later = later (with_session (step app event s).session sessions) (moved_each (step app event s).session sessions each)

-- ---- the laws

from_parts : (app : Shape) (lines : List (List ℕ)) (all : ReplayResult) → HaveOneEach all.sessions → Parts app [] lines all → IsInterleaved app lines all
from_parts app lines all each p = record {
  pieces = p.pieces;
  own = p.own;
  whole = p.whole;
  answered = λ label. alone_answered app label lines (part label p.pieces all.sessions) (session_of label all.sessions) (p.parts label 1) refl (each label);
  taken = λ label. ap (λ (r : ReplayResult). r.end) (p.parts label 1);
  parts = λ label. ap (λ (r : ReplayResult). r.output) (p.parts label 1);
  journals = λ label. ap (λ (r : ReplayResult). r.sessions) (p.parts label 1) ∙ each label;
}

none_yet : HaveOneEach []
none_yet label = refl

pub lines_interleave : LinesInterleave
lines_interleave app lines e =
    from_parts app lines (replay_alone app lines) (replayed_each app (line_unless_past app None) 1 [] lines none_yet) (interleaves app 1 None [] lines e)

pub transcripts_interleave : TranscriptsInterleave
transcripts_interleave app bytes e =
    let past = line_past_limit bytes in
    from_parts app (lines_of bytes) (replayed app bytes) (replayed_each app (line_unless_past app past) 1 [] (lines_of bytes) none_yet) (interleaves app 1 past [] (lines_of bytes) e)

-- A line of a transcript moves one session, and writes whole lines of it.
use Rattle.std.proofs.Common.{◌≡◌, ℕ, Bool, true, false, List, [], ◌∷◌, ◌++◌, filter, length, Option, Some, None, bytes_eq, nat_le, refl, sym, ◌∙◌, ap, subst}
use Rattle.std.specs.Prelude.{option_map, unwrap_or, codes, if◌then◌else◌}
use Rattle.std.proofs.lemmas.Slice.Eq.{bytes_eq-Decides}
use Rattle.task_board.specs.Board.{board_at, running_number}
use Rattle.app_tree.specs.Tree.{Shape}
use Rattle.session_model.specs.declared.event.Event.{Event}
use Rattle.session_model.specs.declared.event.Event.TheVariants.{Text, TaskEnd, End}
use Rattle.session_model.specs.Alone.{Ending, ending, state_after}
use Rattle.session_model.specs.WrittenLines.{send_lines}
use Rattle.session_model.specs.Transcript.{Line, recv, ends, closes, Open, new_session, is_over, session_of, with_session, step_by, step, done, takes, still_open, open_or_new, taken_by_open, running_ends, task_ends, line_taken, ReplayResult, closing_step, replay_after_line, added_texts, with_event, ending_text, over_line}
use Rattle.session_model.specs.Journal.{is_full}
use Rattle.session_laws.specs.Apart.{is_said_to, session_list, last_line, IsOfLines}
use Rattle.session_model.specs.declared.limits.TheConstants.{SESSION_LIMIT}

-- ---- the sessions of one label

abbrev pub sessions_for : List ℕ → List Open → List Open
sessions_for label sessions = filter (λ s. bytes_eq label s.label) sessions

pub equal : (a b : List ℕ) → bytes_eq a b ≡ true → a ≡ b
equal a b e = (bytes_eq-Decides a b).0 e

pub itself : (a : List ℕ) → bytes_eq a a ≡ true
itself a = (bytes_eq-Decides a a).1 refl

-- the one that is found has the label
pub found_label : (label : List ℕ) (sessions : List Open) (s : Open) → session_of label sessions ≡ Some s → s.label ≡ label
found_label label [] s e = absurd cc
found_label label (other ∷ more) s e = decide (bytes_eq label other.label) refl (found_label label more s) e
  where
    decide : (b : Bool) → b ≡ bytes_eq label other.label → (session_of label more ≡ Some s → s.label ≡ label)
        → (if b then Some other else session_of label more) ≡ Some s → s.label ≡ label
    decide true b rest e =
        let same : other ≡ s = cc in
        ap (λ (o : Open). o.label) (sym same) ∙ sym (equal label other.label (sym b))
    decide false b rest e = rest e

-- it is found among those of the label too
pub same_session : (label : List ℕ) (sessions : List Open) → session_of label (sessions_for label sessions) ≡ session_of label sessions
same_session label [] = refl
same_session label (other ∷ more) = decide (bytes_eq label other.label) refl (same_session label more)
  where
    decide : (b : Bool) → b ≡ bytes_eq label other.label → session_of label (sessions_for label more) ≡ session_of label more
        → session_of label (sessions_for label (other ∷ more)) ≡ session_of label (other ∷ more)
    decide true b rest = rw (← b, ← b) refl
    decide false b rest = rw (← b) rest

-- where none is found there is none
pub none_for : (label : List ℕ) (sessions : List Open) → session_of label sessions ≡ None → sessions_for label sessions ≡ []
none_for label [] e = refl
none_for label (other ∷ more) e = decide (bytes_eq label other.label) refl (none_for label more) e
  where
    decide : (b : Bool) → b ≡ bytes_eq label other.label → (session_of label more ≡ None → sessions_for label more ≡ [])
        → (if b then Some other else session_of label more) ≡ None → sessions_for label (other ∷ more) ≡ []
    decide true b rest e = absurd cc
    decide false b rest e = rw (← b) (rest e)

-- a session that has moved is the one of its label
pub moved_for : (s : Open) (sessions : List Open) → sessions_for s.label (with_session s sessions) ≡ with_session s (sessions_for s.label sessions)
moved_for s [] = rw (itself s.label) refl
moved_for s (other ∷ more) = decide (bytes_eq s.label other.label) refl (moved_for s more)
  where
    decide : (b : Bool) → b ≡ bytes_eq s.label other.label → sessions_for s.label (with_session s more) ≡ with_session s (sessions_for s.label more)
        → sessions_for s.label (with_session s (other ∷ more)) ≡ with_session s (sessions_for s.label (other ∷ more))
    decide true b rest = rw (← b, itself s.label, ← b) refl
    decide false b rest = rw (← b, ← b) rest

-- and those of another label stay
pub others_for : (label : List ℕ) (s : Open) (sessions : List Open) → bytes_eq label s.label ≡ false → sessions_for label (with_session s sessions) ≡ sessions_for label sessions
others_for label s [] other = rw other refl
others_for label s (o ∷ more) other = decide (bytes_eq s.label o.label) refl (others_for label s more other)
  where
    decide : (b : Bool) → b ≡ bytes_eq s.label o.label → sessions_for label (with_session s more) ≡ sessions_for label more
        → sessions_for label (with_session s (o ∷ more)) ≡ sessions_for label (o ∷ more)
    decide true b rest =
        let not : bytes_eq label o.label ≡ false = ap (bytes_eq label) (sym (equal s.label o.label (sym b))) ∙ other in
        rw (← b, other, not) refl
    decide false b rest = each (bytes_eq label o.label) refl
      where
        each : (c : Bool) → c ≡ bytes_eq label o.label → sessions_for label (with_session s (o ∷ more)) ≡ sessions_for label (o ∷ more)
        each true c = rw (← b, ← c) (ap (λ l. o ∷ l) rest)
        each false c = rw (← b, ← c) rest

-- ---- a session moves

pub label_kept : (app : Shape) (event : Event) (s : Open) → (step app event s).session.label ≡ s.label
label_kept app event s = by (is_full s.journal)
  where
    by : (b : Bool) → (step_by b app event s).session.label ≡ s.label
    by true = refl
    by false = refl

pub closed_label : (app : Shape) (s : Open) (over : Bool) → (closing_step over app s).session.label ≡ s.label
closed_label app s true = refl
closed_label app s false = label_kept app End s

-- ---- what a step writes is whole lines

pub ending_lines : (label : List ℕ) (o : Option Ending) → over_line label o ≡ last_line label (option_map ending_text o)
ending_lines label None = refl
ending_lines label (Some end) = refl

step_lines_by : (full : Bool) (app : Shape) (event : Event) (s : Open) → IsOfLines (record { label = s.label; bytes = (step_by full app event s).output })
step_lines_by true app event s = record { texts = []; end = Some (codes "journal"); lines = refl }
step_lines_by false app event s = record {
  texts = added_texts app s.label s.journal (with_event event s).journal;
  end = option_map ending_text (ending app (with_event event s).journal);
  lines = ap (λ l. send_lines s.label (added_texts app s.label s.journal (with_event event s).journal) ++ l) (ending_lines s.label (ending app (with_event event s).journal));
}

step_lines : (app : Shape) (event : Event) (s : Open) → IsOfLines (record { label = s.label; bytes = (step app event s).output })
step_lines app event s = step_lines_by (is_full s.journal) app event s

pub found_lines : (app : Shape) (event : Event) (s : Open) (label : List ℕ) → s.label ≡ label → IsOfLines (record { label = label; bytes = (step app event s).output })
found_lines app event s label same = subst (λ (l : List ℕ). IsOfLines (record { label = l; bytes = (step app event s).output })) same (step_lines app event s)

pub closing_lines : (app : Shape) (s : Open) (over : Bool) → IsOfLines (record { label = s.label; bytes = (closing_step over app s).output })
closing_lines app s true = record { texts = []; end = None; lines = refl }
closing_lines app s false = step_lines app End s

-- ---- one line

-- a line that isn't refused is an event of one session that isn't over, and is so too where there are only those of its label
pub record IsTaken (app : Shape) (k : ℕ) (sessions : List Open) (said : Option Line) : Type 0 where
  pub label : List ℕ
  pub event : Event
  pub session : Open
  pub said_to : (other : List ℕ) → is_said_to other said ≡ bytes_eq other label
  pub own : session.label ≡ label
  pub not_over : is_over app session ≡ false
  pub was : unwrap_or (session_of label sessions) (new_session label) ≡ session
  pub is : line_taken app k sessions said ≡ takes event session
  pub is_alone : (j : ℕ) → line_taken app j (sessions_for label sessions) said ≡ takes event session

-- the session of a label, which may be new, where there are only those of that label
record IsOpenAlone (app : Shape) (sessions : List Open) (label : List ℕ) (s : Open) (there : Option Open) : Type 0 where
  own : s.label ≡ label
  not_over : is_over app s ≡ false
  was : unwrap_or (session_of label sessions) (new_session label) ≡ s
  is : there ≡ Some s

module _ (app : Shape) (sessions : List Open) (label : List ℕ) (s : Open) where
  found_open : (found : Open) → session_of label sessions ≡ Some found → (over : Bool) → is_over app found ≡ over → (if over then None else Some found) ≡ Some s
      → IsOpenAlone app sessions label s (still_open app (session_of label (sessions_for label sessions)))
  found_open found at true over e = absurd cc
  found_open found at false over e =
      let same : found ≡ s = cc in
      record {
        own = ap (λ (o : Open). o.label) (sym same) ∙ found_label label sessions found at;
        not_over = ap (is_over app) (sym same) ∙ over;
        was = ap (λ o. unwrap_or o (new_session label)) at ∙ same;
        is = ap (still_open app) (same_session label sessions ∙ at) ∙ ap (λ b. if b then None else Some found) over ∙ ap Some same;
      }

  open_alone : (found : Option Open) → session_of label sessions ≡ found → still_open app found ≡ Some s
      → IsOpenAlone app sessions label s (still_open app (session_of label (sessions_for label sessions)))
  open_alone None at e = absurd cc
  open_alone (Some found) at e = found_open found at (is_over app found) refl e

  new_alone : (full : Bool) → session_of label sessions ≡ None → (if full then None else Some (new_session label)) ≡ Some s
      → IsOpenAlone app sessions label s (open_or_new app label (sessions_for label sessions) (session_of label (sessions_for label sessions)))
  new_alone true none e = absurd cc
  new_alone false none e =
      let same : new_session label ≡ s = cc in
      record {
        own = ap (λ (o : Open). o.label) (sym same);
        not_over = ap (is_over app) (sym same);
        was = ap (λ o. unwrap_or o (new_session label)) none ∙ same;
        is = ap (open_or_new app label (sessions_for label sessions)) (same_session label sessions ∙ none)
            ∙ ap (λ (l : List Open). open_or_new app label l None) (none_for label sessions none)
            ∙ ap Some same;
      }

  open_or_new_alone : (found : Option Open) → session_of label sessions ≡ found → open_or_new app label sessions found ≡ Some s
      → IsOpenAlone app sessions label s (open_or_new app label (sessions_for label sessions) (session_of label (sessions_for label sessions)))
  open_or_new_alone None at e = new_alone (nat_le SESSION_LIMIT (length sessions)) at e
  open_or_new_alone (Some found) at e =
      let there = found_open found at (is_over app found) refl e in
      let still : open_or_new app label (sessions_for label sessions) (Some found) ≡ still_open app (session_of label (sessions_for label sessions)) = ap (still_open app) (sym (same_session label sessions ∙ at)) in
      record {
        own = there.own;
        not_over = there.not_over;
        was = there.was;
        is = ap (open_or_new app label (sessions_for label sessions)) (same_session label sessions ∙ at) ∙ still ∙ there.is;
      }

module _ (app : Shape) (k : ℕ) (sessions : List Open) (next : List Open → ReplayResult) where
  recv_taken : (label t : List ℕ) (there : Option Open) → open_or_new app label sessions (session_of label sessions) ≡ there
      → (replay_after_line app sessions (taken_by_open k (Text t) there) next).end ≡ done → IsTaken app k sessions (Some (recv label t))
  recv_taken label t None is e = absurd cc
  recv_taken label t (Some s) is e =
      let there = open_or_new_alone app sessions label s (session_of label sessions) refl is in
      record {
        label = label;
        event = Text t;
        session = s;
        said_to = λ other. refl;
        own = there.own;
        not_over = there.not_over;
        was = there.was;
        is = ap (taken_by_open k (Text t)) is;
        is_alone = λ j. ap (taken_by_open j (Text t)) there.is;
      }

  closes_taken : (label : List ℕ) (there : Option Open) → still_open app (session_of label sessions) ≡ there
      → (replay_after_line app sessions (taken_by_open k End there) next).end ≡ done → IsTaken app k sessions (Some (closes label))
  closes_taken label None is e = absurd cc
  closes_taken label (Some s) is e =
      let there = open_alone app sessions label s (session_of label sessions) refl is in
      record {
        label = label;
        event = End;
        session = s;
        said_to = λ other. refl;
        own = there.own;
        not_over = there.not_over;
        was = there.was;
        is = ap (taken_by_open k End) is;
        is_alone = λ j. ap (taken_by_open j End) there.is;
      }

  -- the number of the invocation that runs
  abbrev running : ℕ → Open → Option ℕ
  running t s = running_number (board_at (state_after app s.journal).boards t)

  number_taken : (label : List ℕ) (t : ℕ) (s : Open) → still_open app (session_of label sessions) ≡ Some s → (number : Option ℕ) → running t s ≡ number
      → (replay_after_line app sessions (running_ends k t s number) next).end ≡ done → IsTaken app k sessions (Some (ends label t))
  number_taken label t s is None runs e = absurd cc
  number_taken label t s is (Some number) runs e =
      let there = open_alone app sessions label s (session_of label sessions) refl is in
      record {
        label = label;
        event = TaskEnd t number;
        session = s;
        said_to = λ other. refl;
        own = there.own;
        not_over = there.not_over;
        was = there.was;
        is = ap (task_ends app k t) is ∙ ap (running_ends k t s) runs;
        is_alone = λ j. ap (task_ends app j t) there.is ∙ ap (running_ends j t s) runs;
      }

  ends_taken : (label : List ℕ) (t : ℕ) (there : Option Open) → still_open app (session_of label sessions) ≡ there
      → (replay_after_line app sessions (task_ends app k t there) next).end ≡ done → IsTaken app k sessions (Some (ends label t))
  ends_taken label t None is e = absurd cc
  ends_taken label t (Some s) is e = number_taken label t s is (running t s) refl e

  -- so it is of each line behind which a replay is done
  pub is_taken : (said : Option Line) → (replay_after_line app sessions (line_taken app k sessions said) next).end ≡ done → IsTaken app k sessions said
  is_taken None e = absurd cc
  is_taken (Some (recv label t)) e = recv_taken label t (open_or_new app label sessions (session_of label sessions)) refl e
  is_taken (Some (ends label t)) e = ends_taken label t (still_open app (session_of label sessions)) refl e
  is_taken (Some (closes label)) e = closes_taken label (still_open app (session_of label sessions)) refl e

-- ---- each label has one session

abbrev pub HaveOneEach : List Open → Type 0
HaveOneEach sessions = (label : List ℕ) → sessions_for label sessions ≡ session_list (session_of label sessions)

-- so it is where those of a label are one that has the label, or none
pub one_of_label : (label : List ℕ) (sessions : List Open) (one : Option Open) → sessions_for label sessions ≡ session_list one → ((s : Open) → one ≡ Some s → s.label ≡ label)
    → sessions_for label sessions ≡ session_list (session_of label sessions)
one_of_label label sessions one is own = is ∙ ap session_list (sym (sym (same_session label sessions) ∙ ap (session_of label) is ∙ found one own))
  where
    found : (o : Option Open) → ((s : Open) → o ≡ Some s → s.label ≡ label) → session_of label (session_list o) ≡ o
    found None own = refl
    found (Some s) own = ap (λ b. if b then Some s else None) (ap (bytes_eq label) (own s refl) ∙ itself label)

pub moved_one : (s : Open) (there : Option Open) → ((o : Open) → there ≡ Some o → o.label ≡ s.label) → with_session s (session_list there) ≡ s ∷ []
moved_one s None own = refl
moved_one s (Some o) own = ap (λ b. if b then s ∷ [] else o ∷ s ∷ []) (ap (bytes_eq s.label) (own o refl) ∙ itself s.label)

pub moved_each : (s : Open) (sessions : List Open) → HaveOneEach sessions → HaveOneEach (with_session s sessions)
moved_each s sessions each label = decide (bytes_eq label s.label) refl
  where
    decide : (b : Bool) → bytes_eq label s.label ≡ b → sessions_for label (with_session s sessions) ≡ session_list (session_of label (with_session s sessions))
    decide true b =
        let same : s.label ≡ label = sym (equal label s.label b) in
        let is : sessions_for s.label (with_session s sessions) ≡ s ∷ [] =
        moved_for s sessions ∙ ap (with_session s) (each s.label) ∙ moved_one s (session_of s.label sessions) (found_label s.label sessions) in
        subst (λ (l : List ℕ). sessions_for l (with_session s sessions) ≡ session_list (session_of l (with_session s sessions))) same
        (one_of_label s.label (with_session s sessions) (Some s) is (λ o e. let it : s ≡ o = cc in ap (λ (x : Open). x.label) (sym it)))
    decide false b = one_of_label label (with_session s sessions) (session_of label sessions) (others_for label s sessions b ∙ each label) (found_label label sessions)

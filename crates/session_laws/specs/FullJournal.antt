-- What a session does with an event where its journal is full, and where it isn't.
use Rattle.std.specs.Prelude.{◌≡◌, true, false, [], ◌∷◌, ◌++◌, codes}
use Rattle.app_tree.specs.Tree.{Shape}
use Rattle.session_model.specs.declared.event.Event.{Event}
use Rattle.session_model.specs.Journal.{is_full}
use Rattle.session_model.specs.Transcript.{Open, is_over, StepResult, step}

-- the session is over, its journal is as it was, and one line was written
pub record EndsInPlace (app : Shape) (s : Open) (after : StepResult) : Type 0 where
  pub line : after.output ≡ s.label ++ codes " over journal\n"
  pub journal : after.session.journal ≡ s.journal
  pub over : is_over app after.session ≡ true

-- where the journal is full it does so in place of the event
abbrev pub FullJournalEnds : Type 0
FullJournalEnds =
    (app : Shape) (event : Event) (s : Open) → is_full s.journal ≡ true → EndsInPlace app s (step app event s)

-- and else the event stands last in the journal
abbrev pub EventIsJournaled : Type 0
EventIsJournaled =
    (app : Shape) (event : Event) (s : Open) → is_full s.journal ≡ false
    → (step app event s).session.journal ≡ s.journal ++ event ∷ []

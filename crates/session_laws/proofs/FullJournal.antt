-- What a session does with an event where its journal is full, and where it isn't.
use Rattle.std.proofs.Common.{◌≡◌, ℕ, List, Bool, [], ◌∷◌, ◌++◌, refl, sym, subst, ◌∙◌, append_assoc}
use Rattle.std.specs.Prelude.{codes}
use Rattle.session_model.specs.WrittenLines.{over_text}
use Rattle.session_model.specs.Transcript.{step_by}
use Rattle.session_laws.specs.FullJournal.{EndsInPlace, FullJournalEnds, EventIsJournaled}

journal_line : (label : List ℕ) → over_text label (codes "journal") ≡ label ++ codes " over journal\n"
journal_line label =
    append_assoc (label ++ codes " over ") (codes "journal") (codes "\n") ∙ append_assoc label (codes " over ") (codes "journal" ++ codes "\n")

pub full_journal_ends : FullJournalEnds
full_journal_ends app event s full =
    subst (λ (b : Bool). EndsInPlace app s (step_by b app event s)) (sym full) (record { line = journal_line s.label; journal = refl; over = refl })

pub event_is_journaled : EventIsJournaled
event_is_journaled app event s room =
    subst (λ (b : Bool). (step_by b app event s).session.journal ≡ s.journal ++ event ∷ []) (sym room) refl

-- The laws on what a session keeps right, and on what a client sees.
use Rattle.std.proofs.Common.{◌≡◌, ℕ, zero, suc, Bool, true, false, List, [], ◌∷◌, Some, refl, ap, ◌∙◌}
use Rattle.std.specs.Prelude.{◌||◌, slice_get, unwrap_or}
use Rattle.app_tree.specs.Tree.{Node, input, value, task, reactive, event, text, plot, observe, on}
use Rattle.app_tree.specs.Numbering.{readers, is_output}
use Rattle.app_tree.specs.Fresh.{fresh_outcome}
use Rattle.session_model.specs.State.{SessionState, first_reader, first_readers, isolated_of, reader_state}
use Rattle.session_model.specs.Flush.{is_wanted}
use Rattle.session_model.specs.Alone.{journal_result, state_after}
use Rattle.session_laws.specs.RightLaws.{FirstIsRight, ChangeKeepsRight, RunKeepsRight, FlushKeepsRight, JournalIsRight, WantedIsFresh, ShownIsFresh}
use Rattle.session_laws.proofs.Proper.{orderly, covered}
use Rattle.session_laws.proofs.Moving.{not_both}
use Rattle.session_laws.proofs.Right.{right_change, right_first}
use Rattle.session_laws.proofs.Journeys.{next_waits, right_run, right_flush, journal_well, settled_fresh}

pub first_is_right : FirstIsRight
first_is_right app p = right_first app (orderly app p) (covered app p)

pub change_keeps_right : ChangeKeepsRight
change_keeps_right app p state s x right = right_change app (orderly app p) (covered app p) state s x right

pub run_keeps_right : RunKeepsRight
run_keeps_right app p state n right h = right_run app (orderly app p) (covered app p) n state right (next_waits app state n h)

pub flush_keeps_right : FlushKeepsRight
flush_keeps_right app p state right = right_flush app (orderly app p) (covered app p) state right

pub journal_is_right : JournalIsRight
journal_is_right app p journal = (journal_well app (orderly app p) (covered app p) journal).right

pub wanted_is_fresh : WantedIsFresh
wanted_is_fresh app p journal none begun n i is o wanted =
    let w = journal_well app (orderly app p) (covered app p) journal in
    settled_fresh app (orderly app p) (covered app p) (state_after app journal) w.right (w.waits none begun) n i is o wanted

shown_wanted : (i : Node) (state : SessionState) (n : ℕ) → is_output i ≡ true → (reader_state state n).shown ≡ true → is_wanted i (reader_state state n) ≡ true
shown_wanted (input name start) state n o h = cc
shown_wanted (value name start) state n o h = cc
shown_wanted (task name parameters body) state n o h = cc
shown_wanted (reactive name keys body) state n o h = cc
shown_wanted (event name flags e body) state n o h = cc
shown_wanted (text name shown) state n o h = or_true shown.while_hidden (reader_state state n).shown h
  where
    or_true : (a b : Bool) → b ≡ true → (a || b) ≡ true
    or_true true b h = refl
    or_true false b h = h
shown_wanted (plot name shown) state n o h = or_true shown.while_hidden (reader_state state n).shown h
  where
    or_true : (a b : Bool) → b ≡ true → (a || b) ≡ true
    or_true true b h = refl
    or_true false b h = h
shown_wanted (observe name priority block) state n o h = refl
shown_wanted (on name priority flags e block) state n o h = refl

none_shown : (is : List Node) (n : ℕ) → (unwrap_or (slice_get (first_readers is) n) first_reader).shown ≡ false
none_shown [] n = refl
none_shown (i ∷ is) zero = refl
none_shown (i ∷ is) (suc n) = none_shown is n

pub shown_is_fresh : ShownIsFresh
shown_is_fresh app p journal none n i is o shown = by (journal_result app journal).begun refl
  where
    by : (b : Bool) → (journal_result app journal).begun ≡ b → (reader_state (state_after app journal) n).last ≡ Some (fresh_outcome app (state_after app journal).values (isolated_of (state_after app journal)) n)
    by true begun = wanted_is_fresh app p journal none begun n i is o (shown_wanted i (state_after app journal) n o shown)
    by false begun = absurd (not_both shown (ap (λ (s : SessionState). (reader_state s n).shown) ((journal_well app (orderly app p) (covered app p) journal).first begun) ∙ none_shown (readers app) n))

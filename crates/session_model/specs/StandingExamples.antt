-- Sessions that stand for no such state.
use Rattle.std.specs.Prelude.{pos, false, [], ◌∷◌, Some, None, codes}
use Rattle.rx_value.specs.declared.value.Value.TheVariants.{Int}
use Rattle.rx_value.specs.declared.outcome.Outcome.{Outcome}
use Rattle.rx_value.specs.declared.outcome.Outcome.TheVariants.{Val}
use Rattle.rx_value.specs.declared.source.SourceValue.TheVariants.{Plain}
use Rattle.app_tree.specs.declared.term.Read.TheVariants as read
use Rattle.app_tree.specs.Tree.{get, no_trees, input, text, observe, no_acts, Shape}
use Rattle.session_model.specs.State.{SessionState, first_reader}
use Rattle.session_model.specs.MissingExample.{cached_ones, all_alive}
use Rattle.session_model.specs.Standing.{Dependence, never_run, stale, alive, KeptReader, first_kept, KeptSession, StandsForState}

-- `input i = 7; text o { input$i } observe w { }`
abbrev pub shows_input : Shape
shows_input = record {
  budget = 1000;
  items =
      input (codes "i") (Int (pos 7))
      ∷ text (codes "o") (record { priority = pos 0; while_hidden = false; keys = no_trees; body = get (read.Input 0) })
      ∷ observe (codes "w") (pos 0) no_acts
      ∷ [];
}

-- the output has run, and depends on the input; the observer never ran
abbrev pub state_after_output : SessionState
state_after_output = record {
  values = Plain (Int (pos 7)) ∷ Plain (Int (pos 0)) ∷ Plain (Int (pos 0)) ∷ [];
  readers =
      record first_reader { dependencies = Some (record { sources = 0 ∷ []; changed = false }) } ∷ first_reader ∷ [];
  boards = [];
}

-- what is kept for the output, and for the observer nothing
abbrev pub session_keeping : KeptReader → KeptSession
session_keeping output = record {
  values = state_after_output.values;
  readers = output ∷ first_kept ∷ [];
  running = None;
}

abbrev pub output_with : Dependence → Outcome → KeptReader
output_with dependence outcome = record { dependence = dependence; isolated = []; outcome = outcome }

-- the app has three readers, and the state has none
abbrev pub StateOfAnotherSize : Type 0
StateOfAnotherSize =
    (session : KeptSession) → StandsForState cached_ones session (record all_alive { readers = [] }) → ⊥

-- an output is no expression that a hit may leave out
abbrev pub OutputLeftOut : Type 0
OutputLeftOut = StandsForState shows_input (session_keeping first_kept) state_after_output → ⊥

abbrev pub StaleOutput : Type 0
StaleOutput =
    StandsForState shows_input (session_keeping (output_with stale (Val (Int (pos 7))))) state_after_output → ⊥

-- it depends on the width too, which it doesn't read
abbrev pub OneSourceMore : Type 0
OneSourceMore =
    StandsForState
    shows_input
    (session_keeping (output_with (alive (0 ∷ 1 ∷ [])) (Val (Int (pos 7)))))
    state_after_output
    → ⊥

-- the output comes to 7
abbrev pub StaleOutcome : Type 0
StaleOutcome =
    StandsForState shows_input (session_keeping (output_with (alive (0 ∷ [])) (Val (Int (pos 6))))) state_after_output
    → ⊥

-- the observer that is said to run never ran
abbrev pub RunningThatNeverRan : Type 0
RunningThatNeverRan =
    StandsForState
    shows_input
    (record (session_keeping (output_with (alive (0 ∷ [])) (Val (Int (pos 7))))) { running = Some 1 })
    state_after_output
    → ⊥

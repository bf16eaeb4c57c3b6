-- The texts of a flush, by the outputs that ran and whether the budget was spent.
use Rattle.std.specs.Prelude.{◌≡◌, ℕ, Bool, true, false, List, [], ◌∷◌, ◌++◌}
use Rattle.shiny_json.specs.declared.batch.BatchOutput.{BatchOutput}
use Rattle.shiny_json.specs.declared.batch.Batch.{Batch}
use Rattle.shiny_json.specs.Server.{config_text, busy_text}
use Rattle.shiny_json.specs.Values.{values_text}
use Rattle.session_model.specs.State.{SessionState}
use Rattle.session_model.specs.Flush.{FlushResult}
use Rattle.session_model.specs.Texts.{output_texts}
use Rattle.taken_cycle.specs.inner.Passed.{end_of}
use Rattle.taken_cycle.specs.declared.texts.EventTexts.{EventTexts}

abbrev pub outputs_texts : List BatchOutput → List (List ℕ)
outputs_texts [] = []
outputs_texts (o ∷ more) = output_texts o.name ++ outputs_texts more

abbrev pub values_batch : List BatchOutput → Batch
values_batch outputs = record { outputs = outputs; messages = [] }

abbrev pub closing_pass : List BatchOutput → Bool → List (List ℕ)
closing_pass outputs true = []
closing_pass outputs false = values_text (values_batch outputs) ∷ busy_text false ∷ []

abbrev pub pass_texts : List BatchOutput → Bool → List (List ℕ)
pass_texts outputs spent = busy_text true ∷ (outputs_texts outputs ++ closing_pass outputs spent)

abbrev pub first_pass : List ℕ → List BatchOutput → Bool → List (List ℕ)
first_pass label outputs spent = config_text label ∷ pass_texts outputs spent

abbrev pub later_pass : List BatchOutput → Bool → List (List ℕ)
later_pass [] false = []
later_pass outputs spent = pass_texts outputs spent

-- an event sends the texts that are wanted, ends as its flush does, and leaves the flush's state
pub record Sends (wanted : List (List ℕ)) (flushed : FlushResult) (after : SessionState) (sent : EventTexts) : Type 0 where
  pub texts : sent.texts ≡ wanted
  pub end : flushed.end ≡ end_of sent.spent
  pub state : after ≡ flushed.state

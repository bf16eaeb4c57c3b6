-- What one run makes of a reader, and what a flush has come to, in the Flusher's own lists.
use Rattle.std.specs.Prelude.{◌≡◌, ⊤, ℕ, ◌≤◌, Bool, true, false, not, ◌&&◌, List, [], ◌∷◌, filter, take, length, Option, Some, None, slice_get, if◌then◌else◌}
use Rattle.rx_value.specs.declared.outcome.Outcome.{Outcome}
use Rattle.rx_value.specs.declared.source.SourceValue.{SourceValue}
use Rattle.app_tree.specs.Tree.{Node, text, Shape}
use Rattle.app_tree.specs.Numbering.{is_reader, reader}
use Rattle.app_tree.specs.Current.{value_at, plain_outcome}
use Rattle.shiny_json.specs.declared.batch.BatchOutput.{BatchOutput}
use Rattle.session_model.specs.declared.state.ReaderState.{ReaderState}
use Rattle.session_model.specs.State.{SessionState, is_alive}
use Rattle.session_model.specs.Flush.{waiting_from, Run, FlushEnd, done, budget_spent, FlushResult}
use Rattle.session_model.specs.Texts.{output_texts, run_texts_of, output_of_run}
use Rattle.taken_cycle.specs.Built.{plain_shown}

-- what an output comes to that shows the input of source number s
abbrev pub shown_outcome : ℕ → List SourceValue → Outcome
shown_outcome s values = plain_outcome (value_at values s)

abbrev pub ran_reader : ℕ → List SourceValue → ReaderState → ReaderState
ran_reader s values r = record {
  dependencies = Some (record { sources = s ∷ []; changed = false });
  isolated = [];
  shown = r.shown;
  last = Some (shown_outcome s values);
}

-- what the values text tells of a run
abbrev pub shown_output : List ℕ → ℕ → List SourceValue → BatchOutput
shown_output name s values = record { name = name; plot = false; outcome = shown_outcome s values }

-- ---- where a flush stands

abbrev pub waits : Option ReaderState → Bool
waits None = false
waits (Some r) = r.shown && not (is_alive r)

-- whether an output of this number waits
abbrev pub waits_at : List ReaderState → ℕ → Bool
waits_at readers n = waits (slice_get readers n)

-- the readers among the items before this place are as many as the number says, and none of them waits
pub record IsPassed (items : List Node) (readers : List ReaderState) (place number : ℕ) : Type 0 where
  pub counted : length (filter is_reader (take place items)) ≡ number
  pub within : number ≤ place
  pub none_waits : waiting_from 0 (filter is_reader (take place items)) (take number readers) ≡ None

-- at this place stands an output of this name that shows the input of source number s, and it waits
pub record WaitsAt (items : List Node) (readers : List ReaderState) (place number : ℕ) (name : List ℕ) (s : ℕ) : Type 0 where
  pub item : slice_get items place ≡ Some (text name (plain_shown s))
  pub waits : waits_at readers number ≡ true

-- ---- what a flush has come to

abbrev pub end_of : Bool → FlushEnd
end_of spent = if spent then budget_spent else done

-- a run of an output, of which the values text tells this
pub record IsShown (app : Shape) (run : Run) (output : BatchOutput) : Type 0 where
  pub texts : run_texts_of (reader app run.number) ≡ output_texts output.name
  pub value : output_of_run (reader app run.number) run ≡ output ∷ []
  pub silent : run.messages ≡ []

-- the same of each of these runs
abbrev pub AreShown : Shape → List Run → List BatchOutput → Type 0
AreShown app [] [] = ⊤
AreShown app (run ∷ runs) (output ∷ outputs) = IsShown app run output × AreShown app runs outputs
AreShown app _ _ = ⊥

-- a flush came to this state by runs of these outputs, and to its end
pub record Passes (app : Shape) (flushed : FlushResult) (after : SessionState) (outputs : List BatchOutput) (spent : Bool) : Type 0 where
  pub state : flushed.state ≡ after
  pub shown : AreShown app flushed.runs outputs
  pub end : flushed.end ≡ end_of spent

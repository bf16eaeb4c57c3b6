-- The texts that a flush sends.
use Rattle.std.specs.Prelude.{ℕ, true, false, List, [], ◌∷◌, ◌++◌, Option, Some}
use Rattle.app_tree.specs.Tree.{Node, text, plot, Shape}
use Rattle.app_tree.specs.Numbering.{reader}
use Rattle.shiny_json.specs.declared.batch.BatchOutput.{BatchOutput}
use Rattle.shiny_json.specs.declared.batch.Batch.{Batch}
use Rattle.shiny_json.specs.declared.message.Pair.{Pair}
use Rattle.shiny_json.specs.Server.{config_text, busy_text, progress_text, recalculating_text}
use Rattle.shiny_json.specs.Values.{values_text}
use Rattle.session_model.specs.Flush.{Run, FlushEnd, done, FlushResult}

-- that an output's run is in progress, that it begins and that it has ended
abbrev pub output_texts : List ℕ → List (List ℕ)
output_texts name = progress_text name ∷ recalculating_text name false ∷ recalculating_text name true ∷ []

-- an observer's run has no texts
abbrev pub run_texts_of : Option Node → List (List ℕ)
run_texts_of (Some (text name shown)) = output_texts name
run_texts_of (Some (plot name shown)) = output_texts name
run_texts_of _ = []

abbrev pub run_texts : Shape → List Run → List (List ℕ)
run_texts app [] = []
run_texts app (run ∷ more) = run_texts_of (reader app run.number) ++ run_texts app more

-- what the values text tells of a run: the outcome of an output
abbrev pub output_of_run : Option Node → Run → List BatchOutput
output_of_run (Some (text name shown)) run = record { name = name; plot = false; outcome = run.outcome } ∷ []
output_of_run (Some (plot name shown)) run = record { name = name; plot = true; outcome = run.outcome } ∷ []
output_of_run _ run = []

abbrev pub batch_outputs : Shape → List Run → List BatchOutput
batch_outputs app [] = []
batch_outputs app (run ∷ more) = output_of_run (reader app run.number) run ++ batch_outputs app more

-- the input messages, in the order of their statements
abbrev pub batch_messages : List Run → List Pair
batch_messages [] = []
batch_messages (run ∷ more) = run.messages ++ batch_messages more

abbrev pub batch_of : Shape → List Run → Batch
batch_of app runs = record { outputs = batch_outputs app runs; messages = batch_messages runs }

-- the values and the idle text come where the flush did not end the session
abbrev pub closing_texts : Shape → FlushResult → FlushEnd → List (List ℕ)
closing_texts app flushed done = values_text (batch_of app flushed.runs) ∷ busy_text false ∷ []
closing_texts app flushed _ = []

abbrev pub flush_texts : Shape → FlushResult → List (List ℕ)
flush_texts app flushed = busy_text true ∷ (run_texts app flushed.runs ++ closing_texts app flushed flushed.end)

-- the first event of a session sends its texts whatever runs
abbrev pub first_texts : Shape → List ℕ → FlushResult → List (List ℕ)
first_texts app label flushed = config_text label ∷ flush_texts app flushed

-- a later event in which no output and no observer ran, and which did not end the session, sends nothing
abbrev pub later_texts_by : Shape → FlushResult → List Run → FlushEnd → List (List ℕ)
later_texts_by app flushed [] done = []
later_texts_by app flushed _ _ = flush_texts app flushed

abbrev pub later_texts : Shape → FlushResult → List (List ℕ)
later_texts app flushed = later_texts_by app flushed flushed.runs flushed.end

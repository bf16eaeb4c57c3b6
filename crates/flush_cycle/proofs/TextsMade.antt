-- The texts by what was made are those by the runs.
use Rattle.std.proofs.Common.{◌≡◌, ℕ, true, List, [], ◌∷◌, ◌++◌, map, Option, Some, None, refl, sym, ap, ◌∙◌}
use Rattle.app_tree.specs.Tree.{Node, input, value, task, reactive, event, text, plot, observe, on, Shape}
use Rattle.app_tree.specs.Numbering.{reader}
use Rattle.shiny_json.specs.declared.batch.BatchOutput.{BatchOutput}
use Rattle.shiny_json.specs.Server.{config_text, busy_text}
use Rattle.session_model.specs.Flush.{Run, FlushResult}
use Rattle.session_model.specs.Texts.{run_texts_of, run_texts, output_of_run, batch_outputs, batch_of, closing_texts, flush_texts, first_texts, later_texts_by, later_texts}
use Rattle.flush_cycle.specs.Reports.{made_of}
use Rattle.flush_cycle.specs.declared.flushing.End.{End}
use Rattle.flush_cycle.specs.declared.flushing.End.TheVariants as end
use Rattle.flush_cycle.specs.inner.Telling.{texts_by}
use Rattle.flush_cycle.specs.inner.Passing.{end_of, is_done, outputs_texts, closing_made, texts_made, later_made}

outputs_texts-run : (o : Option Node) (run : Run) (more : List BatchOutput) → outputs_texts (output_of_run o run ++ more) ≡ run_texts_of o ++ outputs_texts more
outputs_texts-run None run more = refl
outputs_texts-run (Some (input name start)) run more = refl
outputs_texts-run (Some (value name start)) run more = refl
outputs_texts-run (Some (task name parameters body)) run more = refl
outputs_texts-run (Some (reactive name keys body)) run more = refl
outputs_texts-run (Some (event name flags e body)) run more = refl
outputs_texts-run (Some (text name shown)) run more = refl
outputs_texts-run (Some (plot name shown)) run more = refl
outputs_texts-run (Some (observe name priority block)) run more = refl
outputs_texts-run (Some (on name priority flags e block)) run more = refl

module _ (app : Shape) where
  outputs_texts-runs : (runs : List Run) → outputs_texts (batch_outputs app runs) ≡ run_texts app runs
  outputs_texts-runs [] = refl
  outputs_texts-runs (run ∷ runs) =
      outputs_texts-run (reader app run.number) run (batch_outputs app runs)
      ∙ ap (λ l. run_texts_of (reader app run.number) ++ l) (outputs_texts-runs runs)

  closing_made-runs : (f : FlushResult) (e : End) → closing_made (batch_of app f.runs) (is_done e) ≡ closing_texts app f (end_of e)
  closing_made-runs f end.Done = refl
  closing_made-runs f end.BudgetSpent = refl
  closing_made-runs f (end.ObserverFailed why) = refl

  texts_made-runs : (f : FlushResult) (e : End) → f.end ≡ end_of e → texts_made (batch_of app f.runs) (is_done e) ≡ flush_texts app f
  texts_made-runs f e is =
      ap (λ l. busy_text true ∷ (outputs_texts (batch_outputs app f.runs) ++ l)) (closing_made-runs f e ∙ ap (closing_texts app f) (sym is))
      ∙ ap (λ l. busy_text true ∷ (l ++ closing_texts app f f.end)) (outputs_texts-runs f.runs)

  -- of the init, which has a label
  pub first_made-runs : (label : List ℕ) (f : FlushResult) (e : End) → f.end ≡ end_of e → texts_by (Some label) (made_of app f.runs) (is_done e) ≡ first_texts app label f
  first_made-runs label f e is = ap (λ l. config_text label ∷ l) (texts_made-runs f e is)

  later_by : (f : FlushResult) (runs : List Run) (e : End) → texts_made (batch_of app f.runs) (is_done e) ≡ flush_texts app f
      → later_made (map (λ (run : Run). run.number) runs) (batch_of app f.runs) (is_done e) ≡ later_texts_by app f runs (end_of e)
  later_by f [] end.Done h = refl
  later_by f [] end.BudgetSpent h = h
  later_by f [] (end.ObserverFailed why) h = h
  later_by f (run ∷ runs) end.Done h = h
  later_by f (run ∷ runs) end.BudgetSpent h = h
  later_by f (run ∷ runs) (end.ObserverFailed why) h = h

  -- of a later event
  pub later_made-runs : (f : FlushResult) (e : End) → f.end ≡ end_of e → texts_by None (made_of app f.runs) (is_done e) ≡ later_texts app f
  later_made-runs f e is = later_by f f.runs e (texts_made-runs f e is) ∙ ap (later_texts_by app f f.runs) (sym is)

-- The texts of a flush are those of the outputs that ran.
use Rattle.std.proofs.Common.{◌≡◌, ℕ, Bool, true, false, List, [], ◌∷◌, ◌++◌, refl, sym, ap, ◌∙◌}
use Rattle.app_tree.specs.Tree.{Shape}
use Rattle.shiny_json.specs.declared.batch.BatchOutput.{BatchOutput}
use Rattle.shiny_json.specs.Server.{config_text, busy_text}
use Rattle.session_model.specs.State.{SessionState}
use Rattle.shiny_json.specs.Values.{values_text}
use Rattle.session_model.specs.Flush.{Run, FlushResult}
use Rattle.session_model.specs.Texts.{output_texts, run_texts, batch_outputs, batch_messages, closing_texts, flush_texts, first_texts, later_texts_by, later_texts}
use Rattle.taken_cycle.specs.declared.texts.EventTexts.{EventTexts}
use Rattle.taken_cycle.specs.inner.Passed.{AreShown, Passes, end_of}
use Rattle.taken_cycle.specs.inner.PassTexts.{outputs_texts, closing_pass, pass_texts, first_pass, later_pass, Sends}

module _ (app : Shape) where
  run_texts-are : (runs : List Run) (outputs : List BatchOutput) → AreShown app runs outputs → run_texts app runs ≡ outputs_texts outputs
  run_texts-are [] [] h = refl
  run_texts-are [] (o ∷ outputs) h = absurd h
  run_texts-are (run ∷ runs) [] h = absurd h
  run_texts-are (run ∷ runs) (o ∷ outputs) h = ap (λ l. l ++ run_texts app runs) h.0.texts ∙ ap (λ l. output_texts o.name ++ l) (run_texts-are runs outputs h.1)

  batch_outputs-are : (runs : List Run) (outputs : List BatchOutput) → AreShown app runs outputs → batch_outputs app runs ≡ outputs
  batch_outputs-are [] [] h = refl
  batch_outputs-are [] (o ∷ outputs) h = absurd h
  batch_outputs-are (run ∷ runs) [] h = absurd h
  batch_outputs-are (run ∷ runs) (o ∷ outputs) h = ap (λ l. l ++ batch_outputs app runs) h.0.value ∙ ap (λ l. o ∷ l) (batch_outputs-are runs outputs h.1)

  no_messages : (runs : List Run) (outputs : List BatchOutput) → AreShown app runs outputs → batch_messages runs ≡ []
  no_messages [] outputs h = refl
  no_messages (run ∷ runs) [] h = absurd h
  no_messages (run ∷ runs) (o ∷ outputs) h = ap (λ l. l ++ batch_messages runs) h.0.silent ∙ no_messages runs outputs h.1

  closing_texts-are : (f : FlushResult) (outputs : List BatchOutput) (spent : Bool) → AreShown app f.runs outputs → f.end ≡ end_of spent → closing_texts app f f.end ≡ closing_pass outputs spent
  closing_texts-are f outputs true h e = ap (closing_texts app f) e
  closing_texts-are f outputs false h e =
      ap (closing_texts app f) e
      ∙ ap (λ os. values_text (record { outputs = os; messages = batch_messages f.runs }) ∷ busy_text false ∷ []) (batch_outputs-are f.runs outputs h)
      ∙ ap (λ ms. values_text (record { outputs = outputs; messages = ms }) ∷ busy_text false ∷ []) (no_messages f.runs outputs h)

  flush_texts-are : (f : FlushResult) (outputs : List BatchOutput) (spent : Bool) → AreShown app f.runs outputs → f.end ≡ end_of spent → flush_texts app f ≡ pass_texts outputs spent
  flush_texts-are f outputs spent h e =
      ap (λ l. busy_text true ∷ (l ++ closing_texts app f f.end)) (run_texts-are f.runs outputs h) ∙ ap (λ l. busy_text true ∷ (outputs_texts outputs ++ l)) (closing_texts-are f outputs spent h e)

  later_texts_by-are : (f : FlushResult) (runs : List Run) (outputs : List BatchOutput) (spent : Bool) → AreShown app runs outputs → flush_texts app f ≡ pass_texts outputs spent
      → later_texts_by app f runs (end_of spent) ≡ later_pass outputs spent
  later_texts_by-are f [] [] true h e = e
  later_texts_by-are f [] [] false h e = refl
  later_texts_by-are f [] (o ∷ outputs) spent h e = absurd h
  later_texts_by-are f (run ∷ runs) [] spent h e = absurd h
  later_texts_by-are f (run ∷ runs) (o ∷ outputs) true h e = e
  later_texts_by-are f (run ∷ runs) (o ∷ outputs) false h e = e

  pub sends_first : (label : List ℕ) (f : FlushResult) (state : SessionState) (outputs : List BatchOutput) (sent : EventTexts)
      → Passes app f state outputs sent.spent → sent.texts ≡ first_pass label outputs sent.spent → Sends (first_texts app label f) f state sent
  sends_first label f state outputs sent p texts = record {
    texts = texts ∙ sym (ap (λ l. config_text label ∷ l) (flush_texts-are f outputs sent.spent p.shown p.end));
    end = p.end;
    state = sym p.state;
  }

  pub sends_later : (f : FlushResult) (state : SessionState) (outputs : List BatchOutput) (sent : EventTexts)
      → Passes app f state outputs sent.spent → sent.texts ≡ later_pass outputs sent.spent → Sends (later_texts app f) f state sent
  sends_later f state outputs sent p texts = record {
    texts = texts ∙ sym (ap (later_texts_by app f f.runs) p.end ∙ later_texts_by-are f f.runs outputs sent.spent p.shown (flush_texts-are f outputs sent.spent p.shown p.end));
    end = p.end;
    state = sym p.state;
  }

-- One client message of a session, from the Flusher's answer to the definition's event.
use Rattle.std.proofs.Common.{◌≡◌, ℕ, suc, Bool, true, false, List, ◌++◌, None, sym, ap, ◌∙◌, subst}
use Rattle.app_tree.specs.Tree.{Shape}
use Rattle.app_tree.specs.View.{shape_of}
use Rattle.shiny_json.specs.declared.message.Pair.{Pair}
use Rattle.shiny_json.specs.declared.message.Client.TheVariants.{Update}
use Rattle.shiny_json.specs.Client.{client_message}
use Rattle.session_model.specs.declared.event.Event.TheVariants.{Text}
use Rattle.session_model.specs.Flush.{FlushResult}
use Rattle.session_model.specs.Alone.{JournalResult, flushes, effect, effect_texts, effect_from, message_effect, result_after, flush_ending, flush_with_pairs, journal_result, ending}
use Rattle.session_model.specs.Transcript.{Open, with_event, event_output, over_line, added_texts}
use Rattle.session_model.specs.WrittenLines.{send_lines}
use Rattle.session_laws.proofs.Journals.{journal_result-more, added_texts-more}
use Rattle.taken_cycle.specs.declared.stage.Stage.TheVariants as stage
use Rattle.taken_cycle.specs.Flushing.{FlushGives, flushed_by, stage_after}
use Rattle.shiny_main.specs.declared.session.OpenSession.{OpenSession}
use Rattle.shiny_main.specs.declared.session.Answered.{Answered}
use Rattle.shiny_main.specs.inner.Replaying.{EndsSo, HoldsOpen, budget_line, event_lines, AnswersText}

-- the course after a text that flushes
abbrev flushed_result : JournalResult → Bool → FlushResult → JournalResult
flushed_result course first f = result_after course (suc course.items) (flushes first f)

result_is : (app : Shape) (s : Open) (text : List ℕ) (first : Bool) (f : FlushResult) → effect app (journal_result app s.journal) (Text text) ≡ flushes first f
    → journal_result app (with_event (Text text) s).journal ≡ flushed_result (journal_result app s.journal) first f
result_is app s text first f e = journal_result-more app s.journal (Text text) ∙ ap (result_after (journal_result app s.journal) (suc (journal_result app s.journal).items)) e

output_is : (app : Shape) (s : Open) (text : List ℕ) (first : Bool) (f : FlushResult) → effect app (journal_result app s.journal) (Text text) ≡ flushes first f
    → event_output app (Text text) s ≡ send_lines s.label (effect_texts app s.label (flushes first f)) ++ over_line s.label (flush_ending f.end)
output_is app s text first f e =
    let texts : added_texts app s.label s.journal (with_event (Text text) s).journal ≡ effect_texts app s.label (flushes first f) = added_texts-more app s.label s.journal (Text text) ∙ ap (effect_texts app s.label) e in
    let end : ending app (with_event (Text text) s).journal ≡ flush_ending f.end = ap (λ (c : JournalResult). c.ending) (result_is app s text first f e) in
    ap (λ l. send_lines s.label l ++ over_line s.label (ending app (with_event (Text text) s).journal)) texts ∙ ap (λ o. send_lines s.label (effect_texts app s.label (flushes first f)) ++ over_line s.label o) end

-- the answer to a text that flushes
pub answers_text : (app : Shape) (s : Open) (text : List ℕ) (first : Bool) (f : FlushResult) (texts : List (List ℕ)) (over : Bool) (answered : Answered)
    → effect app (journal_result app s.journal) (Text text) ≡ flushes first f → s.full ≡ false
    → answered.session.label ≡ s.label → shape_of answered.session.flusher.app ≡ app
    → FlushGives (effect_texts app s.label (flushes first f)) f answered.session.flusher.state (flushed_by texts over)
    → answered.session.flusher.stage ≡ stage_after (flushed_by texts over)
    → answered.output ≡ event_lines s.label texts over → AnswersText app s text answered
answers_text app s text first f texts true answered e open_ label of_app gives at out =
    let course = result_is app s text first f e in
    record {
      output = out ∙ ap (λ t. send_lines s.label t ++ budget_line s.label true) gives.1 ∙ sym (output_is app s text first f e ∙ ap (λ o. send_lines s.label (effect_texts app s.label (flushes first f)) ++ over_line s.label (flush_ending o)) gives.0);
      holds = record {
        label = label;
        of_app = of_app;
        state = gives.2 ∙ sym (ap (λ (c : JournalResult). c.state) course);
        begun = ap (λ (c : JournalResult). c.begun) course;
        ending = subst (λ b. EndsSo b (journal_result app (with_event (Text text) s).journal).ending) (sym at) (ap (λ (c : JournalResult). c.ending) course ∙ ap flush_ending gives.0);
        goes_on = open_;
      };
    }
answers_text app s text first f texts false answered e open_ label of_app gives at out =
    let course = result_is app s text first f e in
    record {
      output = out ∙ ap (λ t. send_lines s.label t ++ budget_line s.label false) gives.1 ∙ sym (output_is app s text first f e ∙ ap (λ o. send_lines s.label (effect_texts app s.label (flushes first f)) ++ over_line s.label (flush_ending o)) gives.0);
      holds = record {
        label = label;
        of_app = of_app;
        state = gives.2 ∙ sym (ap (λ (c : JournalResult). c.state) course);
        begun = ap (λ (c : JournalResult). c.begun) course;
        ending = subst (λ b. EndsSo b (journal_result app (with_event (Text text) s).journal).ending) (sym at) (ap (λ (c : JournalResult). c.ending) course ∙ ap flush_ending gives.0);
        goes_on = open_;
      };
    }

-- what an update does to a session that goes on
pub update_effect : (app : Shape) (s : Open) (text : List ℕ) (pairs : List Pair) (code : OpenSession) → HoldsOpen app s code → code.flusher.stage ≡ stage.Open → client_message text ≡ Update pairs
    → effect app (journal_result app s.journal) (Text text) ≡ flushes false (flush_with_pairs app pairs code.flusher.state)
update_effect app s text pairs code holds at e =
    let course = journal_result app s.journal in
    let none : course.ending ≡ None = subst (λ b. EndsSo b course.ending) at holds.ending in
    ap (λ o. effect_from app course o (Text text)) none ∙ ap (λ b. message_effect app b course.state (client_message text)) holds.begun ∙ ap (message_effect app true course.state) e
    ∙ ap (λ st. flushes false (flush_with_pairs app pairs st)) (sym holds.state)

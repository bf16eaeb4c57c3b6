use Rattle.std.proofs.Common.{◌∙◌, ap, subst, false}
use Rattle.app_tree.specs.Tree.{Shape}
use Rattle.app_tree.specs.View.{shape_of}
use Rattle.taken_cycle.specs.declared.flushed.Flushed.{Flushed}
use Rattle.session_model.specs.Texts.{later_texts}
use Rattle.session_model.specs.Alone.{flush_with_pairs}
use Rattle.taken_cycle.specs.Flushing.{FlushGives, stage_after}
use Rattle.shiny_main.specs.inner.Replaying.{event_lines}
use Rattle.shiny_main.proofs.Answering.{answers_text, update_effect}
use Rattle.shiny_main.proofs.session.answer_later.Goals as goal

pub returns : goal.returns
returns c app s text holds at message =
    let state = c.args.session.flusher.state in
    let f = flush_with_pairs app c.args.pairs.now state in
    let gives_app : Shape → Type 0 = λ a. FlushGives (later_texts a (flush_with_pairs a c.args.pairs.now state)) (flush_with_pairs a c.args.pairs.now state) c.update.new.self.state c.update.result in
    let gives_answer : Flushed → Type 0 = λ r. FlushGives (later_texts app f) f c.update.new.self.state r in
    let gives = subst gives_answer c.in_ok-texts.ensures (subst gives_app holds.of_app c.update.ensures.flush) in
    answers_text app s text false f c.in_ok-texts.texts c.in_ok-texts.over _ (update_effect app s text c.args.pairs.now c.args.session holds at message)
    holds.goes_on holds.label (ap shape_of c.update.ensures.app ∙ holds.of_app) gives (c.update.ensures.stage ∙ ap stage_after c.in_ok-texts.ensures)
    (c.in_ok-output.ensures ∙ ap (λ l. event_lines l c.in_ok-texts.texts c.in_ok-texts.over) holds.label)

use Rattle.std.proofs.Common.{ℕ, List, sym, refl, subst}
use Rattle.std.specs.Prelude.{IfOk}
use Rattle.app_tree.specs.View.{shape_of}
use Rattle.session_model.specs.Transcript.{Open, bad_line}
use Rattle.session_model.specs.TakenLines.{taken_by, taken_line}
use Rattle.shiny_main.specs.declared.replay.Taken.{Taken}
use Rattle.shiny_main.specs.declared.transcript.Replayed.TheVariants as answer
use Rattle.shiny_main.specs.inner.Spoken.{numbered_line}
use Rattle.shiny_main.specs.inner.Lines.{coming}
use Rattle.shiny_main.specs.inner.Replaying.{HoldsSession, TakesLine, Ends, AnswersTaken}
use Rattle.shiny_main.proofs.Taking.{if_ok}
use Rattle.shiny_main.proofs.Turns.{taken_turn, said_by_bytes, bad_refused, fault_leaves, stops_here, close_gives, closes_open, closed_unread, ends_as}
use Rattle.session_model.specs.declared.limits.TheConstants.{LINE_LIMIT}
use Rattle.shiny_main.proofs.transcript.take_turn.Goals as goal

pub returns-in-Line-clause-gives : goal.returns-in-Line-clause-gives
returns-in-Line-clause-gives g c s holds =
    let app = shape_of c.args.app.now.value in
    let k = c.args.lines.now.number in
    let says = c.in-Line.ensures.gives.1 in
    let said = c.in-Line.said in
    let before = g.K.Sink.held c.args.out.now in
    let after = g.K.Sink.held c.answer_taken.new.out in
    let takes_as : ℕ → Taken → Type 0 = λ n t. (o : List Open) → HoldsSession app n o c.args.session → TakesLine app n o (taken_line app n o (numbered_line app.items said)) t in
    let takes : IfOk c.take_line-taken.result (takes_as k) = subst (λ n. IfOk c.take_line-taken.result (takes_as n)) c.in-Line.ensures.gives.0 c.take_line-taken.ensures in
    let answers : AnswersTaken c.take_line-taken.result k before after c.answer_taken.result = subst (λ n. AnswersTaken c.take_line-taken.result n before after c.answer_taken.result) c.in-Line.ensures.gives.0 c.answer_taken.ensures.gives in
    taken_turn app s said c.args.lines.now c.next.new.self (g.S.Source.left c.args.input.now) (g.S.Source.left c.next.new.input) before after c.take_line-taken.result c.answer_taken.result says
    (if_ok (takes_as k) (TakesLine app k s (taken_by app k s says.line)) c.take_line-taken.result (λ t h. subst (λ o. TakesLine app k s o t) (sym (said_by_bytes app k s says.line said says.says)) (h s holds)) takes) answers

pub returns-in-Bad-clause-gives : goal.returns-in-Bad-clause-gives
returns-in-Bad-clause-gives g c s holds =
    let app = shape_of c.args.app.now.value in
    let k = c.args.lines.now.number in
    let bytes = coming c.args.lines.now (g.S.Source.left c.args.input.now) in
    let held = g.K.Sink.held c.args.out.now in
    (subst (λ n. Ends app k s bytes held held (bad_line n)) (sym c.in-Bad.ensures.gives.0) (bad_refused app s c.args.lines.now bytes held c.requires.short c.in-Bad.ensures.gives.1), tt)

pub returns-in-End-clause-gives : goal.returns-in-End-clause-gives
returns-in-End-clause-gives g c s holds =
    let app = shape_of c.args.app.now.value in
    let before = g.K.Sink.held c.args.out.now in
    let after = g.K.Sink.held c.close.new.out in (
      close_gives app c.args.lines.now.number s c.args.session (coming c.args.lines.now (g.S.Source.left c.args.input.now)) (g.S.Source.left c.next.new.input) before after c.close.result
          holds c.in-End.ensures.gives.0 c.in-End.ensures.gives.1 c.close.ensures.gives,
      closes_open c.args.session c.args.lines.now.ended before after c.close.result c.close.ensures.gives,
    )

pub returns-in-ReadFault-clause-gives : goal.returns-in-ReadFault-clause-gives
returns-in-ReadFault-clause-gives g c s holds =
    let app = shape_of c.args.app.now.value in
    (fault_leaves app c.args.lines.now.number s LINE_LIMIT (coming c.args.lines.now (g.S.Source.left c.args.input.now)) (g.S.Source.left c.next.new.input) (g.K.Sink.held c.args.out.now) c.in-ReadFault.ensures.gives.1, c.in-ReadFault.ensures.gives.0)

pub returns-in-Memory-clause-gives : goal.returns-in-Memory-clause-gives
returns-in-Memory-clause-gives g c s holds =
    let app = shape_of c.args.app.now.value in
    let held = g.K.Sink.held c.args.out.now in
    (stops_here app c.args.lines.now.number s (coming c.args.lines.now (g.S.Source.left c.args.input.now)) held held refl, tt)

pub returns-in-End-clause-read : goal.returns-in-End-clause-read
returns-in-End-clause-read g c = record {
  later = c.in-End.ensures.faults.later;
  rose = λ is. absurd (closed_unread c.args.session (g.K.Sink.held c.args.out.now) (g.K.Sink.held c.close.new.out) c.close.result c.close.ensures.gives (ends_as c.close.result answer.ReadFault is));
}

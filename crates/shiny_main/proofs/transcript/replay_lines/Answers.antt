use Rattle.std.proofs.Common.{None, ap, sym, refl, subst, arith}
use Rattle.app_tree.specs.View.{shape_of}
use Rattle.shiny_main.specs.declared.transcript.Turn.TheVariants as turn
use Rattle.shiny_main.specs.inner.Lines.{LinesState}
use Rattle.shiny_main.proofs.Replays.{Replaying, rose_since, replaying_first, replaying_more, ends_gives}
use Rattle.shiny_main.proofs.transcript.replay_lines.Goals as goal

pub lines-init : goal.lines-init
lines-init g c =
    let left = g.S.Source.left c.args.input.now in
    let held = g.K.Sink.held c.args.out.now in
    let read = g.S.Source.faults c.args.input.now in
    let wrote = g.K.Sink.faults c.args.out.now in
    let app = shape_of c.args.app.now.value in
    let from : LinesState → Type 0 = λ s. Replaying app None s left left held held read read wrote wrote in
    subst from (sym c.requires.start) (replaying_first app left held read wrote)

pub lines-preserved : goal.lines-preserved
lines-preserved g c =
    let app = shape_of c.args.app.now.value in
    let so_far = c.lines.invariant in
    let next = c.in-Goes.ensures.gives so_far.s so_far.holds in
    replaying_more app so_far.s c.in-Goes.next c.lines.lines c.take_turn.new.lines (g.S.Source.left c.lines.input) (g.S.Source.left c.take_turn.new.input) (g.K.Sink.held c.lines.out) (g.K.Sink.held c.take_turn.new.out) next
    c.lines.session (g.S.Source.left c.args.input.now) (g.K.Sink.held c.args.out.now) (g.S.Source.faults c.args.input.now) (g.S.Source.faults c.lines.input) (g.S.Source.faults c.take_turn.new.input)
    (g.K.Sink.faults c.args.out.now) (g.K.Sink.faults c.lines.out) (g.K.Sink.faults c.take_turn.new.out) so_far refl c.in-Goes.ensures.read.later c.in-Goes.ensures.write.later

pub lines-smaller : goal.lines-smaller
lines-smaller g c =
    let so_far = c.lines.invariant in
    let next = c.in-Goes.ensures.gives so_far.s so_far.holds in
    omega (arith, next.within, next.number)

pub returns-in-Ends-clause-gives : goal.returns-in-Ends-clause-gives
returns-in-Ends-clause-gives g c =
    let app = shape_of c.args.app.now.value in
    let so_far = c.lines.invariant in
    let ended = c.in-Ends.ensures.gives so_far.s so_far.holds in
    ends_gives app c.lines.session c.lines.lines (g.S.Source.left c.args.input.now) (g.S.Source.left c.lines.input) (g.K.Sink.held c.args.out.now) (g.K.Sink.held c.lines.out) (g.K.Sink.held c.take_turn.new.out)
    (g.S.Source.faults c.args.input.now) (g.S.Source.faults c.lines.input) (g.K.Sink.faults c.args.out.now) (g.K.Sink.faults c.lines.out) so_far (g.S.Source.left c.take_turn.new.input) c.in-Ends.end ended.0 ended.1

pub returns-in-Ends-clause-read : goal.returns-in-Ends-clause-read
returns-in-Ends-clause-read g c =
    let so_far = c.lines.invariant in
    let later = c.in-Ends.ensures.read.later in
    record {
      later = omega (arith, so_far.read_later, later);
      rose = λ is. rose_since (g.S.Source.faults c.args.input.now) (g.S.Source.faults c.lines.input) (g.S.Source.faults c.take_turn.new.input) so_far.read_later
          (c.in-Ends.ensures.read.rose (ap turn.Ends is));
    }

pub returns-in-Ends-clause-write : goal.returns-in-Ends-clause-write
returns-in-Ends-clause-write g c =
    let so_far = c.lines.invariant in
    let later = c.in-Ends.ensures.write.later in
    record {
      later = omega (arith, so_far.write_later, later);
      rose = λ is. rose_since (g.K.Sink.faults c.args.out.now) (g.K.Sink.faults c.lines.out) (g.K.Sink.faults c.take_turn.new.out) so_far.write_later
          (c.in-Ends.ensures.write.rose (ap turn.Ends is));
    }

use Rattle.std.proofs.Common.{suc, ◌-◌}
use Rattle.session_model.specs.declared.limits.TheConstants.{TAKEN_LINE_LIMIT}
use Rattle.app_tree.specs.View.{shape_of}
use Rattle.shiny_main.proofs.Replays.{Replaying}
use Rattle.shiny_main.proofs.transcript.replay_lines.Given as goal

abbrev pub invariant-lines : goal.invariant-lines
invariant-lines g l =
    Replaying (shape_of l.app.value) l.session l.lines (g.S.Source.left l.fn.input) (g.S.Source.left l.input) (g.K.Sink.held l.fn.out) (g.K.Sink.held l.out)
    (g.S.Source.faults l.fn.input) (g.S.Source.faults l.input) (g.K.Sink.faults l.fn.out) (g.K.Sink.faults l.out)

abbrev pub decreases-lines : goal.decreases-lines
decreases-lines g l = suc (suc TAKEN_LINE_LIMIT) - l.lines.number

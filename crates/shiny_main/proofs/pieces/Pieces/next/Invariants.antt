use Rattle.std.proofs.Common.{◌+◌, ◌-◌, length}
use Rattle.shiny_main.proofs.PieceSteps.{Coming}
use Rattle.shiny_main.proofs.pieces.Pieces.next.Given as goal

abbrev pub invariant-growing : goal.invariant-growing
invariant-growing g l = Coming l.fn.self l.self l.line (g.S.Source.left l.fn.source) (g.S.Source.left l.source) (g.S.Source.faults l.fn.source) (g.S.Source.faults l.source)

abbrev pub decreases-growing : goal.decreases-growing
decreases-growing g l = l.most + 1 - length l.line

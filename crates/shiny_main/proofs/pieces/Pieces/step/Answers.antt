use Rattle.std.proofs.Common.{◌∙◌, sym}
use Rattle.shiny_main.proofs.PieceSteps.{nil_of_empty, step_grown, step_refilled}
use Rattle.shiny_main.proofs.pieces.Pieces.step.Goals as goal

pub returns-then-not-is_empty-clause-gives : goal.returns-then-not-is_empty-clause-gives
returns-then-not-is_empty-clause-gives g c = step_grown c.args.line.now c.args.self.now c.grow.new.line c.grow.new.self (g.S.Source.left c.args.source.now) c.grow.result c.grow.ensures

pub returns-in-More-clause-gives : goal.returns-in-More-clause-gives
returns-in-More-clause-gives g c =
    step_refilled c.args.line.now c.args.self.now c.refill.new.self c.grow-in-More.new.line c.grow-in-More.new.self (g.S.Source.left c.args.source.now) (g.S.Source.left c.refill.new.source) c.grow-in-More.result
    (nil_of_empty c.args.self.now (sym c.is_empty.ensures ∙ c.if-not-is_empty.false)) c.in-More.ensures.gives.1 c.grow-in-More.ensures

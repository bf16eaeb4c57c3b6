use Rattle.std.proofs.Common.{subst, sym, ◌<◌, ◌≤◌, length, arith}
use Rattle.std.specs.Io.KnownBytes.{prepend_known}
use Rattle.shiny_main.specs.inner.Pieces.{CutGives}
use Rattle.shiny_main.proofs.PieceSteps.{next_found, next_at_end, next_too_long, next_failed}
use Rattle.shiny_main.proofs.pieces.Pieces.next.Goals as goal

pub returns-in-Found-clause-gives : goal.returns-in-Found-clause-gives
returns-in-Found-clause-gives g c =
    next_found c.args.most c.args.self.now c.growing.self c.growing.line c.step.new.line c.step.new.self (g.S.Source.left c.args.source.now) (g.S.Source.left c.growing.source) (g.S.Source.left c.step.new.source)
    c.growing.invariant.same c.in-Found.ensures.gives

pub returns-in-End-clause-gives : goal.returns-in-End-clause-gives
returns-in-End-clause-gives g c =
    subst (CutGives c.args.most (prepend_known c.args.self.now (g.S.Source.left c.args.source.now)) c.step.new.self (g.S.Source.left c.step.new.source)) (sym c.last_line.ensures)
    (next_at_end c.args.most c.args.self.now c.growing.self c.growing.line c.step.new.line c.step.new.self (g.S.Source.left c.args.source.now) (g.S.Source.left c.growing.source) (g.S.Source.left c.step.new.source)
    c.growing.invariant.same c.in-End.ensures.gives)

pub returns-in-Failed-clause-gives : goal.returns-in-Failed-clause-gives
returns-in-Failed-clause-gives g c =
    let few : length c.growing.line ≤ c.args.most = omega (arith, c.len.ensures, c.growing-test.true) in
    next_failed c.args.most c.args.self.now c.growing.self c.growing.line c.step.new.line c.step.new.self (g.S.Source.left c.args.source.now) (g.S.Source.left c.growing.source) (g.S.Source.left c.step.new.source)
    c.growing.invariant.no_feed few c.growing.invariant.same c.in-Failed.ensures.gives

pub returns-clause-gives : goal.returns-clause-gives
returns-clause-gives g c =
    let long : c.args.most < length c.growing.line = omega (arith, c.len.ensures, c.growing-test.false) in
    next_too_long c.args.most c.args.self.now c.growing.self c.growing.line (g.S.Source.left c.args.source.now) (g.S.Source.left c.growing.source) c.growing.invariant.no_feed long c.growing.invariant.same

use Rattle.std.proofs.Common.{subst, Bool}
use Rattle.shiny_main.specs.inner.Pieces.{Moves}
use Rattle.shiny_main.proofs.PieceSteps.{grows_to_feed, grows_by_all}
use Rattle.shiny_main.proofs.pieces.Pieces.grow.Goals as goal

pub returns-in-Ok-true : goal.returns-in-Ok-true
returns-in-Ok-true c =
    let moves : Bool → Type 0 = λ b. Moves b c.args.self.now c.move_line.new.self c.args.line.now c.move_line.new.line in
    grows_to_feed c.args.line.now c.args.self.now c.move_line.new.line c.move_line.new.self (subst moves c.in-Ok-true.field-0-test c.in-Ok-true.ensures) c.requires.no_feed

pub returns-in-Ok-false : goal.returns-in-Ok-false
returns-in-Ok-false c =
    let moves : Bool → Type 0 = λ b. Moves b c.args.self.now c.move_line.new.self c.args.line.now c.move_line.new.line in
    grows_by_all c.args.line.now c.args.self.now c.move_line.new.line c.move_line.new.self (subst moves c.in-Ok-false.field-0-test c.in-Ok-false.ensures) c.requires.some c.requires.no_feed

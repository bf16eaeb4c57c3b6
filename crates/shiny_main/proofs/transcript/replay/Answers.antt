use Rattle.std.proofs.Common.{[], refl}
use Rattle.app_tree.specs.View.{shape_of}
use Rattle.shiny_main.proofs.Turns.{stops_here}
use Rattle.shiny_main.proofs.transcript.replay.Goals as goal

pub returns-in-Err-clause-gives : goal.returns-in-Err-clause-gives
returns-in-Err-clause-gives g c =
    let held = g.K.Sink.held c.args.out.now in
    stops_here (shape_of c.args.app.now.value) 1 [] (g.S.Source.left c.args.input.now) held held refl

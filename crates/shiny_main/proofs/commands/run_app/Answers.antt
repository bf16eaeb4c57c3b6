use Rattle.std.proofs.Common.{refl}
use Rattle.app_check.specs.Load.{loaded}
use Rattle.shiny_main.proofs.Ending.{untouched_app}
use Rattle.shiny_main.proofs.commands.run_app.Goals as goal

pub returns-in-Err-Memory-clause-gives : goal.returns-in-Err-Memory-clause-gives
returns-in-Err-Memory-clause-gives g c =
    let left = g.S.Source.left c.args.input.now in
    let held = g.K.Sink.held c.args.out.now in
    untouched_app c.args.command (loaded c.args.bytes.now) (record { left = left; left_after = left; held = held; held_after = held }) (record { read = refl; written = refl })

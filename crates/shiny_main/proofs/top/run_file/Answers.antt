use Rattle.std.proofs.Common.{subst, List, ℕ}
use Rattle.app_check.specs.Load.{loaded}
use Rattle.shiny_main.specs.Ports.{Ports}
use Rattle.shiny_main.specs.Commands.{AppGives}
use Rattle.shiny_main.proofs.Ending.{is_read, found_gives, app_no_file_fault}
use Rattle.shiny_main.proofs.top.run_file.Goals as goal

pub returns-in-Found-clause-gives : goal.returns-in-Found-clause-gives
returns-in-Found-clause-gives g c =
    let files = g.F.Files.told c.args.files.now in
    let p : Ports = record { left = g.S.Source.left c.args.input.now; left_after = g.S.Source.left c.run_app.new.input; held = g.K.Sink.held c.args.out.now; held_after = g.K.Sink.held c.run_app.new.out } in
    let of_bytes : List ℕ → Type 0 = λ b. AppGives c.args.command (loaded b) p c.run_app.result in
    found_gives c.args.command c.args.file.now c.in-Found.bytes files p c.run_app.result (is_read files c.args.file.now c.in-Found.bytes c.in-Found.ensures.gives) (subst of_bytes c.as_slice.ensures c.run_app.ensures.gives)

pub returns-in-Found-clause-file : goal.returns-in-Found-clause-file
returns-in-Found-clause-file g c =
    let p : Ports = record { left = g.S.Source.left c.args.input.now; left_after = g.S.Source.left c.run_app.new.input; held = g.K.Sink.held c.args.out.now; held_after = g.K.Sink.held c.run_app.new.out } in
    record {
      later = c.read.ensures.later;
      rose = λ is. absurd (app_no_file_fault c.args.command (loaded c.as_slice.result.now) p c.run_app.result c.run_app.ensures.gives is);
    }

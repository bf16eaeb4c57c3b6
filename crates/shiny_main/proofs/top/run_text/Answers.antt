use Rattle.std.proofs.Common.{inl, inr}
use Rattle.shiny_main.specs.Ports.{Ports}
use Rattle.shiny_main.proofs.Complete.{completes}
use Rattle.shiny_main.proofs.top.run_text.Goals as goal

pub returns-clause-complete : goal.returns-clause-complete
returns-clause-complete g c taken no_file no_read no_write no_note =
    let files = g.F.Files.told c.args.files.now in
    let p : Ports = record { left = g.S.Source.left c.args.input.now; left_after = g.S.Source.left c.run_and_tell.new.input; held = g.K.Sink.held c.args.out.now; held_after = g.K.Sink.held c.run_and_tell.new.out } in
    completes c.args.words.now files p (g.N.Sink.held c.args.note.now) (g.N.Sink.held c.run_and_tell.new.note) c.run_and_tell.result c.run_and_tell.ensures.gives taken
    (λ is. no_file (c.run_and_tell.ensures.file.rose is)) (λ is. no_read (c.run_and_tell.ensures.read.rose is))
    (λ is. elim (c.run_and_tell.ensures.write is) [ inl rose ↦ no_write rose | inr rose ↦ no_note rose ])

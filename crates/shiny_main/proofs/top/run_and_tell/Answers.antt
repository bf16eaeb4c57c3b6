use Rattle.std.proofs.Common.{subst, List, ℕ, inl, inr}
use Rattle.shiny_main.specs.Notes.{Tells}
use Rattle.shiny_main.specs.Ports.{Ports}
use Rattle.shiny_main.proofs.Telling.{run_gives, ends_by_file, ends_by_read}
use Rattle.shiny_main.proofs.top.run_and_tell.Goals as goal

pub returns-clause-gives : goal.returns-clause-gives
returns-clause-gives g c =
    let files = g.F.Files.told c.args.files.now in
    let p : Ports = record { left = g.S.Source.left c.args.input.now; left_after = g.S.Source.left c.run_words-ended.new.input; held = g.K.Sink.held c.args.out.now; held_after = g.K.Sink.held c.run_words-ended.new.out } in
    let note = g.N.Sink.held c.args.note.now in
    let note_after = g.N.Sink.held c.tell.new.note in
    let on_file : List ℕ → Type 0 = λ file. Tells file c.run_words-ended.result note note_after c.tell.result in
    run_gives c.args.words.now files p c.run_words-ended.result note note_after c.tell.result c.run_words-ended.ensures.gives (subst on_file c.file_of.ensures c.tell.ensures.gives)

pub returns-clause-file : goal.returns-clause-file
returns-clause-file g c =
    let tells = c.tell.ensures.gives in
    record {
      later = c.run_words-ended.ensures.file.later;
      rose = λ is. c.run_words-ended.ensures.file.rose (ends_by_file c.file_of.result.now c.run_words-ended.result (g.N.Sink.held c.args.note.now) (g.N.Sink.held c.tell.new.note) c.tell.result tells is);
    }

pub returns-clause-read : goal.returns-clause-read
returns-clause-read g c =
    let tells = c.tell.ensures.gives in
    record {
      later = c.run_words-ended.ensures.read.later;
      rose = λ is. c.run_words-ended.ensures.read.rose (ends_by_read c.file_of.result.now c.run_words-ended.result (g.N.Sink.held c.args.note.now) (g.N.Sink.held c.tell.new.note) c.tell.result tells is);
    }

pub returns-clause-write : goal.returns-clause-write
returns-clause-write g c is = elim (c.tell.ensures.failed is) [ inl ended ↦ inl (c.run_words-ended.ensures.write.rose ended) | inr rose ↦ inr rose ]

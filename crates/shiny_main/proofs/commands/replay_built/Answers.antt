use Rattle.std.proofs.Common.{rules, ◌≡◌, ◌∙◌, [], sym, subst}
use Rattle.app_tree.specs.View.{shape_of}
use Rattle.shiny_main.specs.Ends.{ended_by}
use Rattle.shiny_main.specs.inner.Replaying.{ReplayGives as LinesGive}
use Rattle.shiny_main.specs.Ports.{Ports}
use Rattle.shiny_main.specs.Commands.{ReplayedGives}
use Rattle.shiny_main.proofs.Ending.{replayed_gives, ended_by_read, ended_by_write}
use Rattle.shiny_main.proofs.commands.replay_built.Goals as goal

pub returns-in-Ok-clause-gives : goal.returns-in-Ok-clause-gives
returns-in-Ok-clause-gives g c =
    let p : Ports = record { left = g.S.Source.left c.args.input.now; left_after = g.S.Source.left c.replay.new.input; held = g.K.Sink.held c.args.out.now; held_after = g.K.Sink.held c.replay.new.out } in
    let gives : LinesGive (shape_of c.args.app) 1 [] p.left p.left_after p.held p.held_after c.replay.result = search rules in
    let is : c.ended_by.result ≡ ended_by c.replay.result = search rules in
    subst (ReplayedGives (shape_of c.args.app) p) (sym is) (replayed_gives (shape_of c.args.app) p c.replay.result gives)

pub returns-in-Ok-clause-read : goal.returns-in-Ok-clause-read
returns-in-Ok-clause-read g c =
    let is : c.ended_by.result ≡ ended_by c.replay.result = search rules in
    record { later = c.replay.ensures.read.later; rose = λ fault. c.replay.ensures.read.rose (ended_by_read c.replay.result (sym is ∙ fault)) }

pub returns-in-Ok-clause-write : goal.returns-in-Ok-clause-write
returns-in-Ok-clause-write g c =
    let is : c.ended_by.result ≡ ended_by c.replay.result = search rules in
    record { later = c.replay.ensures.write.later; rose = λ fault. c.replay.ensures.write.rose (ended_by_write c.replay.result (sym is ∙ fault)) }

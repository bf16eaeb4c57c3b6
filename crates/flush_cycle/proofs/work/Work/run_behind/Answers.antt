use Rattle.std.proofs.Common.{sym, ◌∙◌}
use Rattle.app_tree.specs.View.{acts_of_block}
use Rattle.app_tree.specs.ObserverTerms.{terms_in_acts}
use Rattle.flush_cycle.proofs.ActsBehind.{acts_left_out}
use Rattle.flush_cycle.proofs.work.Work.run_behind.Goals as goal

pub returns-then-leaves_out : goal.returns-then-leaves_out
returns-then-leaves_out g c =
    acts_left_out g.A.Asker.follows g.A.Asker.out c.args.number (terms_in_acts (acts_of_block c.args.block.now)) c.args.behind.flags c.args.behind.first
    (acts_of_block c.args.block.now) c.args.value.now c.args.self.now c.args.asker.now c.args.steps.now (sym c.leaves_out.ensures ∙ c.if-leaves_out.true)
    c.requires.act (g.met.A.Asker.stays c.args.asker.now) c.requires.ask.none_out

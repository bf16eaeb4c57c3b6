use Rattle.rx_value.specs.declared.source.SourceValue.TheVariants.{Plain}
use Rattle.session_model.specs.Change.{change}
use Rattle.flush_cycle.proofs.Composing.{does_moved}
use Rattle.flush_cycle.proofs.work.Work.put.Goals as goal

pub returns : goal.returns
returns c = does_moved (change c.args.source (Plain c.args.value)) c.args.self.now c.write.new.self c.write.ensures

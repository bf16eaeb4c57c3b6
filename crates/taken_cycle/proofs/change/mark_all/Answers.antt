use Rattle.taken_cycle.proofs.Replaced.{replaced_more}
use Rattle.taken_cycle.proofs.change.mark_all.Goals as goal

pub loop-reader-preserved : goal.loop-reader-preserved
loop-reader-preserved c = replaced_more _ _ _ _ _ _ c.loop-reader.invariant c.loop-reader-test.true c.mark.ensures

use Rattle.app_check.specs.inner.Spots.{spot_of}
use Rattle.app_check.proofs.Walked.{writes_step}
use Rattle.app_check.proofs.statement_faults.writes.Goals as goal

pub writes-preserved : goal.writes-preserved
writes-preserved c = writes_step c.writes.best c.write-best.result (spot_of c.args.spot.now) c.args.written.now c.writes.inner-index c.inner-item.result _ c.writes-test.true c.inner-item.is c.write-best.ensures c.writes.invariant

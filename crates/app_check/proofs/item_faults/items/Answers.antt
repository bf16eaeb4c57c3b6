use Rattle.app_check.proofs.Walked.{items_step}
use Rattle.app_check.proofs.item_faults.items.Goals as goal

pub loop-place-preserved : goal.loop-place-preserved
loop-place-preserved c = items_step c.loop-place.best c.in-Ok.found c.args.table.now c.args.written.now c.loop-place.place c.index-written-place.result _ c.loop-place-test.true c.index-written-place.is c.in-Ok.ensures c.loop-place.invariant

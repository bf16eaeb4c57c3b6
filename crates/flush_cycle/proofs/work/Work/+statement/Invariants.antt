use Rattle.std.proofs.Common.{suc, ◌+◌, drop}
use Rattle.app_tree.specs.View.{act_of, acts_of_block}
use Rattle.flush_cycle.proofs.RunBlocks.{BlockLeft}
use Rattle.flush_cycle.proofs.Weights.{act_weight, acts_weight}
use Rattle.flush_cycle.proofs.work.Work.+statement.Given as goal

abbrev pub decreases-branch : goal.decreases-branch
decreases-branch g l = suc (acts_weight (acts_of_block l.block.now) + acts_weight (acts_of_block l.other.now))

abbrev pub decreases-run_statement : goal.decreases-run_statement
decreases-run_statement g l = act_weight (act_of l.statement.now)

abbrev pub decreases-run_block : goal.decreases-run_block
decreases-run_block g l = acts_weight (acts_of_block l.block.now)

abbrev pub invariant-run_block-loop-statement : goal.invariant-run_block-loop-statement
invariant-run_block-loop-statement g l =
    BlockLeft g.A.Asker.follows g.A.Asker.out g.A.Asker.app l.observer.number l.observer.isolated
    (acts_of_block l.block) (acts_of_block (drop l.statement-index l.block))
    l.fn.self l.self l.fn.asker l.asker l.fn.steps l.steps

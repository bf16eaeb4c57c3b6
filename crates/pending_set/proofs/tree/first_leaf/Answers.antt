use Rattle.std.proofs.Common.{arith}
use Rattle.pending_set.proofs.Nodes.{pow-lower, IsFirst-lower}
use Rattle.pending_set.proofs.tree.first_leaf.Goals as goal

pub lower-node-requires : goal.lower-node-requires
lower-node-requires c = omega (arith, c.requires.long, c.loop-level.invariant.1.to, pow-lower c.loop-level.level c.args.height (omega arith))

pub loop-level-preserved : goal.loop-level-preserved
loop-level-preserved c =
    (omega arith, IsFirst-lower c.args.nodes.now c.args.height c.loop-level.level c.loop-level.node c.lower-node.result c.requires.tree (omega arith) c.loop-level.invariant.1 c.lower-node.ensures)

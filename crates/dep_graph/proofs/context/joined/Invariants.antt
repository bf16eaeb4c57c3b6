use Rattle.std.proofs.Common.{◌≡◌, drop}
use Rattle.app_tree.specs.Fresh.{union}
use Rattle.dep_graph.proofs.context.joined.Given as goal

abbrev pub invariant-loop-source : goal.invariant-loop-source
invariant-loop-source l = union l.all.items (drop l.source-index l.more) ≡ union l.sources l.more

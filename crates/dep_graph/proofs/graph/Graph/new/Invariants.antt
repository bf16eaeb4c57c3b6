use Rattle.std.proofs.Common.{◌≡◌}
use Rattle.std.proofs.Math.ListN.{replicate}
use Rattle.dep_graph.specs.Contexts.{idle_context}
use Rattle.dep_graph.proofs.graph.Graph.new.Given as goal

abbrev pub invariant-loop-reader : goal.invariant-loop-reader
invariant-loop-reader l = l.contexts.items ≡ replicate l._reader idle_context

use Rattle.std.proofs.Common.{drop}
use Rattle.dep_graph.specs.SameGraph.{IsSameGraph}
use Rattle.react_session.specs.inner.Storing.{after_depends, StillRuns}
use Rattle.react_session.proofs.storing.depend_on_all.Given as goal

abbrev pub invariant-loop-on : goal.invariant-loop-on
invariant-loop-on l = record {
  runs : StillRuns l.n l.fn.graph l.graph;
  rest : IsSameGraph (after_depends l.n (drop l.on-index l.reached) l.graph) (after_depends l.n l.reached l.fn.graph);
}

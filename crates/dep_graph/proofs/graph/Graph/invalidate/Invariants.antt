use Rattle.std.proofs.Common.{◌≡◌, ◌≤◌, ◌++◌, length, take, drop, map}
use Rattle.dep_graph.specs.Contexts.{changed_context, marked_from}
use Rattle.dep_graph.proofs.graph.Graph.invalidate.Given as goal

abbrev pub invariant-loop-r : goal.invariant-loop-r
invariant-loop-r l = record {
  contexts : l.self-inside.contexts.items ≡ map (changed_context l.s) (take l.r l.fn.self.readers) ++ drop l.r l.fn.self.readers;
  sources : l.self-inside.sources ≡ l.fn.self.sources;
  marked : l.out.list ++ marked_from l.s l.r (drop l.r l.fn.self.readers) ≡ marked_from l.s 0 l.fn.self.readers;
  few : length l.out.list ≤ l.r;
  room : l.fn.out.room ≤ l.out.room;
  fits : length l.self-inside.contexts.items ≡ length l.fn.self.readers;
  inside : length l.fn.self.readers ≤ l.fn.out.room;
}

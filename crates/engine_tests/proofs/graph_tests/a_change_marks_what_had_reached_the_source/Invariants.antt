use Rattle.std.proofs.Common.{◌≡◌, ◌≤◌, length}
use Rattle.engine_tests.proofs.graph_tests.a_change_marks_what_had_reached_the_source.Given as goal

abbrev pub invariant-loop-next : goal.invariant-loop-next
invariant-loop-next g l = (length l.graph.readers ≡ 4) × (l.graph.sources ≡ 3) × (4 ≤ l.marked.room)

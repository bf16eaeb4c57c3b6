use Rattle.std.proofs.Common.{◌≡◌, ◌++◌, drop}
use Rattle.flush_cycle.specs.Reports.{in_progress_from}
use Rattle.flush_cycle.proofs.work.Work.in_progress.Given as goal

abbrev pub invariant-loop-n : goal.invariant-loop-n
invariant-loop-n l = l.numbers ++ in_progress_from l.n l.ran (drop l.n l.self.kept.outputs) ≡ in_progress_from 0 l.ran l.self.kept.outputs

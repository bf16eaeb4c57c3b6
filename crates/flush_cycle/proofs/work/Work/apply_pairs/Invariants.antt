use Rattle.std.proofs.Common.{take}
use Rattle.app_tree.specs.View.{shape_of}
use Rattle.session_model.specs.Apply.{apply_pairs}
use Rattle.flush_cycle.specs.inner.Acting.{Moved}
use Rattle.flush_cycle.proofs.work.Work.apply_pairs.Given as goal

abbrev pub invariant-loop-pair : goal.invariant-loop-pair
invariant-loop-pair l = Moved (apply_pairs (shape_of l.initial.self.app) (take l.pair-index l.pairs)) l.initial.self l.self

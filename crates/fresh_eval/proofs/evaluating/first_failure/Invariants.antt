use Rattle.std.proofs.Common.{◌≡◌, drop}
use Rattle.app_tree.specs.View.{trees_of_terms}
use Rattle.fresh_eval.specs.inner.Answering.{answers_by}
use Rattle.fresh_eval.specs.inner.Failing.{first_failure}
use Rattle.fresh_eval.proofs.evaluating.first_failure.Given as goal

abbrev pub invariant-loop-key : goal.invariant-loop-key
invariant-loop-key l =
    first_failure (trees_of_terms (drop l.key-index l.keys)) (answers_by l.reading.sources.now l.reading.known.now l.reading.ignored)
    ≡ first_failure (trees_of_terms l.keys) (answers_by l.reading.sources.now l.reading.known.now l.reading.ignored)

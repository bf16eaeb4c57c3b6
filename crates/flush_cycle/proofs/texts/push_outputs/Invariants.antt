use Rattle.std.proofs.Common.{◌≡◌, ◌++◌, drop}
use Rattle.flush_cycle.specs.inner.Passing.{outputs_texts}
use Rattle.flush_cycle.proofs.texts.push_outputs.Given as goal

abbrev pub invariant-loop-output : goal.invariant-loop-output
invariant-loop-output l = l.texts ++ outputs_texts (drop l.output-index l.outputs) ≡ l.initial.texts ++ outputs_texts l.outputs

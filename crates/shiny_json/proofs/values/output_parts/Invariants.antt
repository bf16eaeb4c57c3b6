use Rattle.std.proofs.Common.{◌≡◌, drop}
use Rattle.shiny_json.specs.inner.Held.{parts_of}
use Rattle.shiny_json.specs.Values.{no_parts, with_outputs}
use Rattle.shiny_json.proofs.values.output_parts.Given as goal

-- what the outputs to come make of the parts is the answer
abbrev pub invariant-loop-output : goal.invariant-loop-output
invariant-loop-output l =
    with_outputs (drop l.output-index l.outputs) (parts_of l.parts) ≡ with_outputs l.outputs no_parts

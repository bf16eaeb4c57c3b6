-- How a context of the code is seen.
use Rattle.std.specs.Prelude.{ℕ, List}
use Rattle.dep_graph.specs.declared.phase.Phase.{Phase}
use Rattle.dep_graph.specs.declared.phase.Phase.TheVariants as p
use Rattle.dep_graph.specs.Contexts.{Stage, idle, alive, running, overtaken}

-- the list says nothing of a reader that is idle or overtaken
abbrev pub stage_of : Phase → List ℕ → Stage
stage_of p.Idle sources = idle
stage_of p.Alive sources = alive sources
stage_of p.Running sources = running sources
stage_of p.Overtaken sources = overtaken

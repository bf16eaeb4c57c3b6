-- Nothing that a task's body asks is wanted.
use Rattle.std.proofs.Common.{◌≡◌, List, [], ◌∷◌, None, refl}
use Rattle.app_tree.specs.Evaluate.{TraceEntry, reads, given, enters, leaves}
use Rattle.app_tree.specs.Wanted.{first_wanted}
use Rattle.task_jobs.specs.inner.NoAnswers.{no_answers}

pub nothing_wanted : (asked : List TraceEntry) → first_wanted no_answers asked ≡ None
nothing_wanted [] = refl
nothing_wanted (reads r ∷ more) = nothing_wanted more
nothing_wanted (given site ∷ more) = nothing_wanted more
nothing_wanted (enters site ∷ more) = nothing_wanted more
nothing_wanted (leaves site outcome ∷ more) = nothing_wanted more

use Rattle.session_steps.proofs.Determined.{runs_are_determined}
use Rattle.session_steps.proofs.examples.determined_laws.Goals as goal

pub returns : goal.returns
returns c = runs_are_determined

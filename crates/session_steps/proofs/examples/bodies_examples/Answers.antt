use Rattle.session_steps.proofs.Determined.{two_outputs_run_three}
use Rattle.session_steps.proofs.examples.bodies_examples.Goals as goal

pub returns : goal.returns
returns c = two_outputs_run_three

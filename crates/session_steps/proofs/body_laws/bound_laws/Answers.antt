use Rattle.session_steps.proofs.CountedLaws.{force_is_bounded, output_is_bounded, term_is_bounded}
use Rattle.session_steps.proofs.body_laws.bound_laws.Goals as goal

pub returns-clause-force : goal.returns-clause-force
returns-clause-force c = force_is_bounded

pub returns-clause-output : goal.returns-clause-output
returns-clause-output c = output_is_bounded

pub returns-clause-term : goal.returns-clause-term
returns-clause-term c = term_is_bounded

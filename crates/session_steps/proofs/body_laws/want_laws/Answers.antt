use Rattle.session_steps.proofs.CountedLaws.{force_begins_bounded, output_begins_bounded, term_begins_bounded}
use Rattle.session_steps.proofs.body_laws.want_laws.Goals as goal

pub returns-clause-force : goal.returns-clause-force
returns-clause-force c = force_begins_bounded

pub returns-clause-output : goal.returns-clause-output
returns-clause-output c = output_begins_bounded

pub returns-clause-term : goal.returns-clause-term
returns-clause-term c = term_begins_bounded

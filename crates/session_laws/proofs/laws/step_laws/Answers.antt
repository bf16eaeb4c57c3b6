use Rattle.session_laws.proofs.StepLaws.{first_is_consistent, visit_keeps_consistent, output_keeps_consistent, begin_keeps_consistent, term_keeps_consistent, write_keeps_consistent}
use Rattle.session_laws.proofs.laws.step_laws.Goals as goal

pub returns-clause-first : goal.returns-clause-first
returns-clause-first c = first_is_consistent

pub returns-clause-visit : goal.returns-clause-visit
returns-clause-visit c = visit_keeps_consistent

pub returns-clause-output : goal.returns-clause-output
returns-clause-output c = output_keeps_consistent

pub returns-clause-begin : goal.returns-clause-begin
returns-clause-begin c = begin_keeps_consistent

pub returns-clause-term : goal.returns-clause-term
returns-clause-term c = term_keeps_consistent

pub returns-clause-write : goal.returns-clause-write
returns-clause-write c = write_keeps_consistent

use Rattle.session_laws.proofs.RunLaws.{run_is_by_trace, expression_is_by_trace, term_is_by_trace, run_leaves_now}
use Rattle.session_laws.proofs.laws.run_laws.Goals as goal

pub returns-clause-output : goal.returns-clause-output
returns-clause-output c = run_is_by_trace

pub returns-clause-expression : goal.returns-clause-expression
returns-clause-expression c = expression_is_by_trace

pub returns-clause-term : goal.returns-clause-term
returns-clause-term c = term_is_by_trace

pub returns-clause-now : goal.returns-clause-now
returns-clause-now c = run_leaves_now

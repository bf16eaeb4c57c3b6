use Rattle.session_steps.proofs.BodiesOnce.{each_runs_once, no_more_than_readers}
use Rattle.session_steps.proofs.BodiesTerms.{term_runs_no_more}
use Rattle.session_steps.proofs.body_laws.once_laws.Goals as goal

pub returns-clause-once : goal.returns-clause-once
returns-clause-once c = each_runs_once

pub returns-clause-readers : goal.returns-clause-readers
returns-clause-readers c = no_more_than_readers

pub returns-clause-term : goal.returns-clause-term
returns-clause-term c = term_runs_no_more

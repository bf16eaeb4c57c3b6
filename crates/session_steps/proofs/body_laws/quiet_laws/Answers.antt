use Rattle.session_steps.proofs.CountedActs.{finish_is_bounded, begin_is_bounded, write_is_bounded}
use Rattle.session_steps.proofs.body_laws.quiet_laws.Goals as goal

pub returns-clause-write : goal.returns-clause-write
returns-clause-write c = write_is_bounded

pub returns-clause-begin : goal.returns-clause-begin
returns-clause-begin c = begin_is_bounded

pub returns-clause-finish : goal.returns-clause-finish
returns-clause-finish c = finish_is_bounded

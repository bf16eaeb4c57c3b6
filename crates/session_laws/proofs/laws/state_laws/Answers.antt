use Rattle.session_laws.proofs.RightLaws.{first_is_right, change_keeps_right, run_keeps_right, flush_keeps_right, journal_is_right}
use Rattle.session_laws.proofs.laws.state_laws.Goals as goal

pub returns-clause-first : goal.returns-clause-first
returns-clause-first c = first_is_right

pub returns-clause-change : goal.returns-clause-change
returns-clause-change c = change_keeps_right

pub returns-clause-run : goal.returns-clause-run
returns-clause-run c = run_keeps_right

pub returns-clause-flush : goal.returns-clause-flush
returns-clause-flush c = flush_keeps_right

pub returns-clause-journal : goal.returns-clause-journal
returns-clause-journal c = journal_is_right

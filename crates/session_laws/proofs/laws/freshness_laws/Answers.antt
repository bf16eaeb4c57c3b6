use Rattle.session_laws.proofs.RunLaws.{alive_is_fresh, depends_on_reads_alone}
use Rattle.session_laws.proofs.RightLaws.{wanted_is_fresh, shown_is_fresh}
use Rattle.session_laws.proofs.laws.freshness_laws.Goals as goal

pub returns-clause-alive : goal.returns-clause-alive
returns-clause-alive c = alive_is_fresh

pub returns-clause-reads : goal.returns-clause-reads
returns-clause-reads c = depends_on_reads_alone

pub returns-clause-wanted : goal.returns-clause-wanted
returns-clause-wanted c = wanted_is_fresh

pub returns-clause-shown : goal.returns-clause-shown
returns-clause-shown c = shown_is_fresh

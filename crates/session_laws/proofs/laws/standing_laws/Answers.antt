use Rattle.session_laws.proofs.StandingLaws.{journal_is_consistent, first_stands, keeping_all_stands, keeping_wholly_stands, none_is_missing}
use Rattle.session_laws.proofs.laws.standing_laws.Goals as goal

pub returns-clause-consistent : goal.returns-clause-consistent
returns-clause-consistent c = journal_is_consistent

pub returns-clause-first : goal.returns-clause-first
returns-clause-first c = first_stands

pub returns-clause-stands : goal.returns-clause-stands
returns-clause-stands c = keeping_all_stands

pub returns-clause-wholly : goal.returns-clause-wholly
returns-clause-wholly c = keeping_wholly_stands

pub returns-clause-missing : goal.returns-clause-missing
returns-clause-missing c = none_is_missing

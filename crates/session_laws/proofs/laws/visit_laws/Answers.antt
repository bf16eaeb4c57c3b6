use Rattle.session_laws.proofs.VisitLaws.{visit_leaves_each, visit_leaves_rest, visit_is_least, visit_absorbs, visit_absorbs_asked}
use Rattle.session_laws.proofs.laws.visit_laws.Goals as goal

pub returns-clause-each : goal.returns-clause-each
returns-clause-each c = visit_leaves_each

pub returns-clause-rest : goal.returns-clause-rest
returns-clause-rest c = visit_leaves_rest

pub returns-clause-least : goal.returns-clause-least
returns-clause-least c = visit_is_least

pub returns-clause-absorbs : goal.returns-clause-absorbs
returns-clause-absorbs c = visit_absorbs

pub returns-clause-asked : goal.returns-clause-asked
returns-clause-asked c = visit_absorbs_asked

use Rattle.session_steps.proofs.Alike.{alike_stands, finish_stands}
use Rattle.session_steps.proofs.Forced.{force_stands}
use Rattle.session_steps.proofs.Outputs.{output_stands}
use Rattle.session_steps.proofs.KeyedBodies.{body_is_keyed}
use Rattle.session_steps.proofs.Observers.{begin_stands}
use Rattle.session_steps.proofs.Terms.{term_stands}
use Rattle.session_steps.proofs.Written.{write_stands}
use Rattle.session_steps.proofs.laws.stand_laws.Goals as goal

pub returns-clause-alike : goal.returns-clause-alike
returns-clause-alike c = alike_stands

pub returns-clause-force : goal.returns-clause-force
returns-clause-force c = force_stands

pub returns-clause-output : goal.returns-clause-output
returns-clause-output c = output_stands

pub returns-clause-body : goal.returns-clause-body
returns-clause-body c = body_is_keyed

pub returns-clause-begin : goal.returns-clause-begin
returns-clause-begin c = begin_stands

pub returns-clause-finish : goal.returns-clause-finish
returns-clause-finish c = finish_stands

pub returns-clause-term : goal.returns-clause-term
returns-clause-term c = term_stands

pub returns-clause-write : goal.returns-clause-write
returns-clause-write c = write_stands

use Rattle.app_laws.proofs.Keyed.{covered_body_is_keyed, equal_keys_give_equal}
use Rattle.app_laws.proofs.laws.cover_laws.Goals as goal

pub returns-clause-keyed : goal.returns-clause-keyed
returns-clause-keyed c = covered_body_is_keyed

pub returns-clause-equal : goal.returns-clause-equal
returns-clause-equal c = equal_keys_give_equal

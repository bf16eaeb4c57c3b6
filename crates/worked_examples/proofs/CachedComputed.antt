-- Cached readers, each case by computing.
use Rattle.std.proofs.Common.{refl}
use Rattle.worked_examples.specs.CachedCases.{SharedKey, SharedFailure, SecondKeyThatFails}
use Rattle.worked_examples.proofs.OnLiterals.{files_on_literals}

pub shared_key : SharedKey
unfolding files_on_literals
shared_key = refl

pub shared_failure : SharedFailure
unfolding files_on_literals
shared_failure = refl

pub second_key_that_fails : SecondKeyThatFails
unfolding files_on_literals
second_key_that_fails = refl

-- Observers, each case by computing.
use Rattle.std.proofs.Common.{refl}
use Rattle.worked_examples.specs.ObserverCases.{WriteInFlush, EndlessFlush, TwoObserversSpendTheBudget, WriteBeforeRead, FailingObserver, InputMessage, FrozenInput, MarkedThroughAnExpression}
use Rattle.worked_examples.proofs.OnLiterals.{files_on_literals}

pub write_in_flush : WriteInFlush
unfolding files_on_literals
write_in_flush = refl

pub endless_flush : EndlessFlush
unfolding files_on_literals
endless_flush = refl

pub two_observers_spend_the_budget : TwoObserversSpendTheBudget
unfolding files_on_literals
two_observers_spend_the_budget = refl

pub write_before_read : WriteBeforeRead
unfolding files_on_literals
write_before_read = refl

pub failing_observer : FailingObserver
unfolding files_on_literals
failing_observer = refl

pub input_message : InputMessage
unfolding files_on_literals
input_message = refl

pub frozen_input : FrozenInput
unfolding files_on_literals
frozen_input = refl

pub marked_through_an_expression : MarkedThroughAnExpression
unfolding files_on_literals
marked_through_an_expression = refl

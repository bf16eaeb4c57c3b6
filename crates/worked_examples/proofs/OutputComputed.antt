-- Outputs, each case by computing.
use Rattle.std.proofs.Common.{refl}
use Rattle.worked_examples.specs.OutputCases.{ChangedInput, EqualInput, EmptyApp, TakenBranch, SharedExpression, IsolatedRead, RequiredValues, FailuresAreKept, HiddenOutput, OutputThatRunsWhileHidden, EventThatIsNullAtFirst, CancelAfterAValue}
use Rattle.worked_examples.proofs.OnLiterals.{files_on_literals}

pub changed_input : ChangedInput
unfolding files_on_literals
changed_input = refl

pub equal_input : EqualInput
unfolding files_on_literals
equal_input = refl

pub empty_app : EmptyApp
unfolding files_on_literals
empty_app = refl

pub taken_branch : TakenBranch
unfolding files_on_literals
taken_branch = refl

pub shared_expression : SharedExpression
unfolding files_on_literals
shared_expression = refl

pub isolated_read : IsolatedRead
unfolding files_on_literals
isolated_read = refl

pub required_values : RequiredValues
unfolding files_on_literals
required_values = refl

pub failures_are_kept : FailuresAreKept
unfolding files_on_literals
failures_are_kept = refl

pub hidden_output : HiddenOutput
unfolding files_on_literals
hidden_output = refl

pub output_that_runs_while_hidden : OutputThatRunsWhileHidden
unfolding files_on_literals
output_that_runs_while_hidden = refl

pub event_that_is_null_at_first : EventThatIsNullAtFirst
unfolding files_on_literals
event_that_is_null_at_first = refl

pub cancel_after_a_value : CancelAfterAValue
unfolding files_on_literals
cancel_after_a_value = refl

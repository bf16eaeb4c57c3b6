-- Tasks, each case by computing.
use Rattle.std.proofs.Common.{refl}
use Rattle.worked_examples.specs.TaskCases.{QueuedInvocation, EndOfATaskThatDoesNotRun, FullTaskQueue, TaskQueueThatHoldsAll}
use Rattle.worked_examples.proofs.OnLiterals.{files_on_literals}

pub queued_invocation : QueuedInvocation
unfolding files_on_literals
queued_invocation = refl

pub end_of_a_task_that_does_not_run : EndOfATaskThatDoesNotRun
unfolding files_on_literals
end_of_a_task_that_does_not_run = refl

pub full_task_queue : FullTaskQueue
unfolding files_on_literals
full_task_queue = refl

pub task_queue_that_holds_all : TaskQueueThatHoldsAll
unfolding files_on_literals
task_queue_that_holds_all = refl

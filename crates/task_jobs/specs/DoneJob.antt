-- What contracts see of a job that was run.
use Rattle.std.specs.Prelude.{ℕ, List}
use Rattle.rx_value.specs.declared.value.Value.{Value}
use Rattle.rx_value.specs.declared.outcome.Outcome.{Outcome}
use Rattle.app_tree.specs.Held.{Held}

-- the app that it was run for, the job, and what the task's body came to
pub record DoneJob : Type 0 where
  pub app : Held
  pub task : ℕ
  pub number : ℕ
  pub args : List Value
  pub outcome : Outcome

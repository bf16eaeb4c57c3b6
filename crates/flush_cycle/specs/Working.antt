-- What is seen of a session's work, on which its events are applied, and who waits in it.
use Rattle.std.specs.Prelude.{None, ◌≡◌, ◌<◌, ℕ, Bool, true, List, length}
use Rattle.app_tree.specs.Held.{Held}
use Rattle.app_tree.specs.Tree.{Shape}
use Rattle.app_tree.specs.Numbering.{readers}
use Rattle.app_tree.specs.View.{shape_of}
use Rattle.pending_set.specs.Waiting.{Waiting, waits_at}
use Rattle.session_model.specs.Standing.{KeptFlush}
use Rattle.task_board.specs.declared.job.Job.{Job}
use Rattle.flush_cycle.specs.Waits.{waits_in}
use Rattle.flush_cycle.specs.declared.report.Made.{Made}

-- `whole` says whether every call of the session so far found the memory that it needed
pub record Working : Type 0 where
  pub app : Held
  pub kept : KeptFlush
  pub pending : Waiting
  pub jobs : List Job
  pub made : Made
  pub whole : Bool

-- ---- who waits

-- just those wait that aren't alive and are run by a flush
abbrev pub KnowsWaiting : Shape → KeptFlush → Waiting → Type 0
KnowsWaiting app kept pending = (n : ℕ) → n < length (readers app) → waits_at pending n ≡ waits_in app kept n

-- every call so far found its memory, and who waits is known
pub record IsReady (w : Working) : Type 0 where
  pub whole : w.whole ≡ true
  pub waiting : KnowsWaiting (shape_of w.app) w.kept w.pending

-- and no observer runs
pub record IsAtRest (w : Working) : Type 0 where
  pub ready : IsReady w
  pub none_runs : w.kept.session.running ≡ None

-- What contracts see of a session with its link and its journal.
use Rattle.std.specs.Prelude.{ℕ, [], List, Option, None}
use Rattle.app_tree.specs.Held.{Held}
use Rattle.app_tree.specs.View.{shape_of}
use Rattle.session_model.specs.declared.event.Event.{Event}
use Rattle.session_model.specs.declared.reason.Reason.{Reason}
use Rattle.session_model.specs.Faithful.{LinkRecord}
use Rattle.session_model.specs.Standing.{first_kept_flush}
use Rattle.flush_cycle.specs.Flushing.{Flushing}
use Rattle.flush_cycle.specs.declared.stage.Stage.TheVariants.{New}

-- the app, what the link tells, the journal, how many events find room in it without taking memory, why the session is over if it
-- is, and what its Flusher keeps
pub record Hosting : Type 0 where
  pub app : Held
  pub link : LinkRecord
  pub journal : List Event
  pub room : ℕ
  pub over : Option Reason
  pub flusher : Flushing

-- what is left of a session that is over
pub record SessionRecord : Type 0 where
  pub app : Held
  pub link : LinkRecord
  pub journal : List Event
  pub reason : Reason

-- a Flusher to which no event was applied
abbrev pub first_flusher : Held → Flushing
first_flusher app = record {
  app = app;
  kept = first_kept_flush (shape_of app);
  jobs = [];
  stage = New;
  report = None;
}

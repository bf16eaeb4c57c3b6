-- What the type of a hosted session keeps.
use Rattle.std.specs.Prelude.{◌≡◌, true, [], List, None}
use Rattle.app_tree.specs.Tree.{Shape}
use Rattle.app_tree.specs.View.{shape_of}
use Rattle.session_model.specs.declared.event.Event.{Event}
use Rattle.session_model.specs.Alone.{journal_result, state_after}
use Rattle.session_model.specs.Faithful.{IsFaithful}
use Rattle.session_model.specs.Standing.{StandsWholly}
use Rattle.flush_cycle.specs.Waits.{IsSettled}
use Rattle.flush_cycle.specs.declared.stage.Stage.{Stage}
use Rattle.flush_cycle.specs.declared.stage.Stage.TheVariants.{New, Open, Over}
use Rattle.session_host.specs.Hosting.{Hosting}

-- before its init a session that goes on has no event
abbrev pub IsStageOf : Shape → List Event → Stage → Type 0
IsStageOf app journal New = journal ≡ []
IsStageOf app journal Open = (journal_result app journal).begun ≡ true
IsStageOf app journal Over = ⊥

-- A session that is open: its Flusher is of the app and stands wholly for the state after the journal; and once the init was
-- applied nobody waits, and each output that is shown has last come to its fresh outcome.
pub record GoesOn (h : Hosting) : Type 0 where
  pub app : h.flusher.app ≡ h.app
  pub stage : IsStageOf (shape_of h.app) h.journal h.flusher.stage
  pub stands : StandsWholly (shape_of h.app) h.flusher.kept (state_after (shape_of h.app) h.journal)
  pub settled : h.flusher.stage ≡ Open → IsSettled (shape_of h.app) h.flusher.kept

-- the journal is the true record of the session, and the session goes on where it isn't over
pub record IsHosted (h : Hosting) : Type 0 where
  pub faithful : IsFaithful (shape_of h.app) h.link h.journal h.over
  pub goes_on : h.over ≡ None → GoesOn h

-- What a Flusher keeps while its session goes on.
use Rattle.std.specs.Prelude.{◌≢◌}
use Rattle.app_tree.specs.View.{shape_of}
use Rattle.flush_cycle.specs.Flushing.{StandsRightly}
use Rattle.flush_cycle.specs.declared.stage.Stage.{Stage}
use Rattle.flush_cycle.specs.declared.stage.Stage.TheVariants.{Over}
use Rattle.flush_cycle.specs.Working.{Working, IsAtRest}

-- while the session goes on, no observer runs and there is a state that it stands for
pub record GoesOn (w : Working) : Type 0 where
  pub rests : IsAtRest w
  pub stands : StandsRightly (shape_of w.app) w.kept

abbrev pub IsKept : Working → Stage → Type 0
IsKept w stage = stage ≢ Over → GoesOn w

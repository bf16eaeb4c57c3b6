-- Steps that run no body, one after another.
use Rattle.std.proofs.Common.{◌≡◌, ◌∙◌, refl, subst, arith}
use Rattle.app_tree.specs.Tree.{Shape}
use Rattle.app_tree.specs.View.{shape_of}
use Rattle.session_model.specs.State.{SessionState}
use Rattle.session_model.specs.Standing.{KeptFlush, StandsWholly}
use Rattle.flush_cycle.specs.inner.Acting.{Follows, Moves, Moved}
use Rattle.flush_cycle.specs.Working.{Working, IsReady}

follows_on : (app : Shape) (a b c : KeptFlush) (x y z : SessionState) → Follows app a b x y → Follows app b c y z → Follows app a c x z
follows_on app a b c x y z first second = record {
  stands = second.stands;
  missing = omega (first.missing, second.missing, arith);
}

pub moves_on : (app : Shape) (a b c : KeptFlush) (first second : SessionState → SessionState) → Moves app a b first → Moves app b c second
    → Moves app a c (λ state. second (first state))
moves_on app a b c first second one two state stands =
    follows_on app a b c state (first state) (second (first state)) (one state stands) (two (first state) (one state stands).stands)

-- the same step, by another name
pub moves_as : (app : Shape) (a b : KeptFlush) (step other : SessionState → SessionState) → Moves app a b step
    → ((state : SessionState) → StandsWholly app a state → step state ≡ other state) → Moves app a b other
moves_as app a b step other moves same state stands = subst (Follows app a b state) (same state stands) (moves state stands)

-- no step at all
pub moves_none : (app : Shape) (a : KeptFlush) (step : SessionState → SessionState)
    → ((state : SessionState) → StandsWholly app a state → state ≡ step state) → Moves app a a step
moves_none app a step same state stands = subst (Follows app a a state) (same state stands) (record { stands = stands; missing = omega arith })

pub moved_on : (first second : SessionState → SessionState) (a b c : Working) → Moved first a b → Moved second b c
    → Moved (λ state. second (first state)) a c
moved_on first second a b c one two = record {
  app = two.app ∙ one.app;
  moves = moves_on (shape_of a.app) a.kept b.kept c.kept first second one.moves
      (subst (λ h. Moves (shape_of h) b.kept c.kept second) one.app two.moves);
  ready = two.ready;
  running = two.running ∙ one.running;
  boards = two.boards ∙ one.boards;
  jobs = two.jobs ∙ one.jobs;
  made = two.made ∙ one.made;
}

pub moved_as : (step other : SessionState → SessionState) (a b : Working) → Moved step a b
    → ((state : SessionState) → StandsWholly (shape_of a.app) a.kept state → step state ≡ other state) → Moved other a b
moved_as step other a b moved same = record {
  app = moved.app;
  moves = moves_as (shape_of a.app) a.kept b.kept step other moved.moves same;
  ready = moved.ready;
  running = moved.running;
  boards = moved.boards;
  jobs = moved.jobs;
  made = moved.made;
}

pub moved_none : (step : SessionState → SessionState) (a : Working) → IsReady a
    → ((state : SessionState) → StandsWholly (shape_of a.app) a.kept state → state ≡ step state) → Moved step a a
moved_none step a ready same = record {
  app = refl;
  moves = moves_none (shape_of a.app) a.kept step same;
  ready = ready;
  running = refl;
  boards = refl;
  jobs = refl;
  made = refl;
}

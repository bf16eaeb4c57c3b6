use Rattle.std.proofs.Common.{◌≡◌, [], length}
use Rattle.std.specs.Prelude.{true}
use Rattle.app_tree.specs.View.{shape_of}
use Rattle.engine_tests.proofs.playing.follow_all.Given as goal

-- the session is one of the app and may go on, and no Leave is out
abbrev pub invariant-loop-step : goal.invariant-loop-step
invariant-loop-step g l =
    (l.session.app ≡ l.app)
    × (l.session.whole ≡ true)
    × (length l.session.session.values ≡ length l.fn.session.session.values)
    × (l.session.session.running ≡ l.running)
    × (g.A.Asker.app l.asker ≡ shape_of l.app)
    × (g.A.Asker.out l.asker ≡ [])
    × g.A.Asker.follows l.asker l.fn.asker

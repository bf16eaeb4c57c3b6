use Rattle.std.proofs.Common.{◌≡◌, [], length}
use Rattle.std.specs.Prelude.{true}
use Rattle.app_tree.specs.View.{shape_of}
use Rattle.app_tree.specs.Numbering.{starting_values}
use Rattle.engine_tests.proofs.playing.play_rounds_counted.Given as goal

-- both sessions are ones of the app and may go on, and no Leave is out
abbrev pub invariant-loop-round : goal.invariant-loop-round
invariant-loop-round g l =
    (l.x.app ≡ l.app.value)
    × (l.x.whole ≡ true)
    × (length l.x.session.values ≡ length (starting_values (shape_of l.app.value).items))
    × (l.x.session.running ≡ l.in_x)
    × (l.y.app ≡ l.app.value)
    × (l.y.whole ≡ true)
    × (length l.y.session.values ≡ length (starting_values (shape_of l.app.value).items))
    × (l.y.session.running ≡ l.in_y)
    × (g.A.Asker.app l.asker ≡ shape_of l.app.value)
    × (g.A.Asker.out l.asker ≡ [])
    × g.A.Asker.follows l.asker l.fn.asker

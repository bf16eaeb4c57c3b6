use Rattle.std.proofs.Common.{◌≡◌}
use Rattle.serde_json.specs.View.{members_view}
use Rattle.app_tree.specs.View.{shape_of}
use Rattle.session_model.specs.TakenLines.{are_taken_pairs}
use Rattle.taken_cycle.proofs.taken.are_taken_pairs.Given as goal

abbrev pub invariant-loop-name : goal.invariant-loop-name
invariant-loop-name l = are_taken_pairs (shape_of l.app) l.first (members_view l.name-iterator) ≡ are_taken_pairs (shape_of l.app) l.first (members_view l.pairs.entries)

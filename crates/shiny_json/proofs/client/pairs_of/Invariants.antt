use Rattle.std.proofs.Common.{◌≡◌, ◌++◌}
use Rattle.serde_json.specs.View.{members_view}
use Rattle.shiny_json.specs.Client.{pairs_of}
use Rattle.shiny_json.proofs.client.pairs_of.Given as goal

-- the pairs so far and those to come are all
abbrev pub invariant-loop-key : goal.invariant-loop-key
invariant-loop-key l = l.pairs ++ pairs_of (members_view l.key-iterator) ≡ pairs_of (members_view l.members.entries)

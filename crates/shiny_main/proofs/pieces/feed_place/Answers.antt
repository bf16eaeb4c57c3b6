use Rattle.std.proofs.Common.{◌≤◌, subst, sym, length}
use Rattle.shiny_main.proofs.Feeds.{position_some, position_none, place_within}
use Rattle.shiny_main.proofs.pieces.feed_place.Goals as goal

pub returns-in-Some-clause-place : goal.returns-in-Some-clause-place
returns-in-Some-clause-place c = position_some c.args.bytes.now c.in-Some.place c.in-Some.ensures

pub returns-in-Some-clause-within : goal.returns-in-Some-clause-within
returns-in-Some-clause-within c = subst (λ n. n ≤ length c.args.bytes.now) (sym (position_some c.args.bytes.now c.in-Some.place c.in-Some.ensures)) (place_within c.args.bytes.now)

pub returns-in-None-clause-place : goal.returns-in-None-clause-place
returns-in-None-clause-place c = position_none c.args.bytes.now c.in-None.ensures

-- What a set keeps of its parts.
use Rattle.std.specs.Prelude.{◌≡◌, ◌<◌, ◌≤◌, ◌^◌, length}
use Rattle.pending_set.specs.declared.pending.Pending.TheInside.{Inside}
use Rattle.pending_set.specs.Ranking.{IsPrecedence, IsRank, IsShown}

pub record IsKept (a : Inside) : Type 0 where
  pub few : length a.priorities.items < 2 ^ 32
  pub long : length a.waits.items ≡ length a.priorities.items
  pub order : IsPrecedence a.priorities.items a.order.items
  pub ranks : IsRank a.order.items a.ranks.items
  pub room : length a.order.items ≤ a.places.width
  pub shown : IsShown a.order.items a.ranks.items a.waits.items a.places

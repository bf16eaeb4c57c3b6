-- What contracts see of a journal.
use Rattle.std.specs.Prelude.{ℕ, Bool, true, false, List, length}
use Rattle.session_model.specs.declared.event.Event.{Event}
use Rattle.session_model.specs.declared.event.Event.TheVariants.{Text, Other}

-- the events in their order, and how many find room without taking memory
pub record Journaling : Type 0 where
  pub events : List Event
  pub room : ℕ

abbrev pub bytes_of : Event → ℕ
bytes_of (Text t) = length t
bytes_of _ = 0

-- whether an event is an item of the client
abbrev pub is_item : Event → Bool
is_item (Text t) = true
is_item Other = true
is_item _ = false

-- What a link may answer when its next item is asked for and when a text is sent.
use Rattle.std.specs.Prelude.{◌≡◌, ℕ, Bool, true, false, List, [], ◌∷◌, Option, IfSome, ⊤}
use Rattle.std.specs.Option.{option_map}
use Rattle.rx_ports.specs.Faults.{Rose}
use Rattle.rx_ports.specs.declared.link.LinkItem.{LinkItem}
use Rattle.rx_ports.specs.declared.link.LinkItem.TheVariants as item
use Rattle.rx_ports.specs.declared.link.Recv.{Recv}
use Rattle.rx_ports.specs.declared.link.Recv.TheVariants as recv
use Rattle.rx_ports.specs.declared.link.Sent.{Sent}
use Rattle.rx_ports.specs.declared.link.Sent.TheVariants as send

-- the items of a client that are left, and whether it has ended: then none comes behind them
pub record Script : Type 0 where
  pub left : List LinkItem
  pub ended : Bool

-- the items that an answer gave, one or none
abbrev pub items_given : Recv → List LinkItem
items_given (recv.Text text) = item.Text text ∷ []
items_given recv.Other = item.Other ∷ []
items_given _ = []

-- an item, and then the script, where it is told
abbrev pub prepend_item : LinkItem → Option Script → Option Script
prepend_item item script = option_map (λ s. record { left = item ∷ s.left; ended = s.ended }) script

-- the script stays, and no item of it is left now; it has ended or it has not
pub record GivesNone (old new : Option Script) (ended : Bool) : Type 0 where
  pub stays : new ≡ old
  pub none : IfSome new (λ s. s ≡ record { left = []; ended = ended })

-- what an answer says of the script, where it is told
abbrev pub RecvGives : Option Script → Option Script → Recv → Type 0
RecvGives old new (recv.Text text) = old ≡ prepend_item (item.Text text) new
RecvGives old new recv.Other = old ≡ prepend_item item.Other new
RecvGives old new recv.Idle = GivesNone old new false
RecvGives old new recv.Ended = GivesNone old new true
RecvGives old new recv.Failed = new ≡ old
RecvGives old new recv.Memory = new ≡ old

-- at Failed the count of faults rose
abbrev pub RecvFaults : ℕ → ℕ → Recv → Type 0
RecvFaults before now recv.Failed = Rose before now
RecvFaults before now _ = ⊤

-- the texts that were sent by a call with this text, one or none
abbrev pub texts_sent : List ℕ → Sent → List (List ℕ)
texts_sent text send.Ok = text ∷ []
texts_sent text _ = []

-- at Failed the count of faults rose
abbrev pub SendFaults : ℕ → ℕ → Sent → Type 0
SendFaults before now send.Failed = Rose before now
SendFaults before now _ = ⊤

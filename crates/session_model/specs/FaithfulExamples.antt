-- Faithful journals, one for each way in which a session can be over, and journals that are not faithful.
use Rattle.std.specs.Prelude.{ℕ, suc, pos, true, false, List, [], ◌∷◌, replicate, ◌≤◌, Option, Some, None, codes}
use Rattle.rx_value.specs.declared.value.Value.TheVariants.{Int}
use Rattle.rx_value.specs.declared.value.Value.TheVariants as v
use Rattle.rx_value.specs.declared.operator.BinOp.TheVariants.{Add}
use Rattle.rx_ports.specs.Link.{Script}
use Rattle.rx_ports.specs.declared.link.LinkItem.{LinkItem}
use Rattle.rx_ports.specs.declared.link.LinkItem.TheVariants as item
use Rattle.shiny_json.specs.declared.message.BadMessage.TheVariants as bad
use Rattle.app_tree.specs.declared.term.Read.TheVariants as read
use Rattle.app_tree.specs.declared.term.Operator.TheVariants.{Strict}
use Rattle.app_tree.specs.Tree.{constant, get, stop, binary, no_trees, set, invoke, perform, no_acts, act, value, task, observe, Shape}
use Rattle.session_model.specs.declared.event.Event.TheVariants.{Text, Other, TaskEnd, End}
use Rattle.session_model.specs.declared.limits.TheConstants.{EVENT_LIMIT}
use Rattle.session_model.specs.declared.reason.Reason.TheVariants as reason
use Rattle.session_model.specs.Faithful.{LinkRecord, IsFaithful}

-- ---- apps

-- no items
abbrev pub empty_app : Shape
empty_app = record { budget = 1000; items = [] }

-- `budget 3; value v = 0; observe w { set v = v() + 1; }`
abbrev pub counting_app : Shape
counting_app = record {
  budget = 3;
  items =
      value (codes "v") (Int (pos 0))
      ∷ observe (codes "w") (pos 0)
      (act (set 0 (binary (Strict Add) (get (read.Value 0)) (constant (Int (pos 1))))) no_acts)
      ∷ [];
}

-- `observe w { do stop("bad"); }`
abbrev pub failing_app : Shape
failing_app = record {
  budget = 1000;
  items = observe (codes "w") (pos 0) (act (perform (stop (constant (v.Text (codes "bad"))))) no_acts) ∷ [];
}

-- `task t() { 7 } observe w { invoke t(); } observe x { do status(t); }`
abbrev pub invoking_app : Shape
invoking_app = record {
  budget = 1000;
  items =
      task (codes "t") [] (constant (Int (pos 7)))
      ∷ observe (codes "w") (pos 0) (act (invoke 0 no_trees) no_acts)
      ∷ observe (codes "x") (pos 0) (act (perform (get (read.Status 0))) no_acts)
      ∷ [];
}

-- ---- texts

abbrev pub init : List ℕ
init = codes "{\"method\":\"init\",\"data\":{}}"

abbrev pub update : List ℕ
update = codes "{\"method\":\"update\",\"data\":{}}"

abbrev pub config : List ℕ
config = codes "{\"config\":{\"sessionId\":\"s\",\"user\":null,\"workerId\":\"\"}}"

abbrev pub busy : List ℕ
busy = codes "{\"busy\":\"busy\"}"

abbrev pub no_values : List ℕ
no_values = codes "{\"errors\":{},\"inputMessages\":[],\"values\":{}}"

abbrev pub idle : List ℕ
idle = codes "{\"busy\":\"idle\"}"

-- ---- links

-- gave these items, sent these texts, has so many faults, and tells this of its client's script
abbrev pub link : ℕ → List LinkItem → List (List ℕ) → Option Script → LinkRecord
link faults received sent script =
    record { label = codes "s"; faults = faults; received = received; sent = sent; script = script }

-- nothing is left, but the script has not ended
abbrev pub open_link : ℕ → List LinkItem → List (List ℕ) → LinkRecord
open_link faults received sent = link faults received sent (Some (record { left = []; ended = false }))

-- the same where the script has ended
abbrev pub ended_link : List LinkItem → List (List ℕ) → LinkRecord
ended_link received sent = link 0 received sent (Some (record { left = []; ended = true }))

-- tells nothing of a script
abbrev pub real_link : ℕ → List LinkItem → List (List ℕ) → LinkRecord
real_link faults received sent = link faults received sent None

-- ---- faithful journals

-- the task that was invoked at the init has ended, and the session goes on
abbrev pub OpenIsFaithful : Type 0
OpenIsFaithful =
    IsFaithful
    invoking_app
    (open_link 0 (item.Text init ∷ []) (config ∷ busy ∷ no_values ∷ idle ∷ busy ∷ no_values ∷ idle ∷ []))
    (Text init ∷ TaskEnd 0 1 ∷ [])
    None

abbrev pub EndedIsFaithful : Type 0
EndedIsFaithful =
    IsFaithful
    empty_app
    (ended_link (item.Text init ∷ []) (config ∷ busy ∷ no_values ∷ idle ∷ []))
    (Text init ∷ End ∷ [])
    (Some reason.Ended)

-- the second text could not be sent
abbrev pub LinkFailedIsFaithful : Type 0
LinkFailedIsFaithful =
    IsFaithful
    empty_app
    (open_link 1 (item.Text init ∷ []) (config ∷ []))
    (Text init ∷ [])
    (Some reason.LinkFailed)

-- the first item is no object
abbrev pub RefusedIsFaithful : Type 0
RefusedIsFaithful =
    IsFaithful
    empty_app
    (open_link 0 (item.Text (codes "[]") ∷ []) [])
    (Text (codes "[]") ∷ [])
    (Some (reason.Refused 1 bad.NotObject))

-- the values and the idle text are not sent
abbrev pub BudgetSpentIsFaithful : Type 0
BudgetSpentIsFaithful =
    IsFaithful
    counting_app
    (open_link 0 (item.Text init ∷ []) (config ∷ busy ∷ []))
    (Text init ∷ [])
    (Some reason.BudgetSpent)

abbrev pub ObserverFailedIsFaithful : Type 0
ObserverFailedIsFaithful =
    IsFaithful
    failing_app
    (open_link 0 (item.Text init ∷ []) (config ∷ busy ∷ []))
    (Text init ∷ [])
    (Some (reason.ObserverFailed (codes "bad")))

-- updates that change nothing fill the journal, and nothing is sent in answer to them
abbrev pub JournalFullIsFaithful : Type 0
JournalFullIsFaithful =
    (n : ℕ)
    → EVENT_LIMIT ≤ suc n
    → IsFaithful
    empty_app
    (open_link 0 (item.Text init ∷ replicate n (item.Text update)) (config ∷ busy ∷ no_values ∷ idle ∷ []))
    (Text init ∷ replicate n (Text update))
    (Some reason.JournalFull)

-- the init found no memory, so nothing was sent in answer to it
abbrev pub MemoryIsFaithful : Type 0
MemoryIsFaithful =
    IsFaithful empty_app (open_link 0 (item.Text init ∷ []) []) (Text init ∷ []) (Some reason.Memory)

-- the third text found no memory
abbrev pub LinkMemoryIsFaithful : Type 0
LinkMemoryIsFaithful =
    IsFaithful
    empty_app
    (open_link 0 (item.Text init ∷ []) (config ∷ busy ∷ []))
    (Text init ∷ [])
    (Some reason.LinkMemory)

-- nothing is said of the script of a link that tells of none
abbrev pub RealLinkIsFaithful : Type 0
RealLinkIsFaithful =
    IsFaithful
    empty_app
    (real_link 0 (item.Text init ∷ item.Other ∷ []) (config ∷ busy ∷ no_values ∷ idle ∷ []))
    (Text init ∷ Other ∷ [])
    (Some (reason.Refused 2 bad.Other))

-- ---- journals that are not faithful

-- the idle text was not sent
abbrev pub WithheldText : Type 0
WithheldText =
    IsFaithful
    empty_app
    (ended_link (item.Text init ∷ []) (config ∷ busy ∷ no_values ∷ []))
    (Text init ∷ End ∷ [])
    (Some reason.Ended)
    → ⊥

-- the link gave an item that isn't journaled
abbrev pub UnjournaledItem : Type 0
UnjournaledItem =
    IsFaithful
    empty_app
    (real_link 0 (item.Text init ∷ item.Other ∷ []) (config ∷ busy ∷ no_values ∷ idle ∷ []))
    (Text init ∷ [])
    None
    → ⊥

-- the link counts no fault
abbrev pub UncountedFault : Type 0
UncountedFault =
    IsFaithful
    empty_app
    (open_link 0 (item.Text init ∷ []) (config ∷ []))
    (Text init ∷ [])
    (Some reason.LinkFailed)
    → ⊥

abbrev pub ShortJournal : Type 0
ShortJournal =
    IsFaithful
    empty_app
    (open_link 0 (item.Text init ∷ []) (config ∷ busy ∷ no_values ∷ idle ∷ []))
    (Text init ∷ [])
    (Some reason.JournalFull)
    → ⊥

-- the script of the link has not ended
abbrev pub EarlyEnd : Type 0
EarlyEnd =
    IsFaithful
    empty_app
    (open_link 0 (item.Text init ∷ []) (config ∷ busy ∷ no_values ∷ idle ∷ []))
    (Text init ∷ End ∷ [])
    (Some reason.Ended)
    → ⊥

-- the invocation that runs has number 1
abbrev pub EndOfAnotherInvocation : Type 0
EndOfAnotherInvocation =
    IsFaithful
    invoking_app
    (real_link 0 (item.Text init ∷ []) (config ∷ busy ∷ no_values ∷ idle ∷ []))
    (Text init ∷ TaskEnd 0 2 ∷ [])
    None
    → ⊥

-- an event behind the end of the link
abbrev pub EventBehindTheEnd : Type 0
EventBehindTheEnd =
    IsFaithful
    empty_app
    (real_link 0 (item.Text init ∷ item.Other ∷ []) (config ∷ busy ∷ no_values ∷ idle ∷ []))
    (Text init ∷ End ∷ Other ∷ [])
    (Some reason.Ended)
    → ⊥

-- the link's end is in the journal of a session that is said to be open
abbrev pub OpenBehindTheEnd : Type 0
OpenBehindTheEnd =
    IsFaithful
    empty_app
    (ended_link (item.Text init ∷ []) (config ∷ busy ∷ no_values ∷ idle ∷ []))
    (Text init ∷ End ∷ [])
    None
    → ⊥

-- nothing is sent in answer to an item that is refused, so no link fails behind one
abbrev pub FailureBehindARefusal : Type 0
FailureBehindARefusal =
    IsFaithful
    empty_app
    (real_link 1 (item.Text (codes "[]") ∷ []) [])
    (Text (codes "[]") ∷ [])
    (Some reason.LinkFailed)
    → ⊥

abbrev pub FailureBehindTheEnd : Type 0
FailureBehindTheEnd =
    IsFaithful
    empty_app
    (ended_link (item.Text init ∷ []) (config ∷ busy ∷ no_values ∷ idle ∷ []))
    (Text init ∷ End ∷ [])
    (Some reason.LinkMemory)
    → ⊥

-- What it means that a session's journal is the true record of it: of what its link gave, of what was sent over it, and
-- of why it is over.
use Rattle.std.specs.Prelude.{◌≡◌, ◌⊎◌, ◌<◌, ⊤, ℕ, Bool, true, false, List, [], ◌∷◌, ◌++◌, Option, Some, None, IfSome}
use Rattle.rx_ports.specs.Link.{Script}
use Rattle.rx_ports.specs.declared.link.LinkItem.{LinkItem}
use Rattle.rx_ports.specs.declared.link.LinkItem.TheVariants as item
use Rattle.app_tree.specs.Tree.{Shape}
use Rattle.session_model.specs.declared.event.Event.{Event}
use Rattle.session_model.specs.declared.event.Event.TheVariants.{Text, Other, TaskEnd, End}
use Rattle.session_model.specs.declared.reason.Reason.{Reason}
use Rattle.session_model.specs.declared.reason.Reason.TheVariants as reason
use Rattle.session_model.specs.State.{SessionState}
use Rattle.session_model.specs.Tasks.{is_running}
use Rattle.session_model.specs.Journal.{is_full}
use Rattle.session_model.specs.Alone.{Ending, ended, refused, budget_spent, observer_failed, JournalResult, first_result, after_event, answers, ending}

-- ---- a link

-- its label, its count of faults, the items that it gave and the texts that were sent over it; and, where that is told, what is
-- left of its client's script
pub record LinkRecord : Type 0 where
  pub label : List ℕ
  pub faults : ℕ
  pub received : List LinkItem
  pub sent : List (List ℕ)
  pub script : Option Script

-- ---- the journal

abbrev pub client_items : List Event → List LinkItem
client_items [] = []
client_items (Text t ∷ more) = item.Text t ∷ client_items more
client_items (Other ∷ more) = item.Other ∷ client_items more
client_items (TaskEnd t number ∷ more) = client_items more
client_items (End ∷ more) = client_items more

-- an end of an invocation is of the one that runs
abbrev pub IsOfRunning : SessionState → Event → Type 0
IsOfRunning state (TaskEnd t number) = is_running t number state ≡ true
IsOfRunning state event = ⊤

-- of each event of a journal, in the state before it
abbrev pub EachOfRunning : Shape → JournalResult → List Event → Type 0
EachOfRunning app so_far [] = ⊤
EachOfRunning app so_far (event ∷ more) =
    IsOfRunning so_far.state event × EachOfRunning app (after_event app so_far event) more

-- the link's end stands only last
abbrev pub EndsOnlyLast : List Event → Type 0
EndsOnlyLast [] = ⊤
EndsOnlyLast (End ∷ more) = more ≡ []
EndsOnlyLast (event ∷ more) = EndsOnlyLast more

abbrev pub has_end : List Event → Bool
has_end [] = false
has_end (End ∷ more) = true
has_end (event ∷ more) = has_end more

abbrev pub without_last : List Event → List Event
without_last [] = []
without_last (event ∷ []) = []
without_last (event ∷ next ∷ more) = event ∷ without_last (next ∷ more)

-- ---- why a session is over

abbrev pub reason_of : Ending → Reason
reason_of ended = reason.Ended
reason_of (refused k cause) = reason.Refused k cause
reason_of budget_spent = reason.BudgetSpent
reason_of (observer_failed t) = reason.ObserverFailed t

-- a link may fail where the session goes on, and while the texts of its last flush are sent; behind a refusal or the
-- link's end nothing is sent
abbrev pub may_fail : Option Ending → Bool
may_fail None = true
may_fail (Some budget_spent) = true
may_fail (Some (observer_failed t)) = true
may_fail (Some ended) = false
may_fail (Some (refused k cause)) = false

-- how the journal has to end for each reason, and for a session that is open: want of memory may come whatever the end
abbrev pub EndsFor : Option Reason → Option Ending → Type 0
EndsFor None e = e ≡ None
EndsFor (Some reason.JournalFull) e = e ≡ None
EndsFor (Some reason.LinkFailed) e = may_fail e ≡ true
EndsFor (Some reason.LinkMemory) e = may_fail e ≡ true
EndsFor (Some reason.Memory) e = ⊤
EndsFor (Some why) None = ⊥
EndsFor (Some why) (Some end) = reason_of end ≡ why

-- ---- what was sent

-- a front of these texts
pub record IsFront (front whole : List (List ℕ)) : Type 0 where
  pub rest : List (List ℕ)
  pub is : whole ≡ front ++ rest

-- the answers to the journal; a link that fails leaves a front of them; and an event that finds no memory sends nothing
abbrev pub IsSent : Shape → List ℕ → List Event → Option Reason → List (List ℕ) → Type 0
IsSent app label journal (Some reason.LinkFailed) sent = IsFront sent (answers app label journal)
IsSent app label journal (Some reason.LinkMemory) sent = IsFront sent (answers app label journal)
IsSent app label journal (Some reason.Memory) sent =
    (sent ≡ answers app label journal) ⊎ (sent ≡ answers app label (without_last journal))
IsSent app label journal why sent = sent ≡ answers app label journal

-- None stands for a session that is open
pub record IsFaithful (app : Shape) (link : LinkRecord) (journal : List Event) (why : Option Reason) : Type 0 where
  pub running : EachOfRunning app (first_result app) journal
  pub last : EndsOnlyLast journal
  pub ends : EndsFor why (ending app journal)
  pub fault : why ≡ Some reason.LinkFailed → 0 < link.faults
  pub full : why ≡ Some reason.JournalFull → is_full journal ≡ true
  pub received : client_items journal ≡ link.received
  pub sent : IsSent app link.label journal why link.sent
  pub ended : has_end journal ≡ true → IfSome link.script (λ script. script ≡ record { left = []; ended = true })

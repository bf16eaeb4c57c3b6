-- What sending the texts of an event comes to.
use Rattle.std.specs.Prelude.{◌≡◌, ◌≤◌, ℕ, List, ◌++◌, Option, Some, None}
use Rattle.rx_ports.specs.Link.{SendFaults}
use Rattle.rx_ports.specs.declared.link.Sent.{Sent}
use Rattle.rx_ports.specs.declared.link.Sent.TheVariants as send
use Rattle.session_model.specs.declared.reason.Reason.{Reason}
use Rattle.session_model.specs.declared.reason.Reason.TheVariants as reason
use Rattle.session_model.specs.Faithful.{LinkRecord}
use Rattle.session_host.specs.Hosting.{Hosting}
use Rattle.session_host.specs.Turning.{SendsFront}
use Rattle.session_host.specs.declared.turned.Turned.{Turned}
use Rattle.session_host.specs.declared.turned.Turned.TheVariants.{Worked, Over}

-- all of these texts, or a front of them
abbrev pub SendsUpTo : Sent → List (List ℕ) → List (List ℕ) → List (List ℕ) → Type 0
SendsUpTo send.Ok old new texts = new ≡ old ++ texts
SendsUpTo _ old new texts = SendsFront old new texts

pub record LinkSends (old new : LinkRecord) (texts : List (List ℕ)) (sent : Sent) : Type 0 where
  pub label : new.label ≡ old.label
  pub received : new.received ≡ old.received
  pub script : new.script ≡ old.script
  pub later : old.faults ≤ new.faults
  pub failed : SendFaults old.faults new.faults sent
  pub sends : SendsUpTo sent old.sent new.sent texts

-- why the session is over behind these texts, where they were to end it so
abbrev pub over_after : Option Reason → Sent → Option Reason
over_after end send.Ok = end
over_after end send.Failed = Some reason.LinkFailed
over_after end send.Memory = Some reason.LinkMemory

abbrev pub turned_by : Option Reason → Turned
turned_by None = Worked
turned_by (Some why) = Over

-- a session whose link sends these texts, and which is over then where they end it
pub record Sending (old new : Hosting) (texts : List (List ℕ)) (end : Option Reason) (answer : Turned) : Type 0 where
  pub came : Sent
  pub link : LinkSends old.link new.link texts came
  pub rest : new ≡ record old { link = new.link; over = over_after end came }
  pub answer_is : answer ≡ turned_by (over_after end came)

-- a session that is over with this reason, with nothing sent
pub record Closes (old new : Hosting) (why : Reason) (answer : Turned) : Type 0 where
  pub rest : new ≡ record old { over = Some why }
  pub answer_is : answer ≡ Over

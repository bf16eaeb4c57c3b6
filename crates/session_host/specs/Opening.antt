-- How a session begins, and what its client's script gets while it goes on.
use Rattle.std.specs.Prelude.{◌≡◌, true, [], ◌∷◌, ◌++◌, None, option_map}
use Rattle.app_tree.specs.Held.{Held}
use Rattle.rx_ports.specs.Link.{Script}
use Rattle.rx_ports.specs.declared.link.LinkItem.{LinkItem}
use Rattle.session_model.specs.Faithful.{LinkRecord}
use Rattle.session_model.specs.declared.reason.Reason.TheVariants as reason
use Rattle.session_host.specs.Hosting.{Hosting, SessionRecord, first_flusher}
use Rattle.session_host.specs.declared.hosted.Opened.{Opened}
use Rattle.session_host.specs.declared.hosted.Opened.TheVariants.{Ready, Over}

-- the link has given and sent nothing, and has not failed
pub record IsUnused (link : LinkRecord) : Type 0 where
  pub received : link.received ≡ []
  pub sent : link.sent ≡ []
  pub faults : link.faults ≡ 0

-- a session of this app over this link, to which nothing has come
pub record IsFirst (app : Held) (link : LinkRecord) (h : Hosting) : Type 0 where
  pub app_is : h.app ≡ app
  pub link_is : h.link ≡ link
  pub journal : h.journal ≡ []
  pub over : h.over ≡ None
  pub flusher : h.flusher ≡ first_flusher app

-- its record where there was no memory for it
abbrev pub unopened : Held → LinkRecord → SessionRecord
unopened app link = record { app = app; link = link; journal = []; reason = reason.Memory }

abbrev pub Opens : {L : Type 0} → Held → LinkRecord → Opened L → Type 0
Opens app link (Ready h) = IsFirst app link h
Opens app link (Over c) = c ≡ unopened app link

-- ---- a script in memory

abbrev pub pushed : LinkItem → Script → Script
pushed item script = record script { left = script.left ++ item ∷ [] }

abbrev pub closed : Script → Script
closed script = record script { ended = true }

-- the link's script alone is changed, where it is told
abbrev pub with_script : (Script → Script) → Hosting → Hosting
with_script changed h = record h { link = record h.link { script = option_map changed h.link.script } }

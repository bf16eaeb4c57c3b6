-- What the memory forms of files, source, sink and link tell, and what a call makes of it.
use Rattle.std.specs.Prelude.{◌≡◌, ◌⊎◌, ⊤, ℕ, ◌+◌, ◌-◌, ◌^◌, min, nat_lt, bytes_eq, Bool, true, false, ◌||◌, if◌then◌else◌, List, [], ◌∷◌, ◌++◌, length, take, drop}
use Rattle.rx_ports.specs.Faults.{Plan, no_faults, next_fails, after_call}
use Rattle.rx_ports.specs.Link.{Script, items_given, texts_sent}
use Rattle.rx_ports.specs.declared.files.NamedFile.{NamedFile}
use Rattle.rx_ports.specs.declared.files.FileRead.{FileRead}
use Rattle.rx_ports.specs.declared.files.FileRead.TheVariants as read
use Rattle.rx_ports.specs.declared.link.LinkItem.{LinkItem}
use Rattle.rx_ports.specs.declared.link.LinkItem.TheVariants as item
use Rattle.rx_ports.specs.declared.link.Recv.{Recv}
use Rattle.rx_ports.specs.declared.link.Recv.TheVariants as recv
use Rattle.rx_ports.specs.declared.link.Sent.{Sent}
use Rattle.rx_ports.specs.declared.link.Sent.TheVariants as send
use Rattle.rx_ports.specs.declared.sink.Put.{Put}
use Rattle.rx_ports.specs.declared.sink.Put.TheVariants as put
use Rattle.rx_ports.specs.declared.source.Take.{Take}
use Rattle.rx_ports.specs.declared.source.Take.TheVariants as taken

-- ---- files

-- the files, and how reads fail
pub record FilesState : Type 0 where
  pub files : List NamedFile
  pub plan : Plan

-- the files with one more, in the place of the one of its name if there is one
abbrev pub with_file : List NamedFile → NamedFile → List NamedFile
with_file [] new = new ∷ []
with_file (file ∷ files) new =
    if bytes_eq file.name new.name then new ∷ files else file ∷ with_file files new

abbrev pub is_failed_read : FileRead → Bool
is_failed_read read.Failed = true
is_failed_read _ = false

-- the files stay, and the call is counted
abbrev pub after_read : FilesState → FilesState
after_read s = record { files = s.files; plan = after_call s.plan (next_fails s.plan) }

-- ---- a source

-- the bytes that are left, and how takes fail
pub record SourceState : Type 0 where
  pub left : List ℕ
  pub plan : Plan

-- what the next take into so much room answers: as many bytes as are left and fit
abbrev pub next_take : SourceState → ℕ → Take
next_take s room =
    if next_fails s.plan then taken.Failed
    else if nat_lt 0 (length s.left) then taken.Bytes (min (length s.left) room)
    else taken.End

-- the count of bytes that an answer gave
abbrev pub given_count : Take → ℕ
given_count (taken.Bytes count) = count
given_count _ = 0

-- the bytes given are no longer left, and the call is counted
abbrev pub after_take : SourceState → Take → SourceState
after_take s answer = record {
  left = drop (given_count answer) s.left;
  plan = after_call s.plan (next_fails s.plan);
}

-- ---- a sink

-- the bytes that are held, how many there can be, and how puts fail
pub record SinkState : Type 0 where
  pub held : List ℕ
  pub room : ℕ
  pub plan : Plan

abbrev pub is_failed_put : Put → Bool
is_failed_put put.Failed = true
is_failed_put put.Ok = false

-- whether a put of these bytes fails: the plan says so, or they are more than fit
abbrev pub next_put_fails : SinkState → List ℕ → Bool
next_put_fails s bytes = next_fails s.plan || nat_lt s.room (length s.held + length bytes)

-- what a put of these bytes appends: nothing where the plan fails it, else as many as fit
abbrev pub bytes_put : SinkState → List ℕ → List ℕ
bytes_put s bytes =
    if next_fails s.plan then [] else take (min (length bytes) (s.room - length s.held)) bytes

-- the bytes put are held, and the call is counted
abbrev pub after_put : SinkState → List ℕ → SinkState
after_put s bytes = record {
  held = s.held ++ bytes_put s bytes;
  room = s.room;
  plan = after_call s.plan (next_put_fails s bytes);
}

-- ---- a link

-- its label, the items that it gave, those that are left of its script, whether the script has ended, the texts that
-- were sent, and how calls of `recv` and of `send` fail
pub record TapeState : Type 0 where
  pub label : List ℕ
  pub received : List LinkItem
  pub left : List LinkItem
  pub ended : Bool
  pub sent : List (List ℕ)
  pub recv_plan : Plan
  pub send_plan : Plan

-- nothing was received or sent, and the script is empty and has not ended
abbrev pub new_tape : List ℕ → TapeState
new_tape label = record {
  label = label;
  received = [];
  left = [];
  ended = false;
  sent = [];
  recv_plan = no_faults;
  send_plan = no_faults;
}

abbrev pub tape_script : TapeState → Script
tape_script s = record { left = s.left; ended = s.ended }

-- the faults of both kinds of calls, up to the largest number of 64 bits
abbrev pub tape_faults : TapeState → ℕ
tape_faults s = min (s.recv_plan.faults + s.send_plan.faults) (2 ^ 64 - 1)

-- one more item at the script's end
abbrev pub with_item : LinkItem → TapeState → TapeState
with_item item s = record s { left = s.left ++ item ∷ [] }

abbrev pub with_end : TapeState → TapeState
with_end s = record s { ended = true }

abbrev pub IsText : LinkItem → Type 0
IsText (item.Text text) = ⊤
IsText item.Other = ⊥

-- the answer that gives this item
abbrev pub item_answer : LinkItem → Recv
item_answer (item.Text text) = recv.Text text
item_answer item.Other = recv.Other

-- the answer that gives the first of these items, or says whether the script has ended
abbrev pub script_answer : List LinkItem → Bool → Recv
script_answer (item ∷ items) ended = item_answer item
script_answer [] true = recv.Ended
script_answer [] false = recv.Idle

-- what the next `recv` answers, where there is memory for the text in it
abbrev pub next_recv : TapeState → Recv
next_recv s = if next_fails s.recv_plan then recv.Failed else script_answer s.left s.ended

-- the answer is the first, or the first has a text for which there was no memory
abbrev pub IsOrMemory : Recv → Recv → Type 0
IsOrMemory (recv.Text text) answer = (answer ≡ recv.Text text) ⊎ (answer ≡ recv.Memory)
IsOrMemory next answer = answer ≡ next

-- the item given is received and no longer left, and the call is counted
abbrev pub after_recv : TapeState → Recv → TapeState
after_recv s answer = record s {
  received = s.received ++ items_given answer;
  left = drop (length (items_given answer)) s.left;
  recv_plan = after_call s.recv_plan (next_fails s.recv_plan);
}

abbrev pub is_failed_send : Sent → Bool
is_failed_send send.Failed = true
is_failed_send _ = false

-- the text is sent where the answer says so, and the call is counted
abbrev pub after_send : TapeState → List ℕ → Sent → TapeState
after_send s text answer = record s {
  sent = s.sent ++ texts_sent text answer;
  send_plan = after_call s.send_plan (next_fails s.send_plan);
}

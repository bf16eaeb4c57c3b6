-- The texts that the server sends round its runs (after Shiny's client protocol): compact JSON as
-- RFC 8259 has it, keys in byte order.
use Rattle.std.specs.Prelude.{ℕ, Bool, List, [], codes, if◌then◌else◌}
use Rattle.serde_json.specs.Data.{Data, null, string, object, no_members, member}
use Rattle.serde_json.specs.Written.{compact_text}

-- an object with one member
abbrev pub one_member : List ℕ → Data → Data
one_member key d = object (member key d no_members)

-- the first text of a session, with its label
abbrev pub config_data : List ℕ → Data
config_data label =
    one_member (codes "config")
    (object (member (codes "sessionId") (string label)
    (member (codes "user") null
    (member (codes "workerId") (string []) no_members))))

abbrev pub config_text : List ℕ → List ℕ
config_text label = compact_text (config_data label)

-- where runs begin, and where they have ended
abbrev pub busy_data : Bool → Data
busy_data busy = one_member (codes "busy") (string (if busy then codes "busy" else codes "idle"))

abbrev pub busy_text : Bool → List ℕ
busy_text busy = compact_text (busy_data busy)

-- an output's run: that it is in progress, that it begins and that it has ended
abbrev pub progress_data : List ℕ → Data
progress_data name =
    one_member (codes "progress")
    (object (member (codes "message") (one_member (codes "id") (string name))
    (member (codes "type") (string (codes "binding")) no_members)))

abbrev pub progress_text : List ℕ → List ℕ
progress_text name = compact_text (progress_data name)

abbrev pub recalculating_data : List ℕ → Bool → Data
recalculating_data name done =
    one_member (codes "recalculating")
    (object (member (codes "name") (string name)
    (member (codes "status") (string (if done then codes "recalculated" else codes "recalculating")) no_members)))

abbrev pub recalculating_text : List ℕ → Bool → List ℕ
recalculating_text name done = compact_text (recalculating_data name done)

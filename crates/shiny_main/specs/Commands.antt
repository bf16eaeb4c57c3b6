-- What each command does with the app of its file.
use Rattle.std.specs.Prelude.{◌≡◌, ℕ, List, ◌++◌, length, codes, Option, Some, None, ⊤, IfSome, Result, Ok, Err, slice_get}
use Rattle.std.specs.Fmt.{decimal}
use Rattle.std.specs.Io.KnownBytes.{append_known, IsAtEnd}
use Rattle.rx_ports.specs.Sink.{PutsFront}
use Rattle.rx_value.specs.declared.memory.Memory.{Memory}
use Rattle.app_tree.specs.Tree.{Node, Shape}
use Rattle.app_tree.specs.Numbering.{name_of}
use Rattle.app_check.specs.declared.error.LoadError.{LoadError}
use Rattle.app_check.specs.Text.{refusal_text}
use Rattle.app_printer.specs.Canonical.{canonical_text}
use Rattle.app_printer.specs.Laws.{ReadsBack}
use Rattle.session_model.specs.Transcript.{ReplayEnd, done, bad_line, no_session, replayed}
use Rattle.session_model.specs.TakenLines.{replayed_today}
use Rattle.taken_cycle.specs.Built.{first_unbuilt}
use Rattle.shiny_main.specs.Ports.{Ports, IsUntouched}
use Rattle.shiny_main.specs.SoFar.{HasWritten, replayed_so_far}
use Rattle.shiny_main.specs.declared.words.Command.{Command}
use Rattle.shiny_main.specs.declared.words.Command.TheVariants as command
use Rattle.shiny_main.specs.declared.ended.Ended.{Ended}
use Rattle.shiny_main.specs.declared.ended.Ended.TheVariants as ended

-- ---- a command that writes a text and reads no input

-- the text was written, or a front of it, or nothing for want of memory
abbrev pub IsPut : List ℕ → Option (List ℕ) → Option (List ℕ) → Ended → Type 0
IsPut text before after ended.Done = after ≡ append_known before text
IsPut text before after ended.WriteFault = PutsFront before after text
IsPut text before after ended.Memory = after ≡ before
IsPut text before after _ = ⊥

-- a text that was made is put, and nothing where there was no memory to make it
abbrev pub IsMade : Result (List ℕ) Memory → Option (List ℕ) → Option (List ℕ) → Ended → Type 0
IsMade (Ok text) before after e = IsPut text before after e
IsMade (Err m) before after e = (e ≡ ended.Memory) × (after ≡ before)

abbrev pub Says : List ℕ → Ports → Ended → Type 0
Says text p e = (p.left_after ≡ p.left) × IsPut text p.held p.held_after e

-- `ok N` with a line feed, N the number of the app's items
abbrev pub count_line : Shape → List ℕ
count_line app = codes "ok " ++ decimal (length app.items) ++ codes "\n"

-- what was written whole stands for the app again
abbrev pub IsReadBack : Shape → Ended → Type 0
IsReadBack app ended.Done = ReadsBack app
IsReadBack app _ = ⊤

-- the app's canonical text, which stands for it again
abbrev pub Prints : Shape → Ports → Ended → Type 0
Prints app p e = Says (canonical_text app) p e × IsReadBack app e

-- ---- a replay

-- the output of the replay of the lines that are taken today was written, and it ended so
pub record Writes (app : Shape) (p : Ports) (end : ReplayEnd) : Type 0 where
  pub output : List ℕ
  pub sank : p.held_after ≡ append_known p.held output
  pub is : IfSome p.left (λ bytes. HasWritten output end (replayed_today app bytes))

-- the output was written that the transcript has by the definitions of the whole language and of several sessions, by
-- which each of its lines is taken; and each of them is taken today
pub record WritesWhole (app : Shape) (p : Ports) : Type 0 where
  pub output : List ℕ
  pub sank : p.held_after ≡ append_known p.held output
  pub is : IfSome p.left (λ bytes. HasWritten output done (replayed app bytes))
  pub taken : IfSome p.left (λ bytes. (replayed_today app bytes).end ≡ done)

-- a front of it was written
pub record WritesFront (app : Shape) (p : Ports) : Type 0 where
  pub output : List ℕ
  pub sank : p.held_after ≡ append_known p.held output
  pub front : IfSome p.left (λ bytes. (more : List ℕ) × ((replayed_today app bytes).output ≡ output ++ more))

-- of the input some bytes at the front were read, the others are left, and this is the output of the whole lines that were
-- read, each of which was taken
pub record IsOutputOfRead (app : Shape) (bytes : List ℕ) (left : Option (List ℕ)) (output : List ℕ) : Type 0 where
  pub front : List ℕ
  pub rest : List ℕ
  pub parted : bytes ≡ front ++ rest
  pub is_left : left ≡ Some rest
  pub is : HasWritten output done (replayed_so_far app front)

-- the output of the lines that were read whole was written, and no more
pub record WritesRead (app : Shape) (p : Ports) : Type 0 where
  pub output : List ℕ
  pub sank : p.held_after ≡ append_known p.held output
  pub is : IfSome p.left (λ bytes. IsOutputOfRead app bytes p.left_after output)

-- at Done all lines were taken and the input is at its end; at BadLine and NoSession that line was refused
abbrev pub ReplayedGives : Shape → Ports → Ended → Type 0
ReplayedGives app p ended.Done = WritesWhole app p × IsAtEnd p.left_after
ReplayedGives app p (ended.BadLine k) = Writes app p (bad_line k)
ReplayedGives app p (ended.NoSession k) = Writes app p (no_session k)
ReplayedGives app p ended.ReadFault = WritesFront app p × WritesRead app p
ReplayedGives app p ended.WriteFault = WritesFront app p
ReplayedGives app p ended.Memory = WritesFront app p
ReplayedGives app p _ = ⊥

abbrev pub name_at : List Node → ℕ → List ℕ
name_at items k = found (slice_get items k)
  where
    found : Option Node → List ℕ
    found (Some i) = name_of i
    found None = codes ""

-- why an app is refused whose item at this place has a form that is not run yet
abbrev pub not_yet_text : Shape → ℕ → List ℕ
not_yet_text app k = codes "NotYet " ++ name_at app.items k ++ codes " at 0"

-- ---- a file that is refused

abbrev pub IsRefused : List ℕ → Ended → Type 0
IsRefused reason (ended.AppRefused why) = why ≡ reason
IsRefused reason ended.Memory = ⊤
IsRefused reason _ = ⊥

abbrev pub Refuses : List ℕ → Ports → Ended → Type 0
Refuses reason p e = IsRefused reason e × IsUntouched p

-- only an app whose every item has a form that is run today is replayed
abbrev pub RunsBuilt : Option ℕ → Shape → Ports → Ended → Type 0
RunsBuilt None app p e = ReplayedGives app p e
RunsBuilt (Some k) app p e = Refuses (not_yet_text app k) p e

-- ---- what a command does, by how it ended

abbrev pub CommandGives : Command → Shape → Ports → Ended → Type 0
CommandGives command.Check app p e = Says (count_line app) p e
CommandGives command.Print app p e = Prints app p e
CommandGives command.Replay app p e = RunsBuilt (first_unbuilt app.items) app p e

-- with the app that the file's bytes stand for, or its refusal
abbrev pub AppGives : Command → Result Shape LoadError → Ports → Ended → Type 0
AppGives c (Ok app) p e = CommandGives c app p e
AppGives c (Err refusal) p e = Refuses (refusal_text refusal) p e

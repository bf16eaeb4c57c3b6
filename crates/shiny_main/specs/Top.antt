-- What the top call promises.
use Rattle.std.specs.Prelude.{◌≡◌, ℕ, List, String, Option, Some, None, IfSome, Ok, ⊤, ◌⊎◌}
use Rattle.std.specs.declared.alloc.Global.{Global}
use Rattle.rx_ports.specs.Files.{content_of}
use Rattle.rx_ports.specs.declared.files.NamedFile.{NamedFile}
use Rattle.app_tree.specs.Tree.{Shape}
use Rattle.app_check.specs.Load.{loaded}
use Rattle.session_model.specs.Transcript.{done}
use Rattle.session_model.specs.TakenLines.{replayed_today}
use Rattle.taken_cycle.specs.Built.{IsBuilt}
use Rattle.shiny_main.specs.declared.words.Command.{Command}
use Rattle.shiny_main.specs.declared.words.Command.TheVariants as command
use Rattle.shiny_main.specs.declared.status.Status.{Status}
use Rattle.shiny_main.specs.declared.status.Status.TheVariants as status
use Rattle.shiny_main.specs.declared.ended.Ended.{Ended}
use Rattle.shiny_main.specs.declared.ended.Ended.TheVariants as ended
use Rattle.shiny_main.specs.Words.{words_of}
use Rattle.shiny_main.specs.Ends.{status_of}
use Rattle.shiny_main.specs.Notes.{note_text, IsNoted}
use Rattle.shiny_main.specs.Ports.{Ports, IsUntouched}
use Rattle.shiny_main.specs.Commands.{AppGives}

-- ---- the file

-- the bytes that were read stand for what the file of this name does, where the files are known
abbrev pub IsRead : Option (List NamedFile) → List ℕ → List ℕ → Type 0
IsRead files name bytes =
    IfSome files (λ known. (content : List ℕ) × (content_of known name ≡ Some content) × (loaded content ≡ loaded bytes))

-- the file of this name was read, and the command did with its bytes what it does
pub record ReadGives (c : Command) (name : List ℕ) (files : Option (List NamedFile)) (p : Ports) (e : Ended) : Type 0 where
  pub bytes : List ℕ
  pub read : IsRead files name bytes
  pub gives : AppGives c (loaded bytes) p e

abbrev pub FileGives : Command → List ℕ → Option (List NamedFile) → Ports → Ended → Type 0
FileGives c name files p ended.FileAbsent = IfSome files (λ known. content_of known name ≡ None) × IsUntouched p
FileGives c name files p ended.FileFault = IsUntouched p
FileGives c name files p ended.Memory = IsUntouched p ⊎ ReadGives c name files p ended.Memory
FileGives c name files p e = ReadGives c name files p e

-- the words decide first: they name a command and a file, or the work ends at once
abbrev pub WordsGive : Option (Command × List ℕ) → Option (List NamedFile) → Ports → Ended → Type 0
WordsGive None files p e = (e ≡ ended.WrongWords) × IsUntouched p
WordsGive (Some w) files p e = FileGives w.0 w.1 files p e

-- ---- the whole

-- how the work ended, what was done until then, and the note and the status that tell it
pub record RunGives (words : List (String Global)) (files : Option (List NamedFile)) (p : Ports)
    (note note_after : Option (List ℕ)) (s : Status) : Type 0 where
  pub end : Ended
  pub did : WordsGive (words_of words) files p end
  pub noted : IsNoted (note_text words end) (status_of end) note note_after s

-- ---- what is taken is done

-- a replay needs an app that is run today, and a transcript of which the app takes every line
pub record IsReplayable (app : Shape) (left : Option (List ℕ)) : Type 0 where
  pub bytes : List ℕ
  pub built : IsBuilt app
  pub comes : left ≡ Some bytes
  pub whole : (replayed_today app bytes).end ≡ done

abbrev pub IsReady : Command → Shape → Option (List ℕ) → Type 0
IsReady command.Check app left = ⊤
IsReady command.Print app left = ⊤
IsReady command.Replay app left = IsReplayable app left

-- the words name a command and a file, the file stands for an app, and the command can be done with it
pub record IsTaken (words : List (String Global)) (files : Option (List NamedFile)) (left : Option (List ℕ)) : Type 0 where
  pub command : Command
  pub name : List ℕ
  pub known : List NamedFile
  pub content : List ℕ
  pub app : Shape
  pub named : words_of words ≡ Some (command, name)
  pub are_known : files ≡ Some known
  pub found : content_of known name ≡ Some content
  pub stands : loaded content ≡ Ok app
  pub ready : IsReady command app left

abbrev pub IsDoneOrMemory : Status → Type 0
IsDoneOrMemory status.Done = ⊤
IsDoneOrMemory status.Memory = ⊤
IsDoneOrMemory _ = ⊥

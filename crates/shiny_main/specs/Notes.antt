-- The note that tells why the program ended so: one line, or nothing.
use Rattle.std.specs.Prelude.{◌≡◌, ℕ, List, [], ◌++◌, codes, String, Option, Some, None, ⊤, ◌⊎◌, Result, Ok, Err}
use Rattle.std.specs.Fmt.{decimal}
use Rattle.std.specs.declared.alloc.Global.{Global}
use Rattle.std.specs.Io.KnownBytes.{append_known}
use Rattle.rx_ports.specs.Sink.{PutsFront}
use Rattle.shiny_main.specs.declared.words.Command.{Command}
use Rattle.shiny_main.specs.declared.status.Status.{Status}
use Rattle.shiny_main.specs.declared.status.Status.TheVariants as status
use Rattle.shiny_main.specs.declared.ended.Ended.{Ended}
use Rattle.shiny_main.specs.declared.ended.Ended.TheVariants as ended
use Rattle.rx_value.specs.declared.memory.Memory.{Memory}
use Rattle.shiny_main.specs.Words.{words_of}
use Rattle.shiny_main.specs.Ends.{status_of}

abbrev pub usage_text : List ℕ
usage_text = codes "usage: check FILE | print FILE | fresh FILE | replay FILE | gen SEED SIZE | serve FILE [options]\n"

abbrev pub memory_text : List ℕ
memory_text = codes "out of memory\n"

abbrev pub file_of : Option (Command × List ℕ) → List ℕ
file_of (Some w) = w.1
file_of None = []

abbrev pub line_head : ℕ → List ℕ
line_head k = codes "line " ++ decimal k ++ codes ": "

abbrev pub line_text : ℕ → List ℕ → List ℕ
line_text k what = line_head k ++ what ++ codes "\n"

abbrev pub note_on : List ℕ → Ended → List ℕ
note_on file ended.Done = []
note_on file ended.WrongWords = usage_text
note_on file (ended.AppRefused why) = codes "app refused: " ++ why ++ codes "\n"
note_on file ended.FileAbsent = codes "file absent: " ++ file ++ codes "\n"
note_on file ended.FileFault = codes "file fault: " ++ file ++ codes "\n"
note_on file (ended.BadLine k) = line_text k (codes "bad line")
note_on file (ended.NoSession k) = line_text k (codes "no session")
note_on file ended.ReadFault = codes "read fault\n"
note_on file ended.WriteFault = []
note_on file ended.Memory = memory_text

abbrev pub note_text : List (String Global) → Ended → List ℕ
note_text words e = note_on (file_of (words_of words)) e

-- the note was written whole, and the status is that of the end; or a front of it was, and the status says that
abbrev pub IsNoted : List ℕ → Status → Option (List ℕ) → Option (List ℕ) → Status → Type 0
IsNoted text end before after s =
    ((s ≡ end) × (after ≡ append_known before text)) ⊎ ((s ≡ status.WriteFault) × PutsFront before after text)

-- ends whose note takes memory; where there is none, that is what the note tells
abbrev pub IsComposed : Ended → Type 0
IsComposed (ended.AppRefused why) = ⊤
IsComposed ended.FileAbsent = ⊤
IsComposed ended.FileFault = ⊤
IsComposed (ended.BadLine k) = ⊤
IsComposed (ended.NoSession k) = ⊤
IsComposed _ = ⊥

abbrev pub Tells : List ℕ → Ended → Option (List ℕ) → Option (List ℕ) → Status → Type 0
Tells file e before after s =
    IsNoted (note_on file e) (status_of e) before after s
    ⊎ (IsComposed e × IsNoted memory_text status.Memory before after s)

-- a text that was made is written with this status, and want of memory has its own note and status
abbrev pub TellsMade : Result (List ℕ) Memory → Status → Option (List ℕ) → Option (List ℕ) → Status → Type 0
TellsMade (Ok text) end before after s = IsNoted text end before after s
TellsMade (Err e) end before after s = IsNoted memory_text status.Memory before after s

-- The words of the command line, without the program's name.
use Rattle.std.specs.Prelude.{ℕ, List, [], ◌∷◌, String, string_bytes, Option, Some, None, codes, bytes_eq, if◌then◌else◌}
use Rattle.std.specs.declared.alloc.Global.{Global}
use Rattle.shiny_main.specs.declared.words.Command.{Command}
use Rattle.shiny_main.specs.declared.words.Command.TheVariants as command

abbrev pub command_named : List ℕ → Option Command
command_named word =
    if bytes_eq word (codes "check") then Some command.Check else (
    if bytes_eq word (codes "print") then Some command.Print else (
    if bytes_eq word (codes "replay") then Some command.Replay else
    None))

abbrev pub with_file : Option Command → List ℕ → Option (Command × List ℕ)
with_file (Some c) file = Some (c, file)
with_file None file = None

-- the command and the file of `check FILE`, `print FILE` and `replay FILE`; None where the words are none of these
abbrev pub words_of : List (String Global) → Option (Command × List ℕ)
words_of (name ∷ file ∷ []) = with_file (command_named (string_bytes name)) (string_bytes file)
words_of _ = None

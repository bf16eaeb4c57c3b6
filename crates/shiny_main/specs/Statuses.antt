-- The exit status of each way in which the program ends.
use Rattle.std.specs.Prelude.{ℕ}
use Rattle.shiny_main.specs.declared.status.Status.{Status}
use Rattle.shiny_main.specs.declared.status.Status.TheVariants as status

abbrev pub status_number : Status → ℕ
status_number status.Done = 0
status_number status.WrongWords = 2
status_number status.AppRefused = 3
status_number status.FileAbsent = 4
status_number status.FileFault = 5
status_number status.LineRefused = 6
status_number status.ReadFault = 7
status_number status.WriteFault = 8
status_number status.Memory = 9

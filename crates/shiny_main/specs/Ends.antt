-- How the program's work may end.
use Rattle.shiny_main.specs.declared.status.Status.{Status}
use Rattle.shiny_main.specs.declared.status.Status.TheVariants as status
use Rattle.shiny_main.specs.declared.ended.Ended.{Ended}
use Rattle.shiny_main.specs.declared.ended.Ended.TheVariants as ended
use Rattle.shiny_main.specs.declared.transcript.Replayed.{Replayed as ReplayAnswer}
use Rattle.shiny_main.specs.declared.transcript.Replayed.TheVariants as answer

abbrev pub status_of : Ended → Status
status_of ended.Done = status.Done
status_of ended.WrongWords = status.WrongWords
status_of (ended.AppRefused why) = status.AppRefused
status_of ended.FileAbsent = status.FileAbsent
status_of ended.FileFault = status.FileFault
status_of (ended.BadLine k) = status.LineRefused
status_of (ended.NoSession k) = status.LineRefused
status_of ended.ReadFault = status.ReadFault
status_of ended.WriteFault = status.WriteFault
status_of ended.Memory = status.Memory

abbrev pub ended_by : ReplayAnswer → Ended
ended_by answer.Done = ended.Done
ended_by (answer.BadLine k) = ended.BadLine k
ended_by (answer.NoSession k) = ended.NoSession k
ended_by answer.ReadFault = ended.ReadFault
ended_by answer.WriteFault = ended.WriteFault
ended_by answer.Memory = ended.Memory

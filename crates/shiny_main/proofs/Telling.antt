-- The status and the note tell how the work ended.
use Rattle.std.proofs.Common.{◌≡◌, ◌∙◌, ℕ, List, [], Option, refl, sym, inl, inr}
use Rattle.std.specs.Prelude.{◌≢◌, String}
use Rattle.std.specs.declared.alloc.Global.{Global}
use Rattle.rx_ports.specs.declared.files.NamedFile.{NamedFile}
use Rattle.shiny_main.specs.declared.status.Status.{Status}
use Rattle.shiny_main.specs.declared.status.Status.TheVariants as status
use Rattle.shiny_main.specs.declared.ended.Ended.{Ended}
use Rattle.shiny_main.specs.declared.ended.Ended.TheVariants as ended
use Rattle.shiny_main.specs.Ends.{status_of}
use Rattle.shiny_main.specs.Words.{words_of}
use Rattle.shiny_main.specs.Notes.{file_of, IsNoted, Tells}
use Rattle.shiny_main.specs.Ports.{Ports}
use Rattle.shiny_main.specs.Top.{WordsGive, RunGives}
use Rattle.shiny_main.proofs.Ending.{words_memory, append_nothing}

-- nothing is written where there is nothing to tell
pub tells_nothing : (end : Status) (before : Option (List ℕ)) → IsNoted [] end before before end
tells_nothing end before = inl (refl, sym (append_nothing before))

pub run_gives : (words : List (String Global)) (files : Option (List NamedFile)) (p : Ports) (e : Ended) (note note_after : Option (List ℕ)) (s : Status)
    → WordsGive (words_of words) files p e → Tells (file_of (words_of words)) e note note_after s → RunGives words files p note note_after s
run_gives words files p e note note_after s did tells = elim tells as (λ _. RunGives words files p note note_after s) [
  | inl noted ↦ record { end = e; did = did; noted = noted }
  | inr lacking ↦ record { end = ended.Memory; did = words_memory (words_of words) files p e lacking.0 did; noted = lacking.1 }
]

-- a status that tells neither a fault of the note nor want of memory is that of the end
status_is : (file : List ℕ) (e : Ended) (note note_after : Option (List ℕ)) (s : Status) → Tells file e note note_after s
    → s ≢ status.WriteFault → s ≢ status.Memory → s ≡ status_of e
status_is file e note note_after s tells no_write no_memory = elim tells as (λ _. s ≡ status_of e) [
  | inl noted ↦ elim noted as (λ _. s ≡ status_of e) [ inl whole ↦ whole.0 | inr front ↦ absurd (no_write front.0) ]
  | inr lacking ↦ elim lacking.1 as (λ _. s ≡ status_of e) [ inl whole ↦ absurd (no_memory whole.0) | inr front ↦ absurd (no_write front.0) ]
]

-- a status that tells a fault of the files, or of the input, tells just that end
record TellsPort (e : Ended) : Type 0 where
  file : status_of e ≡ status.FileFault → e ≡ ended.FileFault
  input : status_of e ≡ status.ReadFault → e ≡ ended.ReadFault

tells_port : (e : Ended) → TellsPort e
tells_port ended.Done = record { file = λ i. cc; input = λ i. cc }
tells_port ended.WrongWords = record { file = λ i. cc; input = λ i. cc }
tells_port (ended.AppRefused why) = record { file = λ i. cc; input = λ i. cc }
tells_port ended.FileAbsent = record { file = λ i. cc; input = λ i. cc }
tells_port ended.FileFault = record { file = λ i. refl; input = λ i. cc }
tells_port (ended.BadLine k) = record { file = λ i. cc; input = λ i. cc }
tells_port (ended.NoSession k) = record { file = λ i. cc; input = λ i. cc }
tells_port ended.ReadFault = record { file = λ i. cc; input = λ i. refl }
tells_port ended.WriteFault = record { file = λ i. cc; input = λ i. cc }
tells_port ended.Memory = record { file = λ i. cc; input = λ i. cc }

-- so a fault of the files or of the input that the status tells is how the work ended
pub ends_by_file : (file : List ℕ) (e : Ended) (note note_after : Option (List ℕ)) (s : Status) → Tells file e note note_after s
    → s ≡ status.FileFault → e ≡ ended.FileFault
ends_by_file file e note note_after s tells i =
    (tells_port e).file (sym (status_is file e note note_after s tells (λ w. cc) (λ m. cc)) ∙ i)

pub ends_by_read : (file : List ℕ) (e : Ended) (note note_after : Option (List ℕ)) (s : Status) → Tells file e note note_after s
    → s ≡ status.ReadFault → e ≡ ended.ReadFault
ends_by_read file e note note_after s tells i =
    (tells_port e).input (sym (status_is file e note note_after s tells (λ w. cc) (λ m. cc)) ∙ i)

pub is_write_fault : (e : Ended) → status_of e ≡ status.WriteFault → e ≡ ended.WriteFault
is_write_fault ended.Done i = cc
is_write_fault ended.WrongWords i = cc
is_write_fault (ended.AppRefused why) i = cc
is_write_fault ended.FileAbsent i = cc
is_write_fault ended.FileFault i = cc
is_write_fault (ended.BadLine k) i = cc
is_write_fault (ended.NoSession k) i = cc
is_write_fault ended.ReadFault i = cc
is_write_fault ended.WriteFault i = refl
is_write_fault ended.Memory i = cc

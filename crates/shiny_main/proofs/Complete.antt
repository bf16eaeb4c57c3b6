-- What is taken and meets no fault is done, or memory is wanting.
use Rattle.std.proofs.Common.{◌≡◌, ◌≢◌, ℕ, List, Option, Some, None, IfSome, Ok, refl, sym, ◌∙◌, subst, inl, inr}
use Rattle.std.specs.Prelude.{⊤, String}
use Rattle.std.specs.declared.alloc.Global.{Global}
use Rattle.rx_ports.specs.Files.{content_of}
use Rattle.rx_ports.specs.declared.files.NamedFile.{NamedFile}
use Rattle.app_tree.specs.Tree.{Shape}
use Rattle.app_check.specs.Load.{loaded}
use Rattle.app_printer.specs.Canonical.{canonical_text}
use Rattle.session_model.specs.Transcript.{ReplayEnd, done, bad_line, no_session}
use Rattle.session_model.specs.TakenLines.{replayed_today}
use Rattle.shiny_main.specs.declared.words.Command.{Command}
use Rattle.shiny_main.specs.declared.words.Command.TheVariants as command
use Rattle.shiny_main.specs.declared.status.Status.{Status}
use Rattle.shiny_main.specs.declared.status.Status.TheVariants as status
use Rattle.shiny_main.specs.declared.ended.Ended.{Ended}
use Rattle.shiny_main.specs.declared.ended.Ended.TheVariants as ended
use Rattle.shiny_main.specs.Ends.{status_of}
use Rattle.shiny_main.specs.Commands.{Says, count_line, Writes, ReplayedGives, RunsBuilt, CommandGives, AppGives}
use Rattle.shiny_main.specs.Ports.{Ports}
use Rattle.shiny_main.specs.SoFar.{HasWritten}
use Rattle.shiny_main.specs.Top.{IsRead, ReadGives, FileGives, WordsGive, RunGives, IsReplayable, IsReady, IsTaken, IsDoneOrMemory}

-- the ends that what is taken may have
abbrev IsDoneOrFault : Ended → Type 0
IsDoneOrFault ended.Done = ⊤
IsDoneOrFault ended.FileFault = ⊤
IsDoneOrFault ended.ReadFault = ⊤
IsDoneOrFault ended.WriteFault = ⊤
IsDoneOrFault ended.Memory = ⊤
IsDoneOrFault _ = ⊥

said_well : (text : List ℕ) (p : Ports) (e : Ended) → Says text p e → IsDoneOrFault e
said_well text p ended.Done g = tt
said_well text p ended.WrongWords g = g.1
said_well text p (ended.AppRefused why) g = g.1
said_well text p ended.FileAbsent g = g.1
said_well text p ended.FileFault g = tt
said_well text p (ended.BadLine k) g = g.1
said_well text p (ended.NoSession k) g = g.1
said_well text p ended.ReadFault g = tt
said_well text p ended.WriteFault g = tt
said_well text p ended.Memory g = tt

-- a transcript that is taken whole has no other end
other_end : (app : Shape) (p : Ports) (ready : IsReplayable app p.left) (end : ReplayEnd) → end ≢ done → ¬ Writes app p end
other_end app p ready end other w =
    let is = subst (λ left. IfSome left (λ bytes. HasWritten w.output end (replayed_today app bytes))) ready.comes w.is in
    other (sym is.ended ∙ ready.whole)

replayed_well : (app : Shape) (p : Ports) (e : Ended) → IsReplayable app p.left → ReplayedGives app p e → IsDoneOrFault e
replayed_well app p ended.Done ready g = tt
replayed_well app p ended.WrongWords ready g = g
replayed_well app p (ended.AppRefused why) ready g = g
replayed_well app p ended.FileAbsent ready g = g
replayed_well app p ended.FileFault ready g = tt
replayed_well app p (ended.BadLine k) ready g = other_end app p ready (bad_line k) (λ x. cc) g
replayed_well app p (ended.NoSession k) ready g = other_end app p ready (no_session k) (λ x. cc) g
replayed_well app p ended.ReadFault ready g = tt
replayed_well app p ended.WriteFault ready g = tt
replayed_well app p ended.Memory ready g = tt

command_well : (c : Command) (app : Shape) (p : Ports) (e : Ended) → IsReady c app p.left → CommandGives c app p e → IsDoneOrFault e
command_well command.Check app p e ready g = said_well (count_line app) p e g
command_well command.Print app p e ready g = said_well (canonical_text app) p e g.0
command_well command.Replay app p e ready g =
    replayed_well app p e ready (subst (λ unbuilt. RunsBuilt unbuilt app p e) ready.built g)

read_app : (files : List NamedFile) (name content bytes : List ℕ) (app : Shape) → content_of files name ≡ Some content → loaded content ≡ Ok app → IsRead (Some files) name bytes → loaded bytes ≡ Ok app
read_app files name content bytes app found stands (content', found', same) =
    let one : Some content' ≡ Some content = sym found' ∙ found in
    cc

read_well : (c : Command) (files : List NamedFile) (name content : List ℕ) (app : Shape) (p : Ports) (e : Ended) → content_of files name ≡ Some content → loaded content ≡ Ok app → IsReady c app p.left
    → ReadGives c name (Some files) p e → IsDoneOrFault e
read_well c files name content app p e found stands ready g =
    command_well c app p e ready (subst (λ r. AppGives c r p e) (read_app files name content g.bytes app found stands g.read) g.gives)

file_well : (c : Command) (files : List NamedFile) (name content : List ℕ) (app : Shape) (p : Ports) (e : Ended) → content_of files name ≡ Some content → loaded content ≡ Ok app → IsReady c app p.left
    → FileGives c name (Some files) p e → IsDoneOrFault e
file_well c files name content app p ended.Done found stands ready g = tt
file_well c files name content app p ended.WrongWords found stands ready g = read_well c files name content app p ended.WrongWords found stands ready g
file_well c files name content app p (ended.AppRefused why) found stands ready g = read_well c files name content app p (ended.AppRefused why) found stands ready g
file_well c files name content app p ended.FileAbsent found stands ready g = let one : Some content ≡ None = sym found ∙ g.0 in absurd cc
file_well c files name content app p ended.FileFault found stands ready g = tt
file_well c files name content app p (ended.BadLine k) found stands ready g = read_well c files name content app p (ended.BadLine k) found stands ready g
file_well c files name content app p (ended.NoSession k) found stands ready g = read_well c files name content app p (ended.NoSession k) found stands ready g
file_well c files name content app p ended.ReadFault found stands ready g = tt
file_well c files name content app p ended.WriteFault found stands ready g = tt
file_well c files name content app p ended.Memory found stands ready g = tt

-- the status of such an end, where no port failed
no_fault : (e : Ended) → IsDoneOrFault e → status_of e ≢ status.FileFault → status_of e ≢ status.ReadFault → status_of e ≢ status.WriteFault
    → IsDoneOrMemory (status_of e)
no_fault ended.Done i no_file no_read no_write = tt
no_fault ended.WrongWords i no_file no_read no_write = i
no_fault (ended.AppRefused why) i no_file no_read no_write = i
no_fault ended.FileAbsent i no_file no_read no_write = i
no_fault ended.FileFault i no_file no_read no_write = no_file refl
no_fault (ended.BadLine k) i no_file no_read no_write = i
no_fault (ended.NoSession k) i no_file no_read no_write = i
no_fault ended.ReadFault i no_file no_read no_write = no_read refl
no_fault ended.WriteFault i no_file no_read no_write = no_write refl
no_fault ended.Memory i no_file no_read no_write = tt

pub completes : (words : List (String Global)) (files : Option (List NamedFile)) (p : Ports) (note note_after : Option (List ℕ)) (s : Status)
    → RunGives words files p note note_after s → IsTaken words files p.left → s ≢ status.FileFault → s ≢ status.ReadFault → s ≢ status.WriteFault → IsDoneOrMemory s
completes words files p note note_after s g taken no_file no_read no_write =
    let named = subst (λ x. WordsGive x files p g.end) taken.named g.did in
    let known = subst (λ t. FileGives taken.command taken.name t p g.end) taken.are_known named in
    let well = file_well taken.command taken.known taken.name taken.content taken.app p g.end taken.found taken.stands taken.ready known in
    elim (g.noted) as (λ _. IsDoneOrMemory s) [
      | inl noted ↦
          subst IsDoneOrMemory (sym noted.0)
          (no_fault g.end well (λ is. no_file (noted.0 ∙ is)) (λ is. no_read (noted.0 ∙ is)) (λ is. no_write (noted.0 ∙ is)))
      | inr front ↦ absurd (no_write front.0)
    ]

-- What the work did, by how it ended.
use Rattle.std.proofs.Common.{◌≡◌, ℕ, zero, suc, ◌<◌, ◌≤◌, Bool, true, false, List, [], ◌∷◌, ◌++◌, length, take, Option, Some, None, IfSome, Result, Ok, Err, refl, sym, ap, ◌∙◌, subst, arith, inl, inr}
use Rattle.std.specs.Prelude.{◌≢◌, nat_le}
use Rattle.std.specs.Option.{option_map}
use Rattle.std.specs.Io.KnownBytes.{append_known}
use Rattle.std.proofs.lemmas.Bool.Decides.{nat_tests}
use Rattle.std.proofs.lemmas.List.{length-take, append-nil}
use Rattle.rx_value.specs.declared.memory.Memory.{Memory}
use Rattle.rx_ports.specs.Files.{content_of, ReadGives as PortReadGives}
use Rattle.rx_ports.specs.declared.files.FileRead.TheVariants.{Found}
use Rattle.rx_ports.specs.declared.files.NamedFile.{NamedFile}
use Rattle.app_tree.specs.Tree.{Shape}
use Rattle.app_check.specs.declared.error.LoadError.{LoadError}
use Rattle.app_check.specs.declared.error.LoadError.TheVariants as error
use Rattle.app_check.specs.declared.limits.TheConstants.{FILE_LIMIT}
use Rattle.app_check.specs.Load.{loaded, within_limit, is_short}
use Rattle.taken_cycle.specs.Built.{first_unbuilt}
use Rattle.session_model.specs.Transcript.{ReplayEnd, done, bad_line, no_session, replayed}
use Rattle.session_model.specs.TakenLines.{replayed_today}
use Rattle.session_laws.proofs.TakenReplay.{taken_is_whole}
use Rattle.shiny_main.specs.declared.words.Command.{Command}
use Rattle.shiny_main.specs.declared.words.Command.TheVariants as command
use Rattle.shiny_main.specs.declared.ended.Ended.{Ended}
use Rattle.shiny_main.specs.declared.ended.Ended.TheVariants as ended
use Rattle.shiny_main.specs.declared.transcript.Replayed.{Replayed as ReplayAnswer}
use Rattle.shiny_main.specs.declared.transcript.Replayed.TheVariants as answer
use Rattle.shiny_main.specs.Ends.{ended_by}
use Rattle.shiny_main.specs.Notes.{IsComposed}
use Rattle.shiny_main.specs.SoFar.{HasWritten}
use Rattle.shiny_main.specs.inner.Replaying.{Ends, Stops, IsOutputOfFront, Leaves, ReplayGives as LinesGive}
use Rattle.app_printer.specs.Canonical.{canonical_text}
use Rattle.shiny_main.specs.Commands.{IsPut, IsMade, Says, count_line, Writes, WritesWhole, WritesFront, IsOutputOfRead, WritesRead, ReplayedGives, RunsBuilt, CommandGives, AppGives}
use Rattle.shiny_main.specs.Ports.{Ports, IsUntouched}
use Rattle.shiny_main.specs.Top.{IsRead, ReadGives, FileGives, WordsGive}

-- ---- a replay, from its lines

writes : (app : Shape) (p : Ports) (end : ReplayEnd) → Ends app 1 [] p.left p.held p.held_after end → Writes app p end
writes app p end h = record { output = h.output; sank = h.sank; is = h.is }

writes_front : (app : Shape) (p : Ports) → Stops app 1 [] p.left p.held p.held_after → WritesFront app p
writes_front app p h = record { output = h.output; sank = h.sank; front = h.front }

writes_read : (app : Shape) (p : Ports) → Leaves app 1 [] p.left p.left_after p.held p.held_after → WritesRead app p
writes_read app p h = record { output = h.output; sank = h.sank; is = by p.left h.is }
  where
    by : (left : Option (List ℕ)) → IfSome left (λ bytes. IsOutputOfFront app 1 [] bytes p.left_after h.output) → IfSome left (λ bytes. IsOutputOfRead app bytes p.left_after h.output)
    by None is = tt
    by (Some bytes) is = record { front = is.front; rest = is.rest; parted = is.parted; is_left = is.is_left; is = is.is }

-- what is taken to its end has the same output as a whole
whole_end : (app : Shape) (left : Option (List ℕ)) (output : List ℕ) → IfSome left (λ bytes. HasWritten output done (replayed_today app bytes))
    → IfSome left (λ bytes. HasWritten output done (replayed app bytes))
whole_end app None output h = tt
whole_end app (Some bytes) output h = subst (HasWritten output done) (sym (taken_is_whole app bytes h.ended)) h

taken_end : (app : Shape) (left : Option (List ℕ)) (output : List ℕ) → IfSome left (λ bytes. HasWritten output done (replayed_today app bytes))
    → IfSome left (λ bytes. (replayed_today app bytes).end ≡ done)
taken_end app None output h = tt
taken_end app (Some bytes) output h = h.ended

writes_whole : (app : Shape) (p : Ports) → Writes app p done → WritesWhole app p
writes_whole app p w = record { output = w.output; sank = w.sank; is = whole_end app p.left w.output w.is; taken = taken_end app p.left w.output w.is }

pub replayed_gives : (app : Shape) (p : Ports) (a : ReplayAnswer) → LinesGive app 1 [] p.left p.left_after p.held p.held_after a → ReplayedGives app p (ended_by a)
replayed_gives app p answer.Done h = (writes_whole app p (writes app p done h.0), h.1)
replayed_gives app p (answer.BadLine j) h = writes app p (bad_line j) h
replayed_gives app p (answer.NoSession j) h = writes app p (no_session j) h
replayed_gives app p answer.ReadFault h = (writes_front app p h.0, writes_read app p h.1)
replayed_gives app p answer.WriteFault h = writes_front app p h
replayed_gives app p answer.Memory h = writes_front app p h

-- so a fault that the work ended by is one of the replay
pub ended_by_read : (a : ReplayAnswer) → ended_by a ≡ ended.ReadFault → a ≡ answer.ReadFault
ended_by_read answer.Done is = cc
ended_by_read (answer.BadLine j) is = cc
ended_by_read (answer.NoSession j) is = cc
ended_by_read answer.ReadFault is = refl
ended_by_read answer.WriteFault is = cc
ended_by_read answer.Memory is = cc

pub ended_by_write : (a : ReplayAnswer) → ended_by a ≡ ended.WriteFault → a ≡ answer.WriteFault
ended_by_write answer.Done is = cc
ended_by_write (answer.BadLine j) is = cc
ended_by_write (answer.NoSession j) is = cc
ended_by_write answer.ReadFault is = cc
ended_by_write answer.WriteFault is = refl
ended_by_write answer.Memory is = cc

-- and a text that is written reads no input
pub made_unread : (text : Result (List ℕ) Memory) (before after : Option (List ℕ)) (e : Ended) → IsMade text before after e → e ≢ ended.ReadFault
made_unread (Ok text) before after e made is = subst (IsPut text before after) is made
made_unread (Err m) before after e made is = let same = made.0 in cc

-- ---- nothing was done for want of memory

pub append_nothing : (known : Option (List ℕ)) → append_known known [] ≡ known
append_nothing None = refl
append_nothing (Some xs) = ap Some (append-nil xs)

nothing_front : (app : Shape) (left : Option (List ℕ)) → IfSome left (λ bytes. (more : List ℕ) × ((replayed_today app bytes).output ≡ [] ++ more))
nothing_front app None = tt
nothing_front app (Some bytes) = ((replayed_today app bytes).output, refl)

pub untouched_front : (app : Shape) (p : Ports) → IsUntouched p → WritesFront app p
untouched_front app p h = record { output = []; sank = h.written ∙ sym (append_nothing p.held); front = nothing_front app p.left }

untouched_built : (unbuilt : Option ℕ) (app : Shape) (p : Ports) → IsUntouched p → RunsBuilt unbuilt app p ended.Memory
untouched_built None app p h = untouched_front app p h
untouched_built (Some k) app p h = (tt, h)

pub untouched_command : (c : Command) (app : Shape) (p : Ports) → IsUntouched p → CommandGives c app p ended.Memory
untouched_command command.Check app p h = (h.read, h.written)
untouched_command command.Print app p h = ((h.read, h.written), tt)
untouched_command command.Replay app p h = untouched_built (first_unbuilt app.items) app p h

pub untouched_app : (c : Command) (r : Result Shape LoadError) (p : Ports) → IsUntouched p → AppGives c r p ended.Memory
untouched_app c (Ok app) p h = untouched_command c app p h
untouched_app c (Err refusal) p h = (tt, h)

-- ---- the file

take_past : (n : ℕ) (xs : List ℕ) → length xs ≤ n → take n xs ≡ xs
take_past zero [] h = refl
take_past (suc n) [] h = refl
take_past zero (x ∷ xs) h = absurd (omega (arith, h))
take_past (suc n) (x ∷ xs) h = ap (λ l. x ∷ l) (take_past n xs (omega (arith, h)))

too_long : (bytes : List ℕ) → is_short bytes ≡ false → loaded bytes ≡ Err error.TooLong
too_long bytes e = ap (λ b. within_limit b bytes) e

is_over : (n limit : ℕ) → nat_le n limit ≡ false → limit < n
is_over n limit e = grind (arith, nat_tests)

is_within : (n limit : ℕ) → nat_le n limit ≡ true → n ≤ limit
is_within n limit e = grind (arith, nat_tests)

not_within : (n limit : ℕ) → limit < n → nat_le n limit ≡ false
not_within n limit lt = grind (arith, nat_tests)

front_by : (content : List ℕ) (limit : ℕ) (short : Bool) → limit ≡ FILE_LIMIT → nat_le (length content) limit ≡ short
    → loaded content ≡ loaded (take (suc limit) content)
front_by content limit true is e =
    let within : length content ≤ limit = is_within (length content) limit e in
    ap loaded (sym (take_past (suc limit) content (omega (arith, within))))
front_by content limit false is e =
    let front = take (suc limit) content in
    let over : limit < length content = is_over (length content) limit e in
    let cut : limit < length front = omega (arith, length-take (suc limit) content, over) in
    let long : nat_le (length content) FILE_LIMIT ≡ false = subst (λ n. nat_le (length content) n ≡ false) is e in
    let still : nat_le (length front) FILE_LIMIT ≡ false =
    subst (λ n. nat_le (length front) n ≡ false) is (not_within (length front) limit cut) in
    too_long content long ∙ sym (too_long front still)

read_front : (found : Option (List ℕ)) (bytes : List ℕ) → option_map (λ content. take (suc FILE_LIMIT) content) found ≡ Some bytes
    → (content : List ℕ) × (found ≡ Some content) × (loaded content ≡ loaded bytes)
read_front None bytes e = cc
read_front (Some content) bytes e =
    let same : take (suc FILE_LIMIT) content ≡ bytes = cc in
    (content, refl, front_by content FILE_LIMIT (nat_le (length content) FILE_LIMIT) refl refl ∙ ap loaded same)

pub is_read : (files : Option (List NamedFile)) (name bytes : List ℕ) → PortReadGives files name FILE_LIMIT (Found bytes) → IsRead files name bytes
is_read None name bytes h = tt
is_read (Some known) name bytes h = read_front (content_of known name) bytes h.1

built_absent : (unbuilt : Option ℕ) (app : Shape) (p : Ports) → ¬ RunsBuilt unbuilt app p ended.FileAbsent
built_absent None app p g = g
built_absent (Some k) app p g = g.0

app_absent : (c : Command) (r : Result Shape LoadError) (p : Ports) → ¬ AppGives c r p ended.FileAbsent
app_absent command.Check (Ok app) p g = g.1
app_absent command.Print (Ok app) p g = g.0.1
app_absent command.Replay (Ok app) p g = built_absent (first_unbuilt app.items) app p g
app_absent command.Check (Err r) p g = g.0
app_absent command.Print (Err r) p g = g.0
app_absent command.Replay (Err r) p g = g.0

built_fault : (unbuilt : Option ℕ) (app : Shape) (p : Ports) → ¬ RunsBuilt unbuilt app p ended.FileFault
built_fault None app p g = g
built_fault (Some k) app p g = g.0

app_fault : (c : Command) (r : Result Shape LoadError) (p : Ports) → ¬ AppGives c r p ended.FileFault
app_fault command.Check (Ok app) p g = g.1
app_fault command.Print (Ok app) p g = g.0.1
app_fault command.Replay (Ok app) p g = built_fault (first_unbuilt app.items) app p g
app_fault command.Check (Err r) p g = g.0
app_fault command.Print (Err r) p g = g.0
app_fault command.Replay (Err r) p g = g.0

-- the file was read, and its app was run so
pub found_gives : (c : Command) (name bytes : List ℕ) (files : Option (List NamedFile)) (p : Ports) (e : Ended) → IsRead files name bytes → AppGives c (loaded bytes) p e → FileGives c name files p e
found_gives c name bytes files p ended.Done r g = record { bytes = bytes; read = r; gives = g }
found_gives c name bytes files p ended.WrongWords r g = record { bytes = bytes; read = r; gives = g }
found_gives c name bytes files p (ended.AppRefused why) r g = record { bytes = bytes; read = r; gives = g }
found_gives c name bytes files p ended.FileAbsent r g = absurd (app_absent c (loaded bytes) p g)
found_gives c name bytes files p ended.FileFault r g = absurd (app_fault c (loaded bytes) p g)
found_gives c name bytes files p (ended.BadLine k) r g = record { bytes = bytes; read = r; gives = g }
found_gives c name bytes files p (ended.NoSession k) r g = record { bytes = bytes; read = r; gives = g }
found_gives c name bytes files p ended.ReadFault r g = record { bytes = bytes; read = r; gives = g }
found_gives c name bytes files p ended.WriteFault r g = record { bytes = bytes; read = r; gives = g }
found_gives c name bytes files p ended.Memory r g = inr (record { bytes = bytes; read = r; gives = g })

-- so no end of an app is a fault of the files
pub app_no_file_fault : (c : Command) (r : Result Shape LoadError) (p : Ports) (e : Ended) → AppGives c r p e → e ≢ ended.FileFault
app_no_file_fault c r p e g is = app_fault c r p (subst (AppGives c r p) is g)

-- ---- an end whose note finds no memory is as good as one for want of memory

lines_front : (app : Shape) (p : Ports) (end : ReplayEnd) → Writes app p end → WritesFront app p
lines_front app p end h = record { output = h.output; sank = h.sank; front = by p.left h.is }
  where
    by : (left : Option (List ℕ)) → IfSome left (λ bytes. HasWritten h.output end (replayed_today app bytes)) → IfSome left (λ bytes. (more : List ℕ) × ((replayed_today app bytes).output ≡ h.output ++ more))
    by None is = tt
    by (Some bytes) is = ([], is.wrote ∙ sym (append-nil h.output))

built_memory : (unbuilt : Option ℕ) (app : Shape) (p : Ports) (e : Ended) → IsComposed e → RunsBuilt unbuilt app p e → RunsBuilt unbuilt app p ended.Memory
built_memory None app p ended.Done c g = absurd c
built_memory None app p ended.WrongWords c g = absurd c
built_memory None app p (ended.AppRefused why) c g = absurd g
built_memory None app p ended.FileAbsent c g = absurd g
built_memory None app p ended.FileFault c g = absurd g
built_memory None app p (ended.BadLine k) c g = lines_front app p (bad_line k) g
built_memory None app p (ended.NoSession k) c g = lines_front app p (no_session k) g
built_memory None app p ended.ReadFault c g = absurd c
built_memory None app p ended.WriteFault c g = absurd c
built_memory None app p ended.Memory c g = absurd c
built_memory (Some k) app p e c g = (tt, g.1)

said_memory : (e : Ended) (P : Type 0) (text : List ℕ) (p : Ports) → IsComposed e → Says text p e → P
said_memory ended.Done P text p c g = absurd c
said_memory ended.WrongWords P text p c g = absurd c
said_memory (ended.AppRefused why) P text p c g = absurd g.1
said_memory ended.FileAbsent P text p c g = absurd g.1
said_memory ended.FileFault P text p c g = absurd g.1
said_memory (ended.BadLine k) P text p c g = absurd g.1
said_memory (ended.NoSession k) P text p c g = absurd g.1
said_memory ended.ReadFault P text p c g = absurd c
said_memory ended.WriteFault P text p c g = absurd c
said_memory ended.Memory P text p c g = absurd c

app_memory : (c : Command) (r : Result Shape LoadError) (p : Ports) (e : Ended) → IsComposed e → AppGives c r p e → AppGives c r p ended.Memory
app_memory command.Check (Ok app) p e i g = said_memory e (AppGives command.Check (Ok app) p ended.Memory) (count_line app) p i g
app_memory command.Print (Ok app) p e i g = said_memory e (AppGives command.Print (Ok app) p ended.Memory) (canonical_text app) p i g.0
app_memory command.Replay (Ok app) p e i g = built_memory (first_unbuilt app.items) app p e i g
app_memory command.Check (Err r) p e i g = (tt, g.1)
app_memory command.Print (Err r) p e i g = (tt, g.1)
app_memory command.Replay (Err r) p e i g = (tt, g.1)

read_memory : (c : Command) (name : List ℕ) (files : Option (List NamedFile)) (p : Ports) (e : Ended) → IsComposed e → ReadGives c name files p e → FileGives c name files p ended.Memory
read_memory c name files p e i g = inr (record { bytes = g.bytes; read = g.read; gives = app_memory c (loaded g.bytes) p e i g.gives })

file_memory : (c : Command) (name : List ℕ) (files : Option (List NamedFile)) (p : Ports) (e : Ended) → IsComposed e → FileGives c name files p e → FileGives c name files p ended.Memory
file_memory c name files p ended.Done i g = absurd i
file_memory c name files p ended.WrongWords i g = absurd i
file_memory c name files p (ended.AppRefused why) i g = read_memory c name files p (ended.AppRefused why) i g
file_memory c name files p ended.FileAbsent i g = inl g.1
file_memory c name files p ended.FileFault i g = inl g
file_memory c name files p (ended.BadLine k) i g = read_memory c name files p (ended.BadLine k) i g
file_memory c name files p (ended.NoSession k) i g = read_memory c name files p (ended.NoSession k) i g
file_memory c name files p ended.ReadFault i g = absurd i
file_memory c name files p ended.WriteFault i g = absurd i
file_memory c name files p ended.Memory i g = absurd i

not_composed : (e : Ended) → e ≡ ended.WrongWords → ¬ IsComposed e
not_composed e is i = subst IsComposed is i

pub words_memory : (w : Option (Command × List ℕ)) (files : Option (List NamedFile)) (p : Ports) (e : Ended) → IsComposed e → WordsGive w files p e → WordsGive w files p ended.Memory
words_memory None files p e i g = absurd (not_composed e g.0 i)
words_memory (Some w) files p e i g = file_memory w.0 w.1 files p e i g

pub words_given : (words w : Option (Command × List ℕ)) (files : Option (List NamedFile)) (p : Ports) (e : Ended) → w ≡ words → WordsGive w files p e → WordsGive words files p e
words_given words w files p e is g = subst (λ x. WordsGive x files p e) is g

-- What a line of a transcript says, with the name of a task as it stands there.
use Rattle.std.specs.Prelude.{◌≡◌, ℕ, ◌&&◌, nat_le, List, length, Option, Some, None, option_and_then, codes, bytes_eq, if◌then◌else◌}
use Rattle.std.specs.List.{before_first, after_first}
use Rattle.std.specs.Str.{is_utf8}
use Rattle.app_tree.specs.Tree.{Node}
use Rattle.session_model.specs.Lines.{is_space, is_label, has_space}
use Rattle.session_model.specs.Transcript.{Line as NumberedLine, recv, closes, ends_of, task_named, line_of}
use Rattle.shiny_main.specs.declared.line.Line.{Line}
use Rattle.shiny_main.specs.declared.line.Line.TheVariants as line
use Rattle.shiny_main.specs.declared.line.Said.{Said}
use Rattle.session_model.specs.declared.limits.TheConstants.{LINE_LIMIT}
use Rattle.shiny_main.specs.declared.line.Said.TheVariants as said

-- by the word behind the label, and what follows one space behind it, which may be empty
abbrev pub spoken_by : List ℕ → List ℕ → List ℕ → Option Line
spoken_by label word rest =
    if bytes_eq word (codes "recv") then Some (line.Recv label rest) else (if bytes_eq word (codes "end") then Some (line.End label rest) else None)

-- behind the label and a space
abbrev pub spoken_behind : List ℕ → List ℕ → Option Line
spoken_behind label rest =
    if has_space rest
    then spoken_by label (before_first is_space rest) (after_first is_space rest)
    else (if bytes_eq rest (codes "close") then Some (line.Close label) else None)

abbrev pub spoken_in : List ℕ → Option Line
spoken_in bytes =
    if has_space bytes && is_label (before_first is_space bytes) then spoken_behind (before_first is_space bytes) (after_first is_space bytes) else None

-- what a line says; None where it is too long, isn't UTF-8 or has no such form
abbrev pub spoken_line : List ℕ → Option Line
spoken_line bytes = if nat_le (length bytes) LINE_LIMIT && is_utf8 bytes then spoken_in bytes else None

-- ---- with the number of the task

-- None where no task of these items has the name
abbrev pub numbered_line : List Node → Line → Option NumberedLine
numbered_line items (line.Recv label text) = Some (recv label text)
numbered_line items (line.End label name) = ends_of label (task_named name items)
numbered_line items (line.Close label) = Some (closes label)

-- a line of an app's transcript says what it says with the task looked up among the app's
abbrev pub LineIsSpoken : Type 0
LineIsSpoken = (items : List Node) (bytes : List ℕ) → line_of items bytes ≡ option_and_then (numbered_line items) (spoken_line bytes)

-- ---- the parts of a line, as they stand in its bytes

abbrev pub line_said : Said → Line
line_said (said.Recv label text) = line.Recv label.now text.now
line_said (said.End label task) = line.End label.now task.now
line_said (said.Close label) = line.Close label.now

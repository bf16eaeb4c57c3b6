-- The lines that a source has left for a reader, and what comes next of them.
use Rattle.std.specs.Prelude.{◌≡◌, ℕ, suc, ◌+◌, ◌<◌, ◌≤◌, ◌⊎◌, ◌↔◌, min, Bool, true, false, not, List, [], ◌∷◌, ◌++◌, length, Option, None, Some, IfSome, ⊤}
use Rattle.std.specs.Io.KnownBytes.{prepend_known, IsAtEnd}
use Rattle.session_model.specs.Lines.{lines_of}
use Rattle.session_model.specs.Transcript.{line_past_limit}
use Rattle.shiny_main.specs.declared.line.Line.{Line}
use Rattle.shiny_main.specs.declared.lines.LineRead.{LineRead}
use Rattle.shiny_main.specs.declared.lines.LineRead.TheVariants as read
use Rattle.shiny_main.specs.inner.Spoken.{spoken_line}
use Rattle.shiny_main.specs.inner.Pieces.{with_feed, BeginsWith, Breaks}
use Rattle.shiny_main.specs.SoFar.{whole_lines}
use Rattle.session_model.specs.declared.limits.TheConstants.{LINE_LIMIT, TRANSCRIPT_LIMIT}

-- the bytes that a reader has taken and that belong to no line yet, the number of its next line, the count of the bytes of
-- the lines before that one, and whether the source has told that it has no more
pub record LinesState : Type 0 where
  pub taken : List ℕ
  pub number : ℕ
  pub behind : ℕ
  pub ended : Bool

-- the reader of a source from which nothing was taken
abbrev pub at_start : LinesState
at_start = record { taken = []; number = 1; behind = 0; ended = false }

-- the bytes that are still to come, where the source tells what it has left
abbrev pub coming : LinesState → Option (List ℕ) → Option (List ℕ)
coming s left = prepend_known s.taken left

-- this is the source of which the lines were always read: where it has told its end, nothing is to come
abbrev pub IsOfSource : LinesState → Option (List ℕ) → Type 0
IsOfSource s left = s.ended ≡ true → IsAtEnd (coming s left)

-- ---- the next line

-- the count of the bytes of the first line, with the line feed that ends it, if one does
abbrev pub first_size : List ℕ → List ℕ → ℕ
first_size line bytes = min (suc (length line)) (length bytes)

-- the first line of these bytes, which stand behind so many others of a transcript, has no form; or the transcript goes past
-- its limit in it
pub record BeginsBad (behind : ℕ) (bytes : List ℕ) : Type 0 where
  pub line : List ℕ
  pub others : List (List ℕ)
  pub first : lines_of bytes ≡ line ∷ others
  pub bad : (spoken_line line ≡ None) ⊎ (TRANSCRIPT_LIMIT < behind + first_size line bytes)

-- the first line says this, and the transcript has not gone past its limit with it
pub record BeginsSaying (said : Line) (old new : LinesState) (left left_after : Option (List ℕ)) : Type 0 where
  pub line : List ℕ
  pub feed : Bool
  pub begins : BeginsWith line feed (coming old left) (coming new left_after)
  pub says : spoken_line line ≡ Some said
  pub number : new.number ≡ suc old.number
  pub behind : new.behind ≡ old.behind + length (with_feed line feed)
  pub within : new.behind ≤ TRANSCRIPT_LIMIT
  pub ended : new.ended ≡ not feed

-- the first line, with its number, or that it is a bad one or that there is none, where the bytes are told. At a fault of the
-- source some bytes of a line were taken which no line feed ends, and all others are left
abbrev pub NextGives : LinesState → LinesState → Option (List ℕ) → Option (List ℕ) → LineRead → Type 0
NextGives old new left left_after (read.Line k said) = (k ≡ old.number) × BeginsSaying said old new left left_after
NextGives old new left left_after (read.Bad k) = (k ≡ old.number) × IfSome (coming old left) (BeginsBad old.behind)
NextGives old new left left_after read.End = IsAtEnd (coming old left) × IsAtEnd left_after
NextGives old new left left_after read.ReadFault = (old.ended ≡ false) × Breaks LINE_LIMIT (coming old left) left_after
NextGives old new left left_after read.Memory = ⊤

-- a transcript of which so many bytes stand before a line goes past its limit in that line exactly where its count of bytes
-- reaches past it. The number of the line is one more than that of the line feeds before it
abbrev pub PastIsHere : Type 0
PastIsHere = (front bytes line : List ℕ) (others : List (List ℕ)) → length front ≤ TRANSCRIPT_LIMIT → lines_of bytes ≡ line ∷ others
    → (line_past_limit (front ++ bytes) ≡ Some (suc (length (whole_lines front)))) ↔ (TRANSCRIPT_LIMIT < length front + first_size line bytes)

-- ---- what was read of a line

-- what a line says that has this many bytes with its line feeds, in a reader that stands behind it then
pub record Says (said : Line) (line : List ℕ) (feeds : ℕ) (old new : LinesState) : Type 0 where
  pub says : spoken_line line ≡ Some said
  pub taken : new.taken ≡ old.taken
  pub number : new.number ≡ suc old.number
  pub behind : new.behind ≡ old.behind + (length line + feeds)
  pub within : new.behind ≤ TRANSCRIPT_LIMIT
  pub ended : new.ended ≡ old.ended

abbrev pub TellGives : List ℕ → ℕ → LinesState → LinesState → LineRead → Type 0
TellGives line feeds old new (read.Line k said) = (k ≡ old.number) × Says said line feeds old new
TellGives line feeds old new (read.Bad k) = (k ≡ old.number) × ((spoken_line line ≡ None) ⊎ (TRANSCRIPT_LIMIT < old.behind + (length line + feeds)))
TellGives line feeds old new read.End = ⊥
TellGives line feeds old new read.ReadFault = ⊥
TellGives line feeds old new read.Memory = ⊤

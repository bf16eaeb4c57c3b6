-- The lines of a source as bytes, and what comes next of them.
use Rattle.std.specs.Prelude.{◌≡◌, ◌==◌, ℕ, ◌+◌, ◌<◌, ◌≤◌, Bool, true, false, List, [], ◌∷◌, ◌++◌, length, take, drop, Option, ⊤}
use Rattle.std.specs.Option.{option_map}
use Rattle.std.specs.Io.KnownBytes.{prepend_known, IsAtEnd}
use Rattle.std.specs.List.{position_or_len}
use Rattle.session_model.specs.Lines.{HasNoFeed}
use Rattle.shiny_main.specs.declared.pieces.Step.{Step}
use Rattle.shiny_main.specs.declared.pieces.Step.TheVariants as step
use Rattle.shiny_main.specs.declared.pieces.Cut.{Cut}
use Rattle.shiny_main.specs.declared.pieces.Cut.TheVariants as cut

abbrev pub is_feed : ℕ → Bool
is_feed b = b == 10

-- the place of the first line feed, or the length
abbrev pub feed_place : List ℕ → ℕ
feed_place bytes = position_or_len is_feed bytes

-- bytes were moved to the end of a line: those before the first line feed, which is gone; or all of them, where there is none
abbrev pub Moves : Bool → List ℕ → List ℕ → List ℕ → List ℕ → Type 0
Moves true old new line longer = (feed_place old < length old) × (new ≡ drop (feed_place old + 1) old) × (longer ≡ line ++ take (feed_place old) old)
Moves false old new line longer = (length old ≤ feed_place old) × (new ≡ []) × (longer ≡ line ++ take (feed_place old) old)

-- the bytes that were taken, before those that the source has left
abbrev pub content : List ℕ → List ℕ → Option (List ℕ) → Option (List ℕ)
content line taken left = prepend_known (line ++ taken) left

-- the answers of a replacement of what was taken
abbrev pub Replaces : Step → Type 0
Replaces step.More = ⊤
Replaces step.Memory = ⊤
Replaces _ = ⊥

-- bytes were taken, at least one; or there are none; or the source failed, and all that it had left is left still
abbrev pub RefillGives : Option (List ℕ) → List ℕ → Option (List ℕ) → Step → Type 0
RefillGives old taken left step.More = (0 < length taken) × (old ≡ prepend_known taken left)
RefillGives old taken left step.Found = ⊥
RefillGives old taken left step.End = (taken ≡ []) × (left ≡ old) × IsAtEnd left
RefillGives old taken left step.Failed = (taken ≡ []) × (left ≡ old)
RefillGives old taken left step.Memory = ⊤

-- a line grew by what was taken: without an end, or to its end
abbrev pub Grows : List ℕ → List ℕ → List ℕ → List ℕ → Step → Type 0
Grows line old longer new step.More = HasNoFeed longer × (length line < length longer) × (line ++ old ≡ longer ++ new)
Grows line old longer new step.Found = HasNoFeed longer × (line ++ old ≡ longer ++ 10 ∷ new)
Grows line old longer new step.Memory = ⊤
Grows line old longer new _ = ⊥

-- one step towards the end of a line: it grew, it ended, or there is no more; where the source failed, the line stays as it
-- was, and nothing else was taken
abbrev pub StepGives : Option (List ℕ) → List ℕ → List ℕ → List ℕ → Option (List ℕ) → Step → Type 0
StepGives old line longer taken left step.More = HasNoFeed longer × (length line < length longer) × (old ≡ content longer taken left)
StepGives old line longer taken left step.Found = HasNoFeed longer × (old ≡ option_map (λ rest. longer ++ 10 ∷ rest) (prepend_known taken left))
StepGives old line longer taken left step.End = HasNoFeed longer × (taken ≡ []) × IsAtEnd left × (old ≡ content longer taken left)
StepGives old line longer taken left step.Failed = (longer ≡ line) × (taken ≡ []) × (old ≡ content line taken left)
StepGives old line longer taken left step.Memory = ⊤

-- ---- what comes next

abbrev pub with_feed : List ℕ → Bool → List ℕ
with_feed line true = line ++ 10 ∷ []
with_feed line false = line

-- a line without a line feed is the last, and has bytes
abbrev pub IsLast : List ℕ → Bool → Option (List ℕ) → Type 0
IsLast line true new = ⊤
IsLast line false new = (0 < length line) × IsAtEnd new

-- these bytes begin with this line, which a line feed ends or their end, and those come behind it
pub record BeginsWith (line : List ℕ) (feed : Bool) (old new : Option (List ℕ)) : Type 0 where
  pub no_feed : HasNoFeed line
  pub is : old ≡ prepend_known (with_feed line feed) new
  pub last : IsLast line feed new

-- these bytes begin with more bytes of one line than this
pub record BeginsLonger (most : ℕ) (old new : Option (List ℕ)) : Type 0 where
  pub begun : List ℕ
  pub no_feed : HasNoFeed begun
  pub longer : most < length begun
  pub is : old ≡ prepend_known begun new

-- of these bytes some of one line were taken, as many as this at most, and all others are left
pub record Breaks (most : ℕ) (old left : Option (List ℕ)) : Type 0 where
  pub begun : List ℕ
  pub no_feed : HasNoFeed begun
  pub within : length begun ≤ most
  pub is : old ≡ prepend_known begun left

-- the first line that has not more bytes than these; or it has more, or there is none, or it can't be told
abbrev pub CutGives : ℕ → Option (List ℕ) → List ℕ → Option (List ℕ) → Cut → Type 0
CutGives most old taken left (cut.Line line) = BeginsWith line true old (prepend_known taken left)
CutGives most old taken left (cut.Last line) = BeginsWith line false old (prepend_known taken left)
CutGives most old taken left cut.TooLong = BeginsLonger most old (prepend_known taken left)
CutGives most old taken left cut.End = IsAtEnd old × IsAtEnd left
CutGives most old taken left cut.Failed = (taken ≡ []) × Breaks most old left
CutGives most old taken left cut.Memory = ⊤

-- the bytes behind the last line feed are a line where there are any
abbrev pub last_line : List ℕ → Cut
last_line [] = cut.End
last_line (b ∷ line) = cut.Last (b ∷ line)

-- The app of a file: the replay of a transcript for it, its answers to a journal, and what its outputs come to.
use Rattle.std.specs.Prelude.{ℕ, suc, List, [], ◌∷◌, ◌++◌, length, Option, Some, None, Result, Ok, Err, if◌then◌else◌}
use Rattle.rx_value.specs.declared.outcome.Outcome.{Outcome}
use Rattle.app_tree.specs.Tree.{Node, Shape}
use Rattle.app_tree.specs.Numbering.{readers, name_of, is_output, starting_values}
use Rattle.app_tree.specs.Fresh.{first_outcome}
use Rattle.app_check.specs.declared.error.LoadError.{LoadError}
use Rattle.app_check.specs.Load.{loaded}
use Rattle.session_model.specs.declared.event.Event.{Event}
use Rattle.session_model.specs.Alone.{Ending, ending, bodies_run}
use Rattle.session_model.specs.Lines.{lines_of}
use Rattle.session_model.specs.Transcript.{ReplayEnd, ReplayResult, replayed}
use Rattle.session_model.specs.TakenLines.{replayed_today}

-- these lines, each with its line feed
abbrev pub lines : List (List ℕ) → List ℕ
lines [] = []
lines (l ∷ more) = l ++ 10 ∷ lines more

-- what is said of the app of a file; None where the file stands for no app
abbrev pub of_app : {A : Type 0} → (Shape → A) → Result Shape LoadError → Option A
of_app say (Ok app) = Some (say app)
of_app say (Err e) = None

abbrev pub of_file : {A : Type 0} → (Shape → A) → List ℕ → Option A
of_file say file = of_app say (loaded file)

-- what a replay wrote, and how it ended
pub record Written : Type 0 where
  pub output : List ℕ
  pub end : ReplayEnd

abbrev pub written : ReplayResult → Written
written r = record { output = r.output; end = r.end }

-- the replay of a transcript
abbrev pub file_replayed : List ℕ → List ℕ → Option Written
file_replayed file transcript = of_file (λ app. written (replayed app transcript)) file

-- the replay of the lines that are taken today
abbrev pub file_replayed_today : List ℕ → List ℕ → Option Written
file_replayed_today file transcript = of_file (λ app. written (replayed_today app transcript)) file

-- how long an output is
pub record Sizes : Type 0 where
  pub line_count : ℕ
  pub byte_count : ℕ

abbrev pub sizes_of : ReplayResult → Sizes
sizes_of r = record { line_count = length (lines_of r.output); byte_count = length r.output }

abbrev pub file_sizes : List ℕ → List ℕ → Option Sizes
file_sizes file transcript = of_file (λ app. sizes_of (replayed app transcript)) file

-- how many bodies of readers a journal runs
abbrev pub file_bodies : List ℕ → List Event → Option ℕ
file_bodies file journal = of_file (λ app. bodies_run app journal) file

-- how a journal ends its session, if it does
abbrev pub file_ending : List ℕ → List Event → Option (Option Ending)
file_ending file journal = of_file (λ app. ending app journal) file

abbrev pub item_count : List ℕ → Option ℕ
item_count file = of_file (λ app. length app.items) file

-- ---- what each output comes to at the start, with each isolated site evaluated

abbrev pub outcomes_from : Shape → ℕ → List Node → List (List ℕ × Outcome)
outcomes_from app n [] = []
outcomes_from app n (i ∷ more) =
    if is_output i
    then (name_of i, first_outcome app (starting_values app.items) n) ∷ outcomes_from app (suc n) more
    else outcomes_from app (suc n) more

-- by name, in the order of the text
abbrev pub first_outcomes : Shape → List (List ℕ × Outcome)
first_outcomes app = outcomes_from app 0 (readers app)

abbrev pub file_outcomes : List ℕ → Option (List (List ℕ × Outcome))
file_outcomes file = of_file first_outcomes file

-- What single steps of a session come to, and when a journal is full.
use Rattle.std.specs.Prelude.{◌≡◌, ℕ, pos, true, false, nat_le, nat_lt, List, [], ◌∷◌, length, replicate, Some, None, codes}
use Rattle.rx_value.specs.declared.value.Value.TheVariants.{Null, Int}
use Rattle.rx_value.specs.declared.value.Value.TheVariants as v
use Rattle.rx_value.specs.declared.outcome.Outcome.TheVariants.{Val}
use Rattle.rx_value.specs.declared.source.SourceValue.TheVariants.{Plain}
use Rattle.app_tree.specs.Tree.{constant, no_trees, input, reactive, text, Shape}
use Rattle.session_model.specs.declared.event.Event.TheVariants.{Text, Other, End}
use Rattle.session_model.specs.State.{SessionState, first_reader, first_state, reader_state, is_alive}
use Rattle.session_model.specs.Change.{change}
use Rattle.session_model.specs.Run.{run_reader}
use Rattle.session_model.specs.Apply.{apply_pairs}
use Rattle.session_model.specs.Journal.{is_full}
use Rattle.session_model.specs.Alone.{ended, ending, state_after}
use Rattle.session_model.specs.TakenLines.{taken_line}
use Rattle.session_model.specs.Transcript.{recv}
use Rattle.session_model.specs.MissingExample.{all_alive}
use Rattle.session_model.specs.FaithfulExamples.{empty_app, counting_app, init}

-- ---- changes

-- setting a source to the value that it has changes nothing
abbrev pub EqualValue : Type 0
EqualValue = change 0 (Plain (Int (pos 7))) all_alive ≡ all_alive

-- at another value a reader that had reached the source is no longer alive
abbrev pub OtherValue : Type 0
OtherValue = is_alive (reader_state (change 0 (Plain (Int (pos 8))) all_alive) 0) ≡ false

-- `input n = 1; text o { 2 }`
abbrev pub with_output : Shape
with_output = record {
  budget = 1000;
  items =
      input (codes "n") (Int (pos 1))
      ∷ text (codes "o")
      (record { priority = pos 0; while_hidden = false; keys = no_trees; body = constant (Int (pos 2)) })
      ∷ [];
}

-- the client sets the input and tells the size of the output and that it is shown; a name of nothing is ignored
abbrev pub ClientSets : Type 0
ClientSets =
    apply_pairs
    with_output
    (record { name = codes ".clientdata_output_o_height"; value = Int (pos 300) }
    ∷ record { name = codes ".clientdata_output_o_hidden"; value = v.Bool false }
    ∷ record { name = codes ".clientdata_output_o_width"; value = Int (pos 400) }
    ∷ record { name = codes "m"; value = Int (pos 6) }
    ∷ record { name = codes "n"; value = Int (pos 5) }
    ∷ [])
    (first_state with_output)
    ≡ record {
      values = Plain (Int (pos 5)) ∷ Plain (Int (pos 400)) ∷ Plain (Int (pos 300)) ∷ [];
      readers = record first_reader { shown = true } ∷ [];
      boards = [];
    }

-- ---- runs

-- `reactive a { 1 }`
abbrev pub without_sites : Shape
without_sites = record { budget = 1000; items = reactive (codes "a") no_trees (constant (Int (pos 1))) ∷ [] }

-- its last run had reached a site
abbrev pub with_a_site : SessionState
with_a_site =
    record { values = []; readers = record first_reader { isolated = (0, Val (Int (pos 9))) ∷ [] } ∷ []; boards = [] }

-- a run keeps the outcomes of the sites that it reaches, and none of an earlier one
abbrev pub ForgetsSites : Type 0
ForgetsSites = (reader_state (run_reader without_sites 0 with_a_site).state 0).isolated ≡ []

-- a flush makes as many runs as the budget, each of which counts here
abbrev pub RunsTheBudget : Type 0
RunsTheBudget = (state_after counting_app (Text init ∷ [])).values ≡ Plain (Int (pos 3)) ∷ []

-- ---- journals

-- what comes behind the end doesn't count
abbrev pub StaysEnded : Type 0
StaysEnded = ending empty_app (Text init ∷ End ∷ Text init ∷ []) ≡ Some ended

-- a journal of so many events that are no texts
abbrev pub FullOfEvents : Type 0
FullOfEvents = (n : ℕ) → is_full (replicate n Other) ≡ nat_le 250000 n

-- a journal of one text
abbrev pub FullOfBytes : Type 0
FullOfBytes = (t : List ℕ) → is_full (Text t ∷ []) ≡ nat_lt 16777216 (length t)

-- ---- the lines that are taken today

abbrev pub LastLineTaken : Type 0
LastLineTaken = taken_line empty_app 200 [] (Some (recv (codes "s") init)) ≡ Some (recv (codes "s") init)

abbrev pub LineTooMany : Type 0
LineTooMany = taken_line empty_app 201 [] (Some (recv (codes "s") init)) ≡ None

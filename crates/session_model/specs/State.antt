-- The state of a session.
use Rattle.std.specs.Prelude.{ℕ, Bool, false, not, List, [], ◌∷◌, map, filter, Option, Some, None, is_some, slice_get, slice_set, option_map, unwrap_or}
use Rattle.app_tree.specs.Tree.{Node, Shape}
use Rattle.app_tree.specs.Numbering.{is_task, readers, starting_values}
use Rattle.app_tree.specs.Current.{CurrentValues}
use Rattle.app_tree.specs.Fresh.{IsolatedOutcomes}
use Rattle.task_board.specs.Board.{TaskBoard, idle}
use Rattle.session_model.specs.declared.state.Dependencies.{Dependencies}
use Rattle.session_model.specs.declared.state.ReaderState.{ReaderState}

-- the sources by number, the readers by number, the tasks by number
pub record SessionState : Type 0 where
  pub values : CurrentValues
  pub readers : List ReaderState
  pub boards : List TaskBoard

-- hidden, and never run
abbrev pub first_reader : ReaderState
first_reader = record { dependencies = None; isolated = []; shown = false; last = None }

abbrev pub first_readers : List Node → List ReaderState
first_readers [] = []
first_readers (i ∷ more) = first_reader ∷ first_readers more

-- no task was ever invoked
abbrev pub first_boards : List Node → List TaskBoard
first_boards items = map (λ i. idle) (filter is_task items)

-- before the first event
abbrev pub first_state : Shape → SessionState
first_state app = record {
  values = starting_values app.items;
  readers = first_readers (readers app);
  boards = first_boards app.items;
}

abbrev pub isolated_of : SessionState → IsolatedOutcomes
isolated_of state = map (λ r. r.isolated) state.readers

abbrev pub reader_state : SessionState → ℕ → ReaderState
reader_state state n = unwrap_or (slice_get state.readers n) first_reader

abbrev pub with_reader : ℕ → ReaderState → SessionState → SessionState
with_reader n r state = record state { readers = slice_set state.readers n r }

-- the sources that a reader's last run reached; none where it has not run
abbrev pub sources_in : Option Dependencies → List ℕ
sources_in None = []
sources_in (Some d) = d.sources

-- it has reached these sources, and none of them was changed since
abbrev pub with_sources : ℕ → List ℕ → SessionState → SessionState
with_sources n sources state =
    with_reader n
    (record (reader_state state n) { dependencies = Some (record { sources = sources; changed = false }) })
    state

abbrev pub has_run : ReaderState → Bool
has_run r = is_some r.dependencies

-- it has run, and nothing that it reached was changed since
abbrev pub is_alive : ReaderState → Bool
is_alive r = unwrap_or (option_map (λ d. not d.changed) r.dependencies) false

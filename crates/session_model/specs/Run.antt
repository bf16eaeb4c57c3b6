-- A run of an expression or of an output.
use Rattle.std.specs.Prelude.{ℕ, zero, suc, ◌==◌, Bool, true, false, not, ◌&&◌, [], ◌∷◌, ◌++◌, length, Option, Some, None}
use Rattle.rx_value.specs.declared.value.Value.{Value}
use Rattle.rx_value.specs.declared.outcome.Outcome.{Outcome}
use Rattle.rx_value.specs.declared.outcome.Outcome.TheVariants.{Stop}
use Rattle.rx_value.specs.Functions.{is_null}
use Rattle.rx_value.specs.Results.{choose}
use Rattle.app_tree.specs.declared.item.Flags.{Flags}
use Rattle.app_tree.specs.Tree.{Tree, Trees, no_trees, tree, Node, reactive, event, text, plot, Shape}
use Rattle.app_tree.specs.Numbering.{readers, reader}
use Rattle.app_tree.specs.Evaluate.{site_count}
use Rattle.app_tree.specs.Fresh.{fresh_outcome, sources_read}
use Rattle.session_model.specs.declared.state.Dependencies.{Dependencies}
use Rattle.session_model.specs.declared.state.ReaderState.{ReaderState}
use Rattle.session_model.specs.State.{SessionState, isolated_of, reader_state, with_reader, with_sources, has_run, is_alive}
use Rattle.session_model.specs.Reading.{TermResult, VisitResult, Manner, Reading, plain_reading, go_on, kept_in, read_term, read_terms}

-- ---- isolated sites

abbrev pub with_isolated : ℕ → ℕ → Outcome → SessionState → SessionState
with_isolated n site outcome state =
    with_reader n
    (record (reader_state state n) { isolated = (reader_state state n).isolated ++ (site, outcome) ∷ [] })
    state

-- as a run begins, the outcomes of the reader's isolated sites are forgotten, and it is not alive until the run ends
abbrev pub stale_dependencies : Option Dependencies → Option Dependencies
stale_dependencies None = None
stale_dependencies (Some d) = Some (record d { changed = true })

abbrev pub reader_as_run_begins : ReaderState → ReaderState
reader_as_run_begins r = record r { dependencies = stale_dependencies r.dependencies; isolated = [] }

abbrev pub state_as_run_begins : ℕ → SessionState → SessionState
state_as_run_begins n state = with_reader n (reader_as_run_begins (reader_state state n)) state

-- reader n keeps what its isolated sites come to
abbrev pub keeping_manner : (ℕ → SessionState → VisitResult) → ℕ → Manner
keeping_manner visit n = record { visit = visit; keep = with_isolated n }

-- nothing is kept
abbrev pub passing_manner : (ℕ → SessionState → VisitResult) → Manner
passing_manner visit = record { visit = visit; keep = λ site outcome state. state }

-- ---- the evaluation of a reader

abbrev pub with_body_counted : TermResult → TermResult
with_body_counted e = record e { bodies = suc e.bodies }

-- a body's reads do not count where there are keys
abbrev pub without_reads : TermResult → TermResult
without_reads e = record e { outside = [] }

-- a body alone, or the keys in their order and then the body, which keeps nothing
abbrev pub read_cached : Shape → (ℕ → SessionState → VisitResult) → ℕ → Trees → Tree → Reading
read_cached app visit n no_trees body state = with_body_counted (read_term app (keeping_manner visit n) body [] state)
read_cached app visit n (tree key more) body state =
    read_terms app (keeping_manner visit n) (tree key more) [] []
    (λ keys s. without_reads (with_body_counted (read_term app (passing_manner visit) body [] s)))
    state

-- the body of an event is its implicit site, whose number follows those of the event term
abbrev pub read_site : Shape → (ℕ → SessionState → VisitResult) → ℕ → ℕ → Tree → Reading
read_site app visit n site body state =
    kept_in (keeping_manner visit n) site (read_term app (keeping_manner visit n) body [] state)

-- a site that is kept as stopped, and not evaluated
abbrev pub ignored_site_reading : (ℕ → SessionState → VisitResult) → ℕ → ℕ → Reading
ignored_site_reading visit n site state = kept_in (keeping_manner visit n) site (plain_reading Stop state)

-- what an event does with the value of its event term: at NULL it stops, unless that is allowed; and on the reader's
-- first run its body is not evaluated where the event ignores that
abbrev pub read_event_body : Shape → (ℕ → SessionState → VisitResult) → ℕ → Bool → Flags → ℕ → Tree → Value → Reading
read_event_body app visit n first flags site body x state =
    choose (is_null x && not flags.allow_null)
    (plain_reading Stop)
    (choose (first && flags.ignore_init) (ignored_site_reading visit n site) (read_site app visit n site body))
    state

-- an expression or an output; no other item is evaluated so
abbrev pub read_node : Shape → (ℕ → SessionState → VisitResult) → ℕ → Bool → Option Node → Reading
read_node app visit n first (Some (reactive name keys body)) state = read_cached app visit n keys body state
read_node app visit n first (Some (event name flags e body)) state =
    with_body_counted
    (go_on (read_term app (keeping_manner visit n) e [] state)
    (read_event_body app visit n first flags (site_count e) body))
read_node app visit n first (Some (text name shown)) state = read_cached app visit n shown.keys shown.body state
read_node app visit n first (Some (plot name shown)) state = read_cached app visit n shown.keys shown.body state
read_node app visit n first _ state = plain_reading Stop state

-- ---- the run

-- the state after a run, what the run came to, and how many bodies were run
pub record ReaderRun : Type 0 where
  pub state : SessionState
  pub outcome : Outcome
  pub bodies : ℕ

-- the reader depends from now on on what it reached, and comes to its fresh outcome
abbrev pub finished_run : Shape → ℕ → TermResult → ReaderRun
finished_run app n e = record {
  state = with_sources n (sources_read app e.state.values (isolated_of e.state) n) e.state;
  outcome = fresh_outcome app e.state.values (isolated_of e.state) n;
  bodies = e.bodies;
}

abbrev pub run_with : Shape → (ℕ → SessionState → VisitResult) → ℕ → SessionState → ReaderRun
run_with app visit n state =
    finished_run app n
    (read_node app visit n (not (has_run (reader_state state n))) (reader app n) (state_as_run_begins n state))

-- ---- expressions that are read

abbrev pub no_visit : SessionState → VisitResult
no_visit state = record { state = state; bodies = 0 }

abbrev pub visit_of_run : ReaderRun → VisitResult
visit_of_run ran = record { state = ran.state; bodies = ran.bodies }

-- an expression that is alive is left as it is, and any other is run
abbrev pub run_if_dead : Bool → (SessionState → ReaderRun) → SessionState → VisitResult
run_if_dead true run state = no_visit state
run_if_dead false run state = visit_of_run (run state)

-- a read of expression m, where m is below a bound: an expression reads only expressions of a smaller number
abbrev pub visit_below : Shape → ℕ → ℕ → SessionState → VisitResult
visit_below app zero m state = no_visit state
visit_below app (suc k) m state =
    choose (m == k)
    (λ s. run_if_dead (is_alive (reader_state s k)) (run_with app (visit_below app k) k) s)
    (visit_below app k m)
    state

abbrev pub visit_expression : Shape → ℕ → SessionState → VisitResult
visit_expression app m state = visit_below app (length (readers app)) m state

-- a run of an output, or of an expression, as it is read: whether it is alive or not
abbrev pub run_reader : Shape → ℕ → SessionState → ReaderRun
run_reader app n state = run_with app (visit_expression app) n state

-- The form of a run in which proofs go well: what every reader gives now, whether it is alive or not, and the one
-- evaluation of a run on it. In each state that a session comes to, this is the run as it is stated in `Run`.
use Rattle.std.specs.Prelude.{ℕ, ◌+◌, List, [], ◌∷◌, Option, Some, None, unwrap_or, if◌then◌else◌}
use Rattle.rx_value.specs.declared.outcome.Outcome.{Outcome}
use Rattle.rx_value.specs.declared.outcome.Outcome.TheVariants as o
use Rattle.app_tree.specs.declared.term.Read.TheVariants as read
use Rattle.app_tree.specs.Tree.{Tree, Shape}
use Rattle.app_tree.specs.Numbering.{reader}
use Rattle.app_tree.specs.Evaluate.{Answers, TraceEntry, reads, given, enters, leaves, Evaluation, evaluate}
use Rattle.app_tree.specs.Fresh.{site_outcome, Sites, Known, answer_to, evaluate_reader, known_expressions, sources_of_reads, first_sites}
use Rattle.session_model.specs.declared.state.ReaderState.{ReaderState}
use Rattle.session_model.specs.State.{SessionState, reader_state, with_sources, has_run, is_alive}
use Rattle.app_laws.specs.Recorded.{given_outcome}
use Rattle.session_model.specs.Bodies.{bodies_counted}
use Rattle.session_model.specs.Reading.{TermResult, VisitResult, Manner}
use Rattle.session_model.specs.Run.{ReaderRun, state_as_run_begins, keeping_manner, no_visit}

-- ---- what every reader gives now

-- the sites of a reader that keeps what its last run saw
abbrev pub kept_site : ReaderState → ℕ → Option Outcome
kept_site r site = Some (unwrap_or (site_outcome site r.isolated) o.Stop)

-- the sites of a reader as it runs: each is evaluated, but for the body of an event that ignores its first run
abbrev pub open_site : Shape → ℕ → ReaderState → ℕ → Option Outcome
open_site app n r site = if has_run r then None else first_sites app n site

-- a reader that is alive keeps its sites, and any other would run
abbrev pub site_now : Shape → ℕ → ReaderState → ℕ → Option Outcome
site_now app n r site = if is_alive r then kept_site r site else open_site app n r site

abbrev pub open_sites : Shape → SessionState → Sites
open_sites app state n = open_site app n (reader_state state n)

abbrev pub sites_now : Shape → SessionState → Sites
sites_now app state n = site_now app n (reader_state state n)

-- what each expression gives now, and what it reaches
abbrev pub known_now : Shape → SessionState → List Known
known_now app state = known_expressions app state.values (sites_now app state)

-- what reader n gives now
abbrev pub evaluation_now : Shape → SessionState → ℕ → Evaluation
evaluation_now app state n = evaluate_reader app state.values (sites_now app state) (known_now app state) n

-- what reader n gives where it is run now
abbrev pub trace : Shape → SessionState → ℕ → Evaluation
trace app state n = evaluate_reader app state.values (open_sites app state) (known_now app state) n

-- ---- a run by its trace

abbrev pub joined_visits : VisitResult → VisitResult → VisitResult
joined_visits first next = record { state = next.state; bodies = first.bodies + next.bodies }

-- what one thing that is asked does to the session
abbrev pub walk_of_entry : Manner → (ℕ → Option Outcome) → TraceEntry → SessionState → VisitResult
walk_of_entry manner site (reads (read.Expr m)) state = manner.visit m state
walk_of_entry manner site (reads r) state = no_visit state
walk_of_entry manner site (given s) state = no_visit (manner.keep s (given_outcome (site s)) state)
walk_of_entry manner site (enters s) state = no_visit state
walk_of_entry manner site (leaves s outcome) state = no_visit (manner.keep s outcome state)

-- each expression that is read is visited, and each site that is left is kept
abbrev pub walk_of_trace : Manner → (ℕ → Option Outcome) → List TraceEntry → SessionState → VisitResult
walk_of_trace manner site [] state = no_visit state
walk_of_trace manner site (asked ∷ more) state =
    joined_visits
    (walk_of_entry manner site asked state)
    (walk_of_trace manner site more (walk_of_entry manner site asked state).state)

abbrev pub open_answers : Shape → SessionState → ℕ → Answers
open_answers app state n = record {
  read = answer_to app state.values (known_now app state);
  site = open_sites app state n;
}

-- its sites are forgotten, what the trace asks is walked through, and then it depends on what the trace reached
abbrev pub run_by_trace : Shape → (ℕ → SessionState → VisitResult) → ℕ → SessionState → ReaderRun
run_by_trace app visit n state =
    run_of
    (walk_of_trace
    (keeping_manner visit n)
    (open_sites app state n)
    (trace app state n).asked
    (state_as_run_begins n state))
  where
    run_of : VisitResult → ReaderRun
    run_of after = record {
      state = with_sources n (sources_of_reads app (known_now app state) [] (trace app state n).outside) after.state;
      outcome = (trace app state n).outcome;
      bodies = after.bodies + bodies_counted (reader app n) (open_answers app state n);
    }

-- ---- a term of an observer by its evaluation

-- what its reads are answered; each of its sites is evaluated
abbrev pub term_answers : Shape → SessionState → Answers
term_answers app state = record { read = answer_to app state.values (known_now app state); site = λ site. None }

-- what it asks is walked through, and none of its sites is kept
abbrev pub read_by_trace : Shape → Manner → Tree → SessionState → TermResult
read_by_trace app manner t state = result_of (evaluate t (term_answers app state) [])
  where
    result_of : Evaluation → TermResult
    result_of e = record {
      state = (walk_of_trace manner (λ site. None) e.asked state).state;
      bodies = (walk_of_trace manner (λ site. None) e.asked state).bodies;
      outside = e.outside;
      outcome = e.outcome;
    }

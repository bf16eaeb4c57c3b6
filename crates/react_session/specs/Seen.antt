-- A session of definitions in the parts of the code.
use Rattle.std.specs.Prelude.{ℕ, suc, Bool, true, false, List, [], ◌∷◌, Option, Some, None, nat_eq, slice_index_or}
use Rattle.rx_value.specs.declared.source.SourceValue.{SourceValue}
use Rattle.rx_value.specs.declared.outcome.Outcome.TheVariants.{Stop}
use Rattle.session_model.specs.Standing.{Dependence, never_run, stale, alive, KeptReader, KeptSession}
use Rattle.dep_graph.specs.Contexts.{Stage, idle, alive as alive_stage, running, overtaken, ReaderContext as Context}
use Rattle.react_session.specs.declared.kept.Kept.{Kept}

-- a reader that isn't alive, and ran or not
abbrev pub not_alive : Bool → Dependence
not_alive true = stale
not_alive false = never_run

-- the observer that runs depends on what it has reached so far; any other reader that runs is not yet alive
abbrev pub while_running : Bool → Bool → List ℕ → Dependence
while_running true ran sources = alive sources
while_running false ran sources = not_alive ran

abbrev pub dependence_seen : Bool → Bool → Stage → Dependence
dependence_seen observes ran (alive_stage sources) = alive sources
dependence_seen observes ran (running sources) = while_running observes ran sources
dependence_seen observes ran idle = not_alive ran
dependence_seen observes ran overtaken = not_alive ran

abbrev pub is_observing : Option ℕ → ℕ → Bool
is_observing None n = false
is_observing (Some k) n = nat_eq k n

abbrev pub reader_seen : Bool → Context → Kept → KeptReader
reader_seen observes c k = record {
  dependence = dependence_seen observes k.ran c.stage;
  isolated = k.isolated;
  outcome = k.outcome;
}

-- nothing is kept
abbrev pub blank : Kept
blank = record { ran = false; isolated = []; outcome = Stop }

abbrev pub kept_at : List Kept → ℕ → Kept
kept_at kept n = slice_index_or kept n blank

-- the readers from number n on
abbrev pub readers_seen : Option ℕ → ℕ → List Context → List Kept → List KeptReader
readers_seen observer n (c ∷ cs) (k ∷ ks) = reader_seen (is_observing observer n) c k ∷ readers_seen observer (suc n) cs ks
readers_seen observer n _ _ = []

abbrev pub session_seen : List SourceValue → List Context → List Kept → Option ℕ → KeptSession
session_seen values contexts kept observer = record {
  values = values;
  readers = readers_seen observer 0 contexts kept;
  running = observer;
}

-- What a session that keeps outcomes answers to a read, what an evaluation over it comes to, and what a run leaves of it: in
-- words of the session alone, which know no state.
use Rattle.std.specs.Prelude.{◌≡◌, ℕ, Bool, true, false, List, [], map, length, replicate, Option, Some, None, slice_set, if◌then◌else◌}
use Rattle.rx_value.specs.declared.value.Value.{Value}
use Rattle.rx_value.specs.declared.outcome.Outcome.{Outcome}
use Rattle.app_tree.specs.declared.term.Read.{Read}
use Rattle.app_tree.specs.declared.term.Read.TheVariants as read
use Rattle.app_tree.specs.Tree.{Node, plot, Shape}
use Rattle.app_tree.specs.Numbering.{reader}
use Rattle.app_tree.specs.Current.{told}
use Rattle.app_tree.specs.Evaluate.{Evaluation}
use Rattle.app_tree.specs.Wanted.{Answering, completed, first_wanted}
use Rattle.app_tree.specs.Keys.{KeysResult, keys_result, keys_evaluation}
use Rattle.app_tree.specs.Cover.{Cached, keyed_outcome}
use Rattle.app_tree.specs.Fresh.{Known, sources_of_reads, picture, evaluate_node, first_sites}
use Rattle.app_laws.specs.Recorded.{recorded}
use Rattle.session_model.specs.Bodies.{bodies_counted}
use Rattle.session_model.specs.Standing.{Dependence, alive, is_live, did_run, IsSameDependence, KeptReader, KeptSession, kept_reader}

-- ---- what is kept

abbrev pub lives : KeptSession → ℕ → Bool
lives session n = is_live (kept_reader session n).dependence

-- the sources that a reader that is alive has reached
abbrev pub reached_by : Dependence → List ℕ
reached_by (alive sources) = sources
reached_by _ = []

abbrev pub known_of_kept : KeptReader → Known
known_of_kept r = record { outcome = r.outcome; sources = reached_by r.dependence }

-- by reader number
abbrev pub kept_known : KeptSession → List Known
kept_known session = map known_of_kept session.readers

-- ---- what is answered

-- what is kept of an expression that is alive; one that isn't has to be run first
abbrev pub outcome_if_alive : Bool → Outcome → Option Outcome
outcome_if_alive true outcome = Some outcome
outcome_if_alive false outcome = None

abbrev pub kept_answer : Shape → KeptSession → Read → Option Outcome
kept_answer app session (read.Expr m) = outcome_if_alive (lives session m) (kept_reader session m).outcome
kept_answer app session r = Some (told app session.values r)

-- each isolated site is evaluated as the reader runs, but for the body of an event that ignores its first run
abbrev pub open_site_of : Shape → KeptSession → ℕ → ℕ → Option Outcome
open_site_of app session n site = if did_run (kept_reader session n).dependence then None else first_sites app n site

abbrev pub answering : Shape → KeptSession → ℕ → Answering
answering app session n = record { read = kept_answer app session; site = open_site_of app session n }

-- ---- an evaluation over what is kept

-- reader n is evaluated on what is kept, up to the first expression that has to be run first
abbrev pub attempt : Shape → KeptSession → ℕ → Evaluation
attempt app session n = evaluate_node (reader app n) (completed (answering app session n))

-- that expression
abbrev pub wanted : Shape → KeptSession → ℕ → Option Read
wanted app session n = first_wanted (answering app session n) (attempt app session n).asked

-- reader n, once where the evaluation runs a body that counts: an uncached one, or a cached one whose keys all come to values
abbrev pub bodies_run : Shape → KeptSession → ℕ → List ℕ
bodies_run app session n = replicate (bodies_counted (reader app n) (completed (answering app session n))) n

abbrev pub keys_attempt : Shape → KeptSession → ℕ → Cached → Evaluation
keys_attempt app session n c = keys_evaluation c.keys (completed (answering app session n))

abbrev pub keys_attempted : Shape → KeptSession → ℕ → Cached → KeysResult
keys_attempted app session n c = keys_result c.keys (completed (answering app session n))

-- ---- what a run leaves

abbrev pub with_kept : ℕ → KeptReader → KeptSession → KeptSession
with_kept n r session = record session { readers = slice_set session.readers n r }

-- it depends on what the evaluation reached outside of isolated sites, and keeps the sites and the outcome
abbrev pub reader_after : Shape → KeptSession → ℕ → Evaluation → Outcome → KeptReader
reader_after app session n e outcome = record {
  dependence = alive (sources_of_reads app (kept_known session) [] e.outside);
  isolated = recorded (open_site_of app session n) e.asked;
  outcome = outcome;
}

-- after a run whose evaluation wants nothing
abbrev pub run_kept : Shape → ℕ → KeptSession → KeptSession
run_kept app n session =
    with_kept n (reader_after app session n (attempt app session n) (attempt app session n).outcome) session

-- a plot's last step is no part of what a cache holds
abbrev pub shown_outcome : Option Node → Outcome → Outcome
shown_outcome (Some (plot name shown)) outcome = picture outcome
shown_outcome i outcome = outcome

-- after a hit of a cached reader at these values of its keys: the keys alone were evaluated, and the outcome is what the
-- values say of the body
abbrev pub hit_kept : Shape → ℕ → Cached → List Value → KeptSession → KeptSession
hit_kept app n c xs session =
    with_kept n
    (reader_after app session n (keys_attempt app session n c) (shown_outcome (reader app n) (keyed_outcome app n xs)))
    session

-- ---- the order of sources

-- the same is kept, but for the order in which a reader's sources stand
pub record IsAlikeReader (r other : KeptReader) : Type 0 where
  pub dependence : IsSameDependence r.dependence other.dependence
  pub isolated : r.isolated ≡ other.isolated
  pub outcome : r.outcome ≡ other.outcome

pub record IsAlike (session other : KeptSession) : Type 0 where
  pub values : session.values ≡ other.values
  pub size : length session.readers ≡ length other.readers
  pub readers : (n : ℕ) → IsAlikeReader (kept_reader session n) (kept_reader other n)
  pub running : session.running ≡ other.running

-- What a reader comes to when it is evaluated afresh on the current values, and the sources that it reaches.
-- This is Shiny's meaning of a reader without its memo: no outcome of an earlier evaluation takes part,
-- but for those that isolated sites keep.
use Rattle.std.specs.Prelude.{ℕ, zero, suc, ◌==◌, Bool, true, false, not, ◌&&◌, List, [], ◌∷◌, ◌++◌, length, Option, Some, None, slice_get, unwrap_or, if◌then◌else◌}
use Rattle.std.specs.List.{list_any}
use Rattle.rx_value.specs.declared.value.Value.{Value}
use Rattle.rx_value.specs.declared.value.Value.TheVariants as v
use Rattle.rx_value.specs.declared.outcome.Outcome.{Outcome}
use Rattle.rx_value.specs.declared.outcome.Outcome.TheVariants.{Val, Stop}
use Rattle.rx_value.specs.declared.failure.Failure.TheVariants.{WrongKind}
use Rattle.rx_value.specs.Failure.{failure_outcome}
use Rattle.rx_value.specs.Functions.{is_null}
use Rattle.app_tree.specs.declared.term.Read.{Read}
use Rattle.app_tree.specs.declared.term.Read.TheVariants as read
use Rattle.app_tree.specs.declared.item.Flags.{Flags}
use Rattle.app_tree.specs.Tree.{Tree, Trees, no_trees, tree, Node, reactive, event, text, plot, Shape}
use Rattle.app_tree.specs.Numbering.{readers, reader, is_expression, width_source, height_source}
use Rattle.app_tree.specs.Current.{CurrentValues, told}
use Rattle.app_tree.specs.Evaluate.{Answers, Evaluation, plain, then_with, at_site, evaluate, evaluate_all, site_count}

-- by reader number, the outcomes that its last run had at its isolated sites
abbrev pub IsolatedOutcomes : Type 0
IsolatedOutcomes = List (List (ℕ × Outcome))

abbrev pub site_outcome : ℕ → List (ℕ × Outcome) → Option Outcome
site_outcome site [] = None
site_outcome site (kept ∷ more) = if kept.0 == site then Some kept.1 else site_outcome site more

-- a site without an entry counts as stopped
abbrev pub isolated_outcome : IsolatedOutcomes → ℕ → ℕ → Outcome
isolated_outcome isolated n site = unwrap_or (site_outcome site (unwrap_or (slice_get isolated n) [])) Stop

-- by reader number and site: the answer to a site, or None where its term is evaluated now
abbrev pub Sites : Type 0
Sites = ℕ → ℕ → Option Outcome

-- isolated sites keep what the reader's last run saw
abbrev pub kept_sites : IsolatedOutcomes → Sites
kept_sites isolated n site = Some (isolated_outcome isolated n site)

-- ---- what one reader comes to

-- a body's reads do not count where there are keys, since the keys alone say when it is evaluated anew
abbrev pub without_reads : Evaluation → Evaluation
without_reads e = record e { outside = [] }

-- the keys in their order, and then the body
abbrev pub cached : Trees → Tree → Answers → Evaluation
cached no_trees body answers = evaluate body answers []
cached (tree key more) body answers = evaluate_all (tree key more) answers [] [] (λ keys. without_reads (evaluate body answers []))

-- the body of an event is its implicit site, whose number follows those of the event term
abbrev pub event_body : Flags → Tree → Tree → Answers → Value → Evaluation
event_body flags e body answers x =
    if is_null x && not flags.allow_null then plain Stop else at_site (site_count e) (evaluate body) answers [] (answers.site (site_count e))

-- a picture is a text or nothing
abbrev pub picture : Outcome → Outcome
picture (Val (v.Text t)) = Val (v.Text t)
picture (Val v.Null) = Val v.Null
picture (Val x) = failure_outcome WrongKind
picture outcome = outcome

abbrev pub rendered : Evaluation → Evaluation
rendered e = record e { outcome = picture e.outcome }

-- an expression or an output; no other item comes to anything
abbrev pub evaluate_node : Option Node → Answers → Evaluation
evaluate_node (Some (reactive name keys body)) answers = cached keys body answers
evaluate_node (Some (event name flags e body)) answers = then_with (evaluate e answers []) (event_body flags e body answers)
evaluate_node (Some (text name shown)) answers = cached shown.keys shown.body answers
evaluate_node (Some (plot name shown)) answers = rendered (cached shown.keys shown.body answers)
evaluate_node _ answers = plain Stop

-- ---- sources

abbrev pub is_among : ℕ → List ℕ → Bool
is_among s sources = list_any (λ t. t == s) sources

-- both, each number once: a list joined at every diamond of expressions would double at each
abbrev pub union : List ℕ → List ℕ → List ℕ
union sources [] = sources
union sources (s ∷ more) = union (if is_among s sources then sources else sources ++ s ∷ []) more

-- ---- expressions

-- what a reader came to, and the sources that it reached outside of its sites
pub record Known : Type 0 where
  pub outcome : Outcome
  pub sources : List ℕ

abbrev pub unknown : Known
unknown = record { outcome = Stop; sources = [] }

-- by reader number
abbrev pub known_at : List Known → ℕ → Known
known_at known n = unwrap_or (slice_get known n) unknown

abbrev pub answer_to : Shape → CurrentValues → List Known → Read → Outcome
answer_to app values known (read.Expr m) = (known_at known m).outcome
answer_to app values known r = told app values r

-- the sources that a read reaches
abbrev pub sources_of_read : Shape → List Known → Read → List ℕ
sources_of_read app known (read.Input s) = s ∷ []
sources_of_read app known (read.Value s) = s ∷ []
sources_of_read app known (read.Status s) = s ∷ []
sources_of_read app known (read.Result s) = s ∷ []
sources_of_read app known (read.Width n) = width_source app n ∷ []
sources_of_read app known (read.Height n) = height_source app n ∷ []
sources_of_read app known (read.Expr m) = (known_at known m).sources

abbrev pub sources_of_reads : Shape → List Known → List ℕ → List Read → List ℕ
sources_of_reads app known sources [] = sources
sources_of_reads app known sources (r ∷ more) = sources_of_reads app known (union sources (sources_of_read app known r)) more

-- reader n, where the expressions before it are known
abbrev pub evaluate_reader : Shape → CurrentValues → Sites → List Known → ℕ → Evaluation
evaluate_reader app values sites known n = evaluate_node (reader app n) (record { read = answer_to app values known; site = sites n })

abbrev pub known_by : Shape → List Known → Evaluation → Known
known_by app known e = record { outcome = e.outcome; sources = sources_of_reads app known [] e.outside }

abbrev pub is_expression_at : Option Node → Bool
is_expression_at (Some i) = is_expression i
is_expression_at None = false

-- only expressions are read by readers
abbrev pub known_of : Shape → CurrentValues → Sites → List Known → ℕ → Bool → Known
known_of app values sites known n true = known_by app known (evaluate_reader app values sites known n)
known_of app values sites known n false = unknown

abbrev pub with_known : Shape → CurrentValues → Sites → List Known → ℕ → List Known
with_known app values sites known n = known ++ known_of app values sites known n (is_expression_at (reader app n)) ∷ []

-- the expressions of a number below n: an expression reads only expressions of a smaller number
abbrev pub known_below : Shape → CurrentValues → Sites → ℕ → List Known
known_below app values sites zero = []
known_below app values sites (suc n) = with_known app values sites (known_below app values sites n) n

-- all expressions, by reader number
abbrev pub known_expressions : Shape → CurrentValues → Sites → List Known
known_expressions app values sites = known_below app values sites (length (readers app))

-- ---- a reader evaluated afresh

abbrev pub evaluation : Shape → CurrentValues → Sites → ℕ → Evaluation
evaluation app values sites n = evaluate_reader app values sites (known_expressions app values sites) n

abbrev pub fresh_evaluation : Shape → CurrentValues → IsolatedOutcomes → ℕ → Evaluation
fresh_evaluation app values isolated n = evaluation app values (kept_sites isolated) n

abbrev pub fresh_outcome : Shape → CurrentValues → IsolatedOutcomes → ℕ → Outcome
fresh_outcome app values isolated n = (fresh_evaluation app values isolated n).outcome

-- the sources that reader n reaches outside isolated sites, each once
abbrev pub sources_read : Shape → CurrentValues → IsolatedOutcomes → ℕ → List ℕ
sources_read app values isolated n =
    sources_of_reads app (known_expressions app values (kept_sites isolated)) [] (fresh_evaluation app values isolated n).outside

-- ---- a first run, which evaluates each isolated site now, but not the body of an event that ignores it

abbrev pub ignored_site : Option Node → Option ℕ
ignored_site (Some (event name flags e body)) = if flags.ignore_init then Some (site_count e) else None
ignored_site _ = None

abbrev pub first_sites : Shape → Sites
first_sites app n site = if is_site (ignored_site (reader app n)) then Some Stop else None
  where
    is_site : Option ℕ → Bool
    is_site (Some ignored) = ignored == site
    is_site None = false

abbrev pub first_outcome : Shape → CurrentValues → ℕ → Outcome
first_outcome app values n = (evaluation app values (first_sites app) n).outcome

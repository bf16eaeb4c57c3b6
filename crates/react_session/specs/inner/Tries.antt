-- What one evaluation over a session comes to.
use Rattle.std.specs.Prelude.{◌≡◌, ⊤, ℕ, [], Option, Some, None, Ok, Err, if◌then◌else◌}
use Rattle.app_tree.specs.declared.term.Read.TheVariants as read
use Rattle.app_tree.specs.Tree.{Trees, Tree, Shape}
use Rattle.app_tree.specs.Numbering.{reader}
use Rattle.app_tree.specs.Cover.{cached_node}
use Rattle.app_tree.specs.Evaluate.{Evaluation, evaluate}
use Rattle.app_tree.specs.Fresh.{ignored_site}
use Rattle.app_tree.specs.Keys.{keys_result, keys_evaluation}
use Rattle.app_tree.specs.Wanted.{completed, first_wanted}
use Rattle.session_model.specs.Standing.{KeptSession, did_run, kept_reader}
use Rattle.session_steps.specs.Keeping.{answering, attempt, wanted}
use Rattle.term_eval.specs.Bodies.{keys_of, body_of}
use Rattle.term_eval.specs.declared.evaled.Evaled.{Evaled}
use Rattle.term_eval.specs.declared.evaled.Evaled.TheVariants as evaled
use Rattle.react_session.specs.declared.attempt.Tried.{Tried}
use Rattle.react_session.specs.declared.attempt.Tried.TheVariants as tried
use Rattle.react_session.specs.declared.attempt.KeysTried.{KeysTried}
use Rattle.react_session.specs.declared.attempt.KeysTried.TheVariants as keys
use Rattle.react_session.specs.inner.Trail.{AreNotes}

-- the site that reader n leaves out as it runs now: the body of an event on the first run that it ignores
abbrev pub ignored_now : Shape → KeptSession → ℕ → Option ℕ
ignored_now app s n = if did_run (kept_reader s n).dependence then None else ignored_site (reader app n)

-- reader n, which has no keys
abbrev pub Tries : Shape → KeptSession → ℕ → Tried → Type 0
Tries app s n (tried.Done ran) =
    (wanted app s n ≡ None) × (ran.outcome ≡ (attempt app s n).outcome)
    × AreNotes app (answering app s n) (attempt app s n) ran.reached ran.isolated
Tries app s n (tried.Wants m) = wanted app s n ≡ Some (read.Expr m)
Tries app s n tried.Memory = ⊤

abbrev pub bodies_tried : Tried → ℕ
bodies_tried (tried.Done ran) = 1
bodies_tried _ = 0

-- ---- a reader with keys

abbrev pub keys_at : Shape → ℕ → Trees
keys_at app n = keys_of (cached_node (reader app n))

abbrev pub keys_trial : Shape → KeptSession → ℕ → Evaluation
keys_trial app s n = keys_evaluation (keys_at app n) (completed (answering app s n))

-- the keys of reader n
abbrev pub TriesKeys : Shape → KeptSession → ℕ → KeysTried → Type 0
TriesKeys app s n (keys.Key key noted) =
    (first_wanted (answering app s n) (keys_trial app s n).asked ≡ None) × (key.node ≡ n)
    × (keys_result (keys_at app n) (completed (answering app s n)) ≡ Ok key.parts)
    × AreNotes app (answering app s n) (keys_trial app s n) noted.reached noted.isolated
TriesKeys app s n (keys.Fails ran) =
    (first_wanted (answering app s n) (keys_trial app s n).asked ≡ None)
    × (keys_result (keys_at app n) (completed (answering app s n)) ≡ Err ran.outcome)
    × AreNotes app (answering app s n) (keys_trial app s n) ran.reached ran.isolated
TriesKeys app s n (keys.Wants m) = first_wanted (answering app s n) (keys_trial app s n).asked ≡ Some (read.Expr m)
TriesKeys app s n keys.Memory = ⊤

abbrev pub body_at : Shape → ℕ → Tree
body_at app n = body_of (cached_node (reader app n))

abbrev pub body_trial : Shape → KeptSession → ℕ → Evaluation
body_trial app s n = evaluate (body_at app n) (completed (answering app s n)) []

-- the body of reader n behind its keys
abbrev pub TriesBody : Shape → KeptSession → ℕ → Evaled → Type 0
TriesBody app s n (evaled.Done outcome) =
    (first_wanted (answering app s n) (body_trial app s n).asked ≡ None) × (outcome ≡ (body_trial app s n).outcome)
TriesBody app s n (evaled.Wants m) = first_wanted (answering app s n) (body_trial app s n).asked ≡ Some (read.Expr m)
TriesBody app s n evaled.Memory = ⊤

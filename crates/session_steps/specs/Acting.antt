-- The steps of an observer's run, and a write, in words of the session alone.
use Rattle.std.specs.Prelude.{◌≡◌, ℕ, Bool, true, false, List, [], ◌∷◌, ◌++◌, map, Some, None, slice_set, if◌then◌else◌}
use Rattle.rx_value.specs.declared.outcome.Outcome.{Outcome}
use Rattle.rx_value.specs.declared.source.SourceValue.{SourceValue}
use Rattle.rx_value.specs.Value.{source_eq}
use Rattle.app_tree.specs.declared.term.Read.{Read}
use Rattle.app_tree.specs.declared.term.Read.TheVariants as read
use Rattle.app_tree.specs.Tree.{Tree, Shape}
use Rattle.app_tree.specs.Current.{value_at}
use Rattle.app_tree.specs.Evaluate.{Evaluation, evaluate}
use Rattle.app_tree.specs.Wanted.{Answering, completed, first_wanted}
use Rattle.app_tree.specs.Fresh.{is_among, union, sources_of_read}
use Rattle.session_model.specs.Standing.{Dependence, alive, dependence_by, KeptReader, KeptSession, kept_reader}
use Rattle.session_steps.specs.Keeping.{reached_by, kept_answer, with_kept, IsAlike}
use Rattle.session_steps.specs.Bringing.{reading, Brings, Begins, IsLost}

-- ---- a write

-- a reader that is alive and has reached source s is so no longer
abbrev pub marked_dependence : ℕ → Dependence → Dependence
marked_dependence s (alive sources) = dependence_by (is_among s sources) sources
marked_dependence s other = other

abbrev pub marked_kept : ℕ → KeptReader → KeptReader
marked_kept s r = record r { dependence = marked_dependence s r.dependence }

abbrev pub changed_kept : ℕ → SourceValue → KeptSession → KeptSession
changed_kept s x session = record session {
  values = slice_set session.values s x;
  readers = map (marked_kept s) session.readers;
}

-- setting a source to the value that it has does nothing
abbrev pub write_kept : ℕ → SourceValue → KeptSession → KeptSession
write_kept s x session = if source_eq (value_at session.values s) x then session else changed_kept s x session

-- ---- an observer's run

-- at its beginning it depends on nothing
abbrev pub begin_kept : ℕ → KeptSession → KeptSession
begin_kept n session = record (with_kept n (record (kept_reader session n) { dependence = alive [] }) session) { running = Some n }

abbrev pub finish_kept : KeptSession → KeptSession
finish_kept session = record session { running = None }

-- ---- a term of it

-- each isolated site is evaluated, and none is kept
abbrev pub term_answering : Shape → KeptSession → Answering
term_answering app session = record { read = kept_answer app session; site = λ site. None }

abbrev pub term_attempt : Shape → KeptSession → Tree → Evaluation
term_attempt app session t = evaluate t (completed (term_answering app session)) []

-- of an expression that is read all that it has reached
abbrev pub reached_in : Shape → KeptSession → Read → List ℕ
reached_in app session (read.Expr m) = reached_by (kept_reader session m).dependence
reached_in app session r = sources_of_read app [] r

abbrev pub more_reached : List ℕ → Dependence → Dependence
more_reached sources (alive others) = alive (union others sources)
more_reached sources other = other

-- observer n has reached these reads, beside what it had reached before
abbrev pub reads_kept : Shape → ℕ → List Read → KeptSession → KeptSession
reads_kept app n [] session = session
reads_kept app n (r ∷ more) session =
    reads_kept app n more
    (with_kept n
    (record (kept_reader session n) {
      dependence = more_reached (reached_in app session r) (kept_reader session n).dependence;
    })
    session)

-- the reads of a term count, unless it is isolated
abbrev pub term_kept : Shape → ℕ → Bool → Tree → KeptSession → KeptSession
term_kept app n true t session = session
term_kept app n false t session = reads_kept app n (term_attempt app session t).outside session

-- the term is evaluated on what is kept; where that wants an expression, this one is made alive first
pub data Comes (app : Shape) (n : ℕ) (isolated : Bool) (t : Tree) : List ℕ → KeptSession → KeptSession → Outcome → Type 0 where
  ends : (s s' : KeptSession) → first_wanted (term_answering app s) (term_attempt app s t).asked ≡ None
      → IsAlike (term_kept app n isolated t s) s' → Comes app n isolated t [] s s' (term_attempt app s t).outcome
  waits : (earlier later : List ℕ) (m : ℕ) (s s' s'' : KeptSession) (outcome : Outcome)
      → first_wanted (term_answering app s) (term_attempt app s t).asked ≡ Some (read.Expr m)
      → Brings app reading earlier m s s' → Comes app n isolated t later s' s'' outcome
      → Comes app n isolated t (earlier ++ later) s s'' outcome

-- a front of that, where memory is wanting: of what the observer has reached nothing may be known then
pub data ComesUntil (app : Shape) (n : ℕ) (t : Tree) : List ℕ → KeptSession → KeptSession → Type 0 where
  none : (s s' : KeptSession) → IsLost n s s' → ComesUntil app n t [] s s'
  within : (bodies : List ℕ) (m : ℕ) (s s' : KeptSession)
      → first_wanted (term_answering app s) (term_attempt app s t).asked ≡ Some (read.Expr m)
      → Begins app reading bodies m s s' → ComesUntil app n t bodies s s'
  later : (earlier more : List ℕ) (m : ℕ) (s s' s'' : KeptSession)
      → first_wanted (term_answering app s) (term_attempt app s t).asked ≡ Some (read.Expr m)
      → Brings app reading earlier m s s' → ComesUntil app n t more s' s''
      → ComesUntil app n t (earlier ++ more) s s''

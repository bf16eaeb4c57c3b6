-- What one evaluation of a term of an observer comes to, and what is left of a session where what it read counts.
use Rattle.std.specs.Prelude.{◌≡◌, ⊤, ℕ, List, Some, None}
use Rattle.app_tree.specs.declared.term.Read.TheVariants as read
use Rattle.app_tree.specs.Tree.{Tree, Shape}
use Rattle.app_tree.specs.Wanted.{first_wanted}
use Rattle.session_model.specs.Standing.{alive, KeptSession, kept_reader}
use Rattle.session_steps.specs.Keeping.{reached_by, with_kept}
use Rattle.session_steps.specs.Acting.{term_answering, term_attempt}
use Rattle.dep_graph.specs.declared.on.On.{On}
use Rattle.react_session.specs.declared.attempt.Tried.{Tried}
use Rattle.react_session.specs.declared.attempt.Tried.TheVariants as tried
use Rattle.react_session.specs.inner.Storing.{with_members}
use Rattle.react_session.specs.inner.Trail.{AreNotes}

abbrev pub TriesTerm : Shape → KeptSession → Tree → Tried → Type 0
TriesTerm app s t (tried.Done ran) =
    (first_wanted (term_answering app s) (term_attempt app s t).asked ≡ None) × (ran.outcome ≡ (term_attempt app s t).outcome)
    × AreNotes app (term_answering app s) (term_attempt app s t) ran.reached ran.isolated
TriesTerm app s t (tried.Wants m) = first_wanted (term_answering app s) (term_attempt app s t).asked ≡ Some (read.Expr m)
TriesTerm app s t tried.Memory = ⊤

-- reader n, which is alive, has reached what each of these leads to, beside what it had reached before
abbrev pub reached_kept : ℕ → List On → KeptSession → KeptSession
reached_kept n reached session =
    with_kept n
    (record (kept_reader session n) {
      dependence = alive (with_members session (reached_by (kept_reader session n).dependence) reached);
    })
    session

-- The steps of an observer's run leave a session that stands for the state after them.
use Rattle.std.proofs.Common.{◌≡◌, ◌≢◌, inl, ◌<◌, ℕ, Bool, true, false, List, [], ◌∷◌, Option, Some, None, refl, sym, ap, ◌∙◌, subst}
use Rattle.std.specs.Prelude.{⊤, ◌||◌}
use Rattle.app_tree.specs.declared.term.Read.{Read}
use Rattle.app_tree.specs.declared.term.Read.TheVariants as read
use Rattle.app_tree.specs.Tree.{Node, input, value, task, reactive, event, text, plot, observe, on, Shape}
use Rattle.app_tree.specs.Numbering.{readers, reader, is_output, is_observer, is_evaluated}
use Rattle.app_tree.specs.Cover.{is_covered}
use Rattle.app_tree.specs.Trace.{Every}
use Rattle.app_tree.specs.Fresh.{union, is_expression_at}
use Rattle.session_model.specs.declared.state.Dependencies.{Dependencies}
use Rattle.session_model.specs.declared.state.ReaderState.{ReaderState}
use Rattle.session_model.specs.State.{SessionState, reader_state, with_reader}
use Rattle.session_model.specs.Flush.{is_observer_at}
use Rattle.session_model.specs.Observing.{sources_reached, more_sources, with_reads}
use Rattle.session_model.specs.Standing.{HasSameMembers, Dependence, never_run, stale, alive, is_live, did_run, dependence_by, dependence_of, IsSameDependence, KeptReader, KeptSession, kept_reader, is_bare, IsRunning, StandsForState}
use Rattle.app_laws.specs.Orderly.{IsOrderly}
use Rattle.app_laws.proofs.WhatIsAsked.{every_map}
use Rattle.app_laws.proofs.KnownLists.{get_in}
use Rattle.session_laws.proofs.Proper.{orderly, covered}
use Rattle.session_laws.proofs.Moving.{not_both}
use Rattle.session_laws.proofs.Right.{observer_alone, same_node, sound_observer}
use Rattle.session_laws.proofs.States.{state_here, state_there}
use Rattle.session_laws.proofs.Staying.{alike_eq, Same, same_readers}
use Rattle.session_laws.proofs.Walking.{expression_of}
use Rattle.session_steps.specs.Keeping.{lives, with_kept}
use Rattle.session_steps.specs.Acting.{begin_kept, reached_in, more_reached, reads_kept}
use Rattle.session_steps.specs.StandLaws.{BeginStands}
use Rattle.session_steps.proofs.Members.{union_same}
use Rattle.session_steps.proofs.KeptReaders.{kept_here, kept_there}
use Rattle.session_steps.proofs.Living.{sound, live_reached}
use Rattle.session_steps.proofs.Putting.{IsPut, put_stands}

observer_bare : (i : Node) → is_observer i ≡ true → is_bare (Some i) ≡ false
observer_bare (input name start) h = refl
observer_bare (value name start) h = refl
observer_bare (task name parameters body) h = refl
observer_bare (reactive name keys body) h = cc
observer_bare (event name flags e body) h = refl
observer_bare (text name shown) h = refl
observer_bare (plot name shown) h = refl
observer_bare (observe name priority block) h = refl
observer_bare (on name priority flags e block) h = refl

-- ---- what is put for observer n
module _ (app : Shape) (orderly : IsOrderly app) (covered : (n : ℕ) → is_covered app n ≡ true) (n : ℕ) (i : Node) (is : reader app n ≡ Some i) (observer : is_observer i ≡ true) where
  pub unbare : is_bare (reader app n) ≡ false
  unbare = ap is_bare is ∙ observer_bare i observer

  unevaluated : (j : Node) → reader app n ≡ Some j → is_evaluated j ≡ false
  unevaluated j js = subst (λ k. is_evaluated k ≡ false) (same_node is js) (observer_alone i observer)

  -- no expression is the observer
  pub apart : (m : ℕ) → is_expression_at (reader app m) ≡ true → m ≢ n
  apart m x q =
      let e = expression_of app m x in
      not_both (ap (λ b. b || is_output e.0) e.2) (unevaluated e.0 (subst (λ z. reader app z ≡ Some e.0) q e.1))

  module _ (S : KeptSession) (M : SessionState) (stands : StandsForState app S M) (k : KeptReader) (r : ReaderState) (isolated : k.isolated ≡ r.isolated) (depends : IsSameDependence k.dependence (dependence_of r.dependencies))
      (ran : did_run (kept_reader S n).dependence ≡ true → did_run k.dependence ≡ true) where
    here : reader_state (with_reader n r M) n ≡ r
    here = state_here M n r (subst (λ z. n < z) (sym stands.consistent.size) (get_in (readers app) n i is))

    there : (m : ℕ) → m ≢ n → reader_state (with_reader n r M) m ≡ reader_state M m
    there m d = state_there M n m r d

    put : IsPut app (with_reader n r M) n k
    put = record {
      depends = λ b. subst (λ (x : ReaderState). IsSameDependence k.dependence (dependence_of x.dependencies)) (sym here) depends;
      behind = λ b. absurd (not_both b unbare);
      sites = λ b. isolated ∙ sym (ap (λ (x : ReaderState). x.isolated) here);
      gives = λ j js e. absurd (not_both e (unevaluated j js));
    }

    same : Same app M (with_reader n r M)
    same = same_readers app M (with_reader n r M) refl (λ m x. alike_eq (there m (apart m x)))

    pub observer_stands : StandsForState app (with_kept n k S) (with_reader n r M)
    observer_stands =
        put_stands app orderly S M (with_reader n r M) stands (sound_observer app orderly covered M n r unevaluated (sound app orderly S M stands)) same n (get_in (readers app) n i is) (λ j d. inl (there j d)) k put ran

  -- ---- it begins
  pub begun_stands : (S : KeptSession) (M : SessionState) → StandsForState app S M
      → StandsForState app (begin_kept n S) (with_reader n (record (reader_state M n) { dependencies = Some (record { sources = []; changed = false }) }) M)
  begun_stands S M stands =
      let k : KeptReader = record (kept_reader S n) { dependence = alive [] } in
      let begun = observer_stands S M stands k (record (reader_state M n) { dependencies = Some (record { sources = []; changed = false }) }) (stands.isolated n unbare) (λ s. refl) (λ h. refl) in
      record {
        values = begun.values;
        size = begun.size;
        consistent = begun.consistent;
        dependences = begun.dependences;
        bare_dependences = begun.bare_dependences;
        isolated = begun.isolated;
        outcomes = begun.outcomes;
        running = λ m h. running_is S stands k m h;
      }
    where
      same_number : (m : ℕ) → Some n ≡ Some m → n ≡ m
      same_number m h = cc

      running_is : (S : KeptSession) → StandsForState app S M → (k : KeptReader) (m : ℕ) → Some n ≡ Some m → IsRunning app (begin_kept n S) m
      running_is S stands k m h = subst (IsRunning app (begin_kept n S)) (same_number m h) (record {
        observer = ap is_observer_at is ∙ observer;
        ran = ap (λ (x : KeptReader). did_run x.dependence) (kept_here S n (record (kept_reader S n) { dependence = alive [] }) (subst (λ z. n < z) (sym stands.size) (get_in (readers app) n i is)));
      })

  -- ---- it reaches more
  more_by : (xs ys sources zs : List ℕ) (b : Bool) → HasSameMembers xs ys → IsSameDependence (alive sources) (dependence_by b zs) → IsSameDependence (alive (union sources xs)) (dependence_by b (union zs ys))
  more_by xs ys sources zs false p q = union_same sources xs zs ys q p
  more_by xs ys sources zs true p q = absurd q

  stale_by : (zs more : List ℕ) (b : Bool) → IsSameDependence stale (dependence_by b zs) → IsSameDependence stale (dependence_by b more)
  stale_by zs more true q = tt
  stale_by zs more false q = absurd q

  never_by : (zs more : List ℕ) (b : Bool) → IsSameDependence never_run (dependence_by b zs) → IsSameDependence never_run (dependence_by b more)
  never_by zs more true q = absurd q
  never_by zs more false q = absurd q

  more_same : (xs ys : List ℕ) (d : Dependence) (o : Option Dependencies) → HasSameMembers xs ys → IsSameDependence d (dependence_of o) → IsSameDependence (more_reached xs d) (dependence_of (more_sources ys o))
  more_same xs ys never_run None p q = tt
  more_same xs ys stale None p q = absurd q
  more_same xs ys (alive sources) None p q = absurd q
  more_same xs ys never_run (Some e) p q = never_by e.sources (union e.sources ys) e.changed q
  more_same xs ys stale (Some e) p q = stale_by e.sources (union e.sources ys) e.changed q
  more_same xs ys (alive sources) (Some e) p q = more_by xs ys sources e.sources e.changed p q

  more_ran : (xs : List ℕ) (d : Dependence) → did_run d ≡ true → did_run (more_reached xs d) ≡ true
  more_ran xs never_run h = h
  more_ran xs stale h = h
  more_ran xs (alive sources) h = h

  -- a read of a source, or of an expression that lives
  abbrev pub IsOfLive : KeptSession → Read → Type 0
  IsOfLive S (read.Expr m) = (is_expression_at (reader app m) ≡ true) × (lives S m ≡ true)
  IsOfLive S r = ⊤

  stays_live : (S : KeptSession) (k : KeptReader) (r : Read) → IsOfLive S r → IsOfLive (with_kept n k S) r
  stays_live S k (read.Expr m) h = (h.0, ap (λ (x : KeptReader). is_live x.dependence) (kept_there S n m k (apart m h.0)) ∙ h.1)
  stays_live S k (read.Input s) h = tt
  stays_live S k (read.Value s) h = tt
  stays_live S k (read.Status s) h = tt
  stays_live S k (read.Result s) h = tt
  stays_live S k (read.Width m) h = tt
  stays_live S k (read.Height m) h = tt

  reached_same : (S : KeptSession) (M : SessionState) → StandsForState app S M → (r : Read) → IsOfLive S r → HasSameMembers (reached_in app S r) (sources_reached app M r)
  reached_same S M stands (read.Expr m) h = live_reached app orderly S M stands m h.1
  reached_same S M stands (read.Input s) h = λ t. refl
  reached_same S M stands (read.Value s) h = λ t. refl
  reached_same S M stands (read.Status s) h = λ t. refl
  reached_same S M stands (read.Result s) h = λ t. refl
  reached_same S M stands (read.Width m) h = λ t. refl
  reached_same S M stands (read.Height m) h = λ t. refl

  pub reads_stand : (rs : List Read) (S : KeptSession) (M : SessionState) → Every (IsOfLive S) rs → StandsForState app S M → StandsForState app (reads_kept app n rs S) (with_reads app n rs M)
  reads_stand [] S M h stands = stands
  reads_stand (r ∷ rs) S M h stands =
      let k : KeptReader = record (kept_reader S n) { dependence = more_reached (reached_in app S r) (kept_reader S n).dependence } in
      let q : ReaderState = record (reader_state M n) { dependencies = more_sources (sources_reached app M r) (reader_state M n).dependencies } in
      reads_stand rs (with_kept n k S) (with_reader n q M) (every_map (IsOfLive S) (IsOfLive (with_kept n k S)) (stays_live S k) rs h.1)
      (observer_stands S M stands k q (stands.isolated n unbare)
      (more_same (reached_in app S r) (sources_reached app M r) (kept_reader S n).dependence (reader_state M n).dependencies (reached_same S M stands r h.0) (stands.dependences n unbare))
      (more_ran (reached_in app S r) (kept_reader S n).dependence))

pub begin_stands : BeginStands
begin_stands app p S M stands n i is o = begun_stands app (orderly app p) (covered app p) n i is o S M stands

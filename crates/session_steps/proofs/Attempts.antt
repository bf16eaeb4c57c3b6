-- What a reader's attempt on what is kept says of its trace in the state.
use Rattle.std.proofs.Common.{◌≡◌, ℕ, false, [], Some, None, refl, sym, subst}
use Rattle.rx_value.specs.declared.outcome.Outcome.{Outcome}
use Rattle.app_tree.specs.declared.term.Read.{Read}
use Rattle.app_tree.specs.declared.term.Read.TheVariants as read
use Rattle.app_tree.specs.Tree.{Node, Shape}
use Rattle.app_tree.specs.Numbering.{reader}
use Rattle.app_tree.specs.Evaluate.{Evaluation}
use Rattle.app_tree.specs.Trace.{Every, EveryRead}
use Rattle.app_tree.specs.Fresh.{answer_to, sources_of_reads}
use Rattle.app_tree.specs.Wanted.{completed}
use Rattle.session_model.specs.State.{SessionState}
use Rattle.session_model.specs.Standing.{HasSameMembers, KeptSession, kept_reader, IsAliveRead, StandsForState}
use Rattle.app_laws.specs.Orderly.{ReadsBelow, bound_of, IsOrderly}
use Rattle.app_laws.specs.Recorded.{recorded}
use Rattle.app_laws.proofs.WhatIsAsked.{reads_zip}
use Rattle.app_laws.proofs.KnownLists.{evaluation_alike}
use Rattle.session_laws.specs.Now.{open_sites, known_now, trace, open_answers}
use Rattle.session_laws.proofs.Staying.{asked_low}
use Rattle.session_laws.proofs.Freshness.{outside_of}
use Rattle.session_steps.specs.Keeping.{kept_known, lives, kept_answer, open_site_of, answering, attempt, wanted}
use Rattle.session_steps.proofs.Members.{reads_same}
use Rattle.session_steps.proofs.Wanting.{IsLiveRead, answered_live, live_all, found, unanswered_dead}
use Rattle.session_steps.proofs.Living.{sites_as, read_alive, live_answer, ReachesAlike, live_sources, tells}
use Rattle.session_steps.proofs.Upto.{Upto, node_fits}

-- what is wanted is an earlier expression, which doesn't live
module _ (app : Shape) (orderly : IsOrderly app) (S : KeptSession) (n : ℕ) (i : Node) (is : reader app n ≡ Some i) (m : ℕ) (wants : wanted app S n ≡ Some (read.Expr m)) where
  found_it : ReadsBelow app (bound_of app n i) (read.Expr m) × (kept_answer app S (read.Expr m) ≡ None)
  found_it = found (answering app S n) (ReadsBelow app (bound_of app n i)) (attempt app S n).asked (read.Expr m) wants (asked_low app orderly n i is (completed (answering app S n)))

  pub wanted_low : ReadsBelow app (bound_of app n i) (read.Expr m)
  wanted_low = found_it.0

  pub wanted_dead : lives S m ≡ false
  wanted_dead = unanswered_dead (lives S m) (kept_reader S m).outcome found_it.1

module _ (app : Shape) (orderly : IsOrderly app) (S : KeptSession) (M : SessionState) (stands : StandsForState app S M) (n : ℕ) (i : Node) (is : reader app n ≡ Some i) where
  abbrev k : ℕ
  k = bound_of app n i

  low : EveryRead (ReadsBelow app k) (attempt app S n).asked
  low = asked_low app orderly n i is (completed (answering app S n))

  -- ---- it wants nothing
  module _ (none : wanted app S n ≡ None) where
    live : EveryRead (IsLiveRead app S) (attempt app S n).asked
    live = live_all app S (open_site_of app S n) (attempt app S n).asked none

    pub attempt_is : trace app M n ≡ attempt app S n
    attempt_is = evaluation_alike (completed (answering app S n)) (open_answers app M n) (reader app n) (sites_as app orderly S M stands n)
        (reads_zip (ReadsBelow app k) (IsLiveRead app S) (λ r. (completed (answering app S n)).read r ≡ answer_to app M.values (known_now app M) r) (live_answer app orderly S M stands k) (attempt app S n).asked low live)

    pub attempt_alive : EveryRead (IsAliveRead M) (trace app M n).asked
    attempt_alive = subst (λ (x : Evaluation). EveryRead (IsAliveRead M) x.asked) (sym attempt_is)
        (reads_zip (ReadsBelow app k) (IsLiveRead app S) (IsAliveRead M) (read_alive app orderly S M stands k) (attempt app S n).asked low live)

    reaches : Every (ReachesAlike app orderly S M stands) (attempt app S n).outside
    reaches = outside_of app orderly n i is (completed (answering app S n)) (ReachesAlike app orderly S M stands)
        (reads_zip (ReadsBelow app k) (IsLiveRead app S) (ReachesAlike app orderly S M stands) (live_sources app orderly S M stands k) (attempt app S n).asked low live)

    pub attempt_sources : HasSameMembers (sources_of_reads app (kept_known S) [] (attempt app S n).outside) (sources_of_reads app (known_now app M) [] (trace app M n).outside)
    attempt_sources = subst (λ (x : Evaluation). HasSameMembers (sources_of_reads app (kept_known S) [] (attempt app S n).outside) (sources_of_reads app (known_now app M) [] x.outside)) (sym attempt_is)
        (reads_same app (kept_known S) (known_now app M) (attempt app S n).outside reaches [] [] (λ s. refl))

    pub attempt_recorded : recorded (open_site_of app S n) (attempt app S n).asked ≡ recorded (open_sites app M n) (trace app M n).asked
    attempt_recorded = (λ j. recorded (λ s. sites_as app orderly S M stands n s j) (sym attempt_is j).asked)

  -- ---- it wants expression m
  module _ (m : ℕ) (wants : wanted app S n ≡ Some (read.Expr m)) where
    told : (r : Read) → ReadsBelow app k r → (o : Outcome) → kept_answer app S r ≡ Some o → answer_to app M.values (known_now app M) r ≡ o
    told r l o h = tells app orderly S M stands k r l o h (answered_live app S r o h)

    -- the trace asks it too
    pub wanted_asked : (Q : Read → Type 0) → EveryRead Q (trace app M n).asked → Q (read.Expr m)
    wanted_asked Q =
        subst (λ w. Upto (answering app S n) (open_answers app M n) (ReadsBelow app k) Q (sites_as app orderly S M stands n) told w (attempt app S n) (trace app M n)) wants
        (node_fits (answering app S n) (open_answers app M n) (ReadsBelow app k) Q (sites_as app orderly S M stands n) told (reader app n) low)

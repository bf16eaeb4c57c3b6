-- A term of an observer comes to what it comes to in the state, whatever is made alive for it.
use Rattle.std.proofs.Common.{◌≡◌, ℕ, ◌+◌, Bool, true, false, List, [], length, Some, None, refl, sym, ap, ◌∙◌, subst, arith}
use Rattle.std.specs.Prelude.{⊤}
use Rattle.rx_value.specs.declared.outcome.Outcome.{Outcome}
use Rattle.app_tree.specs.declared.term.Read.{Read}
use Rattle.app_tree.specs.declared.term.Read.TheVariants as read
use Rattle.app_tree.specs.Tree.{Tree, Node, Shape}
use Rattle.app_tree.specs.Numbering.{readers, reader, is_expression, is_observer}
use Rattle.app_tree.specs.Cover.{reads_in, is_covered}
use Rattle.app_tree.specs.Evaluate.{Answers, Evaluation, evaluate, site_count}
use Rattle.app_tree.specs.Trace.{Every, EveryRead}
use Rattle.app_tree.specs.Fresh.{answer_to, is_expression_at}
use Rattle.app_tree.specs.Wanted.{completed, first_wanted}
use Rattle.session_model.specs.State.{SessionState, reader_state, is_alive}
use Rattle.session_model.specs.Reading.{TermResult}
use Rattle.session_model.specs.Run.{passing_manner, visit_expression}
use Rattle.session_model.specs.Observing.{with_reads, with_reads_counted, read_by_observer}
use Rattle.session_model.specs.Standing.{KeptSession, IsAliveRead, StandsForState}
use Rattle.app_laws.specs.Orderly.{ReadsBelow, IsOrderly, IsNumbered}
use Rattle.app_laws.specs.Proper.{IsProper}
use Rattle.app_laws.proofs.Asking.{term_has}
use Rattle.app_laws.proofs.WhatIsAsked.{reads_zip, term_asks, IsAnyRead, any_reads, Covers, covers}
use Rattle.session_laws.specs.Now.{known_now, term_answers, read_by_trace}
use Rattle.session_laws.specs.Sound.{IsSound}
use Rattle.session_laws.proofs.Absorbing.{Anyone, anyone_closed, visits}
use Rattle.session_laws.proofs.Moving.{Visits}
use Rattle.session_laws.proofs.Observed.{term_is}
use Rattle.session_laws.proofs.Proper.{orderly as orderly_of, covered as covered_of}
use Rattle.session_laws.proofs.Walking.{expression_of}
use Rattle.session_steps.specs.Keeping.{kept_answer}
use Rattle.session_steps.specs.Bringing.{reading}
use Rattle.session_steps.specs.Acting.{term_answering, term_attempt, term_kept, Comes, ends, waits}
use Rattle.session_steps.specs.StandLaws.{TermStands, ComesTo}
use Rattle.session_steps.proofs.Alike.{alike_stands}
use Rattle.session_steps.proofs.Forced.{forced}
use Rattle.session_steps.proofs.Living.{sound, read_alive, tells}
use Rattle.session_steps.proofs.Observers.{IsOfLive, reads_stand}
use Rattle.session_steps.proofs.Upto.{Upto, term_fits}
use Rattle.session_steps.proofs.Walks.{walks, walks_still, walks_lead, walks_absorb, IsWalk, any_asked}
use Rattle.session_steps.proofs.Wanting.{IsLiveRead, answered_live, live_all, found}

module _ (app : Shape) (orderly : IsOrderly app) (covered : (n : ℕ) → is_covered app n ≡ true) (t : Tree) (k : ℕ) (numbered : IsNumbered k t) (all_low : Every (ReadsBelow app (length (readers app))) (reads_in t)) where
  abbrev R : ℕ
  R = length (readers app)

  pub low_of : (a : Answers) → EveryRead (ReadsBelow app (length (readers app))) (evaluate t a []).asked
  low_of a = term_asks a (ReadsBelow app R) t k (k + site_count t) numbered all_low (omega arith) []

  outside_of : (a : Answers) (P : Read → Type 0) → EveryRead P (evaluate t a []).asked → Every P (evaluate t a []).outside
  outside_of a P = term_has a IsAnyRead (Covers a P) (covers a P) t k (k + site_count t) numbered (any_reads (reads_in t)) (omega arith) []

  -- what is wanted is an expression
  pub wanted_expression : (S : KeptSession) (m : ℕ) → first_wanted (term_answering app S) (term_attempt app S t).asked ≡ Some (read.Expr m) → is_expression_at (reader app m) ≡ true
  wanted_expression S m w = (found (term_answering app S) (ReadsBelow app R) (term_attempt app S t).asked (read.Expr m) w (low_of (completed (term_answering app S)))).0.1

  -- ---- what the term comes to in a state
  abbrev f : SessionState → Evaluation
  f M = evaluate t (term_answers app M) []

  abbrev by_walk : SessionState → TermResult
  by_walk M = read_by_trace app (passing_manner (visit_expression app)) t M

  observed_is : (n : ℕ) (isolated : Bool) (M : SessionState) → IsSound app M → read_by_observer app n isolated t M ≡ with_reads_counted app n isolated (by_walk M)
  observed_is n isolated M is_sound = ap (with_reads_counted app n isolated) (term_is app orderly covered M is_sound t k numbered all_low)

  counted_outcome : (n : ℕ) (isolated : Bool) (e : TermResult) → (with_reads_counted app n isolated e).outcome ≡ e.outcome
  counted_outcome n true e = refl
  counted_outcome n false e = refl

  counted_state : (n : ℕ) (isolated : Bool) (e e' : TermResult) → e.state ≡ e'.state → e.outside ≡ e'.outside → (with_reads_counted app n isolated e).state ≡ (with_reads_counted app n isolated e').state
  counted_state n true e e' p q = p
  counted_state n false e e' p q = (λ z. with_reads app n (q z) (p z))

  module _ (S : KeptSession) (M : SessionState) (stands : StandsForState app S M) where
    abbrev e : Evaluation
    e = term_attempt app S t

    low : EveryRead (ReadsBelow app (length (readers app))) e.asked
    low = low_of (completed (term_answering app S))

    told : (r : Read) → ReadsBelow app (length (readers app)) r → (o : Outcome) → kept_answer app S r ≡ Some o → answer_to app M.values (known_now app M) r ≡ o
    told r l o h = tells app orderly S M stands R r l o h (answered_live app S r o h)

    fits : (Q : Read → Type 0) → Upto (term_answering app S) (term_answers app M) (ReadsBelow app R) Q (λ s. refl) told (first_wanted (term_answering app S) e.asked) e (f M)
    fits Q = term_fits (term_answering app S) (term_answers app M) (ReadsBelow app R) Q (λ s. refl) told t [] low

    -- ---- nothing is wanted
    module _ (n : ℕ) (i : Node) (is : reader app n ≡ Some i) (observer : is_observer i ≡ true) (isolated : Bool) (none : first_wanted (term_answering app S) (term_attempt app S t).asked ≡ None) where
      same : f M ≡ e
      same = subst (λ w. Upto (term_answering app S) (term_answers app M) (ReadsBelow app R) (λ r. ⊤) (λ s. refl) told w e (f M)) none (fits (λ r. ⊤))

      live : EveryRead (IsLiveRead app S) e.asked
      live = live_all app S (λ site. None) e.asked none

      alive : EveryRead (IsAliveRead M) (f M).asked
      alive = subst (λ (x : Evaluation). EveryRead (IsAliveRead M) x.asked) (sym same) (reads_zip (ReadsBelow app R) (IsLiveRead app S) (IsAliveRead M) (read_alive app orderly S M stands R) e.asked low live)

      of_live : (r : Read) → ReadsBelow app R r → IsLiveRead app S r → IsOfLive app orderly covered n i is observer S r
      of_live (read.Expr m) l h = (l.1, h)
      of_live (read.Input s) l h = tt
      of_live (read.Value s) l h = tt
      of_live (read.Status s) l h = tt
      of_live (read.Result s) l h = tt
      of_live (read.Width m) l h = tt
      of_live (read.Height m) l h = tt

      outside_live : Every (IsOfLive app orderly covered n i is observer S) e.outside
      outside_live = outside_of (completed (term_answering app S)) (IsOfLive app orderly covered n i is observer S)
          (reads_zip (ReadsBelow app R) (IsLiveRead app S) (IsOfLive app orderly covered n i is observer S) of_live e.asked low live)

      kept_by : (b : Bool) → StandsForState app (term_kept app n b t S) (with_reads_counted app n b (record { state = M; bodies = 0; outside = e.outside; outcome = e.outcome })).state
      kept_by true = stands
      kept_by false = reads_stand app orderly covered n i is observer e.outside S M outside_live stands

      pub term_ends : ComesTo app (term_kept app n isolated t S) (term_attempt app S t).outcome (read_by_observer app n isolated t M)
      term_ends = subst (ComesTo app (term_kept app n isolated t S) e.outcome) (sym (observed_is n isolated M (sound app orderly S M stands))) (record {
        stands = subst (StandsForState app (term_kept app n isolated t S))
            (sym (counted_state n isolated (by_walk M) (record { state = M; bodies = 0; outside = e.outside; outcome = e.outcome }) (walks_still app orderly covered (f M).asked M alive) (ap (λ (x : Evaluation). x.outside) same)))
            (kept_by isolated);
        comes = ap (λ (x : Evaluation). x.outcome) (sym same) ∙ sym (counted_outcome n isolated (by_walk M));
      })

    -- ---- expression m is wanted
    module _ (m : ℕ) (wants : first_wanted (term_answering app S) (term_attempt app S t).asked ≡ Some (read.Expr m)) (j : Node) (js : reader app m ≡ Some j) (y : is_expression j ≡ true) where
      abbrev N : SessionState
      N = (visit_expression app m M).state

      is_sound : IsSound app M
      is_sound = sound app orderly S M stands

      first : Visits app (length (readers app)) m M N
      first = visits app orderly covered M is_sound m j js y

      walk : IsWalk app orderly covered Anyone (f M).asked M (walks app orderly covered (f M).asked M)
      walk = walks_lead app orderly covered Anyone (f M).asked (low_of (term_answers app M)) (any_asked (f M).asked) M is_sound (anyone_closed app M)

      made : is_alive (reader_state (walks app orderly covered (f M).asked M) m) ≡ true
      made = subst (λ w. Upto (term_answering app S) (term_answers app M) (ReadsBelow app R) (IsAliveRead (walks app orderly covered (f M).asked M)) (λ s. refl) told w e (f M)) wants
          (fits (IsAliveRead (walks app orderly covered (f M).asked M))) walk.alive

      evaluated_same : f N ≡ f M
      evaluated_same = (λ z. evaluate t (record { read = answer_to app (first.steps.same.values z) (first.steps.same.known z); site = λ site. None }) [])

      walked_same : (by_walk N).state ≡ (by_walk M).state
      walked_same = ap (λ (x : Evaluation). walks app orderly covered x.asked N) evaluated_same
          ∙ walks_absorb app orderly covered M is_sound (f M).asked (low_of (term_answers app M)) m j js y made

      -- a visit to it may come before the term
      pub term_waits : (n : ℕ) (isolated : Bool) (T : KeptSession) (o : Outcome) → ComesTo app T o (read_by_observer app n isolated t (visit_expression app m M).state) → ComesTo app T o (read_by_observer app n isolated t M)
      term_waits n isolated T o c = subst (ComesTo app T o) (sym (observed_is n isolated M is_sound)) (record {
        stands = subst (StandsForState app T) (ap (λ (x : TermResult). x.state) (observed_is n isolated N first.sound) ∙ counted_state n isolated (by_walk N) (by_walk M) walked_same (ap (λ (x : Evaluation). x.outside) evaluated_same)) c.stands;
        comes = c.comes ∙ ap (λ (x : TermResult). x.outcome) (observed_is n isolated N first.sound) ∙ counted_outcome n isolated (by_walk N) ∙ ap (λ (x : Evaluation). x.outcome) evaluated_same ∙ sym (counted_outcome n isolated (by_walk M));
      })

-- ---- the induction
module _ (app : Shape) (p : IsProper app) (n : ℕ) (i : Node) (is : reader app n ≡ Some i) (observer : is_observer i ≡ true) (isolated : Bool) (t : Tree) (k : ℕ) (numbered : IsNumbered k t) (low : Every (ReadsBelow app (length (readers app))) (reads_in t)) where
  pub term_comes : (bodies : List ℕ) (S T : KeptSession) (o : Outcome) → Comes app n isolated t bodies S T o → (M : SessionState) → StandsForState app S M → ComesTo app T o (read_by_observer app n isolated t M)
  term_comes _ _ _ _ (ends s s' none alike) M stands =
      let c = term_ends app (orderly_of app p) (covered_of app p) t k numbered low s M stands n i is observer isolated none in
      record { stands = alike_stands app (term_kept app n isolated t s) s' (read_by_observer app n isolated t M).state c.stands alike; comes = c.comes }
  term_comes _ _ _ _ (waits earlier later m s s' s'' o wants f g) M stands =
      let e = expression_of app m (wanted_expression app (orderly_of app p) (covered_of app p) t k numbered low s m wants) in
      let first = forced app p reading earlier m s s' f M stands e.0 e.1 e.2 tt in
      term_waits app (orderly_of app p) (covered_of app p) t k numbered low s M stands m wants e.0 e.1 e.2 n isolated s'' o
      (term_comes later s' s'' o g (visit_expression app m M).state first.stands)

pub term_stands : TermStands
term_stands app p S T M stands n i is x isolated t k numbered low bodies o comes = term_comes app p n i is x isolated t k numbered low bodies S T o comes M stands

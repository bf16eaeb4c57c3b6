-- A run that comes to its end in a session, and in a state that the session stands for.
use Rattle.std.proofs.Common.{◌≡◌, ◌≢◌, inl, inr, ◌⊎◌, ℕ, Bool, true, false, List, [], length, Some, None, refl, sym, ap, ◌∙◌, subst}
use Rattle.std.specs.Prelude.{◌||◌}
use Rattle.rx_value.specs.declared.outcome.Outcome.{Outcome}
use Rattle.app_tree.specs.declared.term.Read.{Read}
use Rattle.app_tree.specs.declared.term.Read.TheVariants as read
use Rattle.app_tree.specs.Tree.{Node, Shape}
use Rattle.app_tree.specs.Numbering.{readers, reader, is_expression, is_output}
use Rattle.app_tree.specs.Cover.{is_covered}
use Rattle.app_tree.specs.Evaluate.{Evaluation}
use Rattle.app_tree.specs.Trace.{EveryRead}
use Rattle.app_tree.specs.Fresh.{sources_of_reads, fresh_outcome, is_among}
use Rattle.session_model.specs.State.{SessionState, isolated_of, reader_state, is_alive}
use Rattle.session_model.specs.Reading.{VisitResult}
use Rattle.session_model.specs.Run.{visit_expression, run_reader}
use Rattle.session_model.specs.Standing.{HasSameMembers, dependence_of, KeptSession, is_bare, IsAliveRead, StandsForState}
use Rattle.app_laws.specs.Orderly.{IsOrderly}
use Rattle.app_laws.specs.Recorded.{recorded}
use Rattle.app_laws.proofs.KnownLists.{get_in}
use Rattle.app_laws.proofs.WhatIsAsked.{reads_map}
use Rattle.session_laws.specs.Now.{open_sites, known_now, trace}
use Rattle.session_laws.specs.VisitLaws.{IsReadOf, IsClosed}
use Rattle.session_laws.proofs.Moving.{not_both}
use Rattle.session_laws.proofs.StandingLaws.{live_is}
use Rattle.session_steps.specs.Keeping.{reached_by, kept_known, lives, open_site_of, attempt, wanted, with_kept, reader_after, run_kept, IsAlike}
use Rattle.session_steps.specs.StandLaws.{StandsWith}
use Rattle.session_steps.proofs.Alike.{alike_stands}
use Rattle.session_steps.proofs.Attempts.{attempt_is, attempt_alive, attempt_sources, attempt_recorded}
use Rattle.session_steps.proofs.Dependences.{both_same, both_behind, alive_is}
use Rattle.session_steps.proofs.Living.{sound, left_bare}
use Rattle.session_steps.proofs.Putting.{IsPut, put_stands, put_outcome}
use Rattle.session_steps.proofs.Ran.{expression_ran, output_ran, IsRunIn, run_in, alive_in}
use Rattle.session_steps.proofs.Walks.{visit_still}

pub alike_with : (app : Shape) (n : ℕ) (S T : KeptSession) (N : SessionState) (o : Outcome) → IsAlike S T → StandsWith app n S N o → StandsWith app n T N o
alike_with app n S T N o alike w = record { stands = alike_stands app S T N w.stands alike; keeps = sym (alike.readers n).outcome ∙ w.keeps }

module _ (app : Shape) (orderly : IsOrderly app) (S : KeptSession) (M : SessionState) (stands : StandsForState app S M) (n : ℕ) (i : Node) (is : reader app n ≡ Some i) where
  -- ---- an evaluation e that reaches and records what the trace does, and comes to the same
  module _ (N : SessionState) (run : IsRunIn app n M N) (e : Evaluation) (outcome : Outcome)
      (sources : HasSameMembers (sources_of_reads app (kept_known S) [] e.outside) (sources_of_reads app (known_now app M) [] (trace app M n).outside))
      (records : recorded (open_site_of app S n) e.asked ≡ recorded (open_sites app M n) (trace app M n).asked) (comes : outcome ≡ (trace app M n).outcome) where
    abbrev reached : List ℕ
    reached = sources_of_reads app (kept_known S) [] e.outside

    members : HasSameMembers reached (reached_by (dependence_of (reader_state N n).dependencies))
    members s = sources s ∙ sym (run.sources s) ∙ sym (ap (λ d. is_among s (reached_by d)) (alive_is (reader_state N n) run.alive))

    put : IsPut app N n (reader_after app S n e outcome)
    put = record {
      depends = λ b. both_same reached (dependence_of (reader_state N n).dependencies) (live_is (reader_state N n) ∙ run.alive) members;
      behind = λ b. both_behind reached (dependence_of (reader_state N n).dependencies) (live_is (reader_state N n) ∙ run.alive) members;
      sites = λ b. records ∙ sym (run.isolated b);
      gives = λ j js x. comes ∙ sym run.gives;
    }

    pub after_stands : StandsWith app n (with_kept n (reader_after app S n e outcome) S) N (fresh_outcome app N.values (isolated_of N) n)
    after_stands = record {
      stands = put_stands app orderly S M N stands run.sound run.same n (get_in (readers app) n i is) run.each (reader_after app S n e outcome) put (λ h. refl);
      keeps = put_outcome app orderly S M N stands run.sound run.same n (get_in (readers app) n i is) run.each (reader_after app S n e outcome) put (λ h. refl) ∙ comes ∙ sym run.gives;
    }

  -- ---- which run that is, where members alone are run, and those that aren't alive have no site
  module _ (covered : (n : ℕ) → is_covered app n ≡ true) (P : ℕ → Type 0) (closed : IsClosed app M P) (member : P n) (mild : (j : ℕ) → P j → j ≢ n → is_alive (reader_state M j) ≡ false → is_bare (reader app j) ≡ true) where
    expression_by : is_expression i ≡ true → lives S n ≡ false → (b : Bool) → is_alive (reader_state M n) ≡ b → IsRunIn app n M (visit_expression app n M).state
    expression_by x dead false h =
        run_in app P n M (visit_expression app n M).state (expression_ran app orderly covered P M (sound app orderly S M stands) closed n i is member x h) mild
    expression_by x dead true h =
        subst (λ (v : VisitResult). IsRunIn app n M v.state) (sym (visit_still app (length (readers app)) n M h))
        (alive_in app orderly M (sound app orderly S M stands) n i is (ap (λ b. b || is_output i) x) h (left_bare app orderly S M stands n dead h))

    pub expression_in : is_expression i ≡ true → lives S n ≡ false → IsRunIn app n M (visit_expression app n M).state
    expression_in x dead = expression_by x dead (is_alive (reader_state M n)) refl

    pub output_in : is_output i ≡ true → EveryRead (IsReadOf P) (trace app M n).asked → IsRunIn app n M (run_reader app n M).state
    output_in o asked = run_in app P n M (run_reader app n M).state (output_ran app orderly covered P M (sound app orderly S M stands) closed n i is member o asked) mild

  -- ---- nothing is wanted, so beside reader n nothing is run
  module _ (none : wanted app S n ≡ None) where
    abbrev pub AloneOrAlive : ℕ → Type 0
    AloneOrAlive j = (is_alive (reader_state M j) ≡ true) ⊎ (j ≡ n)

    of_alive : (r : Read) → IsAliveRead M r → IsReadOf AloneOrAlive r
    of_alive (read.Expr m) h = inl h
    of_alive (read.Input s) h = tt
    of_alive (read.Value s) h = tt
    of_alive (read.Status s) h = tt
    of_alive (read.Result s) h = tt
    of_alive (read.Width m) h = tt
    of_alive (read.Height m) h = tt

    pub alone_asked : EveryRead (IsReadOf AloneOrAlive) (trace app M n).asked
    alone_asked = reads_map (IsAliveRead M) (IsReadOf AloneOrAlive) of_alive (trace app M n).asked (attempt_alive app orderly S M stands n i is none)

    pub alone_closed : IsClosed app M AloneOrAlive
    alone_closed j (inl h) dead = absurd (not_both h dead)
    alone_closed j (inr q) dead = subst (λ z. EveryRead (IsReadOf AloneOrAlive) (trace app M z).asked) (sym q) alone_asked

    pub alone_mild : (j : ℕ) → AloneOrAlive j → j ≢ n → is_alive (reader_state M j) ≡ false → is_bare (reader app j) ≡ true
    alone_mild j (inl h) d dead = absurd (not_both h dead)
    alone_mild j (inr q) d dead = absurd (d q)

    run_stands : (N : SessionState) → IsRunIn app n M N → StandsWith app n (run_kept app n S) N (fresh_outcome app N.values (isolated_of N) n)
    run_stands N run = after_stands N run (attempt app S n) (attempt app S n).outcome (attempt_sources app orderly S M stands n i is none) (attempt_recorded app orderly S M stands n i is none)
        (ap (λ (e : Evaluation). e.outcome) (sym (attempt_is app orderly S M stands n i is none)))

    pub expression_ends : (covered : (n : ℕ) → is_covered app n ≡ true) → is_expression i ≡ true → lives S n ≡ false
        → StandsWith app n (run_kept app n S) (visit_expression app n M).state (fresh_outcome app (visit_expression app n M).state.values (isolated_of (visit_expression app n M).state) n)
    expression_ends covered x dead = run_stands (visit_expression app n M).state (expression_in covered AloneOrAlive alone_closed (inr refl) alone_mild x dead)

    pub output_ends : (covered : (n : ℕ) → is_covered app n ≡ true) → is_output i ≡ true
        → StandsWith app n (run_kept app n S) (run_reader app n M).state (fresh_outcome app (run_reader app n M).state.values (isolated_of (run_reader app n M).state) n)
    output_ends covered o = run_stands (run_reader app n M).state (output_in covered AloneOrAlive alone_closed (inr refl) alone_mild o alone_asked)

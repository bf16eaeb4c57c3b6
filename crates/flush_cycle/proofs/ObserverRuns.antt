-- What the run of an observer leaves, from its beginning, its text and its end.
use Rattle.std.proofs.Common.{◌≡◌, ◌≤◌, ℕ, ◌+◌, Bool, true, false, List, [], ◌∷◌, ◌++◌, Option, Some, None, refl, sym, ap, ◌∙◌, subst, arith, append-nil}
use Rattle.std.specs.Prelude.{not, is_some, Result, Ok, Err}
use Rattle.std.proofs.lemmas.Bool.{false≢true}
use Rattle.rx_value.specs.declared.memory.Memory.{Memory}
use Rattle.rx_value.specs.declared.outcome.Outcome.{Outcome}
use Rattle.rx_value.specs.declared.outcome.Outcome.TheVariants.{Val, Fail, Stop, Cancel, Running}
use Rattle.app_tree.specs.Held.{Held}
use Rattle.app_tree.specs.Tree.{Node, input, value, task, reactive, event, text, plot, observe, on, Shape}
use Rattle.app_tree.specs.Numbering.{reader, is_observer}
use Rattle.app_tree.specs.ObserverTerms.{observer_terms}
use Rattle.app_tree.specs.View.{shape_of}
use Rattle.term_eval.specs.Lent.{Lent}
use Rattle.task_board.specs.Board.{TaskBoard}
use Rattle.session_model.specs.declared.state.Dependencies.{Dependencies}
use Rattle.session_model.specs.State.{SessionState, reader_state, with_sources, has_run}
use Rattle.session_model.specs.Flush.{Run, RunResult, observer_result, is_observer_at, make_by, make_run, failure_by}
use Rattle.session_model.specs.Observing.{StatementsResult, observe_node}
use Rattle.session_model.specs.Standing.{did_run, dependence_by, dependence_of, is_bare, KeptFlush, kept_reader, StandsWholly, missing_readers}
use Rattle.session_model.specs.Texts.{output_of_run}
use Rattle.session_steps.proofs.Dependences.{same_ran}
use Rattle.flush_cycle.specs.Flushing.{Stepped}
use Rattle.flush_cycle.specs.Reports.{made_of}
use Rattle.flush_cycle.specs.declared.report.Made.{Made}
use Rattle.flush_cycle.specs.Working.{Working}
use Rattle.flush_cycle.specs.inner.Acting.{Follows, Moves, with_told, Observed, Observes, IsWithin, Acts, with_run, Ran, Runs, Queues, StartsMore, Begins, Finishes}
use Rattle.flush_cycle.proofs.Chaining.{follows_then, then_follows, stepped_bound, made_parts}

observer_kept : (i : Node) → is_observer i ≡ true → is_bare (Some i) ≡ false
observer_kept (input name start) h = absurd (false≢true h)
observer_kept (value name start) h = absurd (false≢true h)
observer_kept (task name parameters body) h = absurd (false≢true h)
observer_kept (reactive name keys body) h = absurd (false≢true h)
observer_kept (event name flags e body) h = refl
observer_kept (text name shown) h = refl
observer_kept (plot name shown) h = refl
observer_kept (observe name priority block) h = refl
observer_kept (on name priority flags e block) h = refl

-- the values text tells nothing of its outcome
observer_silent : (i : Node) (run : Run) → is_observer i ≡ true → output_of_run (Some i) run ≡ []
observer_silent (input name start) run h = refl
observer_silent (value name start) run h = refl
observer_silent (task name parameters body) run h = refl
observer_silent (reactive name keys body) run h = refl
observer_silent (event name flags e body) run h = refl
observer_silent (text name shown) run h = absurd (false≢true h)
observer_silent (plot name shown) run h = absurd (false≢true h)
observer_silent (observe name priority block) run h = refl
observer_silent (on name priority flags e block) run h = refl

ran_by : (o : Option Dependencies) → did_run (dependence_of o) ≡ is_some o
ran_by None = refl
ran_by (Some d) = by d.changed
  where
    by : (b : Bool) → did_run (dependence_by b d.sources) ≡ true
    by true = refl
    by false = refl

-- with one more run of reader n
abbrev pub with_number : ℕ → Made → Made
with_number n made = record { runs = made.runs ++ n ∷ []; batch = made.batch }

module _ (app : Shape) (n : ℕ) (i : Node) (is : reader app n ≡ Some i) (observer : is_observer_at (Some i) ≡ true) where
  -- what its run is, where `first` was read off the session
  run_is : (kept : KeptFlush) (state : SessionState) (first : Bool) → StandsWholly app kept state
      → first ≡ not (did_run (kept_reader kept.session n).dependence)
      → make_run app n state ≡ observer_result n (observe_node app n first (Some i) (with_sources n [] state))
  run_is kept state first stands told =
      let bare : is_bare (reader app n) ≡ false = ap is_bare is ∙ observer_kept i observer in
      let ran : did_run (kept_reader kept.session n).dependence ≡ has_run (reader_state state n) =
      same_ran _ _ (stands.session.dependences n bare) ∙ ran_by (reader_state state n).dependencies in
      let same : not (has_run (reader_state state n)) ≡ first = sym (told ∙ ap not ran) in
      ap (λ b. make_by b app n state) (ap is_observer_at is ∙ observer)
      ∙ ap (λ b. observer_result n (observe_node app n b (reader app n) (with_sources n [] state))) same
      ∙ ap (λ o. observer_result n (observe_node app n first o (with_sources n [] state))) is

  -- what is told of the run
  run_told : (made : Made) (r : StatementsResult) → with_number n (with_told r.messages made) ≡ with_run made (made_of app ((observer_result n r).run ∷ []))
  run_told made r =
      let run : Run = (observer_result n r).run in
      let none : output_of_run (reader app n) run ≡ [] = ap (λ o. output_of_run o run) is ∙ observer_silent i run observer in
      made_parts (λ s o m. record { runs = s; batch = record { outputs = o; messages = m } })
      (made.runs ++ n ∷ []) (made.runs ++ n ∷ []) made.batch.outputs (made.batch.outputs ++ (output_of_run (reader app n) run ++ []))
      (made.batch.messages ++ r.messages) (made.batch.messages ++ (r.messages ++ []))
      refl
      (sym (append-nil made.batch.outputs) ∙ ap (λ z. made.batch.outputs ++ (z ++ [])) (sym none))
      (ap (λ z. made.batch.messages ++ z) (sym (append-nil r.messages)))

  module _ (old begun ended finished new : Working) (before after : ℕ) (state : SessionState) (first : Bool) (stands : StandsWholly app old.kept state)
      (told : first ≡ not (did_run (kept_reader old.kept.session n).dependence))
      (begins : Follows app old.kept begun.kept state (with_sources n [] state)) where
    abbrev text_result : StatementsResult
    text_result = observe_node app n first (Some i) (with_sources n [] state)

    module _ (outcome : Outcome) (observed : Observed app begun ended before after (with_sources n [] state) text_result outcome)
        (finishes : Follows app ended.kept finished.kept text_result.state text_result.state) where
      run_stepped : Stepped app old.kept finished.kept before after state text_result.state text_result.bodies
      run_stepped =
          follows_then app old.kept begun.kept finished.kept before after state (with_sources n [] state) text_result.state text_result.bodies begins
          (then_follows app begun.kept ended.kept finished.kept before after (with_sources n [] state) text_result.state text_result.state text_result.bodies observed.stepped finishes)

      -- it ended
      pub observer_ran : begun.made ≡ old.made → finished.made ≡ ended.made → new.kept ≡ finished.kept → new.made ≡ with_number n finished.made
          → (said : Option (List ℕ)) → said ≡ failure_by true outcome → Ran app old new before after state (make_run app n state) said
      observer_ran begun_made finished_made kept made said failure =
          subst (λ r. Ran app old new before after state r said) (sym (run_is old.kept state first stands told))
          (record {
            stepped = subst (λ (k : KeptFlush). Stepped app old.kept k before after state text_result.state text_result.bodies) (sym kept) run_stepped;
            failure =
                failure ∙ ap (failure_by true) observed.comes
                ∙ ap (λ b. failure_by b text_result.outcome) (sym (ap is_observer_at is ∙ observer));
            told =
                made ∙ ap (with_number n) (finished_made ∙ observed.told ∙ ap (with_told text_result.messages) begun_made)
                ∙ run_told old.made text_result;
          })

      -- it ended, but memory was wanting to note it
      pub observer_ended : after ≤ before + ((make_run app n state).bodies + missing_readers app old.kept.session state)
      observer_ended =
          subst (λ (r : RunResult). after ≤ before + (r.bodies + missing_readers app old.kept.session state)) (sym (run_is old.kept state first stands told))
          (stepped_bound app old.kept finished.kept before after state text_result.state text_result.bodies run_stepped)

    -- memory was wanting in its text
    pub observer_begun : after ≤ before + (text_result.bodies + missing_readers app begun.kept.session (with_sources n [] state))
        → after ≤ before + ((make_run app n state).bodies + missing_readers app old.kept.session state)
    observer_begun bound =
        let missing = begins.missing in
        subst (λ (r : RunResult). after ≤ before + (r.bodies + missing_readers app old.kept.session state)) (sym (run_is old.kept state first stands told))
        (let far : after ≤ before + (text_result.bodies + missing_readers app old.kept.session state) = omega (bound, missing, arith) in far)

-- ---- the whole run

pub none_failed : (outcome : Outcome) → ((why : List ℕ) → outcome ≡ Fail why → ⊥) → None ≡ failure_by true outcome
none_failed (Val x) h = refl
none_failed (Fail why) h = absurd (h why refl)
none_failed Stop h = refl
none_failed Cancel h = refl
none_failed Running h = refl

abbrev pub with_runs : List ℕ → Working → Working
with_runs runs w = record w { made = record { runs = runs; batch = w.made.batch } }

module _ {S : Type 0} (follows : S → S → Type 0) (out : S → List Lent) (n : ℕ) (i : Node) (first : Bool) (old begun ended : Working) (asker asker' : S)
    (before after : ℕ) (is : reader (shape_of old.app) n ≡ Some i) (observer : is_observer_at (Some i) ≡ true)
    (told : first ≡ not (did_run (kept_reader old.kept.session n).dependence)) (begins : Begins n old begun) where
  abbrev its_app : Shape
  its_app = shape_of old.app

  abbrev ActsOf : Result Outcome Memory → Type 0
  ActsOf result = Acts follows out n (observer_terms i) (observe_node (shape_of begun.app) n first (Some i)) begun ended asker asker' before after result

  acts_old : (result : Result Outcome Memory) → ActsOf result → Observes its_app begun ended before after (observe_node its_app n first (Some i)) result
  acts_old result acts =
      subst (λ (h : Held). Observes (shape_of h) begun ended before after (observe_node (shape_of h) n first (Some i)) result) begins.app acts.observes

  within_old : (result : Result Outcome Memory) → ActsOf result → IsWithin its_app (observer_terms i) before after
  within_old result acts = subst (λ (h : Held). IsWithin (shape_of h) (observer_terms i) before after) begins.app acts.within

  -- memory was wanting in its text
  pub text_lost : (e said : Memory) → ActsOf (Err e) → Runs follows out (observer_terms i) (make_run its_app n) old ended asker asker' before after (Err said)
  text_lost e said acts = record {
    app = acts.app ∙ begins.app;
    runs = λ state stands.
        let begin = begins.moves state stands in
        observer_begun its_app n i is observer old begun ended ended ended before after state first stands told begin
        (acts_old (Err e) acts (with_sources n [] state) begin.stands);
    within = within_old (Err e) acts;
    goes_on = tt;
    queues = tt;
    succeeds = acts.succeeds;
    leaves = acts.leaves;
  }

  module _ (finished : Working) (runs : List ℕ) (outcome : Outcome) (acts : ActsOf (Ok outcome)) (finishes : Finishes ended finished) where
    finish_old : Moves its_app ended.kept finished.kept (λ state. state)
    finish_old = subst (λ (h : Held). Moves (shape_of h) ended.kept finished.kept (λ state. state)) (acts.app ∙ begins.app) finishes.moves

    -- it ended, but memory was wanting to note it
    pub end_lost : (said : Memory)
        → Runs follows out (observer_terms i) (make_run its_app n) old (with_runs runs finished) asker asker' before after (Err said)
    end_lost said = record {
      app = finishes.app ∙ acts.app ∙ begins.app;
      runs = λ state stands.
          let begin = begins.moves state stands in
          let observed = acts_old (Ok outcome) acts (with_sources n [] state) begin.stands in
          observer_ended its_app n i is observer old begun ended finished finished before after state first stands told begin outcome observed
          (finish_old (observe_node its_app n first (Some i) (with_sources n [] state)).state observed.stepped.stands);
      within = within_old (Ok outcome) acts;
      goes_on = tt;
      queues = tt;
      succeeds = acts.succeeds;
      leaves = acts.leaves;
    }

    run_queues : Queues old (with_runs runs finished)
    run_queues =
        let q = acts.queues in
        record {
          started = q.started;
          jobs = finishes.jobs ∙ q.jobs ∙ ap (λ jobs. jobs ++ q.started) begins.jobs;
          starts =
              subst (λ (boards : List TaskBoard). StartsMore boards finished.kept.boards q.started) begins.boards
              (subst (λ (boards : List TaskBoard). StartsMore begun.kept.boards boards q.started) (sym finishes.boards) q.starts);
        }

    pub run_ended : runs ≡ finished.made.runs ++ n ∷ [] → (said : Option (List ℕ)) → said ≡ failure_by true outcome
        → Runs follows out (observer_terms i) (make_run its_app n) old (with_runs runs finished) asker asker' before after (Ok said)
    run_ended noted said failure = record {
      app = finishes.app ∙ acts.app ∙ begins.app;
      runs = λ state stands.
          let begin = begins.moves state stands in
          let observed = acts_old (Ok outcome) acts (with_sources n [] state) begin.stands in
          observer_ran its_app n i is observer old begun ended finished (with_runs runs finished) before after state first stands told begin outcome observed
          (finish_old (observe_node its_app n first (Some i) (with_sources n [] state)).state observed.stepped.stands)
          begins.made finishes.made refl (ap (λ z. let made : Made = record { runs = z; batch = finished.made.batch } in made) noted) said failure;
      within = within_old (Ok outcome) acts;
      goes_on = record {
        ready = record { whole = finishes.rests.ready.whole; waiting = finishes.rests.ready.waiting };
        none_runs = finishes.rests.none_runs;
      };
      queues = run_queues;
      succeeds = acts.succeeds;
      leaves = acts.leaves;
    }

-- A run as it is stated is the run by its trace, and it keeps that the state is sound.
use Rattle.std.proofs.Common.{◌≡◌, ◌≢◌, inl, inr, ◌≤◌, ◌<◌, ℕ, zero, suc, ◌+◌, Bool, true, false, List, [], ◌++◌, length, Option, Some, refl, sym, ap, ◌∙◌, subst, arith, None}
use Rattle.std.specs.Prelude.{⊤, ◌||◌, not}
use Rattle.std.proofs.lemmas.Bool.Decides.{eqb_tells}
use Rattle.rx_value.specs.declared.outcome.Outcome.{Outcome}
use Rattle.rx_value.specs.Results.{choose}
use Rattle.app_tree.specs.declared.term.Read.{Read}
use Rattle.app_tree.specs.Tree.{Node, input, value, task, reactive, event, text, plot, observe, on, Shape}
use Rattle.app_tree.specs.Numbering.{readers, reader, is_expression, is_output, is_evaluated}
use Rattle.app_tree.specs.Evaluate.{Answers, Evaluation}
use Rattle.app_tree.specs.Cover.{is_covered}
use Rattle.app_tree.specs.Fresh.{answer_to, sources_of_read, sources_of_reads, evaluate_node, is_expression_at, fresh_evaluation, fresh_outcome, sources_read, is_among}
use Rattle.session_model.specs.declared.state.ReaderState.{ReaderState}
use Rattle.session_model.specs.State.{SessionState, isolated_of, reader_state, with_sources, sources_in, is_alive}
use Rattle.session_model.specs.Reading.{VisitResult}
use Rattle.session_model.specs.Run.{ReaderRun, state_as_run_begins, keeping_manner, run_with, run_if_dead, visit_below, visit_expression, run_reader, reader_as_run_begins, stale_dependencies}
use Rattle.app_laws.specs.Orderly.{ReadsBelow, bound_of, IsOrderly}
use Rattle.app_tree.specs.Trace.{EveryRead}
use Rattle.app_laws.specs.Recorded.{recorded}
use Rattle.session_laws.specs.Now.{kept_site, open_sites, known_now, evaluation_now, trace, open_answers, walk_of_trace, run_by_trace}
use Rattle.session_model.specs.Bodies.{bodies_counted}
use Rattle.session_model.specs.Standing.{IsAliveRead}
use Rattle.session_laws.specs.Sound.{IsSoundAt, IsSound}
use Rattle.app_laws.proofs.WhatIsAsked.{reads_zip, if_true, if_false}
use Rattle.app_laws.proofs.KnownLists.{get_in, sources_alike}
use Rattle.session_laws.proofs.States.{state_here, state_there, state_size, kept_is}
use Rattle.session_laws.proofs.Staying.{funext, Alike, alike_eq, open_same, Same, same_refl, same_trans, trace_same, KeepsAlive, asked_low, keeps_asked, sound_at, kept_again, alive_by}
use Rattle.app_laws.proofs.Repeating.{Again}
use Rattle.session_laws.proofs.Kept.{expression_at, kept_same, now_outcome, now_outside, now_within}
use Rattle.session_laws.proofs.Freshness.{outside_of, fresh_known, fresh_read, fresh_reach, expression_fresh}
use Rattle.session_laws.proofs.Moving.{not_both, Steps, steps_refl, steps_up, Moves, Visits, Good, dead_sound, dead_moves}
use Rattle.session_laws.proofs.Walking.{expression_of, IsMid, mid_dead, Walked, walk}
use Rattle.session_laws.proofs.NodesThrough.{IsWalked, node_walked}
use Rattle.session_model.specs.declared.state.Dependencies.{Dependencies}

pub no_expression : (i : Node) → is_output i ≡ true → is_expression i ≡ false
no_expression (input name start) h = refl
no_expression (value name start) h = refl
no_expression (task name parameters body) h = refl
no_expression (reactive name keys body) h = cc
no_expression (event name flags e body) h = cc
no_expression (text name shown) h = refl
no_expression (plot name shown) h = refl
no_expression (observe name priority block) h = refl
no_expression (on name priority flags e block) h = refl

-- who isn't alive has no more to forget of it
stale_is : (r : ReaderState) → is_alive r ≡ false → (reader_as_run_begins r).dependencies ≡ r.dependencies
stale_is r dead = by r.dependencies dead
  where
    changed_is : (b : Bool) → not b ≡ false → true ≡ b
    changed_is true h = refl
    changed_is false h = cc

    by : (d : Option Dependencies) → alive_by d ≡ false → stale_dependencies d ≡ d
    by None h = refl
    by (Some d) h = (λ j. Some (record { sources = d.sources; changed = changed_is d.changed h j }))

module _ (app : Shape) (orderly : IsOrderly app) where
  moves_refl : (k n : ℕ) (M : SessionState) → Moves app k n M M
  moves_refl k n M = record { same = same_refl app M; size = refl; boards = refl; grows = λ j e a. refl; beyond = λ j h d. refl; others = λ j e d. refl; dependencies = refl; shown = refl; last = refl }

  -- what a run of reader n leaves, with its own record of what it reached
  pub record Leaves (k n : ℕ) (M F : SessionState) (outcome : Outcome) : Type 0 where
    pub same : Same app M F
    pub size : length F.readers ≡ length M.readers
    pub boards : F.boards ≡ M.boards
    pub sound : IsSound app F
    pub alive : is_alive (reader_state F n) ≡ true
    pub shown : (reader_state F n).shown ≡ (reader_state M n).shown
    pub last : (reader_state F n).last ≡ (reader_state M n).last
    pub gives : (evaluation_now app F n).outcome ≡ outcome
    pub grows : (j : ℕ) → is_expression_at (reader app j) ≡ true → is_alive (reader_state M j) ≡ true → reader_state F j ≡ reader_state M j
    pub beyond : (j : ℕ) → k ≤ j → j ≢ n → reader_state F j ≡ reader_state M j
    pub others : (j : ℕ) → is_expression_at (reader app j) ≡ false → j ≢ n → reader_state F j ≡ reader_state M j

  module _ (n : ℕ) (i : Node) (is : reader app n ≡ Some i) (evaluated : is_evaluated i ≡ true) (covered : is_covered app n ≡ true) (visit : ℕ → SessionState → VisitResult) (good : Good app (bound_of app n i) visit) where
    abbrev k : ℕ
    k = bound_of app n i

    apart_by : (b : Bool) → is_expression i ≡ b → (N O : SessionState) → Steps app k N O → reader_state O n ≡ reader_state N n
    apart_by true h N O s = s.beyond n (let own : k ≡ n = if_true (is_expression i) n (length (readers app)) h in omega (own, arith))
    apart_by false h N O s = s.others n (expression_at app n i is ∙ h)

    pub apart : (N O : SessionState) → Steps app k N O → reader_state O n ≡ reader_state N n
    apart = apart_by (is_expression i) refl

    module _ (M : SessionState) (sound : IsSound app M) (dead : is_alive (reader_state M n) ≡ false) where
      pub inside : n < length M.readers
      inside = let at = get_in (readers app) n i is in let size = sound.size in omega (at, size, arith)

      abbrev pub Mid : SessionState → Type 0
      Mid = IsMid app orderly k visit good M n inside dead apart

      abbrev emptied : ReaderState
      emptied = reader_as_run_begins (reader_state M n)

      was_stale : emptied.dependencies ≡ (reader_state M n).dependencies
      was_stale = stale_is (reader_state M n) dead

      pub starts : Mid (state_as_run_begins n M)
      starts = record {
        sound = dead_sound app orderly M n inside dead emptied was_stale sound;
        moves = dead_moves app orderly M n inside dead emptied was_stale k M dead refl refl (moves_refl k n M);
      }

      abbrev a : Answers
      a = open_answers app M n

      abbrev e : Evaluation
      e = trace app M n

      pub low : EveryRead (ReadsBelow app k) e.asked
      low = asked_low app orderly n i is a

      abbrev V : VisitResult
      V = walk_of_trace (keeping_manner visit n) a.site e.asked (state_as_run_begins n M)

      abbrev pub W : SessionState
      W = V.state

      pub walks : Walked app orderly k visit good M n inside dead apart a.site e.asked (state_as_run_begins n M) W
      walks = walk app orderly k visit good M n inside dead apart a.site e.asked low (state_as_run_begins n M) starts

      same : Same app M W
      same = walks.mid.moves.same

      dead_after : is_alive (reader_state W n) ≡ false
      dead_after = mid_dead app orderly k visit good M n inside dead apart W walks.mid

      pub kept : (reader_state W n).isolated ≡ recorded a.site e.asked
      kept = walks.isolated ∙ ap (λ (r : ReaderState). r.isolated ++ recorded a.site e.asked) (state_here M n emptied inside)

      -- ---- afresh in the state that the walk leaves
      abbrev tell : Read → Outcome
      tell = answer_to app W.values (fresh_known app orderly W)

      answers_same : (r : Read) → a.read r ≡ answer_to app W.values (known_now app W) r
      answers_same r = ap (λ v. answer_to app v (known_now app M) r) (sym same.values) ∙ ap (λ l. answer_to app W.values l r) (sym same.known)

      alike : EveryRead (λ r. a.read r ≡ tell r) e.asked
      alike = reads_zip (ReadsBelow app k) (IsAliveRead W) (λ r. a.read r ≡ tell r)
          (λ r h x. answers_same r ∙ fresh_read app orderly W k (λ m b f y. expression_fresh app orderly W walks.mid.sound m f y) r h x) e.asked low walks.alive

      again : Again a (record { read = tell; site = kept_site (reader_state W n) }) (λ r. ⊤) e (evaluate_node (reader app n) (record { read = tell; site = kept_site (reader_state W n) }))
      again = kept_again app orderly M n i is (reader_state W n) kept tell (λ r. ⊤) alike

      fresh_is : fresh_evaluation app W.values (isolated_of W) n ≡ evaluate_node (reader app n) (record { read = tell; site = kept_site (reader_state W n) })
      fresh_is = ap (λ (s : ℕ → Option Outcome). evaluate_node (reader app n) (record { read = tell; site = s })) (funext (kept_is W n))

      pub outcome_is : fresh_outcome app W.values (isolated_of W) n ≡ e.outcome
      outcome_is = ap (λ (x : Evaluation). x.outcome) fresh_is ∙ again.outcome

      outside_is : (fresh_evaluation app W.values (isolated_of W) n).outside ≡ e.outside
      outside_is = ap (λ (x : Evaluation). x.outside) fresh_is ∙ again.outside

      abbrev sources : List ℕ
      sources = sources_of_reads app (known_now app M) [] e.outside

      reach_same : (r : Read) → ReadsBelow app k r → IsAliveRead W r → sources_of_read app (fresh_known app orderly W) r ≡ sources_of_read app (known_now app M) r
      reach_same r h x = sym (fresh_reach app orderly W k (λ m b f y. expression_fresh app orderly W walks.mid.sound m f y) r h x) ∙ ap (λ l. sources_of_read app l r) same.known

      pub sources_are : sources_read app W.values (isolated_of W) n ≡ sources
      sources_are =
          ap (sources_of_reads app (fresh_known app orderly W) []) outside_is
          ∙ sources_alike app (fresh_known app orderly W) (known_now app M) e.outside
          (outside_of app orderly n i is a (λ r. sources_of_read app (fresh_known app orderly W) r ≡ sources_of_read app (known_now app M) r)
          (reads_zip (ReadsBelow app k) (IsAliveRead W) (λ r. sources_of_read app (fresh_known app orderly W) r ≡ sources_of_read app (known_now app M) r) reach_same e.asked low walks.alive)) []

      reading : IsWalked app orderly k visit good M n inside dead apart i is evaluated (orderly.reads n i is) covered (state_as_run_begins n M)
      reading = node_walked app orderly k visit good M n inside dead apart i is evaluated (orderly.reads n i is) covered (state_as_run_begins n M) starts

      -- the run as it is stated is the run by its trace
      pub run_is : run_with app visit n M ≡ run_by_trace app visit n M
      run_is =
          (λ j. record {
            state = with_sources n (sources_read app (reading.state j).values (isolated_of (reading.state j)) n) (reading.state j);
            outcome = fresh_outcome app (reading.state j).values (isolated_of (reading.state j)) n;
            bodies = reading.bodies j;
          })
          ∙ (λ j. record { state = with_sources n (sources_are j) W; outcome = outcome_is j; bodies = V.bodies + bodies_counted (reader app n) a })

      -- ---- what it leaves
      abbrev pub F : SessionState
      F = with_sources n sources W

      abbrev mine : ReaderState
      mine = record (reader_state W n) { dependencies = Some (record { sources = sources; changed = false }) }

      after_inside : n < length W.readers
      after_inside = let size = walks.mid.moves.size in omega (inside, size, arith)

      pub here : reader_state F n ≡ mine
      here = state_here W n mine after_inside

      pub there : (m : ℕ) → m ≢ n → reader_state F m ≡ reader_state W m
      there m d = state_there W n m mine d

      alive : is_alive (reader_state F n) ≡ true
      alive = ap is_alive here

      traced : trace app W n ≡ e
      traced = trace_same app same n walks.mid.moves.dependencies

      site_same : open_sites app W n ≡ a.site
      site_same = open_same app n (reader_state M n) (reader_state W n) walks.mid.moves.dependencies

      kept_after : (reader_state F n).isolated ≡ recorded (open_sites app W n) (trace app W n).asked
      kept_after = ap (λ (r : ReaderState). r.isolated) here ∙ kept ∙ (λ j. recorded (sym site_same j) (sym traced j).asked)

      others_after : (m : ℕ) → is_expression_at (reader app m) ≡ true → m ≢ n → Alike (reader_state W m) (reader_state F m)
      others_after m x d = alike_eq (there m d)

      after_same : Same app W F
      after_same = kept_same app orderly W n i is dead_after F alive kept_after refl others_after

      after_keeps : KeepsAlive app W F
      after_keeps m x y = elim (eqb_tells m n) [
        | inl p ↦ absurd (not_both (subst (λ z. is_alive (reader_state W z) ≡ true) p.1 y) dead_after)
        | inr p ↦ ap is_alive (there m p.1) ∙ y
      ]

      sound_here : IsSoundAt app F n
      sound_here = record {
        sources = λ s. ap (λ (r : ReaderState). is_among s (sources_in r.dependencies)) here
            ∙ (λ j. is_among s (sources_of_reads app (sym (same_trans app same after_same).known j) [] (sym (now_outside app orderly W n i is dead_after F alive kept_after refl others_after ∙ ap (λ (x : Evaluation). x.outside) traced) j)));
        closed = now_within app orderly W n i is dead_after F alive kept_after refl others_after (IsAliveRead F)
            (subst (λ (x : Evaluation). EveryRead (IsAliveRead F) x.asked) (sym traced) (keeps_asked app orderly W F after_keeps n i is a walks.alive));
      }

      sound_after : IsSound app F
      sound_after = record {
        size = state_size W n mine ∙ walks.mid.sound.size;
        at = λ m j js x y. elim (eqb_tells m n) [
          | inl p ↦ subst (IsSoundAt app F) (sym p.1) sound_here
          | inr p ↦ sound_at app orderly W F after_same after_keeps m j js (alike_eq (there m p.1)) (walks.mid.sound.at m j js x (sym (ap is_alive (there m p.1)) ∙ y))
        ];
      }

      pub leaves : Leaves k n M F e.outcome
      leaves = record {
        same = same_trans app same after_same;
        size = state_size W n mine ∙ walks.mid.moves.size;
        boards = walks.mid.moves.boards;
        sound = sound_after;
        alive = alive;
        shown = ap (λ (r : ReaderState). r.shown) here ∙ walks.mid.moves.shown;
        last = ap (λ (r : ReaderState). r.last) here ∙ walks.mid.moves.last;
        gives = now_outcome app orderly W n i is dead_after F alive kept_after refl others_after ∙ ap (λ (x : Evaluation). x.outcome) traced;
        grows = λ j x y. elim (eqb_tells j n) [
          | inl p ↦ absurd (not_both (subst (λ z. is_alive (reader_state M z) ≡ true) p.1 y) dead)
          | inr p ↦ there j p.1 ∙ walks.mid.moves.grows j x y
        ];
        beyond = λ j h d. there j d ∙ walks.mid.moves.beyond j h d;
        others = λ j x d. there j d ∙ walks.mid.moves.others j x d;
      }

  -- ---- visits, by the number of the expression
  module _ (covered : (n : ℕ) → is_covered app n ≡ true) where
    steps_of : (n : ℕ) (M F : SessionState) (o : Outcome) → is_expression_at (reader app n) ≡ true → Leaves n n M F o → Steps app (suc n) M F
    steps_of n M F o x l = record {
      same = l.same;
      size = l.size;
      boards = l.boards;
      grows = l.grows;
      beyond = λ j h. l.beyond j (omega (h, arith)) (λ q. omega (q, h, arith));
      others = λ j y. l.others j y (λ q. not_both (subst (λ z. is_expression_at (reader app z) ≡ true) (sym q) x) y);
    }

    visit_up : (k m : ℕ) (N O : SessionState) → Visits app k m N O → Visits app (suc k) m N O
    visit_up k m N O v = record { steps = steps_up app (omega arith) v.steps; sound = v.sound; alive = v.alive }

    at_dead : (n : ℕ) (i : Node) → reader app n ≡ Some i → is_expression i ≡ true → Good app n (visit_below app n) → (N : SessionState) → IsSound app N → is_alive (reader_state N n) ≡ false
        → Visits app (suc n) n N (run_with app (visit_below app n) n N).state
    at_dead n i is x good N sound dead =
        let own : bound_of app n i ≡ n = if_true (is_expression i) n (length (readers app)) x in
        let good' : Good app (bound_of app n i) (visit_below app n) = subst (λ b. Good app b (visit_below app n)) (sym own) good in
        let evaluated : is_evaluated i ≡ true = ap (λ b. b || is_output i) x in
        let l : Leaves n n N (run_by_trace app (visit_below app n) n N).state (trace app N n).outcome =
        subst (λ b. Leaves b n N (run_by_trace app (visit_below app n) n N).state (trace app N n).outcome) own (leaves n i is evaluated (covered n) (visit_below app n) good' N sound dead) in
        subst (λ (r : ReaderRun). Visits app (suc n) n N r.state) (sym (run_is n i is evaluated (covered n) (visit_below app n) good' N sound dead))
        (record { steps = steps_of n N (run_by_trace app (visit_below app n) n N).state (trace app N n).outcome (expression_at app n i is ∙ x) l; sound = l.sound; alive = l.alive })

    at_number : (n : ℕ) → Good app n (visit_below app n) → is_expression_at (reader app n) ≡ true → (N : SessionState) → IsSound app N → (b : Bool) → is_alive (reader_state N n) ≡ b
        → Visits app (suc n) n N (run_if_dead b (run_with app (visit_below app n) n) N).state
    at_number n good x N sound true alive = record { steps = steps_refl app (suc n) N; sound = sound; alive = alive }
    at_number n good x N sound false dead = let e = expression_of app n x in at_dead n e.0 e.1 e.2 good N sound dead

    pub visits_good : (k : ℕ) → Good app k (visit_below app k)
    visits_good zero m h x N sound = absurd (omega (h, arith))
    visits_good (suc k) m h x N sound = elim (eqb_tells m k) [
      | inl p ↦ subst (λ z. Visits app (suc k) z N (visit_below app (suc k) m N).state) (sym p.1)
          (subst (λ (v : VisitResult). Visits app (suc k) k N v.state) (sym (ap (λ b. choose b (λ s. run_if_dead (is_alive (reader_state s k)) (run_with app (visit_below app k) k) s) (visit_below app k m) N) p.0))
          (at_number k (visits_good k) (subst (λ z. is_expression_at (reader app z) ≡ true) p.1 x) N sound (is_alive (reader_state N k)) refl))
      | inr p ↦ subst (λ (v : VisitResult). Visits app (suc k) m N v.state) (sym (ap (λ b. choose b (λ s. run_if_dead (is_alive (reader_state s k)) (run_with app (visit_below app k) k) s) (visit_below app k m) N) p.0))
          (visit_up k m N (visit_below app k m N).state (visits_good k m (let d = p.1 in omega (h, d, arith)) x N sound))
    ]

    -- ---- an output
    module _ (n : ℕ) (i : Node) (is : reader app n ≡ Some i) (output : is_output i ≡ true) (M : SessionState) (sound : IsSound app M) (dead : is_alive (reader_state M n) ≡ false) where
      own : bound_of app n i ≡ length (readers app)
      own = if_false (is_expression i) n (length (readers app)) (no_expression i output)

      evaluated : is_evaluated i ≡ true
      evaluated = ap (λ b. b || is_output i) (no_expression i output) ∙ output

      good : Good app (bound_of app n i) (visit_expression app)
      good = subst (λ b. Good app b (visit_expression app)) (sym own) (visits_good (length (readers app)))

      pub output_run : run_reader app n M ≡ run_by_trace app (visit_expression app) n M
      output_run = run_is n i is evaluated (covered n) (visit_expression app) good M sound dead

      pub output_leaves : Leaves (length (readers app)) n M (run_reader app n M).state (run_reader app n M).outcome
      output_leaves =
          subst (λ (r : ReaderRun). Leaves (length (readers app)) n M r.state r.outcome) (sym output_run)
          (subst (λ b. Leaves b n M (run_by_trace app (visit_expression app) n M).state (trace app M n).outcome) own (leaves n i is evaluated (covered n) (visit_expression app) good M sound dead))

-- The bodies that the state counts are those of the readers that become alive.
use Rattle.std.proofs.Common.{◌≡◌, ◌≢◌, inl, inr, ◌<◌, ℕ, zero, suc, ◌+◌, Bool, true, false, List, [], ◌∷◌, length, Option, Some, None, refl, sym, ap, ◌∙◌, subst, arith}
use Rattle.std.specs.Prelude.{◌||◌}
use Rattle.std.proofs.lemmas.Bool.Decides.{eqb_tells}
use Rattle.rx_value.specs.declared.outcome.Outcome.{Outcome}
use Rattle.rx_value.specs.Results.{choose}
use Rattle.app_tree.specs.declared.term.Read.TheVariants as read
use Rattle.app_tree.specs.Tree.{Node, Shape}
use Rattle.app_tree.specs.Numbering.{readers, reader, is_expression, is_output, is_evaluated}
use Rattle.app_tree.specs.Cover.{is_covered}
use Rattle.app_tree.specs.Evaluate.{TraceEntry, reads, given, enters, leaves}
use Rattle.app_tree.specs.Fresh.{is_expression_at}
use Rattle.app_tree.specs.Trace.{EveryRead}
use Rattle.session_model.specs.declared.state.ReaderState.{ReaderState}
use Rattle.session_model.specs.State.{SessionState, reader_state, with_reader, is_alive}
use Rattle.session_model.specs.Reading.{VisitResult}
use Rattle.session_model.specs.Run.{ReaderRun, state_as_run_begins, keeping_manner, passing_manner, with_isolated, run_with, visit_of_run, run_if_dead, visit_below, visit_expression}
use Rattle.app_laws.specs.Orderly.{ReadsBelow, bound_of, IsOrderly}
use Rattle.app_laws.specs.Recorded.{given_outcome}
use Rattle.app_laws.proofs.WhatIsAsked.{if_true}
use Rattle.app_laws.proofs.KnownLists.{get_in}
use Rattle.session_laws.specs.Now.{open_sites, trace, walk_of_trace, run_by_trace}
use Rattle.session_laws.specs.Sound.{IsSound}
use Rattle.session_laws.proofs.Kept.{expression_at}
use Rattle.session_laws.proofs.Moving.{Good, Visits}
use Rattle.session_laws.proofs.Running.{Mid, starts, inside as inside_of, low, F, there as there_of, leaves as run_leaves, walks, run_is, visits_good}
use Rattle.session_laws.proofs.States.{state_here, state_there}
use Rattle.session_laws.proofs.Staying.{Same, same_trans}
use Rattle.session_laws.proofs.Walking.{expression_of, visit_mid, keep_mid, mid_dead}
use Rattle.session_steps.proofs.CountedTotals.{total, only, total_same, total_zero, total_sum, total_put, only_same, chain}
use Rattle.session_steps.proofs.CountedWeights.{weight, same_weight, open_weight}

none_before : (b : ℕ) → 0 + b ≡ b
none_before b = omega arith

module _ (app : Shape) where
  abbrev pub alive_at : SessionState → ℕ → Bool
  alive_at M j = is_alive (reader_state M j)

  -- the bodies of those that are alive in O and not in N, where M says what counts
  abbrev pub newly : SessionState → SessionState → SessionState → ℕ → ℕ
  newly M N O j = only (is_alive (reader_state O j)) (is_alive (reader_state N j)) (weight app M j)

  abbrev pub bodies_of : SessionState → SessionState → SessionState → ℕ
  bodies_of M N O = total (newly M N O) (length (readers app))

  pub record Counts (M N : SessionState) (v : VisitResult) : Type 0 where
    pub keeps : (j : ℕ) → alive_at N j ≡ true → alive_at v.state j ≡ true
    pub bodies : v.bodies ≡ bodies_of M N v.state

  none_counted : (M N O : SessionState) → ((j : ℕ) → alive_at O j ≡ alive_at N j) → bodies_of M N O ≡ 0
  none_counted M N O h = total_zero (newly M N O) (length (readers app)) (λ j. ap (λ b. only b (alive_at N j) (weight app M j)) (h j) ∙ only_same (alive_at N j) (weight app M j))

  pub counts_stay : (M N : SessionState) → Counts M N (record { state = N; bodies = 0 })
  counts_stay M N = record { keeps = λ j h. h; bodies = sym (none_counted M N N (λ j. refl)) }

  pub zero_first : (M O : SessionState) (v : VisitResult) → Counts M O v → Counts M O (record { state = v.state; bodies = 0 + v.bodies })
  zero_first M O v c = record { keeps = c.keeps; bodies = none_before v.bodies ∙ c.bodies }

  pub joined : (M O : SessionState) (v w : VisitResult) → Same app M O → Counts O O v → Counts M v.state w → Counts M O (record { state = w.state; bodies = v.bodies + w.bodies })
  joined M O v w same c d = record {
    keeps = λ j a. d.keeps j (c.keeps j a);
    bodies = (λ z. (c.bodies ∙ total_same (newly O O v.state) (newly M O v.state) (length (readers app)) (λ j. ap (only (alive_at v.state j) (alive_at O j)) (same_weight app M O same j))) z + d.bodies z)
        ∙ total_sum (newly M O v.state) (newly M v.state w.state) (newly M O w.state) (length (readers app))
        (λ j. chain (alive_at O j) (alive_at v.state j) (alive_at w.state j) (weight app M j) (c.keeps j) (d.keeps j));
  }

  -- behind what changes nothing of who is alive
  behind : (M O P : SessionState) (v : VisitResult) → ((j : ℕ) → alive_at P j ≡ alive_at O j) → Counts M P v → Counts M O v
  behind M O P v h c = record {
    keeps = λ j a. c.keeps j (h j ∙ a);
    bodies = c.bodies ∙ total_same (newly M P v.state) (newly M O v.state) (length (readers app)) (λ j. ap (λ b. only (alive_at v.state j) b (weight app M j)) (h j));
  }

  -- one reader is written, and is as alive as before
  alive_same : (O : SessionState) (n : ℕ) (r : ReaderState) → n < length O.readers → is_alive r ≡ alive_at O n → (j : ℕ) → alive_at (with_reader n r O) j ≡ alive_at O j
  alive_same O n r room own j = elim (eqb_tells j n) [
    | inl p ↦ subst (λ z. alive_at (with_reader n r O) z ≡ alive_at O z) (sym p.1) (ap is_alive (state_here O n r room) ∙ own)
    | inr p ↦ ap is_alive (state_there O n j r p.1)
  ]

  module _ (orderly : IsOrderly app) (covered : (n : ℕ) → is_covered app n ≡ true) where
    abbrev pub Counted : ℕ → Type 0
    Counted k = (m : ℕ) → m < k → is_expression_at (reader app m) ≡ true → (N : SessionState) → IsSound app N → Counts N N (visit_below app k m N)

    -- ---- the run of reader n
    module _ (n : ℕ) (i : Node) (is : reader app n ≡ Some i) (evaluated : is_evaluated i ≡ true) (counted : Counted (bound_of app n i)) (M : SessionState) (sound : IsSound app M) (dead : is_alive (reader_state M n) ≡ false) where
      abbrev k : ℕ
      k = bound_of app n i

      abbrev visit : ℕ → SessionState → VisitResult
      visit = visit_below app k

      good : Good app k visit
      good = visits_good app orderly covered k

      abbrev Midst : SessionState → Type 0
      Midst = Mid app orderly n i is evaluated (covered n) visit good M sound dead

      inside : n < length M.readers
      inside = inside_of app orderly n i is evaluated (covered n) visit good M sound dead

      room : (O : SessionState) → Midst O → n < length O.readers
      room O f = let size = f.moves.size in let at = inside in omega (size, at, arith)

      counting : (site : ℕ → Option Outcome) (xs : List TraceEntry) → EveryRead (ReadsBelow app k) xs → (O : SessionState) → Midst O → Counts M O (walk_of_trace (keeping_manner visit n) site xs O)
      counting site [] l O f = counts_stay M O
      counting site (reads (read.Expr m) ∷ xs) l O f =
          joined M O (visit m O) (walk_of_trace (keeping_manner visit n) site xs (visit m O).state) f.moves.same (counted m l.0.0 l.0.1 O f.sound)
          (counting site xs l.1 (visit m O).state (visit_mid app orderly k visit good M n _ dead _ m l.0 O f))
      counting site (reads (read.Input s) ∷ xs) l O f = zero_first M O (walk_of_trace (keeping_manner visit n) site xs O) (counting site xs l.1 O f)
      counting site (reads (read.Value s) ∷ xs) l O f = zero_first M O (walk_of_trace (keeping_manner visit n) site xs O) (counting site xs l.1 O f)
      counting site (reads (read.Status s) ∷ xs) l O f = zero_first M O (walk_of_trace (keeping_manner visit n) site xs O) (counting site xs l.1 O f)
      counting site (reads (read.Result s) ∷ xs) l O f = zero_first M O (walk_of_trace (keeping_manner visit n) site xs O) (counting site xs l.1 O f)
      counting site (reads (read.Width m) ∷ xs) l O f = zero_first M O (walk_of_trace (keeping_manner visit n) site xs O) (counting site xs l.1 O f)
      counting site (reads (read.Height m) ∷ xs) l O f = zero_first M O (walk_of_trace (keeping_manner visit n) site xs O) (counting site xs l.1 O f)
      counting site (given s ∷ xs) l O f =
          zero_first M O (walk_of_trace (keeping_manner visit n) site xs (with_isolated n s (given_outcome (site s)) O))
          (behind M O (with_isolated n s (given_outcome (site s)) O) (walk_of_trace (keeping_manner visit n) site xs (with_isolated n s (given_outcome (site s)) O)) (alive_same O n _ (room O f) refl)
          (counting site xs l.1 (with_isolated n s (given_outcome (site s)) O) (keep_mid app orderly k visit good M n _ dead _ s (given_outcome (site s)) O f)))
      counting site (enters s ∷ xs) l O f = zero_first M O (walk_of_trace (keeping_manner visit n) site xs O) (counting site xs l.1 O f)
      counting site (leaves s x ∷ xs) l O f =
          zero_first M O (walk_of_trace (keeping_manner visit n) site xs (with_isolated n s x O))
          (behind M O (with_isolated n s x O) (walk_of_trace (keeping_manner visit n) site xs (with_isolated n s x O)) (alive_same O n _ (room O f) refl)
          (counting site xs l.1 (with_isolated n s x O) (keep_mid app orderly k visit good M n _ dead _ s x O f)))

      -- the states after the walk and after the run
      abbrev U : VisitResult
      U = walk_of_trace (keeping_manner visit n) (open_sites app M n) (trace app M n).asked (state_as_run_begins n M)

      abbrev E : SessionState
      E = F app orderly n i is evaluated (covered n) visit good M sound dead

      begun_dead : alive_at (state_as_run_begins n M) n ≡ false
      begun_dead = mid_dead app orderly k visit good M n _ dead _ (state_as_run_begins n M) (starts app orderly n i is evaluated (covered n) visit good M sound dead)

      begun_same : (j : ℕ) → alive_at (state_as_run_begins n M) j ≡ alive_at M j
      begun_same j = elim (eqb_tells j n) [
        | inl p ↦ subst (λ z. alive_at (state_as_run_begins n M) z ≡ alive_at M z) (sym p.1) (begun_dead ∙ sym dead)
        | inr p ↦ ap is_alive (state_there M n j _ p.1)
      ]

      walk_counts : Counts M M U
      walk_counts = behind M M (state_as_run_begins n M) U begun_same
          (counting (open_sites app M n) (trace app M n).asked (low app orderly n i is evaluated (covered n) visit good M sound dead) (state_as_run_begins n M)
          (starts app orderly n i is evaluated (covered n) visit good M sound dead))

      dead_after : is_alive (reader_state U.state n) ≡ false
      dead_after = mid_dead app orderly k visit good M n _ dead _ U.state (walks app orderly n i is evaluated (covered n) visit good M sound dead).mid

      there : (j : ℕ) → j ≢ n → reader_state E j ≡ reader_state U.state j
      there = there_of app orderly n i is evaluated (covered n) visit good M sound dead

      alive_here : is_alive (reader_state E n) ≡ true
      alive_here = (run_leaves app orderly n i is evaluated (covered n) visit good M sound dead).alive

      by_trace_counts : Counts M M (visit_of_run (run_by_trace app visit n M))
      by_trace_counts = record {
        keeps = λ j a. elim (eqb_tells j n) [
          | inl p ↦ subst (λ z. alive_at E z ≡ true) (sym p.1) alive_here
          | inr p ↦ ap is_alive (there j p.1) ∙ walk_counts.keeps j a
        ];
        bodies = (λ z. walk_counts.bodies z + (open_weight app M n ∙ sym (ap (λ b. only b (alive_at M n) (weight app M n)) alive_here ∙ ap (λ b. only true b (weight app M n)) dead)) z)
            ∙ sym (total_put (newly M M U.state) (newly M M E) n (length (readers app))
            (λ j d. ap (λ (r : ReaderState). only (is_alive r) (alive_at M j) (weight app M j)) (there j d))
            (ap (λ b. only b (alive_at M n) (weight app M n)) dead_after) (get_in (readers app) n i is));
      }

      pub run_counted : Counts M M (visit_of_run (run_with app visit n M))
      run_counted = subst (λ (r : ReaderRun). Counts M M (visit_of_run r)) (sym (run_is app orderly n i is evaluated (covered n) visit good M sound dead)) by_trace_counts

    -- ---- visits, by the number of the expression

    counted_by : (n : ℕ) → Counted n → is_expression_at (reader app n) ≡ true → (N : SessionState) → IsSound app N → (b : Bool) → is_alive (reader_state N n) ≡ b → Counts N N (run_if_dead b (run_with app (visit_below app n) n) N)
    counted_by n counted x N sound true h = counts_stay N N
    counted_by n counted x N sound false h =
        let e = expression_of app n x in
        let own : bound_of app n e.0 ≡ n = if_true (is_expression e.0) n (length (readers app)) e.2 in
        subst (λ z. Counts N N (visit_of_run (run_with app (visit_below app z) n N))) own (run_counted n e.0 e.1 (ap (λ b. b || is_output e.0) e.2) (subst Counted (sym own) counted) N sound h)

    pub counted_below : (k : ℕ) → Counted k
    counted_below zero m h x N sound = absurd (omega (h, arith))
    counted_below (suc k) m h x N sound = elim (eqb_tells m k) [
      | inl p ↦ subst (Counts N N) (sym (ap (λ b. choose b (λ s. run_if_dead (is_alive (reader_state s k)) (run_with app (visit_below app k) k) s) (visit_below app k m) N) p.0))
          (counted_by k (counted_below k) (subst (λ z. is_expression_at (reader app z) ≡ true) p.1 x) N sound (is_alive (reader_state N k)) refl)
      | inr p ↦ subst (Counts N N) (sym (ap (λ b. choose b (λ s. run_if_dead (is_alive (reader_state s k)) (run_with app (visit_below app k) k) s) (visit_below app k m) N) p.0))
          (counted_below k m (let d = p.1 in omega (h, d, arith)) x N sound)
    ]

    pub visit_counts : (M : SessionState) → IsSound app M → (n : ℕ) (i : Node) → reader app n ≡ Some i → is_expression i ≡ true → Counts M M (visit_expression app n M)
    visit_counts M sound n i is x = counted_below (length (readers app)) n (get_in (readers app) n i is) (expression_at app n i is ∙ x) M sound

    -- ---- a walk of a term

    pub term_counts : (M : SessionState) (xs : List TraceEntry) → EveryRead (ReadsBelow app (length (readers app))) xs → (N : SessionState) → IsSound app N → Same app M N
        → Counts M N (walk_of_trace (passing_manner (visit_expression app)) (λ s. None) xs N)
    term_counts M [] l N sound same = counts_stay M N
    term_counts M (reads (read.Expr m) ∷ xs) l N sound same =
        let v : Visits app (length (readers app)) m N (visit_expression app m N).state = visits_good app orderly covered (length (readers app)) m l.0.0 l.0.1 N sound in
        joined M N (visit_expression app m N) (walk_of_trace (passing_manner (visit_expression app)) (λ s. None) xs (visit_expression app m N).state) same (counted_below (length (readers app)) m l.0.0 l.0.1 N sound)
        (term_counts M xs l.1 (visit_expression app m N).state v.sound (same_trans app same v.steps.same))
    term_counts M (reads (read.Input s) ∷ xs) l N sound same = zero_first M N (walk_of_trace (passing_manner (visit_expression app)) (λ s. None) xs N) (term_counts M xs l.1 N sound same)
    term_counts M (reads (read.Value s) ∷ xs) l N sound same = zero_first M N (walk_of_trace (passing_manner (visit_expression app)) (λ s. None) xs N) (term_counts M xs l.1 N sound same)
    term_counts M (reads (read.Status s) ∷ xs) l N sound same = zero_first M N (walk_of_trace (passing_manner (visit_expression app)) (λ s. None) xs N) (term_counts M xs l.1 N sound same)
    term_counts M (reads (read.Result s) ∷ xs) l N sound same = zero_first M N (walk_of_trace (passing_manner (visit_expression app)) (λ s. None) xs N) (term_counts M xs l.1 N sound same)
    term_counts M (reads (read.Width m) ∷ xs) l N sound same = zero_first M N (walk_of_trace (passing_manner (visit_expression app)) (λ s. None) xs N) (term_counts M xs l.1 N sound same)
    term_counts M (reads (read.Height m) ∷ xs) l N sound same = zero_first M N (walk_of_trace (passing_manner (visit_expression app)) (λ s. None) xs N) (term_counts M xs l.1 N sound same)
    term_counts M (given s ∷ xs) l N sound same = zero_first M N (walk_of_trace (passing_manner (visit_expression app)) (λ s. None) xs N) (term_counts M xs l.1 N sound same)
    term_counts M (enters s ∷ xs) l N sound same = zero_first M N (walk_of_trace (passing_manner (visit_expression app)) (λ s. None) xs N) (term_counts M xs l.1 N sound same)
    term_counts M (leaves s x ∷ xs) l N sound same = zero_first M N (walk_of_trace (passing_manner (visit_expression app)) (λ s. None) xs N) (term_counts M xs l.1 N sound same)

-- A visit leaves each reader as it is, or runs it by its trace; and it runs only readers of which something holds that holds,
-- with each reader that isn't alive, of all that this one's trace asks.
use Rattle.std.proofs.Common.{◌≡◌, ◌≢◌, inl, inr, ◌⊎◌, ◌<◌, ℕ, zero, suc, Bool, true, false, List, [], ◌∷◌, length, Option, Some, refl, sym, ap, ◌∙◌, subst, arith}
use Rattle.std.specs.Prelude.{◌||◌}
use Rattle.std.proofs.lemmas.Bool.Decides.{eqb_tells}
use Rattle.rx_value.specs.declared.outcome.Outcome.{Outcome}
use Rattle.rx_value.specs.Results.{choose}
use Rattle.app_tree.specs.declared.term.Read.{Read}
use Rattle.app_tree.specs.declared.term.Read.TheVariants as read
use Rattle.app_tree.specs.Tree.{Node, Shape}
use Rattle.app_tree.specs.Numbering.{readers, reader, is_expression, is_output, is_evaluated}
use Rattle.app_tree.specs.Cover.{is_covered}
use Rattle.app_tree.specs.Evaluate.{TraceEntry, reads, given, enters, leaves, Evaluation}
use Rattle.app_tree.specs.Trace.{EveryRead}
use Rattle.app_tree.specs.Fresh.{sources_of_reads, is_expression_at}
use Rattle.session_model.specs.declared.state.ReaderState.{ReaderState}
use Rattle.session_model.specs.State.{SessionState, reader_state, is_alive}
use Rattle.session_model.specs.Reading.{VisitResult}
use Rattle.session_model.specs.Run.{ReaderRun, state_as_run_begins, keeping_manner, with_isolated, run_with, run_if_dead, visit_below, visit_expression}
use Rattle.session_model.specs.Standing.{IsAliveRead}
use Rattle.app_laws.specs.Orderly.{ReadsBelow, bound_of, IsOrderly}
use Rattle.app_laws.specs.Recorded.{given_outcome, recorded}
use Rattle.app_laws.proofs.WhatIsAsked.{if_true, reads_map, reads_zip}
use Rattle.app_laws.proofs.KnownLists.{get_in}
use Rattle.session_laws.specs.Now.{known_now, open_sites, trace, walk_of_trace}
use Rattle.session_laws.specs.Sound.{IsSound}
use Rattle.session_laws.specs.VisitLaws.{reader_by_trace, IsRunByTrace, IsReadOf, IsClosed}
use Rattle.session_laws.proofs.States.{state_there}
use Rattle.session_laws.proofs.Staying.{Same, same_refl, same_trans, trace_same, open_same, alive_by}
use Rattle.session_laws.proofs.Moving.{not_both, Good}
use Rattle.session_laws.proofs.Walking.{expression_of, visit_mid, keep_mid, mid_dead}
use Rattle.session_laws.proofs.Kept.{expression_at}
use Rattle.session_laws.proofs.Running.{Mid, starts, low, W, walks, kept, F, here, there, leaves as run_leaves, run_is, visits_good}

-- ---- what is alive stays alive
module _ (M N : SessionState) (keeps : (j : ℕ) → is_alive (reader_state M j) ≡ true → is_alive (reader_state N j) ≡ true) where
  alive_read : (r : Read) → IsAliveRead M r → IsAliveRead N r
  alive_read (read.Expr m) h = keeps m h
  alive_read (read.Input s) h = tt
  alive_read (read.Value s) h = tt
  alive_read (read.Status s) h = tt
  alive_read (read.Result s) h = tt
  alive_read (read.Width m) h = tt
  alive_read (read.Height m) h = tt

  alive_reads : (xs : List TraceEntry) → EveryRead (IsAliveRead M) xs → EveryRead (IsAliveRead N) xs
  alive_reads xs h = reads_map (IsAliveRead M) (IsAliveRead N) alive_read xs h

module _ (app : Shape) (P : ℕ → Type 0) where
  -- ---- from one state to another, by visits

  -- what becomes of reader j
  abbrev pub BecomesAt : SessionState → SessionState → ℕ → Type 0
  BecomesAt M N j = (reader_state N j ≡ reader_state M j) ⊎ (P j × IsRunByTrace app M N j)

  pub record Leads (M N : SessionState) : Type 0 where
    pub same : Same app M N
    pub each : (j : ℕ) → BecomesAt M N j

  pub leads_refl : (M : SessionState) → Leads M M
  leads_refl M = record { same = same_refl app M; each = λ j. inl refl }

  pub leads_keeps : (M N : SessionState) → Leads M N → (j : ℕ) → is_alive (reader_state M j) ≡ true → is_alive (reader_state N j) ≡ true
  leads_keeps M N l j a = elim (l.each j) [ inl e ↦ ap is_alive e ∙ a | inr r ↦ ap is_alive r.1.is ]

  pub by_trace_same : (M N : SessionState) → Same app M N → (j : ℕ) → reader_state N j ≡ reader_state M j → reader_by_trace app N j ≡ reader_by_trace app M j
  by_trace_same M N p j q =
      let t : trace app N j ≡ trace app M j = trace_same app p j (ap (λ (r : ReaderState). r.dependencies) q) in
      let o : open_sites app N j ≡ open_sites app M j = open_same app j (reader_state M j) (reader_state N j) (ap (λ (r : ReaderState). r.dependencies) q) in
      (λ z. record (q z) {
        dependencies = Some (record { sources = sources_of_reads app (p.known z) [] (t z).outside; changed = false });
        isolated = recorded (o z) (t z).asked;
      })

  pub becomes_trans : (M N O : SessionState) → Same app M N → ((j : ℕ) → is_alive (reader_state N j) ≡ true → is_alive (reader_state O j) ≡ true) → (j : ℕ) → BecomesAt M N j → BecomesAt N O j → BecomesAt M O j
  becomes_trans M N O p k j (inl d) (inl e) = inl (e ∙ d)
  becomes_trans M N O p k j (inr r) (inl e) = inr (r.0, record { was = r.1.was; is = e ∙ r.1.is; asks = alive_reads N O k (trace app M j).asked r.1.asks })
  becomes_trans M N O p k j (inl d) (inr s) = inr (
    s.0,
    record {
      was = sym (ap is_alive d) ∙ s.1.was;
      is = s.1.is ∙ by_trace_same M N p j d;
      asks = subst (λ (e : Evaluation). EveryRead (IsAliveRead O) e.asked) (trace_same app p j (ap (λ (r : ReaderState). r.dependencies) d)) s.1.asks;
    },
  )
  becomes_trans M N O p k j (inr r) (inr s) = absurd (not_both (ap is_alive r.1.is) s.1.was)

  pub leads_trans : (M N O : SessionState) → Leads M N → Leads N O → Leads M O
  leads_trans M N O p q = record { same = same_trans app p.same q.same; each = λ j. becomes_trans M N O p.same (leads_keeps N O q) j (p.each j) (q.each j) }

  -- what a reader that stays asks
  closed_there : (M N : SessionState) → Same app M N → IsClosed app M P → (j : ℕ) → (reader_state N j).dependencies ≡ (reader_state M j).dependencies → P j → is_alive (reader_state N j) ≡ false → EveryRead (IsReadOf P) (trace app N j).asked
  closed_there M N p closed j q h dead =
      subst (λ (e : Evaluation). EveryRead (IsReadOf P) e.asked) (sym (trace_same app p j q)) (closed j h (sym (ap alive_by q) ∙ dead))

  closed_by : (M N : SessionState) → Same app M N → IsClosed app M P → (j : ℕ) → BecomesAt M N j → P j → is_alive (reader_state N j) ≡ false → EveryRead (IsReadOf P) (trace app N j).asked
  closed_by M N p closed j (inl e) h dead = closed_there M N p closed j (ap (λ (r : ReaderState). r.dependencies) e) h dead
  closed_by M N p closed j (inr r) h dead = absurd (not_both (ap is_alive r.1.is) dead)

  pub closed_after : (M N : SessionState) → Leads M N → IsClosed app M P → IsClosed app N P
  closed_after M N l closed j h dead = closed_by M N l.same closed j (l.each j) h dead

  module _ (orderly : IsOrderly app) (covered : (n : ℕ) → is_covered app n ≡ true) where
    abbrev pub Led : ℕ → Type 0
    Led k = (m : ℕ) → m < k → is_expression_at (reader app m) ≡ true → P m → (N : SessionState) → IsSound app N → IsClosed app N P → Leads N (visit_below app k m N).state

    -- ---- the run of reader n
    module _ (n : ℕ) (i : Node) (is : reader app n ≡ Some i) (evaluated : is_evaluated i ≡ true) (led : Led (bound_of app n i)) (member : P n)
        (M : SessionState) (sound : IsSound app M) (closed : IsClosed app M P) (dead : is_alive (reader_state M n) ≡ false) where
      abbrev k : ℕ
      k = bound_of app n i

      abbrev visit : ℕ → SessionState → VisitResult
      visit = visit_below app k

      good : Good app k visit
      good = visits_good app orderly covered k

      abbrev Midst : SessionState → Type 0
      Midst = Mid app orderly n i is evaluated (covered n) visit good M sound dead

      dead_still : (O : SessionState) → Midst O → is_alive (reader_state O n) ≡ false
      dead_still O f = mid_dead app orderly k visit good M n _ dead _ O f

      -- where reader n alone is written, which isn't alive
      keeps : (O N : SessionState) → Midst O → ((j : ℕ) → j ≢ n → reader_state N j ≡ reader_state O j) → (j : ℕ) → is_alive (reader_state O j) ≡ true → is_alive (reader_state N j) ≡ true
      keeps O N f h j a = elim (eqb_tells j n) [
        | inl p ↦ absurd (not_both (subst (λ z. is_alive (reader_state O z) ≡ true) p.1 a) (dead_still O f))
        | inr p ↦ ap is_alive (h j p.1) ∙ a
      ]

      elsewhere : (O N : SessionState) → Midst O → ((j : ℕ) → j ≢ n → reader_state N j ≡ reader_state O j) → ((j : ℕ) → j ≢ n → BecomesAt M O j) → (j : ℕ) → j ≢ n → BecomesAt M N j
      elsewhere O N f h each j d = becomes_trans M O N f.moves.same (keeps O N f h) j (each j d) (inl (h j d))

      -- what the walk has led to
      record Goes (O : SessionState) : Type 0 where
        mid : Midst O
        each : (j : ℕ) → j ≢ n → BecomesAt M O j

      closed_in : (O : SessionState) → Goes O → IsClosed app O P
      closed_in O g j h a = elim (eqb_tells j n) [
        | inl p ↦ closed_there M O g.mid.moves.same closed j (subst (λ z. (reader_state O z).dependencies ≡ (reader_state M z).dependencies) (sym p.1) g.mid.moves.dependencies) h a
        | inr p ↦ closed_by M O g.mid.moves.same closed j (g.each j p.1) h a
      ]

      abbrev IsWanted : Read → Type 0
      IsWanted r = ReadsBelow app k r × IsReadOf P r

      goes_visit : (m : ℕ) → IsWanted (read.Expr m) → (O : SessionState) → Goes O → Goes (visit m O).state
      goes_visit m w O g =
          let l : Leads O (visit m O).state = led m w.0.0 w.0.1 w.1 O g.mid.sound (closed_in O g) in
          record {
            mid = visit_mid app orderly k visit good M n _ dead _ m w.0 O g.mid;
            each = λ j d. becomes_trans M O (visit m O).state g.mid.moves.same (leads_keeps O (visit m O).state l) j (g.each j d) (l.each j);
          }

      goes_keep : (s : ℕ) (x : Outcome) (O : SessionState) → Goes O → Goes (with_isolated n s x O)
      goes_keep s x O g = record {
        mid = keep_mid app orderly k visit good M n _ dead _ s x O g.mid;
        each = elsewhere O (with_isolated n s x O) g.mid (λ j d. state_there O n j _ d) g.each;
      }

      goes : (site : ℕ → Option Outcome) (xs : List TraceEntry) → EveryRead IsWanted xs → (O : SessionState) → Goes O → Goes (walk_of_trace (keeping_manner visit n) site xs O).state
      goes site [] h O g = g
      goes site (reads (read.Expr m) ∷ xs) h O g = goes site xs h.1 (visit m O).state (goes_visit m h.0 O g)
      goes site (reads (read.Input s) ∷ xs) h O g = goes site xs h.1 O g
      goes site (reads (read.Value s) ∷ xs) h O g = goes site xs h.1 O g
      goes site (reads (read.Status s) ∷ xs) h O g = goes site xs h.1 O g
      goes site (reads (read.Result s) ∷ xs) h O g = goes site xs h.1 O g
      goes site (reads (read.Width m) ∷ xs) h O g = goes site xs h.1 O g
      goes site (reads (read.Height m) ∷ xs) h O g = goes site xs h.1 O g
      goes site (given s ∷ xs) h O g = goes site xs h.1 (with_isolated n s (given_outcome (site s)) O) (goes_keep s (given_outcome (site s)) O g)
      goes site (enters s ∷ xs) h O g = goes site xs h.1 O g
      goes site (leaves s x ∷ xs) h O g = goes site xs h.1 (with_isolated n s x O) (goes_keep s x O g)

      asked : EveryRead IsWanted (trace app M n).asked
      asked = reads_zip (ReadsBelow app k) (IsReadOf P) IsWanted (λ r l h. (l, h)) (trace app M n).asked
          (low app orderly n i is evaluated (covered n) visit good M sound dead) (closed n member dead)

      -- the states after the walk and after the run
      abbrev U : SessionState
      U = W app orderly n i is evaluated (covered n) visit good M sound dead

      abbrev E : SessionState
      E = F app orderly n i is evaluated (covered n) visit good M sound dead

      gone : Goes U
      gone = goes (open_sites app M n) (trace app M n).asked asked (state_as_run_begins n M) (record {
        mid = starts app orderly n i is evaluated (covered n) visit good M sound dead;
        each = λ j d. inl (state_there M n j _ d);
      })

      apart : (j : ℕ) → j ≢ n → reader_state E j ≡ reader_state U j
      apart = there app orderly n i is evaluated (covered n) visit good M sound dead

      is_run : IsRunByTrace app M E n
      is_run = record {
        was = dead;
        is = here app orderly n i is evaluated (covered n) visit good M sound dead ∙ (λ z. record {
          dependencies = Some (record { sources = sources_of_reads app (known_now app M) [] (trace app M n).outside; changed = false });
          isolated = kept app orderly n i is evaluated (covered n) visit good M sound dead z;
          shown = gone.mid.moves.shown z;
          last = gone.mid.moves.last z;
        });
        asks = alive_reads U E (keeps U E gone.mid apart) (trace app M n).asked (walks app orderly n i is evaluated (covered n) visit good M sound dead).alive;
      }

      ran_leads : Leads M E
      ran_leads = record {
        same = (run_leaves app orderly n i is evaluated (covered n) visit good M sound dead).same;
        each = λ j. elim (eqb_tells j n) [
          | inl p ↦ subst (BecomesAt M E) (sym p.1) (inr (member, is_run))
          | inr p ↦ elsewhere U E gone.mid apart gone.each j p.1
        ];
      }

      pub run_leads : Leads M (run_with app visit n M).state
      run_leads = subst (λ (r : ReaderRun). Leads M r.state) (sym (run_is app orderly n i is evaluated (covered n) visit good M sound dead)) ran_leads

    -- ---- visits, by the number of the expression

    led_by : (n : ℕ) → Led n → is_expression_at (reader app n) ≡ true → P n → (N : SessionState) → IsSound app N → IsClosed app N P → (b : Bool) → is_alive (reader_state N n) ≡ b
        → Leads N (run_if_dead b (run_with app (visit_below app n) n) N).state
    led_by n led x h N sound closed true alive = leads_refl N
    led_by n led x h N sound closed false dead =
        let e = expression_of app n x in
        let own : bound_of app n e.0 ≡ n = if_true (is_expression e.0) n (length (readers app)) e.2 in
        subst (λ z. Leads N (run_with app (visit_below app z) n N).state) own (run_leads n e.0 e.1 (ap (λ b. b || is_output e.0) e.2) (subst Led (sym own) led) h N sound closed dead)

    pub led_below : (k : ℕ) → Led k
    led_below zero m l x h N sound closed = absurd (omega (l, arith))
    led_below (suc k) m l x h N sound closed = elim (eqb_tells m k) [
      | inl p ↦ subst (λ (v : VisitResult). Leads N v.state) (sym (ap (λ b. choose b (λ s. run_if_dead (is_alive (reader_state s k)) (run_with app (visit_below app k) k) s) (visit_below app k m) N) p.0))
          (led_by k (led_below k) (subst (λ z. is_expression_at (reader app z) ≡ true) p.1 x) (subst P p.1 h) N sound closed (is_alive (reader_state N k)) refl)
      | inr p ↦ subst (λ (v : VisitResult). Leads N v.state) (sym (ap (λ b. choose b (λ s. run_if_dead (is_alive (reader_state s k)) (run_with app (visit_below app k) k) s) (visit_below app k m) N) p.0))
          (led_below k m (let d = p.1 in omega (l, d, arith)) x h N sound closed)
    ]

    pub visit_leads : (M : SessionState) → IsSound app M → IsClosed app M P → (n : ℕ) (i : Node) → reader app n ≡ Some i → is_expression i ≡ true → P n → Leads M (visit_expression app n M).state
    visit_leads M sound closed n i is x h = led_below (length (readers app)) n (get_in (readers app) n i is) (expression_at app n i is ∙ x) h M sound closed

-- What the run of a reader leaves of a state: that of an expression that isn't alive, and that of an output.
use Rattle.std.proofs.Common.{◌≡◌, ◌≢◌, inl, inr, ℕ, true, false, [], length, Option, Some, refl, sym, ap, ◌∙◌, subst, arith}
use Rattle.std.specs.Prelude.{◌||◌, ◌==◌}
use Rattle.std.proofs.lemmas.Bool.Decides.{eqb_tells}
use Rattle.rx_value.specs.declared.outcome.Outcome.{Outcome}
use Rattle.app_tree.specs.Tree.{Node, input, value, task, reactive, event, text, plot, observe, on, Shape}
use Rattle.app_tree.specs.Numbering.{readers, reader, is_expression, is_output, is_evaluated}
use Rattle.app_tree.specs.Cover.{is_covered}
use Rattle.app_tree.specs.Evaluate.{Answers, Evaluation, site_count, site_count_all}
use Rattle.app_tree.specs.Trace.{EveryRead}
use Rattle.app_tree.specs.Fresh.{Known, known_at, answer_to, sources_of_reads, evaluate_node, fresh_outcome, is_among}
use Rattle.session_model.specs.declared.state.ReaderState.{ReaderState}
use Rattle.session_model.specs.State.{SessionState, isolated_of, reader_state, sources_in, is_alive}
use Rattle.session_model.specs.Run.{ReaderRun, run_with, visit_below, visit_expression, run_reader}
use Rattle.session_model.specs.Standing.{HasSameMembers, is_bare, IsAliveRead}
use Rattle.app_laws.specs.Orderly.{bound_of, IsOrderly, reads_in_node}
use Rattle.app_laws.specs.Recorded.{recorded}
use Rattle.app_laws.proofs.Asking.{node_sites}
use Rattle.app_laws.proofs.Covering.{and_left, and_right, eq_means}
use Rattle.app_laws.proofs.Keyed.{bare_node}
use Rattle.app_laws.proofs.KnownLists.{known_fixed}
use Rattle.app_laws.proofs.WhatIsAsked.{every_all, if_false}
use Rattle.session_laws.specs.Now.{open_sites, sites_now, known_now, evaluation_now, trace, open_answers}
use Rattle.session_laws.specs.Sound.{IsSound}
use Rattle.session_laws.specs.VisitLaws.{reader_by_trace, IsReadOf, IsClosed}
use Rattle.session_laws.proofs.Absorbing.{visits}
use Rattle.session_laws.proofs.Freshness.{expression_now, reader_fresh}
use Rattle.session_laws.proofs.Marking.{N as marked_state, here as marked_here, there as marked_there, dead as marked_dead, same as marked_same, marked_sound, stated_same, site_same, traced_same, leaves as marked_leaves, any_output_run}
use Rattle.session_laws.proofs.Moving.{not_both, Visits}
use Rattle.session_laws.proofs.Running.{no_expression, Leaves}
use Rattle.session_laws.proofs.States.{state_size}
use Rattle.session_laws.proofs.Staying.{open_now, Same, same_refl, same_trans, trace_same}
use Rattle.session_laws.proofs.Visiting.{BecomesAt, Leads, by_trace_same, led_below, run_leads, visit_leads}
use Rattle.session_steps.proofs.Putting.{IsLeftOrOut}

-- ---- an expression without a site gives now what its run would give

pub no_sites : (i : Node) → is_bare (Some i) ≡ true → node_sites i ≡ 0
no_sites (input name start) h = refl
no_sites (value name start) h = refl
no_sites (task name parameters body) h = refl
no_sites (reactive name keys body) h =
    let x : site_count_all keys ≡ 0 = eq_means (site_count_all keys) 0 (and_left (site_count_all keys == 0) (site_count body == 0) h) in
    let y : site_count body ≡ 0 = eq_means (site_count body) 0 (and_right (site_count_all keys == 0) (site_count body == 0) h) in
    omega (x, y, arith)
no_sites (event name flags e body) h = cc
no_sites (text name shown) h = cc
no_sites (plot name shown) h = cc
no_sites (observe name priority block) h = refl
no_sites (on name priority flags e block) h = refl

pub bare_now : (app : Shape) → IsOrderly app → (M : SessionState) (n : ℕ) (i : Node) → reader app n ≡ Some i → is_bare (reader app n) ≡ true → evaluation_now app M n ≡ trace app M n
bare_now app orderly M n i is bare =
    let a : Answers = open_answers app M n in
    let b : Answers = record { read = answer_to app M.values (known_now app M); site = sites_now app M n } in
    ap (λ o. evaluate_node o b) is
    ∙ bare_node a b i (orderly.sites n i is) (no_sites i (subst (λ o. is_bare o ≡ true) is bare)) (every_all (λ r. a.read r ≡ b.read r) (λ r. refl) (reads_in_node i))
    ∙ ap (λ o. evaluate_node o a) (sym is)

-- ---- reader n was run by its trace, and beside it only readers of which P holds
pub record HasRun (app : Shape) (P : ℕ → Type 0) (n : ℕ) (M N : SessionState) : Type 0 where
  pub same : Same app M N
  pub sound : IsSound app N
  pub size : length N.readers ≡ length M.readers
  pub boards : N.boards ≡ M.boards
  pub each : (j : ℕ) → j ≢ n → BecomesAt app P M N j
  pub here : reader_state N n ≡ reader_by_trace app M n
  pub asks : EveryRead (IsAliveRead N) (trace app M n).asked
  pub gives : fresh_outcome app N.values (isolated_of N) n ≡ (trace app M n).outcome

pub ran_alive : (app : Shape) (P : ℕ → Type 0) (n : ℕ) (M N : SessionState) → HasRun app P n M N → is_alive (reader_state N n) ≡ true
ran_alive app P n M N h = ap is_alive h.here

pub ran_keeps : (app : Shape) (P : ℕ → Type 0) (n : ℕ) (M N : SessionState) → HasRun app P n M N → (j : ℕ) → is_alive (reader_state M j) ≡ true → is_alive (reader_state N j) ≡ true
ran_keeps app P n M N h j a = elim (eqb_tells j n) [
  | inl p ↦ subst (λ z. is_alive (reader_state N z) ≡ true) (sym p.1) (ran_alive app P n M N h)
  | inr p ↦ elim (h.each j p.1) [ inl e ↦ ap is_alive e ∙ a | inr r ↦ ap is_alive r.1.is ]
]

module _ (app : Shape) (orderly : IsOrderly app) (covered : (n : ℕ) → is_covered app n ≡ true) (P : ℕ → Type 0) (M : SessionState) (sound : IsSound app M) (closed : IsClosed app M P) (n : ℕ) (i : Node) (is : reader app n ≡ Some i) (member : P n) where
  -- ---- an expression
  module _ (expression : is_expression i ≡ true) (dead : is_alive (reader_state M n) ≡ false) where
    abbrev V : SessionState
    V = (visit_expression app n M).state

    visited : Visits app (length (readers app)) n M V
    visited = visits app orderly covered M sound n i is expression

    led : Leads app P M V
    led = visit_leads app P orderly covered M sound closed n i is expression member

    now_is : evaluation_now app M n ≡ trace app M n
    now_is = ap (λ (s : ℕ → Option Outcome). evaluate_node (reader app n) (record { read = answer_to app M.values (known_now app M); site = s })) (open_now app n (reader_state M n) dead)

    pub expression_ran : HasRun app P n M (visit_expression app n M).state
    expression_ran = by (led.each n)
      where
        by : BecomesAt app P M V n → HasRun app P n M V
        by (inl p) = absurd (not_both visited.alive (ap is_alive p ∙ dead))
        by (inr r) = record {
          same = led.same;
          sound = visited.sound;
          size = visited.steps.size;
          boards = visited.steps.boards;
          each = λ j d. led.each j;
          here = r.1.is;
          asks = r.1.asks;
          gives = expression_now app orderly V visited.sound n i is expression visited.alive
              ∙ ap (λ l. (known_at l n).outcome) led.same.known
              ∙ ap (λ (z : Known). z.outcome) (known_fixed app M.values (sites_now app M) orderly n i is expression)
              ∙ ap (λ (e : Evaluation). e.outcome) now_is;
        }

  -- ---- an output, alive or not: a run forgets the mark that it would have
  module _ (output : is_output i ≡ true) (asked : EveryRead (IsReadOf P) (trace app M n).asked) where
    abbrev K : SessionState
    K = marked_state app orderly covered n i is output M sound

    abbrev W : SessionState
    W = (run_reader app n M).state

    evaluated : is_evaluated i ≡ true
    evaluated = ap (λ b. b || is_output i) (no_expression i output) ∙ output

    to_marked : Same app M K
    to_marked = marked_same app orderly covered n i is output M sound

    there : (j : ℕ) → j ≢ n → reader_state K j ≡ reader_state M j
    there j d = marked_there app orderly covered n i is output M sound j d

    traced : trace app K n ≡ trace app M n
    traced = traced_same app orderly covered n i is output M sound

    traced_there : (j : ℕ) → j ≢ n → trace app K j ≡ trace app M j
    traced_there j d = trace_same app to_marked j (ap (λ (r : ReaderState). r.dependencies) (there j d))

    closed_marked : IsClosed app K P
    closed_marked j h dead = elim (eqb_tells j n) [
      | inl p ↦ subst (λ z. EveryRead (IsReadOf P) (trace app K z).asked) (sym p.1) (subst (λ (e : Evaluation). EveryRead (IsReadOf P) e.asked) (sym traced) asked)
      | inr p ↦ subst (λ (e : Evaluation). EveryRead (IsReadOf P) e.asked) (sym (traced_there j p.1)) (closed j h (sym (ap is_alive (there j p.1)) ∙ dead))
    ]

    own : bound_of app n i ≡ length (readers app)
    own = if_false (is_expression i) n (length (readers app)) (no_expression i output)

    led_marked : Leads app P K W
    led_marked =
        subst (λ (r : ReaderRun). Leads app P K r.state) (stated_same app orderly covered n i is output M sound)
        (subst (λ k. Leads app P K (run_with app (visit_below app k) n K).state) own
        (run_leads app P orderly covered n i is evaluated (led_below app P orderly covered (bound_of app n i)) member K (marked_sound app orderly covered n i is output M sound) closed_marked (marked_dead app orderly covered n i is output M sound)))

    left : Leaves app orderly (length (readers app)) n K W (run_reader app n M).outcome
    left = marked_leaves app orderly covered n i is output M sound

    pub output_gives : (run_reader app n M).outcome ≡ (trace app M n).outcome
    output_gives = ap (λ (r : ReaderRun). r.outcome) (any_output_run app orderly covered n i is output M sound)

    by_marked : reader_by_trace app K n ≡ reader_by_trace app M n
    by_marked = (λ z. record (marked_here app orderly covered n i is output M sound z) {
      dependencies = Some (record { sources = sources_of_reads app (to_marked.known z) [] (traced z).outside; changed = false });
      isolated = recorded (site_same app orderly covered n i is output M sound z) (traced z).asked;
    })

    each_there : (j : ℕ) → j ≢ n → BecomesAt app P K W j → BecomesAt app P M W j
    each_there j d (inl e) = inl (e ∙ there j d)
    each_there j d (inr r) = inr (
      r.0,
      record {
        was = sym (ap is_alive (there j d)) ∙ r.1.was;
        is = r.1.is ∙ by_trace_same app P M K to_marked j (there j d);
        asks = subst (λ (e : Evaluation). EveryRead (IsAliveRead W) e.asked) (traced_there j d) r.1.asks;
      },
    )

    pub output_ran : HasRun app P n M (run_reader app n M).state
    output_ran = by (led_marked.each n)
      where
        by : BecomesAt app P K W n → HasRun app P n M W
        by (inl p) = absurd (not_both left.alive (ap is_alive p ∙ marked_dead app orderly covered n i is output M sound))
        by (inr r) = record {
          same = same_trans app to_marked led_marked.same;
          sound = left.sound;
          size = left.size ∙ state_size M n _;
          boards = left.boards;
          each = λ j d. each_there j d (led_marked.each j);
          here = r.1.is ∙ by_marked;
          asks = subst (λ (e : Evaluation). EveryRead (IsAliveRead W) e.asked) traced r.1.asks;
          gives = ap (λ (e : Evaluation). e.outcome) (reader_fresh app orderly W left.sound n i is evaluated left.alive) ∙ left.gives ∙ output_gives;
        }

-- ---- what a session has to keep of it
pub record IsRunIn (app : Shape) (n : ℕ) (M N : SessionState) : Type 0 where
  pub same : Same app M N
  pub sound : IsSound app N
  pub each : (j : ℕ) → j ≢ n → IsLeftOrOut app M N j
  pub alive : is_alive (reader_state N n) ≡ true
  pub sources : HasSameMembers (sources_in (reader_state N n).dependencies) (sources_of_reads app (known_now app M) [] (trace app M n).outside)
  pub isolated : is_bare (reader app n) ≡ false → (reader_state N n).isolated ≡ recorded (open_sites app M n) (trace app M n).asked
  pub gives : fresh_outcome app N.values (isolated_of N) n ≡ (trace app M n).outcome

-- what was run beside it has no site
pub run_in : (app : Shape) (P : ℕ → Type 0) (n : ℕ) (M N : SessionState) → HasRun app P n M N → ((j : ℕ) → P j → j ≢ n → is_alive (reader_state M j) ≡ false → is_bare (reader app j) ≡ true) → IsRunIn app n M N
run_in app P n M N h mild = record {
  same = h.same;
  sound = h.sound;
  each = λ j d. by j d (h.each j d);
  alive = ran_alive app P n M N h;
  sources = λ s. ap (λ (r : ReaderState). is_among s (sources_in r.dependencies)) h.here;
  isolated = λ b. ap (λ (r : ReaderState). r.isolated) h.here;
  gives = h.gives;
}
  where
    by : (j : ℕ) → j ≢ n → BecomesAt app P M N j → IsLeftOrOut app M N j
    by j d (inl e) = inl e
    by j d (inr r) = inr (record { bare = mild j r.0 d r.1.was; was = r.1.was; is = ap is_alive r.1.is })

-- an expression without a site that is alive already
pub alive_in : (app : Shape) → IsOrderly app → (M : SessionState) → IsSound app M → (n : ℕ) (i : Node) → reader app n ≡ Some i → is_evaluated i ≡ true → is_alive (reader_state M n) ≡ true → is_bare (reader app n) ≡ true → IsRunIn app n M M
alive_in app orderly M sound n i is evaluated alive bare =
    let now : evaluation_now app M n ≡ trace app M n = bare_now app orderly M n i is bare in
    record {
      same = same_refl app M;
      sound = sound;
      each = λ j d. inl refl;
      alive = alive;
      sources = λ s. (sound.at n i is evaluated alive).sources s ∙ ap (λ (e : Evaluation). is_among s (sources_of_reads app (known_now app M) [] e.outside)) now;
      isolated = λ b. absurd (not_both bare b);
      gives = ap (λ (e : Evaluation). e.outcome) (reader_fresh app orderly M sound n i is evaluated alive ∙ now);
    }

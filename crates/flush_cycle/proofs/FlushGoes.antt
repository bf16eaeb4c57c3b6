-- How far a flush has come, and how it goes on and ends.
use Rattle.std.proofs.Common.{◌≡◌, ◌≤◌, ◌<◌, ℕ, zero, suc, ◌+◌, ◌*◌, false, List, [], ◌∷◌, ◌++◌, map, length, Option, Some, None, refl, sym, ap, ◌∙◌, subst, arith, append_assoc, append-nil}
use Rattle.std.specs.Prelude.{Result, Ok, Err}
use Rattle.std.proofs.lemmas.List.{get_or-set_same, get_or-set_other}
use Rattle.rx_value.specs.declared.memory.Memory.{Memory}
use Rattle.app_tree.specs.Held.{Held}
use Rattle.app_tree.specs.Tree.{Shape}
use Rattle.app_tree.specs.Numbering.{readers}
use Rattle.app_tree.specs.ObserverTerms.{terms}
use Rattle.app_tree.specs.View.{shape_of}
use Rattle.term_eval.specs.Lent.{Lent}
use Rattle.session_model.specs.State.{SessionState}
use Rattle.session_model.specs.Flush.{priority_of, next_waiting, Run, RunResult, make_run, FlushEnd, done, budget_spent, observer_failed, FlushResult, failure_of, no_runs, with_first_run, go_on_unless_failed, after_run, flush_step, end_without_budget, flush_within, flush}
use Rattle.session_model.specs.Standing.{StandsWholly, missing_readers}
use Rattle.flush_cycle.specs.Flushing.{Stepped, most_bodies}
use Rattle.flush_cycle.specs.Reports.{made_of}
use Rattle.pending_set.specs.Waiting.{Waiting, IsNextWaiting, NoneWaits, with_waiting}
use Rattle.flush_cycle.specs.declared.flushing.End.{End}
use Rattle.flush_cycle.specs.declared.flushing.End.TheVariants as end
use Rattle.flush_cycle.specs.Working.{Working, KnowsWaiting, IsAtRest}
use Rattle.flush_cycle.specs.inner.Acting.{Queues, with_run, RunsIn, Runs, IsNext}
use Rattle.flush_cycle.specs.inner.Passing.{end_of, Passed, RestsAfter, Passes}
use Rattle.flush_cycle.proofs.Chaining.{stepped_on, queues_chain, queues_none, with_run-none, with_run-append}
use Rattle.flush_cycle.proofs.Next.{inside, next_alike, none_alike}

-- these runs, with so many bodies, stand in front of what a flush makes behind them
abbrev pub in_front : List Run → ℕ → FlushResult → FlushResult
in_front runs bodies rest = record { state = rest.state; runs = runs ++ rest.runs; bodies = bodies + rest.bodies; end = rest.end }

-- from one of the states that the session stood for: the state that it stands for now, and what was made so far
pub record Reaches (app : Shape) (old now : Working) (before after left : ℕ) (state : SessionState) : Type 0 where
  pub current : SessionState
  pub runs : List Run
  pub bodies : ℕ
  pub stepped : Stepped app old.kept now.kept before after state current bodies
  pub flushed : flush app state ≡ in_front runs bodies (flush_within app left current)
  pub told : now.made ≡ with_run old.made (made_of app runs)

-- so many bodies one run runs at most
abbrev pub most_of_run : Shape → ℕ
most_of_run app = length (readers app) * terms app

-- after so many runs
pub record Goes {S : Type 0} (follows : S → S → Type 0) (out : S → List Lent) (old now : Working) (asker asker' : S)
    (before after run : ℕ) : Type 0 where
  pub left : ℕ
  pub count : run + left ≡ (shape_of old.app).budget
  pub app : now.app ≡ old.app
  pub reaches : (state : SessionState) → StandsWholly (shape_of old.app) old.kept state
      → Reaches (shape_of old.app) old now before after left state
  pub within : after + left * most_of_run (shape_of old.app) ≤ before + most_bodies (shape_of old.app)
  pub rests : IsAtRest now
  pub queues : Queues old now
  pub succeeds : follows asker' asker
  pub leaves : out asker' ≡ []

result_parts : (state : SessionState) (e : FlushEnd) (r r' : List Run) (b b' : ℕ) → r ≡ r' → b ≡ b'
    → (let f : FlushResult = record { state = state; runs = r; bodies = b; end = e } in let g : FlushResult = record { state = state; runs = r'; bodies = b'; end = e } in f ≡ g)
result_parts state e r r' b b' p q =
    ap (λ z. let f : FlushResult = record { state = state; runs = z; bodies = b; end = e } in f) p
    ∙ ap (λ z. let f : FlushResult = record { state = state; runs = r'; bodies = z; end = e } in f) q

pub goes_first : {S : Type 0} (follows : S → S → Type 0) (out : S → List Lent) (w : Working) (asker : S) (before : ℕ)
    → follows asker asker → out asker ≡ [] → IsAtRest w → Goes follows out w w asker asker before before 0
goes_first follows out w asker before stays none rests = record {
  left = (shape_of w.app).budget;
  count = omega arith;
  app = refl;
  reaches = λ state stands. record {
    current = state;
    runs = [];
    bodies = 0;
    stepped = record { stands = stands; bound = omega arith };
    flushed =
        let f : FlushResult = flush (shape_of w.app) state in
        let same : f.bodies ≡ 0 + f.bodies = omega arith in
        result_parts f.state f.end f.runs f.runs f.bodies (0 + f.bodies) refl same;
    told = sym (with_run-none (shape_of w.app) w.made);
  };
  within = omega arith;
  rests = rests;
  queues = queues_none w w refl refl;
  succeeds = stays;
  leaves = none;
}

-- ---- who is next

-- the set is of the app's readers
pub record IsSet (app : Shape) (p : Waiting) : Type 0 where
  pub priorities : p.priorities ≡ map priority_of (readers app)
  pub waits : length p.waits ≡ length (readers app)

abbrev pub with_waits : Waiting → Working → Working
with_waits p w = record w { pending = p }

pub is_next : (now : Working) (n : ℕ) → IsAtRest now → IsSet (shape_of now.app) now.pending → IsNextWaiting now.pending n
    → IsNext n (with_waits (with_waiting false n now.pending) now)
is_next now n rests set next = record {
  whole = rests.ready.whole;
  none_runs = rests.none_runs;
  known = known;
  waited = sym (rests.ready.waiting n known) ∙ next.waits;
  taken = get_or-set_same now.pending.waits n false false within;
  others = λ m below apart. get_or-set_other now.pending.waits n m false false apart ∙ rests.ready.waiting m below;
}
  where
    within : n < length now.pending.waits
    within = inside now.pending.waits n next.waits

    known : n < length (readers (shape_of now.app))
    known = let size = set.waits in let inner = within in omega (inner, size, arith)

-- ---- one run more

front_more : (runs : List Run) (bodies : ℕ) (f : RunResult) (rest : FlushResult)
    → in_front runs bodies (with_first_run f rest) ≡ in_front (runs ++ f.run ∷ []) (bodies + f.bodies) rest
front_more runs bodies f rest =
    result_parts rest.state rest.end (runs ++ f.run ∷ rest.runs) (runs ++ f.run ∷ [] ++ rest.runs) (bodies + (f.bodies + rest.bodies)) (bodies + f.bodies + rest.bodies)
    (sym (append_assoc runs (f.run ∷ []) rest.runs)) (omega arith)

no_more : (bodies : ℕ) → bodies ≡ bodies + 0
no_more bodies = omega arith

ok_is : {A E : Type 0} {x y : A} → (let r : Result A E = Ok x in let s : Result A E = Ok y in r ≡ s) → x ≡ y
ok_is h = cc

-- one step of the flush, where n is next
flush_stepped : (app : Shape) (left n : ℕ) (current : SessionState) → next_waiting app current ≡ Some n
    → flush_within app (suc left) current ≡ after_run app (flush_within app left) (make_run app n current)
flush_stepped app left n current next = ap (flush_step app (flush_within app left) current) next

flush_failed : (app : Shape) (left n : ℕ) (current : SessionState) (o : Option (List ℕ)) → next_waiting app current ≡ Some n
    → o ≡ failure_of app (make_run app n current).run
    → flush_within app (suc left) current
    ≡ with_first_run (make_run app n current) (go_on_unless_failed o (flush_within app left) (make_run app n current).state)
flush_failed app left n current o next failure =
    flush_stepped app left n current next
    ∙ ap (λ z. with_first_run (make_run app n current) (go_on_unless_failed z (flush_within app left) (make_run app n current).state)) (sym failure)

module _ (app : Shape) (old now new : Working) (p : Waiting) (before between after left n : ℕ) (state : SessionState)
    (r : Reaches app old now before between (suc left) state) (next : next_waiting app r.current ≡ Some n) where
  abbrev run_of : RunResult
  run_of = make_run app n r.current

  reaches_on : RunsIn app (with_waits p now) new between after r.current run_of (Ok None) → Reaches app old new before after left state
  reaches_on ran = record {
    current = run_of.state;
    runs = r.runs ++ run_of.run ∷ [];
    bodies = r.bodies + run_of.bodies;
    stepped = stepped_on app old.kept now.kept new.kept before between after state r.current run_of.state r.bodies run_of.bodies r.stepped ran.stepped;
    flushed =
        r.flushed ∙ ap (in_front r.runs r.bodies) (flush_failed app left n r.current None next ran.failure)
        ∙ front_more r.runs r.bodies run_of (flush_within app left run_of.state);
    told = ran.told ∙ ap (λ m. with_run m (made_of app (run_of.run ∷ []))) r.told ∙ with_run-append app old.made r.runs (run_of.run ∷ []);
  }

  reaches_failure : (why : List ℕ) → RunsIn app (with_waits p now) new between after r.current run_of (Ok (Some why))
      → Passed app old new before after state (flush app state) (end.ObserverFailed why)
  reaches_failure why ran =
      let rest : FlushResult = no_runs (observer_failed why) run_of.state in
      let is : flush app state ≡ in_front r.runs r.bodies (with_first_run run_of rest) =
      r.flushed ∙ ap (in_front r.runs r.bodies) (flush_failed app left n r.current (Some why) next ran.failure) in
      subst (λ f. Passed app old new before after state f (end.ObserverFailed why)) (sym is)
      (record {
        stepped = subst (Stepped app old.kept new.kept before after state run_of.state) (ap (λ b. r.bodies + b) (no_more run_of.bodies))
            (stepped_on app old.kept now.kept new.kept before between after state r.current run_of.state r.bodies run_of.bodies r.stepped ran.stepped);
        end = refl;
        told = ran.told ∙ ap (λ m. with_run m (made_of app (run_of.run ∷ []))) r.told ∙ with_run-append app old.made r.runs (run_of.run ∷ []);
      })

  reaches_memory : (e : Memory) → RunsIn app (with_waits p now) new between after r.current run_of (Err e)
      → after ≤ before + ((flush app state).bodies + missing_readers app old.kept.session state)
  reaches_memory e ran =
      let rest : FlushResult = go_on_unless_failed (failure_of app run_of.run) (flush_within app left) run_of.state in
      let is : flush app state ≡ in_front r.runs r.bodies (with_first_run run_of rest) =
      r.flushed ∙ ap (in_front r.runs r.bodies) (flush_stepped app left n r.current next) in
      let far = r.stepped.bound in
      let bound : after ≤ before + ((r.bodies + (run_of.bodies + rest.bodies)) + missing_readers app old.kept.session state) = omega (far, ran, arith) in
      subst (λ (f : FlushResult). after ≤ before + (f.bodies + missing_readers app old.kept.session state)) (sym is) bound

-- ---- the end

reaches_end : (app : Shape) (old now : Working) (p : Waiting) (before after left : ℕ) (state : SessionState) (e : End)
    (r : Reaches app old now before after left state) → flush_within app left r.current ≡ no_runs (end_of e) r.current
    → Passed app old (with_waits p now) before after state (flush app state) e
reaches_end app old now p before after left state e r h =
    let is : flush app state ≡ in_front r.runs r.bodies (no_runs (end_of e) r.current) = r.flushed ∙ ap (in_front r.runs r.bodies) h in
    subst (λ f. Passed app old (with_waits p now) before after state f e) (sym is)
    (record {
      stepped = subst (Stepped app old.kept now.kept before after state r.current) (no_more r.bodies) r.stepped;
      end = refl;
      told = r.told ∙ ap (λ runs. with_run old.made (made_of app runs)) (sym (append-nil r.runs));
    })

flush_done : (app : Shape) (left : ℕ) (current : SessionState) → next_waiting app current ≡ None → flush_within app left current ≡ no_runs done current
flush_done app zero current h = ap (λ o. no_runs (end_without_budget o) current) h
flush_done app (suc left) current h = ap (flush_step app (flush_within app left) current) h

module _ {S : Type 0} (follows : S → S → Type 0) (out : S → List Lent) (old now : Working) (asker asker' : S) (before between run : ℕ)
    (g : Goes follows out old now asker asker' before between run) (set : IsSet (shape_of now.app) now.pending) where
  abbrev app : Shape
  app = shape_of old.app

  set_old : IsSet app now.pending
  set_old = subst (λ (h : Held). IsSet (shape_of h) now.pending) g.app set

  knows_old : KnowsWaiting app now.kept now.pending
  knows_old = subst (λ (h : Held). KnowsWaiting (shape_of h) now.kept now.pending) g.app g.rests.ready.waiting

  next_is : (n : ℕ) → IsNextWaiting now.pending n → (state : SessionState) (stands : StandsWholly app old.kept state)
      → next_waiting app (g.reaches state stands).current ≡ Some n
  next_is n next state stands =
      let r = g.reaches state stands in
      next_alike app now.kept r.current r.stepped.stands now.pending set_old.priorities set_old.waits knows_old n next

  none_is : NoneWaits now.pending → (state : SessionState) (stands : StandsWholly app old.kept state)
      → next_waiting app (g.reaches state stands).current ≡ None
  none_is none state stands =
      let r = g.reaches state stands in
      none_alike app now.kept r.current r.stepped.stands now.pending set_old.waits knows_old none

  passes_end : (p : Waiting) (e : End) → ((state : SessionState) (stands : StandsWholly app old.kept state)
      → flush_within app g.left (g.reaches state stands).current ≡ no_runs (end_of e) (g.reaches state stands).current)
      → RestsAfter (with_waits p now) e → Passes follows out (flush app) old (with_waits p now) asker asker' before between (Ok e)
  passes_end p e ends rests = record {
    app = g.app;
    passes = λ state stands. reaches_end app old now p before between g.left state e (g.reaches state stands) (ends state stands);
    within = let within = g.within in omega (within, arith);
    rests = λ f is. subst (RestsAfter (with_waits p now)) (ok_is is) rests;
    queues = record { started = g.queues.started; jobs = g.queues.jobs; starts = g.queues.starts };
    succeeds = g.succeeds;
    leaves = g.leaves;
  }

  pub passes_done : NoneWaits now.pending → Passes follows out (flush app) old now asker asker' before between (Ok end.Done)
  passes_done none =
      passes_end now.pending end.Done (λ state stands. flush_done app g.left (g.reaches state stands).current (none_is none state stands))
      (record { rests = g.rests; quiet = none })

  pub passes_spent : (n : ℕ) (p : Waiting) → run ≡ app.budget → IsNextWaiting now.pending n
      → Passes follows out (flush app) old (with_waits p now) asker asker' before between (Ok end.BudgetSpent)
  passes_spent n p all next = passes_end p end.BudgetSpent spent tt
    where
      spent : (state : SessionState) (stands : StandsWholly app old.kept state)
          → flush_within app g.left (g.reaches state stands).current ≡ no_runs budget_spent (g.reaches state stands).current
      spent state stands =
          let none : g.left ≡ 0 = (let count = g.count in omega (count, all, arith)) in
          ap (λ left. flush_within app left (g.reaches state stands).current) none
          ∙ ap (λ o. no_runs (end_without_budget o) (g.reaches state stands).current) (next_is n next state stands)

-- ---- one run more

suc_times : (m x : ℕ) → suc m * x ≡ x + m * x
suc_times m x = omega arith

some_left : (run left budget : ℕ) → run + left ≡ budget → run < budget → (less : ℕ) × (left ≡ suc less)
some_left run zero budget count fewer = absurd (omega (count, fewer, arith))
some_left run (suc less) budget count fewer = (less, refl)

module _ {S : Type 0} (follows : S → S → Type 0) (out : S → List Lent) (chains : (a b c : S) → follows b a → follows c b → follows c a)
    (old now taken new : Working) (asker asker' asker'' : S) (before between after run n : ℕ)
    (g : Goes follows out old now asker asker' before between run) (fewer : run < (shape_of old.app).budget)
    (set : IsSet (shape_of now.app) now.pending) (next : IsNextWaiting now.pending n) (p : Waiting) (same : taken ≡ with_waits p now) where
  abbrev its_app : Shape
  its_app = shape_of old.app

  abbrev RunsOf : Result (Option (List ℕ)) Memory → Type 0
  RunsOf result = Runs follows out (terms (shape_of taken.app)) (make_run (shape_of taken.app) n) taken new asker' asker'' between after result

  less : (less : ℕ) × (g.left ≡ suc less)
  less = some_left run g.left its_app.budget g.count fewer

  abbrev ReachesNow : SessionState → Type 0
  ReachesNow state = Reaches its_app old now before between (suc less.0) state

  reached : (state : SessionState) → StandsWholly its_app old.kept state → ReachesNow state
  reached state stands = subst (λ left. Reaches its_app old now before between left state) less.1 (g.reaches state stands)

  next_of : (state : SessionState) (r : ReachesNow state) → next_waiting its_app r.current ≡ Some n
  next_of state r =
      let its : IsSet its_app now.pending = subst (λ (h : Held). IsSet (shape_of h) now.pending) g.app set in
      let knows : KnowsWaiting its_app now.kept now.pending = subst (λ (h : Held). KnowsWaiting (shape_of h) now.kept now.pending) g.app g.rests.ready.waiting in
      next_alike its_app now.kept r.current r.stepped.stands now.pending its.priorities its.waits knows n next

  app_taken : taken.app ≡ old.app
  app_taken = ap (λ (w : Working). w.app) same ∙ g.app

  run_old : (result : Result (Option (List ℕ)) Memory) → RunsOf result → (state : SessionState) → StandsWholly its_app now.kept state
      → RunsIn its_app (with_waits p now) new between after state (make_run its_app n state) result
  run_old result runs =
      subst (λ (h : Held). (state : SessionState) → StandsWholly (shape_of h) now.kept state → RunsIn (shape_of h) (with_waits p now) new between after state (make_run (shape_of h) n state) result) g.app
      (subst (λ (w : Working). (state : SessionState) → StandsWholly (shape_of w.app) w.kept state → RunsIn (shape_of w.app) w new between after state (make_run (shape_of w.app) n state) result) same runs.runs)

  within_old : (result : Result (Option (List ℕ)) Memory) → RunsOf result → after + less.0 * most_of_run its_app ≤ before + most_bodies its_app
  within_old result runs =
      let now_within : between + suc less.0 * most_of_run its_app ≤ before + most_bodies its_app = subst (λ left. between + left * most_of_run its_app ≤ before + most_bodies its_app) less.1 g.within in
      let one : after ≤ between + most_of_run its_app = subst (λ (h : Held). after ≤ between + most_of_run (shape_of h)) app_taken runs.within in
      let more = suc_times less.0 (most_of_run its_app) in
      omega (now_within, one, more, arith)

  queues_old : Queues taken new → Queues old new
  queues_old q =
      let behind : Queues (with_waits p now) new = subst (λ (w : Working). Queues w new) same q in
      queues_chain old now new g.queues (record { started = behind.started; jobs = behind.jobs; starts = behind.starts })

  pub goes_on : (o : Option (List ℕ)) → o ≡ None → RunsOf (Ok o) → Goes follows out old new asker asker'' before after (run + 1)
  goes_on o is run_of_o = let runs : RunsOf (Ok None) = subst (λ z. RunsOf (Ok z)) is run_of_o in record {
    left = less.0;
    count = let count = g.count in let one = less.1 in omega (count, one, arith);
    app = runs.app ∙ app_taken;
    reaches = λ state stands.
        let r = reached state stands in
        reaches_on its_app old now new p before between after less.0 n state r (next_of state r) (run_old (Ok None) runs r.current r.stepped.stands);
    within = within_old (Ok None) runs;
    rests = runs.goes_on;
    queues = queues_old runs.queues;
    succeeds = chains asker asker' asker'' g.succeeds runs.succeeds;
    leaves = runs.leaves;
  }

  pub passes_failure : (why : List ℕ) (o : Option (List ℕ)) → o ≡ Some why → RunsOf (Ok o) → Passes follows out (flush its_app) old new asker asker'' before after (Ok (end.ObserverFailed why))
  passes_failure why o is run_of_o = let runs : RunsOf (Ok (Some why)) = subst (λ z. RunsOf (Ok z)) is run_of_o in record {
    app = runs.app ∙ app_taken;
    passes = λ state stands.
        let r = reached state stands in
        reaches_failure its_app old now new p before between after less.0 n state r (next_of state r) why (run_old (Ok (Some why)) runs r.current r.stepped.stands);
    within = let within = within_old (Ok (Some why)) runs in omega (within, arith);
    rests = λ e same_end. subst (RestsAfter new) (ok_is same_end) tt;
    queues = queues_old runs.queues;
    succeeds = chains asker asker' asker'' g.succeeds runs.succeeds;
    leaves = runs.leaves;
  }

  pub passes_memory : (e said : Memory) → RunsOf (Err e) → Passes follows out (flush its_app) old new asker asker'' before after (Err said)
  passes_memory e said runs = record {
    app = runs.app ∙ app_taken;
    passes = λ state stands.
        let r = reached state stands in
        reaches_memory its_app old now new p before between after less.0 n state r (next_of state r) e (run_old (Err e) runs r.current r.stepped.stands);
    within = let within = within_old (Err e) runs in omega (within, arith);
    rests = λ f is. absurd cc;
    queues = tt;
    succeeds = chains asker asker' asker'' g.succeeds runs.succeeds;
    leaves = runs.leaves;
  }

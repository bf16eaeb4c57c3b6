-- The run of an output, as a step of a session's work.
use Rattle.std.proofs.Common.{◌≡◌, inl, inr, ◌⊎◌, ◌<◌, ℕ, zero, suc, ◌+◌, Bool, true, false, List, [], ◌∷◌, ◌++◌, map, length, get_or, Option, Some, None, Result, Ok, Err, refl, sym, ap, ◌∙◌, subst, arith}
use Rattle.std.specs.Prelude.{not, ◌&&◌, ◌||◌, slice_get, slice_set, unwrap_or}
use Rattle.std.proofs.lemmas.Bool.Decides.{eqb_tells}
use Rattle.std.proofs.lemmas.List.{append-nil}
use Rattle.rx_value.specs.declared.memory.Memory.{Memory}
use Rattle.rx_value.specs.declared.outcome.Outcome.{Outcome}
use Rattle.app_tree.specs.Held.{Held}
use Rattle.app_tree.specs.Tree.{Node, input, value, task, reactive, event, text, plot, observe, on, Shape}
use Rattle.app_tree.specs.Numbering.{SourceNumbers, readers, reader, is_output, is_evaluated}
use Rattle.app_tree.specs.View.{shape_of}
use Rattle.app_laws.specs.Proper.{IsProper}
use Rattle.dep_graph.specs.MarkedReaders.{MarkedReaders}
use Rattle.session_model.specs.State.{SessionState}
use Rattle.session_model.specs.Flush.{is_observer_at, Run, RunResult, failure_by, output_result, make_by, make_run}
use Rattle.session_model.specs.Run.{ReaderRun, run_reader}
use Rattle.session_model.specs.Standing.{KeptSession, KeptOutput, first_output, kept_reader, kept_output, missing_readers}
use Rattle.session_model.specs.Texts.{output_of_run}
use Rattle.session_laws.proofs.Running.{no_expression}
use Rattle.session_laws.proofs.States.{get_mapped}
use Rattle.session_steps.specs.Keeping.{lives}
use Rattle.session_steps.specs.Bringing.{running, Brings, Begins}
use Rattle.session_steps.proofs.BodiesOnce.{no_more_than_readers}
use Rattle.react_session.specs.Forcing.{is_output_at, Forced, Broken, Forces}
use Rattle.react_session.specs.Keeping.{Keeping}
use Rattle.pending_set.specs.Waiting.{Waiting, waits_at}
use Rattle.task_board.specs.Board.{TaskBoard}
use Rattle.task_board.specs.declared.job.Job.{Job}
use Rattle.term_eval.specs.Lent.{Lent}
use Rattle.flush_cycle.specs.Flushing.{Stepped}
use Rattle.flush_cycle.specs.Waits.{is_wanted_at, waits_in}
use Rattle.flush_cycle.specs.declared.output.OutputState.{OutputState}
use Rattle.flush_cycle.specs.declared.report.Made.{Made}
use Rattle.flush_cycle.specs.inner.Observing.{IsOutputNamed}
use Rattle.flush_cycle.specs.inner.Roles.{output_seen}
use Rattle.flush_cycle.specs.Working.{Working, KnowsWaiting}
use Rattle.flush_cycle.specs.inner.Parts.{IsHeld}
use Rattle.flush_cycle.specs.inner.Acting.{IsWithin, Ran, Runs, IsNext}
use Rattle.flush_cycle.proofs.Deriving.{brings_size, begins_size, brings_lives, brings_others}
use Rattle.flush_cycle.proofs.LeavesShown.{same_map}
use Rattle.flush_cycle.proofs.SessionSteps.{starts_none, waits_as_before, waits_no_more, within_once, within_all}
use Rattle.flush_cycle.proofs.Stepping.{IsNode, output_of, output_alone, with_session, with_output, OutputSteps, output_steps, output_begun}

-- ---- what an output's name tells

pub named_output : (name : List ℕ) (plotted : Bool) (at : Option Node) → IsOutputNamed name plotted at → is_output_at at ≡ true
named_output name plotted None h = absurd h
named_output name plotted (Some (input called start)) h = absurd h
named_output name plotted (Some (value called start)) h = absurd h
named_output name plotted (Some (task called parameters body)) h = absurd h
named_output name plotted (Some (reactive called keys body)) h = absurd h
named_output name plotted (Some (event called flags e body)) h = absurd h
named_output name plotted (Some (text called shown)) h = refl
named_output name plotted (Some (plot called shown)) h = refl
named_output name plotted (Some (observe called priority block)) h = absurd h
named_output name plotted (Some (on called priority flags e block)) h = absurd h

told_output : (name : List ℕ) (plotted : Bool) (at : Option Node) → IsOutputNamed name plotted at → (run : Run)
    → output_of_run at run ≡ record { name = name; plot = plotted; outcome = run.outcome } ∷ []
told_output name plotted None h run = absurd h
told_output name plotted (Some (input called start)) h run = absurd h
told_output name plotted (Some (value called start)) h run = absurd h
told_output name plotted (Some (task called parameters body)) h run = absurd h
told_output name plotted (Some (reactive called keys body)) h run = absurd h
told_output name plotted (Some (event called flags e body)) h run = absurd h
told_output name plotted (Some (text called shown)) h run = (λ z. record { name = sym h.0 z; plot = sym h.1 z; outcome = run.outcome } ∷ [])
told_output name plotted (Some (plot called shown)) h run = (λ z. record { name = sym h.0 z; plot = sym h.1 z; outcome = run.outcome } ∷ [])
told_output name plotted (Some (observe called priority block)) h run = absurd h
told_output name plotted (Some (on called priority flags e block)) h run = absurd h

-- ---- the parts of the work

map_at : {A B : Type 0} (f : A → B) (xs : List A) (n : ℕ) (x y : A) → y ≡ get_or xs n y → f x ≡ f y → map f (slice_set xs n x) ≡ map f xs
map_at f [] n x y is h = refl
map_at f (z ∷ xs) zero x y is h = ap (λ v. v ∷ map f xs) (h ∙ ap f is)
map_at f (z ∷ xs) (suc n) x y is h = ap (λ l. f z ∷ l) (map_at f xs n x y is h)

map_set : {A B : Type 0} (f : A → B) (xs : List A) (n : ℕ) (x : A) → map f (slice_set xs n x) ≡ slice_set (map f xs) n (f x)
map_set f [] n x = refl
map_set f (z ∷ xs) zero x = refl
map_set f (z ∷ xs) (suc n) x = ap (λ l. f z ∷ l) (map_set f xs n x)

seen_at : {A B : Type 0} (f : A → B) (d : B) (xs : List A) (n : ℕ) (y : A) → n < length xs → y ≡ get_or xs n y → unwrap_or (slice_get (map f xs) n) d ≡ f y
seen_at f d [] n y h is = absurd (omega (h, arith))
seen_at f d (z ∷ xs) zero y h is = sym (ap f is)
seen_at f d (z ∷ xs) (suc n) y h is = seen_at f d xs n y (omega (h, arith)) is

pub mapped_size : {A B C : Type 0} (f : A → C) (g : B → C) (xs : List A) (ys : List B) → map f xs ≡ map g ys → length xs ≡ length ys
mapped_size f g xs ys h = sym (sizes f xs) ∙ ap length h ∙ sizes g ys
  where
    sizes : {A C : Type 0} (f : A → C) (xs : List A) → length (map f xs) ≡ length xs
    sizes f [] = refl
    sizes f (x ∷ xs) = ap suc (sizes f xs)

-- the last outcome of a reader is noted
pub noted_seen : (outputs : List OutputState) (n : ℕ) (now : OutputState) (outcome : Outcome) → n < length outputs → now ≡ get_or outputs n now
    → map output_seen (slice_set outputs n (record now { last = Some outcome }))
    ≡ slice_set (map output_seen outputs) n (record (unwrap_or (slice_get (map output_seen outputs) n) first_output) { last = Some outcome })
noted_seen outputs n now outcome within is =
    map_set output_seen outputs n (record now { last = Some outcome })
    ∙ ap (λ (o : KeptOutput). slice_set (map output_seen outputs) n (record o { last = Some outcome })) (sym (seen_at output_seen first_output outputs n now within is))

pub held_noted : {held : Held} {numbers : SourceNumbers} {first : ℕ} {session : Keeping} {outputs : List OutputState} {boards : List TaskBoard} {pending : Waiting} {marked : MarkedReaders} {jobs : List Job}
    → IsHeld held numbers first session outputs boards pending marked jobs → (n : ℕ) (now : OutputState) (outcome : Outcome) → now ≡ get_or outputs n now
    → IsHeld held numbers first session (slice_set outputs n (record now { last = Some outcome })) boards pending marked jobs
held_noted {outputs = outputs} h n now outcome is = record {
  proper = h.proper;
  numbers_are = h.numbers_are;
  first_is = h.first_is;
  app = h.app;
  sources = h.sources;
  contexts = h.contexts;
  roles = map_at (λ o. o.role) outputs n (record now { last = Some outcome }) now is refl ∙ h.roles;
  priorities = h.priorities;
  waits = h.waits;
  room = h.room;
  tasks = h.tasks;
  boards_fit = h.boards_fit;
  jobs_fit = h.jobs_fit;
}

-- ---- the bodies

broken_of : (app : Shape) (n : ℕ) (s s' : KeptSession) (earlier later : ℕ) (result : Result Outcome Memory) → Forces app running n s s' earlier later result → Broken app running n s s' earlier later
broken_of app n s s' earlier later (Ok outcome) f = record { bodies = f.0.bodies; begins = inl f.0.brings; counts = f.0.counts }
broken_of app n s s' earlier later (Err e) f = f

pub broken_in : (one other : Held) → one ≡ other → (n : ℕ) (s s' : KeptSession) (earlier later : ℕ) (result : Result Outcome Memory)
    → Forces (shape_of one) running n s s' earlier later result → Broken (shape_of other) running n s s' earlier later
broken_in one other is n s s' earlier later result f =
    subst (λ (h : Held). Broken (shape_of h) running n s s' earlier later) is (broken_of (shape_of one) n s s' earlier later result f)

pub forces_size : (app : Shape) (n : ℕ) (s s' : KeptSession) (earlier later : ℕ) (result : Result Outcome Memory) → Forces app running n s s' earlier later result → length s'.readers ≡ length s.readers
forces_size app n s s' earlier later result f = by (broken_of app n s s' earlier later result f).begins
  where
    by : {bodies : List ℕ} → Brings app running bodies n s s' ⊎ Begins app running bodies n s s' → length s'.readers ≡ length s.readers
    by (inl b) = brings_size app running _ n s s' b
    by (inr b) = begins_size app running _ n s s' b

module _ (old : Working) (proper : IsProper (shape_of old.app)) (contexts : length old.kept.session.readers ≡ length (readers (shape_of old.app)))
    (n : ℕ) (next : IsNext n old) (output : is_output_at (reader (shape_of old.app) n) ≡ true) (after : KeptSession) (earlier later : ℕ) where
  abbrev app : Shape
  app = shape_of old.app

  i : IsNode app n is_output
  i = output_of app n output

  evaluated : is_evaluated i.node ≡ true
  evaluated = ap (λ b. b || is_output i.node) (no_expression i.node i.kind_is) ∙ i.kind_is

  within : Broken app running n old.kept.session after earlier later → IsWithin app 1 earlier later
  within b = within_once earlier later (length b.bodies) (length (readers app)) b.counts
      (no_more_than_readers app proper old.kept.session after contexts n i.node i.is evaluated running b.bodies b.begins)

  -- ---- memory was wanting

  pub output_lost : {S : Type 0} (follows : S → S → Type 0) (out : S → List Lent) (asker asker' : S) (new : Working) → new.app ≡ old.app
      → Broken app running n old.kept.session after earlier later → follows asker' asker → out asker' ≡ [] → (e : Memory)
      → Runs follows out 1 (make_run app n) old new asker asker' earlier later (Err e)
  output_lost follows out asker asker' new same b succeeds leaves e = record {
    app = same;
    runs = λ state stands.
        within_all earlier later (length b.bodies) ((make_run app n state).bodies + missing_readers app old.kept.session state) b.counts
        (output_begun app proper old.kept after state stands n output b.bodies b.begins);
    within = within b;
    goes_on = tt;
    queues = tt;
    succeeds = succeeds;
    leaves = leaves;
  }

  -- ---- it was run, and noted

  module _ (outcome : Outcome) (f : Forced app running n old.kept.session after earlier later) (keeps : outcome ≡ (kept_reader after n).outcome)
      (name : List ℕ) (plotted : Bool) (named : IsOutputNamed name plotted (reader app n)) (whole : Bool) (is_whole : whole ≡ true) (still : after.running ≡ old.kept.session.running) where
    abbrev pub noted_made : Made
    noted_made = record {
      runs = old.made.runs ++ n ∷ [];
      batch = record { outputs = old.made.batch.outputs ++ record { name = name; plot = plotted; outcome = outcome } ∷ []; messages = old.made.batch.messages };
    }

    abbrev pub noted : Working
    noted = record old { kept = with_output n outcome after old.kept; made = noted_made; whole = whole }

    shown_same : (m : ℕ) → (kept_output noted.kept m).shown ≡ (kept_output old.kept m).shown
    shown_same m =
        sym (get_mapped (λ (o : KeptOutput). o.shown) first_output (slice_set old.kept.outputs n (record (kept_output old.kept n) { last = Some outcome })) m)
        ∙ ap (λ l. unwrap_or (slice_get l m) false) (same_map (λ (o : KeptOutput). o.shown) first_output old.kept.outputs n (record (kept_output old.kept n) { last = Some outcome }) refl)
        ∙ get_mapped (λ (o : KeptOutput). o.shown) first_output old.kept.outputs m

    waits_same : (m : ℕ) → waits_in app noted.kept m ≡ waits_in app (with_session after old.kept) m
    waits_same m = ap (λ b. is_wanted_at (reader app m) b && not (lives after m)) (shown_same m)

    waiting : KnowsWaiting app noted.kept old.pending
    waiting m within = elim (eqb_tells m n) [
      | inl p ↦ subst (λ z. waits_at old.pending z ≡ waits_in app noted.kept z) (sym p.1)
          (next.taken ∙ sym (waits_no_more app noted.kept n (brings_lives app f.bodies n old.kept.session after (subst (λ z. n < z) (sym contexts) next.known) f.brings)))
      | inr p ↦ next.others m within p.1
          ∙ sym (waits_same m ∙ waits_as_before app old.kept after m (brings_others app proper running f.bodies n i.node old.kept.session after i.is evaluated f.brings m p.1))
    ]

    observer_none : is_observer_at (reader app n) ≡ false
    observer_none = ap is_observer_at i.is ∙ output_alone i.node i.kind_is

    ran_so : (state : SessionState) (run : ReaderRun) → OutputSteps app old.kept n after (length f.bodies) state (output_result n run) outcome → Ran app old noted earlier later state (output_result n run) None
    ran_so state run s = record {
      stepped = subst (λ z. Stepped app old.kept noted.kept earlier z state (output_result n run).state run.bodies) (sym f.counts) (s.stepped earlier);
      failure = ap (λ b. failure_by b run.outcome) (sym observer_none);
      told = (λ z. record {
        runs = old.made.runs ++ n ∷ [];
        batch = record {
          outputs = old.made.batch.outputs ++ (told_so run s z ++ []);
          messages = sym (append-nil old.made.batch.messages) z;
        };
      });
    }
      where
        told_so : (run : ReaderRun) → OutputSteps app old.kept n after (length f.bodies) state (output_result n run) outcome
            → record { name = name; plot = plotted; outcome = outcome } ∷ [] ≡ output_of_run (reader app n) (record { number = n; outcome = run.outcome; messages = [] })
        told_so run s =
            ap (λ o. record { name = name; plot = plotted; outcome = o } ∷ []) s.comes
            ∙ sym (told_output name plotted (reader app n) named (record { number = n; outcome = run.outcome; messages = [] }))

    made_by_output : (state : SessionState) → output_result n (run_reader app n state) ≡ make_run app n state
    made_by_output state = ap (λ b. make_by b app n state) (sym observer_none)

    pub output_ran : {S : Type 0} (follows : S → S → Type 0) (out : S → List Lent) (asker asker' : S) → follows asker' asker → out asker' ≡ []
        → Runs follows out 1 (make_run app n) old noted asker asker' earlier later (Ok None)
    output_ran follows out asker asker' succeeds leaves = record {
      app = refl;
      runs = λ state stands.
          subst (λ (r : RunResult). Ran app old noted earlier later state r None) (made_by_output state)
          (ran_so state (run_reader app n state)
          (subst (λ (r : RunResult). OutputSteps app old.kept n after (length f.bodies) state r outcome) (sym (made_by_output state))
          (output_steps app proper old.kept after state stands n output f.bodies f.brings outcome keeps)));
      within = within (record { bodies = f.bodies; begins = inl f.brings; counts = f.counts });
      goes_on = record { ready = record { whole = is_whole; waiting = waiting }; none_runs = still ∙ next.none_runs };
      queues = record { started = []; jobs = sym (append-nil old.jobs); starts = starts_none old.kept.boards };
      succeeds = succeeds;
      leaves = leaves;
    }

-- ---- of the work that is seen

pub run_lost : {S : Type 0} {follows : S → S → Type 0} {out : S → List Lent} {asker asker' : S} {n : ℕ} {seen old new : Working} {earlier later : ℕ} {result : Result (Option (List ℕ)) Memory} {after : KeptSession}
    → seen ≡ old → IsProper (shape_of seen.app) → length seen.kept.session.readers ≡ length (readers (shape_of seen.app)) → IsNext n old → is_output_at (reader (shape_of old.app) n) ≡ true
    → new.app ≡ seen.app → Broken (shape_of seen.app) running n seen.kept.session after earlier later → follows asker' asker → out asker' ≡ [] → (e : Memory) → result ≡ Err e
    → Runs follows out 1 (make_run (shape_of old.app) n) old new asker asker' earlier later result
run_lost {follows = follows} {out = out} {asker = asker} {asker' = asker'} {n = n} {seen = seen} {new = new} {earlier = earlier} {later = later} {result = result} {after = after} is proper contexts next output same b succeeds leaves e err =
    subst (λ (old : Working). IsNext n old → is_output_at (reader (shape_of old.app) n) ≡ true → Runs follows out 1 (make_run (shape_of old.app) n) old new asker asker' earlier later result) is
    (λ next output. subst (Runs follows out 1 (make_run (shape_of seen.app) n) seen new asker asker' earlier later) (sym err)
    (output_lost seen proper contexts n next output after earlier later follows out asker asker' new same b succeeds leaves e)) next output

pub run_noted : {S : Type 0} {follows : S → S → Type 0} {out : S → List Lent} {asker asker' : S} {n : ℕ} {seen old new : Working} {earlier later : ℕ} {result : Result (Option (List ℕ)) Memory} {after : KeptSession}
    → seen ≡ old → IsProper (shape_of seen.app) → length seen.kept.session.readers ≡ length (readers (shape_of seen.app)) → IsNext n old
    → (outcome : Outcome) → Forced (shape_of seen.app) running n seen.kept.session after earlier later → outcome ≡ (kept_reader after n).outcome
    → (name : List ℕ) (plotted : Bool) → IsOutputNamed name plotted (reader (shape_of old.app) n) → (whole : Bool) → whole ≡ true → after.running ≡ seen.kept.session.running
    → follows asker' asker → out asker' ≡ []
    → record seen {
      kept = with_output n outcome after seen.kept;
      made = record {
        runs = seen.made.runs ++ n ∷ [];
        batch = record { outputs = seen.made.batch.outputs ++ record { name = name; plot = plotted; outcome = outcome } ∷ []; messages = seen.made.batch.messages };
      };
      whole = whole;
    } ≡ new
    → result ≡ Ok None → Runs follows out 1 (make_run (shape_of old.app) n) old new asker asker' earlier later result
run_noted {follows = follows} {out = out} {asker = asker} {asker' = asker'} {n = n} {seen = seen} {new = new} {earlier = earlier} {later = later} {result = result} {after = after} is proper contexts next outcome f keeps name plotted named whole is_whole still succeeds leaves new_is ok =
    subst (λ (old : Working). IsNext n old → IsOutputNamed name plotted (reader (shape_of old.app) n) → Runs follows out 1 (make_run (shape_of old.app) n) old new asker asker' earlier later result) is
    (λ next named. subst (Runs follows out 1 (make_run (shape_of seen.app) n) seen new asker asker' earlier later) (sym ok)
    (subst (λ (new : Working). Runs follows out 1 (make_run (shape_of seen.app) n) seen new asker asker' earlier later (Ok None)) new_is
    (output_ran seen proper contexts n next (named_output name plotted (reader (shape_of seen.app) n) named) after earlier later outcome f keeps name plotted named whole is_whole still follows out asker asker' succeeds leaves))) next named

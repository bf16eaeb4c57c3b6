-- The steps of an observer's run, as steps of a session's work.
use Rattle.std.proofs.Common.{◌≡◌, inl, inr, ◌≤◌, ◌<◌, ℕ, ◌+◌, ◌*◌, Bool, true, false, List, [], length, Option, Some, None, Result, Ok, Err, refl, sym, ap, ◌∙◌, subst, arith}
use Rattle.std.specs.Prelude.{not, ◌&&◌, is_ok, OnOk}
use Rattle.std.proofs.lemmas.Bool.Decides.{eqb_tells}
use Rattle.std.proofs.lemmas.List.{append-nil}
use Rattle.rx_value.specs.declared.memory.Memory.{Memory}
use Rattle.rx_value.specs.declared.outcome.Outcome.{Outcome}
use Rattle.rx_value.specs.declared.outcome.Outcome.TheVariants as o
use Rattle.shiny_json.specs.declared.message.Pair.{Pair}
use Rattle.app_tree.specs.Held.{Held}
use Rattle.app_tree.specs.Tree.{Tree, Node, input, value, task, reactive, event, text, plot, observe, on, Shape, perform}
use Rattle.app_tree.specs.Numbering.{SourceNumbers, readers, reader, is_expression}
use Rattle.app_tree.specs.Fresh.{is_expression_at}
use Rattle.app_tree.specs.View.{shape_of}
use Rattle.app_laws.specs.Proper.{IsProper}
use Rattle.session_model.specs.State.{SessionState}
use Rattle.session_model.specs.Flush.{is_observer_at}
use Rattle.session_model.specs.Observing.{StatementsResult, run_statement}
use Rattle.session_model.specs.Standing.{KeptSession, KeptFlush, kept_output, missing_readers}
use Rattle.session_steps.specs.Keeping.{lives, IsAlike}
use Rattle.session_steps.specs.Acting.{begin_kept, finish_kept}
use Rattle.session_steps.proofs.BodiesListed.{distinct_none}
use Rattle.session_steps.proofs.BodiesTerms.{term_runs_no_more}
use Rattle.react_session.specs.Keeping.{Keeping}
use Rattle.react_session.specs.Terms.{TermComes}
use Rattle.dep_graph.specs.MarkedReaders.{MarkedReaders}
use Rattle.task_board.specs.Board.{TaskBoard}
use Rattle.task_board.specs.declared.job.Job.{Job}
use Rattle.term_eval.specs.Lent.{Lent}
use Rattle.pending_set.specs.Waiting.{Waiting, waits_at}
use Rattle.flush_cycle.specs.Flushing.{Stepped}
use Rattle.flush_cycle.specs.Waits.{is_wanted_at, waits_in}
use Rattle.flush_cycle.specs.declared.output.OutputState.{OutputState}
use Rattle.flush_cycle.specs.declared.report.Made.{Made}
use Rattle.flush_cycle.specs.Working.{Working, KnowsWaiting}
use Rattle.flush_cycle.specs.inner.Parts.{IsHeld}
use Rattle.flush_cycle.specs.inner.Statements.{IsTermOf}
use Rattle.flush_cycle.specs.inner.Acting.{MayAct, StartsMore, Queues, with_told, Observes, IsWithin, Acts, IsNext, Begins, Finishes}
use Rattle.flush_cycle.proofs.Deriving.{comes_size, until_size, comes_others, begin_lives, begin_others, finish_others}
use Rattle.flush_cycle.proofs.Stepping.{with_session, TermSteps, term_steps, term_begun, begin_follows, finish_follows}

-- with the session after a step, and whether all calls so far found their memory
abbrev pub with_step : KeptSession → Bool → Working → Working
with_step after whole w = record w { kept = with_session after w.kept; whole = whole }

-- ---- who waits

unwanted : (i : Node) (shown : Bool) → is_expression i ≡ true → is_wanted_at (Some i) shown ≡ false
unwanted (input name start) shown h = refl
unwanted (value name start) shown h = refl
unwanted (task name parameters body) shown h = refl
unwanted (reactive name keys body) shown h = refl
unwanted (event name flags e body) shown h = refl
unwanted (text name output) shown h = cc
unwanted (plot name output) shown h = cc
unwanted (observe name priority block) shown h = cc
unwanted (on name priority flags e block) shown h = cc

none_wanted : (at : Option Node) (shown b b' : Bool) → is_expression_at at ≡ true → (is_wanted_at at shown && not b) ≡ (is_wanted_at at shown && not b')
none_wanted None shown b b' h = cc
none_wanted (Some i) shown b b' h = ap (λ z. z && not b) (unwanted i shown h) ∙ sym (ap (λ z. z && not b') (unwanted i shown h))

-- it is as before where no reader but an expression has become alive, or is so no longer
pub waits_as_before : (app : Shape) (kept : KeptFlush) (after : KeptSession) (n : ℕ) → (is_expression_at (reader app n) ≡ false → lives after n ≡ lives kept.session n)
    → waits_in app (with_session after kept) n ≡ waits_in app kept n
waits_as_before app kept after n same = by (is_expression_at (reader app n)) refl
  where
    by : (b : Bool) → is_expression_at (reader app n) ≡ b → waits_in app (with_session after kept) n ≡ waits_in app kept n
    by true h = none_wanted (reader app n) (kept_output kept n).shown (lives after n) (lives kept.session n) h
    by false h = ap (λ b. is_wanted_at (reader app n) (kept_output kept n).shown && not b) (same h)

pub waits_no_more : (app : Shape) (kept : KeptFlush) (n : ℕ) → lives kept.session n ≡ true → waits_in app kept n ≡ false
waits_no_more app kept n h = by (is_wanted_at (reader app n) (kept_output kept n).shown) (lives kept.session n) h
  where
    by : (w b : Bool) → b ≡ true → (w && not b) ≡ false
    by true true q = refl
    by true false q = cc
    by false b q = refl

observer_no_expression : (at : Option Node) → is_observer_at at ≡ true → is_expression_at at ≡ false
observer_no_expression None h = refl
observer_no_expression (Some (input name start)) h = refl
observer_no_expression (Some (value name start)) h = refl
observer_no_expression (Some (task name parameters body)) h = refl
observer_no_expression (Some (reactive name keys body)) h = cc
observer_no_expression (Some (event name flags e body)) h = cc
observer_no_expression (Some (text name output)) h = refl
observer_no_expression (Some (plot name output)) h = refl
observer_no_expression (Some (observe name priority block)) h = refl
observer_no_expression (Some (on name priority flags e block)) h = refl

-- no task was started
pub starts_none : (boards : List TaskBoard) → StartsMore boards boards []
starts_none boards = record {
  starts = record { each = tt; once = distinct_none; all = λ task running h. inl h };
  stays = λ task running h. h;
}

-- ---- what holds of the work's parts

-- a call of the session leaves it
pub held_after : {held : Held} {numbers : SourceNumbers} {first : ℕ} {session : Keeping} {outputs : List OutputState} {boards : List TaskBoard} {pending : Waiting} {marked : MarkedReaders} {jobs : List Job}
    → IsHeld held numbers first session outputs boards pending marked jobs → (after : Keeping) → after.app ≡ session.app → after.session.values ≡ session.session.values
    → length after.session.readers ≡ length session.session.readers → IsHeld held numbers first after outputs boards pending marked jobs
held_after h after app values size = record {
  proper = h.proper;
  numbers_are = h.numbers_are;
  first_is = h.first_is;
  app = app ∙ h.app;
  sources = ap length values ∙ h.sources;
  contexts = size ∙ h.contexts;
  roles = h.roles;
  priorities = h.priorities;
  waits = h.waits;
  room = h.room;
  tasks = h.tasks;
  boards_fit = h.boards_fit;
  jobs_fit = h.jobs_fit;
}

pub term_size : (app : Shape) (n : ℕ) (isolated : Bool) (t : Tree) (s s' : KeptSession) (earlier later : ℕ) (result : Result Outcome Memory)
    → TermComes app n isolated t s s' earlier later result → length s'.readers ≡ length s.readers
term_size app n isolated t s s' earlier later (Ok outcome) comes = comes_size app n isolated t comes.bodies s s' outcome comes.comes
term_size app n isolated t s s' earlier later (Err e) comes = until_size app n t comes.bodies s s' comes.comes

-- ---- a term

pub within_once : (before after bodies most : ℕ) → after ≡ before + bodies → bodies ≤ most → after ≤ before + most * 1
within_once before after bodies most counts h = omega (counts, h, arith)

pub within_all : (before after bodies most : ℕ) → after ≡ before + bodies → bodies ≤ most → after ≤ before + most
within_all before after bodies most counts h = omega (counts, h, arith)

-- where no message was said, none more is told
told_none : (made : Made) (messages : List Pair) → messages ≡ [] → made ≡ with_told messages made
told_none made messages none =
    (λ z. record { runs = made.runs; batch = record { outputs = made.batch.outputs; messages = sym (append-nil made.batch.messages) z } })
    ∙ (λ z. with_told (sym none z) made)

module _ (old : Working) (proper : IsProper (shape_of old.app)) (contexts : length old.kept.session.readers ≡ length (readers (shape_of old.app)))
    (n : ℕ) (may : MayAct n old) (isolated : Bool) (t : Tree) (own : IsTermOf (shape_of old.app) t)
    (after : KeptSession) (whole : Bool) (running : after.running ≡ old.kept.session.running) (earlier later : ℕ) where
  abbrev app : Shape
  app = shape_of old.app

  abbrev new : Working
  new = with_step after whole old

  abbrev step : SessionState → StatementsResult
  step state = run_statement app n isolated (perform t) state

  term_observes : (result : Result Outcome Memory) → TermComes app n isolated t old.kept.session after earlier later result → Observes app old new earlier later step result
  term_observes (Ok outcome) comes state stands =
      let s : TermSteps app old.kept after (length comes.bodies) state (step state) outcome = term_steps app proper old.kept after state stands n may.observer isolated t own comes.bodies outcome comes.comes in
      record {
        stepped = subst (λ z. Stepped app old.kept new.kept earlier z state (step state).state (step state).bodies) (sym comes.counts) (s.stepped earlier);
        comes = s.comes;
        told = told_none old.made (step state).messages s.silent;
      }
  term_observes (Err e) comes state stands =
      within_all earlier later (length comes.bodies) ((step state).bodies + missing_readers app old.kept.session state) comes.counts
      (term_begun app proper old.kept after state stands n may.observer isolated t own comes.bodies comes.comes)

  term_within : (result : Result Outcome Memory) → TermComes app n isolated t old.kept.session after earlier later result → IsWithin app 1 earlier later
  term_within (Ok outcome) comes =
      within_once earlier later (length comes.bodies) (length (readers app)) comes.counts (term_runs_no_more app proper old.kept.session after contexts n isolated t own.reads comes.bodies outcome (inl comes.comes))
  term_within (Err e) comes =
      within_once earlier later (length comes.bodies) (length (readers app)) comes.counts (term_runs_no_more app proper old.kept.session after contexts n isolated t own.reads comes.bodies o.Stop (inr comes.comes))

  goes_on : (result : Result Outcome Memory) → TermComes app n isolated t old.kept.session after earlier later result → whole ≡ is_ok result → OnOk result (MayAct n new)
  goes_on (Ok outcome) comes h = record {
    ready = record {
      whole = h;
      waiting = λ m within.
          may.ready.waiting m within
          ∙ sym (waits_as_before app old.kept after m (comes_others app proper n isolated t comes.bodies old.kept.session after outcome (observer_no_expression (reader app n) may.observer) own.reads comes.comes m));
    };
    runs = running ∙ may.runs;
    observer = may.observer;
  }
  goes_on (Err e) comes h = tt

  queues_none : (result : Result Outcome Memory) → OnOk result (Queues old new)
  queues_none (Ok outcome) = record { started = []; jobs = sym (append-nil old.jobs); starts = starts_none old.kept.boards }
  queues_none (Err e) = tt

  pub term_acts : {S : Type 0} (follows : S → S → Type 0) (out : S → List Lent) (asker asker' : S) (result : Result Outcome Memory)
      → TermComes app n isolated t old.kept.session after earlier later result → whole ≡ is_ok result → follows asker' asker → out asker' ≡ []
      → Acts follows out n 1 step old new asker asker' earlier later result
  term_acts follows out asker asker' result comes h succeeds leaves = record {
    app = refl;
    observes = term_observes result comes;
    within = term_within result comes;
    goes_on = goes_on result comes h;
    queues = queues_none result;
    succeeds = succeeds;
    leaves = leaves;
  }

-- ---- the beginning of an observer's run, and its end

pub begins_run : (old : Working) → IsProper (shape_of old.app) → length old.kept.session.readers ≡ length (readers (shape_of old.app)) → (n : ℕ) → IsNext n old
    → is_observer_at (reader (shape_of old.app) n) ≡ true → (after : KeptSession) (whole : Bool) → whole ≡ true → IsAlike (begin_kept n old.kept.session) after
    → Begins n old (with_step after whole old)
begins_run old proper contexts n next observer after whole h alike = record {
  app = refl;
  moves = λ state stands. begin_follows app proper old.kept after state stands n observer alike;
  may = record {
    ready = record { whole = h; waiting = waiting };
    runs = sym alike.running;
    observer = observer;
  };
  boards = refl;
  jobs = refl;
  made = refl;
}
  where
    app : Shape
    app = shape_of old.app

    waiting : KnowsWaiting app (with_session after old.kept) old.pending
    waiting m within = elim (eqb_tells m n) [
      | inl p ↦ subst (λ z. waits_at old.pending z ≡ waits_in app (with_session after old.kept) z) (sym p.1)
          (next.taken ∙ sym (waits_no_more app (with_session after old.kept) n (begin_lives n old.kept.session after (subst (λ z. n < z) (sym contexts) next.known) alike)))
      | inr p ↦ next.others m within p.1 ∙ sym (waits_as_before app old.kept after m (λ none. begin_others n old.kept.session after alike m p.1))
    ]

pub finishes_run : (old : Working) (n : ℕ) → MayAct n old → (after : KeptSession) (whole : Bool) → whole ≡ true → IsAlike (finish_kept old.kept.session) after
    → Finishes old (with_step after whole old)
finishes_run old n may after whole h alike = record {
  app = refl;
  moves = λ state stands. finish_follows (shape_of old.app) old.kept after state stands alike;
  rests = record {
    ready = record {
      whole = h;
      waiting = λ m within. may.ready.waiting m within ∙ sym (waits_as_before (shape_of old.app) old.kept after m (λ none. finish_others old.kept.session after alike m));
    };
    none_runs = sym alike.running;
  };
  boards = refl;
  jobs = refl;
  made = refl;
}

-- A task is started, and the invocation of one ends: the boards are changed first, and then what the task shows.
use Rattle.std.proofs.Common.{◌≡◌, ◌<◌, ℕ, ◌+◌, Bool, true, false, cond, List, [], ◌∷◌, Some, None, Ok, Err, slice_set, refl, sym, ap, ◌∙◌, subst, arith, append-nil}
use Rattle.std.specs.Prelude.{length, codes}
use Rattle.std.proofs.lemmas.List.{set-get_or}
use Rattle.rx_value.specs.declared.value.Value.{Value}
use Rattle.rx_value.specs.declared.value.Value.TheVariants as v
use Rattle.rx_value.specs.declared.outcome.Outcome.{Outcome}
use Rattle.rx_value.specs.declared.outcome.Outcome.TheVariants.{Val, Fail}
use Rattle.rx_value.specs.declared.memory.Memory.{Memory}
use Rattle.rx_value.specs.declared.source.SourceValue.{SourceValue}
use Rattle.rx_value.specs.declared.source.SourceValue.TheVariants.{Task}
use Rattle.rx_value.specs.declared.source.TaskView.{TaskView}
use Rattle.rx_value.specs.declared.source.TaskView.TheVariants as view
use Rattle.rx_value.specs.Value.{source_eq}
use Rattle.app_tree.specs.View.{shape_of}
use Rattle.app_tree.specs.Tree.{Shape}
use Rattle.app_tree.specs.Trace.{Every}
use Rattle.app_tree.specs.Tasks.{task_outcome}
use Rattle.app_tree.specs.Current.{value_at}
use Rattle.task_board.specs.declared.job.Invocation.{Invocation}
use Rattle.task_board.specs.declared.job.Job.{Job}
use Rattle.task_board.specs.declared.job.Invoked.{Invoked}
use Rattle.task_board.specs.declared.job.Invoked.TheVariants.{Started, Queued, QueueFull}
use Rattle.task_board.specs.declared.job.Ended.{Ended}
use Rattle.task_board.specs.declared.job.Ended.TheVariants.{Next, Quiet}
use Rattle.task_board.specs.Board.{TaskBoard, idle, board_at, AfterInvoke, AfterEnd, next_job, invocation_result, end_result}
use Rattle.session_model.specs.State.{SessionState}
use Rattle.session_model.specs.Change.{change, with_source_value}
use Rattle.session_model.specs.Tasks.{first_task, with_board, ended_view, see_task, with_end_shown, end_running, end_task}
use Rattle.session_model.specs.Observing.{StatementsResult, after_invoke, invoke_task}
use Rattle.session_model.specs.Standing.{KeptFlush, StandsWholly}
use Rattle.flush_cycle.specs.Flushing.{Stepped}
use Rattle.flush_cycle.specs.Jobs.{IsStarted, Starts}
use Rattle.flush_cycle.specs.declared.report.Made.{Made}
use Rattle.flush_cycle.specs.inner.Acting.{Follows, Moves, Moved, with_told, Observed, Does, EndsTask}
use Rattle.flush_cycle.specs.inner.Tasking.{with_boards, with_job, IsInvoked, IsEnded}
use Rattle.flush_cycle.specs.Working.{Working, IsReady}
use Rattle.flush_cycle.specs.inner.Parts.{HasArguments, IsBoardOf}
use Rattle.flush_cycle.proofs.BesideStates.{IsBeside, stands_beside, missing_beside}
use Rattle.flush_cycle.proofs.MovedWork.{moves_on, moves_as}
use Rattle.flush_cycle.proofs.ChangedBoards.{starts_none, stays_by, starts_next, next_started, IsFirst, started_is, queued_is, full_is, IsLater, ended_next, ended_quiet}

-- ---- a board alone

board_beside : (t : ℕ) (b : TaskBoard) (state : SessionState) → IsBeside state (with_board t b state)
board_beside t b state = record { values = refl; isolated = refl; size = refl; dependencies = λ n. refl; sites = λ n. refl }

abbrev kept_with : List TaskBoard → KeptFlush → KeptFlush
kept_with boards kept = record kept { boards = boards }

board_moves : (app : Shape) (kept : KeptFlush) (t : ℕ) (b : TaskBoard) → Moves app kept (kept_with (slice_set kept.boards t b) kept) (with_board t b)
board_moves app kept t b state stands = record {
  stands = record {
    session = stands_beside app state (with_board t b state) (board_beside t b state) kept.session stands.session;
    size = stands.size;
    boards = ap (λ l. slice_set l t b) stands.boards;
    shown = stands.shown;
    last = stands.last;
  };
  missing = let same = missing_beside app state (with_board t b state) (board_beside t b state) kept.session in omega (same, arith);
}

-- a source and a board are changed in any order
change_beside : (s : ℕ) (x : SourceValue) (t : ℕ) (b : TaskBoard) (state : SessionState) → change s x (with_board t b state) ≡ with_board t b (change s x state)
change_beside s x t b state = by (source_eq (value_at state.values s) x)
  where
    by : (same : Bool) → cond same (with_board t b state) (with_source_value s x (with_board t b state)) ≡ with_board t b (cond same state (with_source_value s x state))
    by true = refl
    by false = refl

-- ---- an invocation

told_none : (made : Made) → made ≡ with_told [] made
told_none made = λ z. record { runs = made.runs; batch = record { outputs = made.batch.outputs; messages = sym (append-nil made.batch.messages) z } }

stepped_by : (app : Shape) (old new : KeptFlush) (state next : SessionState) → Follows app old new state next → Stepped app old new 0 0 state next 0
stepped_by app old new state next follows = record { stands = follows.stands; bound = let few = follows.missing in omega (few, arith) }

-- memory was wanting
pub does_not : (step : SessionState → StatementsResult) (old new : Working) (e : Memory) → new.app ≡ old.app
    → new.kept.session.running ≡ old.kept.session.running → Does step old new (Err e)
does_not step old new e app running = record { app = app; observes = λ state stands. omega arith; ready = tt; running = running; queues = tt }

observed_by : (app : Shape) (old new : Working) (state : SessionState) (r : StatementsResult) (next : SessionState) (outcome : Outcome)
    → r ≡ record { state = next; bodies = 0; messages = []; outcome = outcome } → new.made ≡ old.made
    → Follows app old.kept new.kept state next → Observed app old new 0 0 state r outcome
observed_by app old new state r next outcome is made follows =
    subst (λ (z : StatementsResult). Observed app old new 0 0 state z outcome) (sym is) (record {
      stepped = stepped_by app old.kept new.kept state next follows;
      comes = refl;
      told = made ∙ told_none old.made;
    })

module _ (t : ℕ) (args : List Value) (old : Working) (inside : t < length old.kept.boards) where
  abbrev after : AfterInvoke
  after = invocation_result t args (board_at old.kept.boards t)

  -- what the model comes to, by what is kept
  comes_to : (state : SessionState) → StandsWholly (shape_of old.app) old.kept state
      → invoke_task (shape_of old.app) t args state ≡ after_invoke (shape_of old.app) t after after.answer state
  comes_to state stands = ap (λ l. after_invoke (shape_of old.app) t (invocation_result t args (board_at l t)) (invocation_result t args (board_at l t)).answer state) (sym stands.boards)

  by_answer : (answer : Invoked) → after.answer ≡ answer → (state : SessionState) → StandsWholly (shape_of old.app) old.kept state
      → invoke_task (shape_of old.app) t args state ≡ after_invoke (shape_of old.app) t after answer state
  by_answer answer is state stands = comes_to state stands ∙ ap (λ a. after_invoke (shape_of old.app) t after a state) is

  abbrev invoked : Working
  invoked = with_boards (slice_set old.kept.boards t after.board) old

  ready_still : IsReady old → IsReady invoked
  ready_still ready = record { whole = ready.whole; waiting = ready.waiting }

  -- the arguments wait
  does_wait : IsReady old → after.answer ≡ Queued → Does (invoke_task (shape_of old.app) t args) old invoked (Ok (Val v.Null))
  does_wait ready is = record {
    app = refl;
    observes = λ state stands. observed_by (shape_of old.app) old invoked state (invoke_task (shape_of old.app) t args state) (with_board t after.board state) (Val v.Null)
        (by_answer Queued is state stands) refl (board_moves (shape_of old.app) old.kept t after.board state stands);
    ready = ready_still ready;
    running = refl;
    queues = record {
      started = [];
      jobs = sym (append-nil old.jobs);
      starts = record {
        starts = starts_none old.kept.boards t after.board inside (λ i runs. sym same ∙ runs);
        stays = stays_by old.kept.boards t after.board inside (λ i runs. same ∙ runs);
      };
    };
  }
    where
      same : after.board.running ≡ (board_at old.kept.boards t).running
      same = ap (λ (b : TaskBoard). b.running) (queued_is t args (board_at old.kept.boards t) is)

  -- or are lost
  does_refuse : IsReady old → after.answer ≡ QueueFull → (why : List ℕ) → why ≡ codes "task queue is full"
      → Does (invoke_task (shape_of old.app) t args) old invoked (Ok (Fail why))
  does_refuse ready is why text = record {
    app = refl;
    observes = λ state stands. observed_by (shape_of old.app) old invoked state (invoke_task (shape_of old.app) t args state) state (Fail why)
        (by_answer QueueFull is state stands ∙ ap (λ w. record { state = state; bodies = 0; messages = []; outcome = Fail w }) (sym text)) refl
        (subst (λ l. Follows (shape_of old.app) old.kept (kept_with l old.kept) state state) (sym same) (record { stands = stands; missing = omega arith }));
    ready = ready_still ready;
    running = refl;
    queues = record {
      started = [];
      jobs = sym (append-nil old.jobs);
      starts = record {
        starts = starts_none old.kept.boards t after.board inside (λ i runs. sym (ap (λ (b : TaskBoard). b.running) full) ∙ runs);
        stays = stays_by old.kept.boards t after.board inside (λ i runs. ap (λ (b : TaskBoard). b.running) full ∙ runs);
      };
    };
  }
    where
      full : after.board ≡ board_at old.kept.boards t
      full = full_is t args (board_at old.kept.boards t) is

      same : slice_set old.kept.boards t after.board ≡ old.kept.boards
      same = ap (slice_set old.kept.boards t) full ∙ set-get_or old.kept.boards t idle

  -- or it is started, and shows that it runs
  does_start : (job : Job) → after.answer ≡ Started job → (new : Working)
      → Moved (see_task (shape_of old.app) t view.Running) (with_job job invoked) new
      → Does (invoke_task (shape_of old.app) t args) old new (Ok (Val v.Null))
  does_start job is new moved = record {
    app = moved.app;
    observes = λ state stands. observed_by (shape_of old.app) old new state (invoke_task (shape_of old.app) t args state)
        (with_board t after.board (see_task (shape_of old.app) t view.Running state)) (Val v.Null)
        (by_answer (Started job) is state stands) moved.made
        (moves_as (shape_of old.app) old.kept new.kept (λ s. see_task (shape_of old.app) t view.Running (with_board t after.board s)) (λ s. with_board t after.board (see_task (shape_of old.app) t view.Running s))
        (moves_on (shape_of old.app) old.kept invoked.kept new.kept (with_board t after.board) (see_task (shape_of old.app) t view.Running)
        (board_moves (shape_of old.app) old.kept t after.board) moved.moves)
        (λ s h. change_beside (first_task (shape_of old.app) + t) (Task view.Running) t after.board s) state stands);
    ready = moved.ready;
    running = moved.running;
    queues = record {
      started = job ∷ [];
      jobs = moved.jobs;
      starts = record {
        starts = subst (Starts old.kept.boards new.kept.boards) (ap (λ j. j ∷ []) first.job_is) (subst (λ l. Starts old.kept.boards l (next_job t args (board_at old.kept.boards t) ∷ [])) (sym moved.boards)
            (starts_next old.kept.boards t after.board inside args (board_at old.kept.boards t).queued first.board_is (λ i runs. let none : None ≡ Some i = sym first.stood ∙ runs in absurd cc)));
        stays = subst (λ l. (m : ℕ) (i : Invocation) → (board_at old.kept.boards m).running ≡ Some i → (board_at l m).running ≡ Some i) (sym moved.boards)
            (stays_by old.kept.boards t after.board inside (λ i runs. let none : None ≡ Some i = sym first.stood ∙ runs in absurd cc));
      };
    };
  }
    where
      first : IsFirst t args (board_at old.kept.boards t) after job
      first = started_is t args (board_at old.kept.boards t) job is

-- ---- the same, said of what the code came to

pub waits_does : (t : ℕ) (args : List Value) (old new : Working) → t < length old.kept.boards → IsReady old → IsInvoked old t args new
    → Queued ≡ (invocation_result t args (board_at old.kept.boards t)).answer → Does (invoke_task (shape_of old.app) t args) old new (Ok (Val v.Null))
waits_does t args old new inside ready is answer =
    subst (λ w. Does (invoke_task (shape_of old.app) t args) old w (Ok (Val v.Null))) (sym is) (does_wait t args old inside ready (sym answer))

pub refuses_does : (t : ℕ) (args : List Value) (old new : Working) → t < length old.kept.boards → IsReady old → IsInvoked old t args new
    → QueueFull ≡ (invocation_result t args (board_at old.kept.boards t)).answer → (why : List ℕ) → why ≡ codes "task queue is full"
    → Does (invoke_task (shape_of old.app) t args) old new (Ok (Fail why))
refuses_does t args old new inside ready is answer why text =
    subst (λ w. Does (invoke_task (shape_of old.app) t args) old w (Ok (Fail why))) (sym is) (does_refuse t args old inside ready (sym answer) why text)

pub starts_does : (t : ℕ) (args : List Value) (old one two new : Working) → t < length old.kept.boards → IsInvoked old t args one → (job : Job)
    → Started job ≡ (invocation_result t args (board_at old.kept.boards t)).answer → two ≡ with_job job one
    → Moved (see_task (shape_of two.app) t view.Running) two new → Does (invoke_task (shape_of old.app) t args) old new (Ok (Val v.Null))
starts_does t args old one two new inside is job answer queued moved =
    does_start t args old inside job (sym answer) new
    (subst (λ w. Moved (see_task (shape_of w.app) t view.Running) w new) (queued ∙ ap (with_job job) is) moved)

-- ---- the end of an invocation

module _ (t : ℕ) (i : Invocation) (old : Working) (inside : t < length old.kept.boards) (runs : (board_at old.kept.boards t).running ≡ Some i) where
  abbrev after_end : AfterEnd
  after_end = end_result t i.number (board_at old.kept.boards t)

  abbrev outcome : Outcome
  outcome = task_outcome (shape_of old.app) t i.args

  ends_to : (answer : Ended) → after_end.answer ≡ answer → (state : SessionState) → StandsWholly (shape_of old.app) old.kept state
      → end_task (shape_of old.app) t state ≡ with_end_shown (shape_of old.app) t outcome after_end answer state
  ends_to answer is state stands =
      ap (λ r. end_running (shape_of old.app) t r state) (ap (λ l. (board_at l t).running) (sym stands.boards) ∙ runs)
      ∙ ap (λ l. with_end_shown (shape_of old.app) t outcome (end_result t i.number (board_at l t)) (end_result t i.number (board_at l t)).answer state) (sym stands.boards)
      ∙ ap (λ a. with_end_shown (shape_of old.app) t outcome after_end a state) is

  abbrev ended : Working
  ended = with_boards (slice_set old.kept.boards t after_end.board) old

  abbrev shows : TaskView → SessionState → SessionState
  shows seen = see_task (shape_of old.app) t seen

  -- none waits
  ends_quiet : after_end.answer ≡ Quiet → (new : Working) → Moved (shows (ended_view outcome)) ended new → EndsTask t old new
  ends_quiet is new moved = record {
    app = moved.app;
    moves = moves_as (shape_of old.app) old.kept new.kept (λ s. shows (ended_view outcome) (with_board t after_end.board s)) (end_task (shape_of old.app) t)
        (moves_on (shape_of old.app) old.kept ended.kept new.kept (with_board t after_end.board) (shows (ended_view outcome))
        (board_moves (shape_of old.app) old.kept t after_end.board) moved.moves)
        (λ s h. change_beside (first_task (shape_of old.app) + t) (Task (ended_view outcome)) t after_end.board s ∙ sym (ends_to Quiet is s h));
    ready = moved.ready;
    running = moved.running;
    made = moved.made;
    started = [];
    jobs = moved.jobs ∙ sym (append-nil old.jobs);
    starts = subst (λ l. Starts old.kept.boards l []) (sym moved.boards)
        (starts_none old.kept.boards t after_end.board inside (λ j r. let none : None ≡ Some j = sym (ap (λ (b : TaskBoard). b.running) (ended_quiet t (board_at old.kept.boards t) i runs is)) ∙ r in absurd cc));
  }

  -- the one that waits longest runs now
  ends_next : (job : Job) → after_end.answer ≡ Next job → ((j : Invocation) → (board_at old.kept.boards t).running ≡ Some j → j.number ≡ (board_at old.kept.boards t).last_number)
      → (between new : Working) → Moved (shows (ended_view outcome)) (with_job job ended) between → Moved (see_task (shape_of between.app) t view.Running) between new → EndsTask t old new
  ends_next job is last between new first second = record {
    app = second.app ∙ first.app;
    moves = moves_as (shape_of old.app) old.kept new.kept (λ s. shows view.Running (shows (ended_view outcome) (with_board t after_end.board s))) (end_task (shape_of old.app) t)
        (moves_on (shape_of old.app) old.kept between.kept new.kept (λ s. shows (ended_view outcome) (with_board t after_end.board s)) (shows view.Running)
        (moves_on (shape_of old.app) old.kept ended.kept between.kept (with_board t after_end.board) (shows (ended_view outcome)) (board_moves (shape_of old.app) old.kept t after_end.board) first.moves)
        (subst (λ h. Moves (shape_of h) between.kept new.kept (see_task (shape_of h) t view.Running)) first.app second.moves))
        (λ s h. ap (shows view.Running) (change_beside (first_task (shape_of old.app) + t) (Task (ended_view outcome)) t after_end.board s)
        ∙ change_beside (first_task (shape_of old.app) + t) (Task view.Running) t after_end.board (shows (ended_view outcome) s)
        ∙ sym (ends_to (Next job) is s h));
    ready = second.ready;
    running = second.running ∙ first.running;
    made = second.made ∙ first.made;
    started = job ∷ [];
    jobs = second.jobs ∙ first.jobs;
    starts = subst (λ l. Starts old.kept.boards l (job ∷ [])) (sym (second.boards ∙ first.boards))
        (subst (Starts old.kept.boards ended.kept.boards) (ap (λ j. j ∷ []) next.job_is)
        (starts_next old.kept.boards t after_end.board inside next.args next.later next.board_is (λ j r. let same = last j r in omega (same, arith))));
  }
    where
      next : IsLater t (board_at old.kept.boards t) after_end job
      next = ended_next t (board_at old.kept.boards t) i runs job is

pub quiet_ends : (t : ℕ) (i : Invocation) (old one new : Working) → t < length old.kept.boards → (board_at old.kept.boards t).running ≡ Some i
    → IsEnded old t i.number one → Quiet ≡ (end_result t i.number (board_at old.kept.boards t)).answer
    → (seen : TaskView) → seen ≡ ended_view (task_outcome (shape_of old.app) t i.args)
    → Moved (see_task (shape_of one.app) t seen) one new → EndsTask t old new
quiet_ends t i old one new inside runs is answer seen shown moved =
    ends_quiet t i old inside runs (sym answer) new
    (subst (λ s. Moved (see_task (shape_of old.app) t s) (ended t i old inside runs) new) shown (subst (λ w. Moved (see_task (shape_of w.app) t seen) w new) is moved))

pub next_ends : (t : ℕ) (i : Invocation) (old one two between new : Working) → t < length old.kept.boards → (board_at old.kept.boards t).running ≡ Some i
    → IsEnded old t i.number one → (job : Job) → Next job ≡ (end_result t i.number (board_at old.kept.boards t)).answer
    → ((j : Invocation) → (board_at old.kept.boards t).running ≡ Some j → j.number ≡ (board_at old.kept.boards t).last_number)
    → two ≡ with_job job one
    → (seen : TaskView) → seen ≡ ended_view (task_outcome (shape_of old.app) t i.args)
    → Moved (see_task (shape_of two.app) t seen) two between → Moved (see_task (shape_of between.app) t view.Running) between new → EndsTask t old new
next_ends t i old one two between new inside runs is job answer last queued seen shown first second =
    ends_next t i old inside runs job (sym answer) last between new
    (subst (λ s. Moved (see_task (shape_of old.app) t s) (with_job job (ended t i old inside runs)) between) shown (subst (λ w. Moved (see_task (shape_of w.app) t seen) w between) (queued ∙ ap (with_job job) is) first))
    second

-- ---- the job of an invocation that is started is one of the app

pub started_fits : (t : ℕ) (args : List Value) (old one : Working) → t < length old.kept.boards → HasArguments (shape_of old.app) t args
    → IsInvoked old t args one → (job : Job) → Started job ≡ (invocation_result t args (board_at old.kept.boards t)).answer
    → IsStarted (shape_of one.app) one.kept.boards job
started_fits t args old one inside fits is job answer =
    let board = board_at old.kept.boards t in
    let first = started_is t args board job (sym answer) in
    subst (λ (w : Working). IsStarted (shape_of w.app) w.kept.boards job) (sym is)
    (subst (IsStarted (shape_of old.app) (slice_set old.kept.boards t (invocation_result t args board).board)) first.job_is
    (next_started old.kept.boards t (invocation_result t args board).board inside (shape_of old.app) args board.queued first.board_is fits))

pub next_fits : (t : ℕ) (i : Invocation) (old one : Working) → t < length old.kept.boards → (board_at old.kept.boards t).running ≡ Some i
    → IsBoardOf (shape_of old.app) t (board_at old.kept.boards t) → IsEnded old t i.number one
    → (job : Job) → Next job ≡ (end_result t i.number (board_at old.kept.boards t)).answer → IsStarted (shape_of one.app) one.kept.boards job
next_fits t i old one inside runs own is job answer =
    let board = board_at old.kept.boards t in
    let next = ended_next t board i runs job (sym answer) in
    let waits : Every (HasArguments (shape_of old.app) t) (next.args ∷ next.later) = subst (Every (HasArguments (shape_of old.app) t)) next.queued own.queued in
    subst (λ (w : Working). IsStarted (shape_of w.app) w.kept.boards job) (sym is)
    (subst (IsStarted (shape_of old.app) (slice_set old.kept.boards t (end_result t i.number board).board)) next.job_is
    (next_started old.kept.boards t (end_result t i.number board).board inside (shape_of old.app) next.args next.later next.board_is waits.0))

-- One board of the tasks' boards is changed: what holds of the boards and of the jobs that were started.
use Rattle.std.proofs.Common.{◌≡◌, ◌≢◌, ◌≤◌, ◌<◌, inl, inr, ℕ, ◌+◌, Bool, true, false, cond, List, [], ◌∷◌, ◌++◌, length, Option, Some, None, slice_set, refl, sym, ap, ◌∙◌, subst, arith, Result, Ok, Err, OnOk, OnErr}
use Rattle.std.specs.Prelude.{nat_lt, ◌==◌}
use Rattle.std.specs.List.{IsDistinct}
use Rattle.std.proofs.lemmas.Bool.Decides.{eqb_tells}
use Rattle.std.proofs.lemmas.List.{get_or-set_same, get_or-set_other}
use Rattle.rx_value.specs.declared.value.Value.{Value}
use Rattle.app_tree.specs.Tree.{Shape}
use Rattle.app_tree.specs.Trace.{Every}
use Rattle.session_laws.proofs.Journeys.{some_is}
use Rattle.task_board.specs.declared.limits.TheConstants.{QUEUE_LIMIT}
use Rattle.task_board.specs.declared.job.Invocation.{Invocation}
use Rattle.task_board.specs.declared.job.Job.{Job}
use Rattle.task_board.specs.declared.job.Invoked.TheVariants.{Started, Queued, QueueFull}
use Rattle.task_board.specs.declared.job.Ended.TheVariants.{Next, Quiet, Stale}
use Rattle.task_board.specs.Board.{TaskBoard, idle, board_at, AfterInvoke, AfterEnd, next_job, with_next, invocation_beside, invocation_result, next_result, end_beside, end_result}
use Rattle.flush_cycle.specs.Jobs.{IsStarted, Starts}
use Rattle.flush_cycle.specs.inner.Parts.{HasArguments, IsBoardOf, IsHeld}
use Rattle.app_tree.specs.Held.{Held}
use Rattle.app_tree.specs.View.{shape_of}
use Rattle.app_tree.specs.Numbering.{SourceNumbers}
use Rattle.dep_graph.specs.MarkedReaders.{MarkedReaders}
use Rattle.pending_set.specs.Waiting.{Waiting}
use Rattle.react_session.specs.Keeping.{Keeping}
use Rattle.session_laws.proofs.States.{set_size}
use Rattle.flush_cycle.specs.declared.output.OutputState.{OutputState}

-- ---- what a change of a board leaves of what was started

-- numbers rise, and an invocation of an old number that runs ran before
pub record GoesOn (old new : TaskBoard) : Type 0 where
  pub number : old.last_number ≤ new.last_number
  pub running : (i : Invocation) → new.running ≡ Some i → i.number ≤ old.last_number → old.running ≡ Some i

on_itself : (board : TaskBoard) → GoesOn board board
on_itself board = record { number = omega arith; running = λ i runs few. runs }

module _ (boards : List TaskBoard) (t : ℕ) (board : TaskBoard) (inside : t < length boards) where
  abbrev pub changed : List TaskBoard
  changed = slice_set boards t board

  pub here : board_at changed t ≡ board
  here = get_or-set_same boards t board idle inside

  pub apart : (m : ℕ) → m ≢ t → board_at changed m ≡ board_at boards m
  apart m other = get_or-set_other boards t m board idle other

  -- what holds of the changed board and of each other one
  pub each : (P : ℕ → TaskBoard → Type 0) → P t board → ((m : ℕ) → m ≢ t → P m (board_at boards m)) → (m : ℕ) → P m (board_at changed m)
  each P at others m = elim (eqb_tells m t) [
    | inl p ↦ subst (λ k. P k (board_at changed k)) (sym p.1) (subst (P t) (sym here) at)
    | inr p ↦ subst (P m) (sym (apart m p.1)) (others m p.1)
  ]

  pub boards_fit : (app : Shape) → ((m : ℕ) → IsBoardOf app m (board_at boards m)) → IsBoardOf app t board → (m : ℕ) → IsBoardOf app m (board_at changed m)
  boards_fit app fit own = each (IsBoardOf app) own (λ m other. fit m)

  pub goes_on : GoesOn (board_at boards t) board → (m : ℕ) → GoesOn (board_at boards m) (board_at changed m)
  goes_on on = each (λ m b. GoesOn (board_at boards m) b) on (λ m other. on_itself (board_at boards m))

  job_fits : (app : Shape) → GoesOn (board_at boards t) board → (job : Job) → IsStarted app boards job → IsStarted app changed job
  job_fits app on job started = record {
    fits = started.fits;
    number = let few = started.number in let more = (goes_on on job.task).number in omega (few, more, arith);
    args = λ i runs same. started.args i ((goes_on on job.task).running i runs (let few = started.number in omega (few, same, arith))) same;
  }

  -- the jobs that were started stay right
  pub jobs_fit : (app : Shape) → GoesOn (board_at boards t) board → (jobs : List Job) → Every (IsStarted app boards) jobs → Every (IsStarted app changed) jobs
  jobs_fit app on [] fit = tt
  jobs_fit app on (job ∷ jobs) fit = (job_fits app on job fit.0, jobs_fit app on jobs fit.1)

  -- ---- nothing is started

  pub starts_none : ((i : Invocation) → board.running ≡ Some i → (board_at boards t).running ≡ Some i) → Starts boards changed []
  unfolding IsDistinct
  starts_none runs = record {
    each = tt;
    once = tt;
    all = λ m i is. inl (each (λ k b. b.running ≡ Some i → (board_at boards k).running ≡ Some i) (runs i) (λ k other r. r) m is);
  }

  pub stays_by : ((i : Invocation) → (board_at boards t).running ≡ Some i → board.running ≡ Some i)
      → (m : ℕ) (i : Invocation) → (board_at boards m).running ≡ Some i → (board_at changed m).running ≡ Some i
  stays_by runs m i = each (λ k b. (board_at boards k).running ≡ Some i → b.running ≡ Some i) (runs i) (λ k other r. r) m

  -- ---- the next invocation is started

  pub starts_next : (args : List Value) (queued : List (List Value)) → board ≡ with_next args queued (board_at boards t)
      → ((i : Invocation) → (board_at boards t).running ≡ Some i → i.number ≤ (board_at boards t).last_number)
      → Starts boards changed (next_job t args (board_at boards t) ∷ [])
  unfolding IsDistinct
  starts_next args queued is last = record {
    each = (
      record {
        runs = ap (λ (b : TaskBoard). b.running) (here ∙ is);
        later = λ i runs same. let few = last i runs in absurd (omega (few, same, arith));
      },
      tt,
    );
    once = (tt, tt);
    all = λ m i runs. elim (eqb_tells m t) [
      | inl p ↦ inr (
        0,
        ap Some (λ z. record {
          task = sym p.1 z;
          number = (new_is m i runs p.1 z).number;
          args = (new_is m i runs p.1 z).args;
        }),
      )
      | inr p ↦ inl (ap (λ (b : TaskBoard). b.running) (sym (apart m p.1)) ∙ runs)
    ];
  }
    where
      new_is : (m : ℕ) (i : Invocation) → (board_at changed m).running ≡ Some i → m ≡ t
          → record { number = (board_at boards t).last_number + 1; args = args } ≡ i
      new_is m i runs same = some_is (sym (ap (λ (b : TaskBoard). b.running) (ap (board_at changed) same ∙ here ∙ is)) ∙ runs)

  -- and its job is one
  pub next_started : (app : Shape) (args : List Value) (queued : List (List Value)) → board ≡ with_next args queued (board_at boards t)
      → HasArguments app t args → IsStarted app changed (next_job t args (board_at boards t))
  next_started app args queued is fits = record {
    fits = fits;
    number = let same : (board_at changed t).last_number ≡ (board_at boards t).last_number + 1 = ap (λ (b : TaskBoard). b.last_number) (here ∙ is) in omega (same, arith);
    args = λ i runs same. sym (ap (λ (j : Invocation). j.args) (some_is (sym (ap (λ (b : TaskBoard). b.running) (here ∙ is)) ∙ runs)));
  }

-- ---- the next invocation on a board

next_goes_on : (args : List Value) (queued : List (List Value)) (board : TaskBoard) → GoesOn board (with_next args queued board)
next_goes_on args queued board = record {
  number = omega arith;
  running = λ i runs few.
      let number : board.last_number + 1 ≡ i.number = ap (λ (j : Invocation). j.number) (some_is runs) in
      absurd (omega (number, few, arith));
}

next_fits : (app : Shape) (t : ℕ) (args : List Value) (queued : List (List Value)) (board : TaskBoard) → HasArguments app t args
    → Every (HasArguments app t) queued → IsBoardOf app t (with_next args queued board)
next_fits app t args queued board fits waits = record {
  last = λ i runs. sym (ap (λ (j : Invocation). j.number) (some_is runs));
  args = λ i runs. subst (HasArguments app t) (ap (λ (j : Invocation). j.args) (some_is runs)) fits;
  queued = waits;
}

-- ---- an invocation of a task

abbrev queue_by : List Value → TaskBoard → Bool → AfterInvoke
queue_by args board room = cond room (record { answer = Queued; board = record board { queued = board.queued ++ args ∷ [] } }) (record { answer = QueueFull; board = board })

-- what it comes to, where it is started
pub record IsFirst (t : ℕ) (args : List Value) (board : TaskBoard) (after : AfterInvoke) (job : Job) : Type 0 where
  pub stood : board.running ≡ None
  pub job_is : next_job t args board ≡ job
  pub board_is : after.board ≡ with_next args board.queued board

started_job : {a b : Job} → Started a ≡ Started b → a ≡ b
started_job e = cc

pub started_is : (t : ℕ) (args : List Value) (board : TaskBoard) (job : Job)
    → (invocation_result t args board).answer ≡ Started job → IsFirst t args board (invocation_result t args board) job
started_is t args board job is = by board.running refl is
  where
    queue_apart : (b : Bool) → (queue_by args board b).answer ≡ Started job → ⊥
    queue_apart true e = cc
    queue_apart false e = cc

    by : (r : Option Invocation) → board.running ≡ r → (invocation_beside r t args board).answer ≡ Started job
        → IsFirst t args board (invocation_beside r t args board) job
    by None stood e = record { stood = stood; job_is = started_job e; board_is = refl }
    by (Some i) stood e = absurd (queue_apart (nat_lt (length board.queued) QUEUE_LIMIT) e)

-- where it waits
pub queued_is : (t : ℕ) (args : List Value) (board : TaskBoard) → (invocation_result t args board).answer ≡ Queued
    → (invocation_result t args board).board ≡ record board { queued = board.queued ++ args ∷ [] }
queued_is t args board is = by board.running is
  where
    queue_is : (b : Bool) → (queue_by args board b).answer ≡ Queued
        → (queue_by args board b).board ≡ record board { queued = board.queued ++ args ∷ [] }
    queue_is true e = refl
    queue_is false e = absurd cc

    by : (r : Option Invocation) → (invocation_beside r t args board).answer ≡ Queued → (invocation_beside r t args board).board ≡ record board { queued = board.queued ++ args ∷ [] }
    by None e = absurd cc
    by (Some i) e = queue_is (nat_lt (length board.queued) QUEUE_LIMIT) e

-- and where it is lost
pub full_is : (t : ℕ) (args : List Value) (board : TaskBoard) → (invocation_result t args board).answer ≡ QueueFull
    → (invocation_result t args board).board ≡ board
full_is t args board is = by board.running is
  where
    queue_is : (b : Bool) → (queue_by args board b).answer ≡ QueueFull
        → (queue_by args board b).board ≡ board
    queue_is true e = absurd cc
    queue_is false e = refl

    by : (r : Option Invocation) → (invocation_beside r t args board).answer ≡ QueueFull → (invocation_beside r t args board).board ≡ board
    by None e = absurd cc
    by (Some i) e = queue_is (nat_lt (length board.queued) QUEUE_LIMIT) e

every_more : {A : Type 0} (P : A → Type 0) (xs : List A) (x : A) → Every P xs → P x → Every P (xs ++ x ∷ [])
every_more P [] x all one = (one, tt)
every_more P (y ∷ xs) x all one = (all.0, every_more P xs x all.1 one)

-- what holds of the board of a task holds after an invocation
pub record IsKeptBoard (app : Shape) (t : ℕ) (old new : TaskBoard) : Type 0 where
  pub fits : IsBoardOf app t new
  pub goes_on : GoesOn old new

pub invoked_fits : (app : Shape) (t : ℕ) (args : List Value) (board : TaskBoard) → HasArguments app t args → IsBoardOf app t board
    → IsKeptBoard app t board (invocation_result t args board).board
invoked_fits app t args board fits own = by board.running
  where
    waits : IsKeptBoard app t board (record board { queued = board.queued ++ args ∷ [] })
    waits = record {
      fits = record { last = own.last; args = own.args; queued = every_more (HasArguments app t) board.queued args own.queued fits };
      goes_on = record { number = omega arith; running = λ i runs few. runs };
    }

    queues : (b : Bool) → IsKeptBoard app t board (queue_by args board b).board
    queues true = waits
    queues false = record { fits = own; goes_on = on_itself board }

    by : (r : Option Invocation) → IsKeptBoard app t board (invocation_beside r t args board).board
    by None = record { fits = next_fits app t args board.queued board fits own.queued; goes_on = next_goes_on args board.queued board }
    by (Some i) = queues (nat_lt (length board.queued) QUEUE_LIMIT)

-- ---- the end of an invocation

-- the one that waits longest is started
pub record IsLater (t : ℕ) (board : TaskBoard) (after : AfterEnd) (job : Job) : Type 0 where
  pub args : List Value
  pub later : List (List Value)
  pub queued : board.queued ≡ args ∷ later
  pub job_is : next_job t args board ≡ job
  pub board_is : after.board ≡ with_next args later board

next_job_is : {a b : Job} → Next a ≡ Next b → a ≡ b
next_job_is e = cc

later_is : (t : ℕ) (board : TaskBoard) (job : Job) → (next_result board.queued t board).answer ≡ Next job → IsLater t board (next_result board.queued t board) job
later_is t board job is = by board.queued refl is
  where
    by : (queued : List (List Value)) → board.queued ≡ queued → (next_result queued t board).answer ≡ Next job → IsLater t board (next_result queued t board) job
    by [] queued e = absurd cc
    by (args ∷ later) queued e = record { args = args; later = later; queued = queued; job_is = next_job_is e; board_is = refl }

quiet_is : (t : ℕ) (board : TaskBoard) → (next_result board.queued t board).answer ≡ Quiet → (next_result board.queued t board).board ≡ record board { running = None }
quiet_is t board is = by board.queued is
  where
    by : (queued : List (List Value)) → (next_result queued t board).answer ≡ Quiet → (next_result queued t board).board ≡ record board { running = None }
    by [] e = refl
    by (args ∷ later) e = absurd cc

-- the running invocation ends
same_number : (n : ℕ) → (n == n) ≡ true
same_number n = elim (eqb_tells n n) [
  | inl p ↦ p.0
  | inr p ↦ absurd (p.1 refl)
]

pub end_is : (t : ℕ) (board : TaskBoard) (i : Invocation) → board.running ≡ Some i → end_result t i.number board ≡ next_result board.queued t board
end_is t board i runs =
    ap (λ r. end_beside r t i.number board) runs
    ∙ ap (λ b. cond b (next_result board.queued t board) (record { answer = Stale (Some i.number); board = board })) (same_number i.number)

pub ended_next : (t : ℕ) (board : TaskBoard) (i : Invocation) → board.running ≡ Some i → (job : Job)
    → (end_result t i.number board).answer ≡ Next job → IsLater t board (end_result t i.number board) job
ended_next t board i runs job is = subst (λ (after : AfterEnd). IsLater t board after job) (sym (end_is t board i runs))
    (later_is t board job (ap (λ (after : AfterEnd). after.answer) (sym (end_is t board i runs)) ∙ is))

pub ended_quiet : (t : ℕ) (board : TaskBoard) (i : Invocation) → board.running ≡ Some i
    → (end_result t i.number board).answer ≡ Quiet → (end_result t i.number board).board ≡ record board { running = None }
ended_quiet t board i runs is =
    ap (λ (after : AfterEnd). after.board) (end_is t board i runs)
    ∙ quiet_is t board (ap (λ (after : AfterEnd). after.answer) (sym (end_is t board i runs)) ∙ is)

-- so it isn't stale
pub ended_not_stale : (t : ℕ) (board : TaskBoard) (i : Invocation) → board.running ≡ Some i → (number : Option ℕ)
    → (end_result t i.number board).answer ≡ Stale number → ⊥
ended_not_stale t board i runs number is = by board.queued (ap (λ (after : AfterEnd). after.answer) (sym (end_is t board i runs)) ∙ is)
  where
    by : (queued : List (List Value)) → (next_result queued t board).answer ≡ Stale number → ⊥
    by [] e = cc
    by (args ∷ later) e = cc

pub ended_fits : (app : Shape) (t : ℕ) (board : TaskBoard) (i : Invocation) → board.running ≡ Some i → IsBoardOf app t board
    → IsKeptBoard app t board (end_result t i.number board).board
ended_fits app t board i runs own = subst (λ (after : AfterEnd). IsKeptBoard app t board after.board) (sym (end_is t board i runs)) (by board.queued own.queued)
  where
    by : (queued : List (List Value)) → Every (HasArguments app t) queued → IsKeptBoard app t board (next_result queued t board).board
    by [] waits = record {
      fits = record { last = λ j e. absurd cc; args = λ j e. absurd cc; queued = own.queued };
      goes_on = record { number = omega arith; running = λ j e few. absurd cc };
    }
    by (args ∷ later) waits = record { fits = next_fits app t args later board waits.0 waits.1; goes_on = next_goes_on args later board }

-- ---- what holds of a session's work holds with the changed boards

pub held_boards : (held : Held) (numbers : SourceNumbers) (first : ℕ) (session : Keeping) (outputs : List OutputState) (boards : List TaskBoard) (pending : Waiting)
    (marked : MarkedReaders) (jobs : List Job) → IsHeld held numbers first session outputs boards pending marked jobs
    → (t : ℕ) (board : TaskBoard) → t < length boards → IsKeptBoard (shape_of held) t (board_at boards t) board
    → IsHeld held numbers first session outputs (slice_set boards t board) pending marked jobs
held_boards held numbers first session outputs boards pending marked jobs h t board inside kept = record {
  proper = h.proper;
  numbers_are = h.numbers_are;
  first_is = h.first_is;
  app = h.app;
  sources = h.sources;
  contexts = h.contexts;
  roles = h.roles;
  priorities = h.priorities;
  waits = h.waits;
  room = h.room;
  tasks = set_size boards t board ∙ h.tasks;
  boards_fit = boards_fit boards t board inside (shape_of held) h.boards_fit kept.fits;
  jobs_fit = jobs_fit boards t board inside (shape_of held) kept.goes_on jobs h.jobs_fit;
}

-- whether there was memory or not
pub either_way : {A E B : Type 0} (P : B → Type 0) (r : Result A E) (old new other : B) → OnOk r (new ≡ other) → OnErr r (new ≡ old) → P old → P other → P new
either_way P (Ok x) old new other ok err before after = subst P (sym ok) after
either_way P (Err e) old new other ok err before after = subst P (sym err) before

-- The numbers of the invocations of each task rise, so what an event starts at different times are jobs of different numbers.
use Rattle.std.proofs.Common.{◌≡◌, inl, inr, ◌⊎◌, ◌≤◌, ◌<◌, ℕ, zero, suc, ◌+◌, Bool, true, false, List, [], ◌∷◌, ◌++◌, map, length, Option, Some, None, refl, sym, ap, ◌∙◌, subst, arith}
use Rattle.std.specs.Prelude.{◌==◌, nat_eq, nat_lt, slice_get, slice_set, if◌then◌else◌}
use Rattle.std.specs.List.{IsDistinct}
use Rattle.rx_value.specs.declared.value.Value.{Value}
use Rattle.app_tree.specs.Trace.{Every}
use Rattle.task_board.specs.declared.job.Invocation.{Invocation}
use Rattle.task_board.specs.declared.job.Job.{Job}
use Rattle.task_board.specs.declared.job.Invoked.TheVariants.{Queued, QueueFull}
use Rattle.task_board.specs.declared.job.Ended.TheVariants.{Stale}
use Rattle.task_board.specs.declared.limits.TheConstants.{QUEUE_LIMIT}
use Rattle.task_board.specs.Board.{TaskBoard, AfterInvoke, AfterEnd, board_at, queue_result, invocation_beside, invocation_result, next_result, end_beside, end_result}
use Rattle.session_steps.proofs.BodiesListed.{distinct_join}
use Rattle.flush_cycle.specs.Jobs.{Starts, IsNewlyRunning, invocation_of, job_of}
use Rattle.flush_cycle.specs.inner.Acting.{StartsMore}

-- ---- one board after another

-- the last number is no less, and what runs ran already or has a number above what was the last one
pub record IsLater (old new : TaskBoard) : Type 0 where
  pub last : old.last_number ≤ new.last_number
  pub newer : (running : Invocation) → new.running ≡ Some running → (old.running ≡ Some running) ⊎ (old.last_number < running.number)

pub later_refl : (b : TaskBoard) → IsLater b b
later_refl b = record { last = omega arith; newer = λ running h. inl h }

pub later_trans : (a b d : TaskBoard) → IsLater a b → IsLater b d → IsLater a d
later_trans a b d p q = record {
  last = (let x = p.last in let y = q.last in omega (x, y, arith));
  newer = λ running h. elim (q.newer running h) [
    | inl r ↦ p.newer running r
    | inr r ↦ inr (let x = p.last in omega (x, r, arith))
  ];
}

pub some_running : {x y : Invocation} → Some x ≡ Some y → x ≡ y
some_running h = cc

none_running : (A : Type 0) (running : Invocation) → (let o : Option Invocation = None in o) ≡ Some running → A
none_running A running h = absurd cc

next_later : (n : ℕ) (args : List Value) (running : Invocation)
    → (let o : Option Invocation = Some (record { number = n + 1; args = args }) in o) ≡ Some running → n < running.number
next_later n args running h = let same : n + 1 ≡ running.number = ap (λ (r : Invocation). r.number) (some_running h) in omega (same, arith)

queued_later : (args : List Value) (board : TaskBoard) → IsLater board (queue_result args board).board
queued_later args board = by (nat_lt (length board.queued) QUEUE_LIMIT)
  where
    by : (b : Bool) → IsLater board (let a : AfterInvoke = if b then record { answer = Queued; board = record board { queued = board.queued ++ args ∷ [] } } else record { answer = QueueFull; board = board } in a.board)
    by true = record { last = omega arith; newer = λ running h. inl h }
    by false = later_refl board

pub invoked_later : (task : ℕ) (args : List Value) (board : TaskBoard) → IsLater board (invocation_result task args board).board
invoked_later task args board = by board.running
  where
    by : (o : Option Invocation) → IsLater board (invocation_beside o task args board).board
    by None = record { last = omega arith; newer = λ running h. inr (next_later board.last_number args running h) }
    by (Some r) = queued_later args board

next_result_later : (queued : List (List Value)) (task : ℕ) (board : TaskBoard) → IsLater board (next_result queued task board).board
next_result_later [] task board = record { last = omega arith; newer = λ running h. none_running _ running h }
next_result_later (args ∷ more) task board = record { last = omega arith; newer = λ running h. inr (next_later board.last_number args running h) }

pub ended_later : (task number : ℕ) (board : TaskBoard) → IsLater board (end_result task number board).board
ended_later task number board = by board.running
  where
    either : (r : Invocation) (b : Bool) → IsLater board (let a : AfterEnd = if b then next_result board.queued task board else record { answer = Stale (Some r.number); board = board } in a.board)
    either r true = next_result_later board.queued task board
    either r false = later_refl board

    by : (o : Option Invocation) → IsLater board (end_beside o task number board).board
    by None = later_refl board
    by (Some r) = either r (r.number == number)

-- ---- all boards

abbrev pub Rises : List TaskBoard → List TaskBoard → Type 0
Rises old new = (task : ℕ) → IsLater (board_at old task) (board_at new task)

set_later : (boards : List TaskBoard) (t : ℕ) (b : TaskBoard) → IsLater (board_at boards t) b → Rises boards (slice_set boards t b)
set_later [] t b h task = later_refl (board_at [] task)
set_later (x ∷ boards) zero b h zero = h
set_later (x ∷ boards) zero b h (suc task) = later_refl (board_at boards task)
set_later (x ∷ boards) (suc t) b h zero = later_refl x
set_later (x ∷ boards) (suc t) b h (suc task) = set_later boards t b h task

pub set_rises : (start boards : List TaskBoard) (t : ℕ) (b : TaskBoard) → Rises start boards → IsLater (board_at boards t) b
    → Rises start (slice_set boards t b)
set_rises start boards t b rises h task =
    later_trans (board_at start task) (board_at boards task) (board_at (slice_set boards t b) task) (rises task) (set_later boards t b h task)

-- ---- what is started, and then more

every_both : {A : Type 0} (P : A → Type 0) (xs ys : List A) → Every P xs → Every P ys → Every P (xs ++ ys)
every_both P [] ys p q = q
every_both P (x ∷ xs) ys p q = (p.0, every_both P xs ys p.1 q)

every_by : {A : Type 0} (P Q : A → Type 0) (xs : List A) → ((x : A) → P x → Q x) → Every P xs → Every Q xs
every_by P Q [] k p = tt
every_by P Q (x ∷ xs) k p = (k x p.0, every_by P Q xs k p.1)

every_mapped : {A B : Type 0} (f : A → B) (Q : B → Type 0) (xs : List A) → Every (λ x. Q (f x)) xs → Every Q (map f xs)
every_mapped f Q [] p = tt
every_mapped f Q (x ∷ xs) p = (p.0, every_mapped f Q xs p.1)

map_both : {A B : Type 0} (f : A → B) (xs ys : List A) → map f (xs ++ ys) ≡ map f xs ++ map f ys
map_both f [] ys = refl
map_both f (x ∷ xs) ys = ap (λ l. f x ∷ l) (map_both f xs ys)

get_front : {A : Type 0} (xs ys : List A) (n : ℕ) (x : A) → slice_get xs n ≡ Some x → slice_get (xs ++ ys) n ≡ Some x
get_front [] ys n x h = absurd cc
get_front (y ∷ xs) ys zero x h = h
get_front (y ∷ xs) ys (suc n) x h = get_front xs ys n x h

get_back : {A : Type 0} (xs ys : List A) (n place : ℕ) → place ≡ length xs + n → (x : A) → slice_get ys n ≡ Some x → slice_get (xs ++ ys) place ≡ Some x
get_back [] ys n place e x h = subst (λ k. slice_get ys k ≡ Some x) (let same : n ≡ place = omega (e, arith) in same) h
get_back (y ∷ xs) ys n zero e x h = absurd (omega (e, arith))
get_back (y ∷ xs) ys n (suc place) e x h = get_back xs ys n place (omega (e, arith)) x h

module _ (old mid new : List TaskBoard) (rises : Rises mid new)
    (last : (task : ℕ) (running : Invocation) → (board_at old task).running ≡ Some running → running.number ≤ (board_at mid task).last_number)
    (one two : List Job) (first : Starts old mid one) (more : StartsMore mid new two) where
  -- a task runs, or it does not
  abbrev Runs : ℕ → Type 0
  Runs task = (running : Invocation) × ((board_at mid task).running ≡ Some running)

  abbrev Rests : ℕ → Type 0
  Rests task = (running : Invocation) → (board_at mid task).running ≡ Some running → ⊥

  before : (job : Job) → IsNewlyRunning old mid job → IsNewlyRunning old new job
  before job h = record { runs = more.stays job.task (invocation_of job) h.runs; later = h.later }

  number_above : (job : Job) → IsNewlyRunning mid new job → (board_at mid job.task).last_number < job.number
  number_above job h = elim ((rises job.task).newer (invocation_of job) h.runs) [
    | inl p ↦ absurd (h.later (invocation_of job) p refl)
    | inr p ↦ p
  ]

  behind : (job : Job) → IsNewlyRunning mid new job → IsNewlyRunning old new job
  behind job h = record {
    runs = h.runs;
    later = λ running was same.
        let above = number_above job h in
        let below = last job.task running was in
        absurd (omega (above, below, same, arith));
  }

  rested : (job : Job) → IsNewlyRunning mid new job → Rests job.task
  rested job h running was =
      let still : (board_at new job.task).running ≡ Some running = more.stays job.task running was in
      h.later running was (ap (λ (r : Invocation). r.number) (some_running (sym still ∙ h.runs)))

  placed : (task : ℕ) (running : Invocation) → (place : ℕ) × (slice_get one place ≡ Some (job_of task running))
      → (place : ℕ) × (slice_get (one ++ two) place ≡ Some (job_of task running))
  placed task running p = (p.0, get_front one two p.0 (job_of task running) p.1)

  pub starts_both : Starts old new (one ++ two)
  starts_both = record {
    each = every_both (IsNewlyRunning old new) one two (every_by (IsNewlyRunning old mid) (IsNewlyRunning old new) one before first.each)
        (every_by (IsNewlyRunning mid new) (IsNewlyRunning old new) two behind more.starts.each);
    once = subst (IsDistinct nat_eq) (sym (map_both (λ (job : Job). job.task) one two))
        (distinct_join Runs Rests (λ x y p q same. q p.0 (subst (λ z. (board_at mid z).running ≡ Some p.0) same p.1))
        (map (λ (job : Job). job.task) one) (map (λ (job : Job). job.task) two) first.once more.starts.once
        (every_mapped (λ (job : Job). job.task) Runs one (every_by (IsNewlyRunning old mid) (λ job. Runs job.task) one (λ job h. (invocation_of job, h.runs)) first.each))
        (every_mapped (λ (job : Job). job.task) Rests two (every_by (IsNewlyRunning mid new) (λ job. Rests job.task) two rested more.starts.each)));
    all = λ task running h. elim (more.starts.all task running h) [
      | inl p ↦ elim (first.all task running p) [
        | inl q ↦ inl q
        | inr q ↦ inr (placed task running q)
      ]
      | inr p ↦ inr (length one + p.0, get_back one two p.0 (length one + p.0) refl (job_of task running) p.1)
    ];
  }

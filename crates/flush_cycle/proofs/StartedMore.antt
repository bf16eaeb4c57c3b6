-- Jobs that are started in one step after another.
use Rattle.std.proofs.Common.{◌≡◌, ◌≢◌, ◌⊎◌, inl, inr, ℕ, zero, suc, Bool, true, false, List, [], ◌∷◌, ◌++◌, map, Option, Some, None, refl, sym, ap, ◌∙◌, subst}
use Rattle.std.specs.Prelude.{nat_eq, slice_get}
use Rattle.std.specs.List.{IsDistinct, AllByRecursion}
use Rattle.std.proofs.lemmas.Bool.{eqb-true}
use Rattle.std.proofs.lemmas.List.{append-nil, append_assoc}
use Rattle.std.proofs.lemmas.Option.{none-some}
use Rattle.app_tree.specs.Trace.{Every}
use Rattle.task_board.specs.declared.job.Invocation.{Invocation}
use Rattle.task_board.specs.declared.job.Job.{Job}
use Rattle.task_board.specs.Board.{TaskBoard, board_at}
use Rattle.flush_cycle.specs.Jobs.{invocation_of, job_of, IsNewlyRunning, Starts}
use Rattle.flush_cycle.specs.Working.{Working}
use Rattle.flush_cycle.specs.inner.Acting.{StartsMore, Queues}

-- ---- lists

every_so : {A : Type 0} (P Q : A → Type 0) → ((x : A) → P x → Q x) → (xs : List A) → Every P xs → Every Q xs
every_so P Q so [] h = tt
every_so P Q so (x ∷ xs) h = (so x h.0, every_so P Q so xs h.1)

every_joined : {A : Type 0} (P : A → Type 0) (xs ys : List A) → Every P xs → Every P ys → Every P (xs ++ ys)
every_joined P [] ys h k = k
every_joined P (x ∷ xs) ys h k = (h.0, every_joined P xs ys h.1 k)

got_in_front : {A : Type 0} (xs ys : List A) (place : ℕ) (x : A) → slice_get xs place ≡ Some x → slice_get (xs ++ ys) place ≡ Some x
got_in_front [] ys place x is = absurd (none-some x is)
got_in_front (y ∷ xs) ys zero x is = is
got_in_front (y ∷ xs) ys (suc place) x is = got_in_front xs ys place x is

got_behind : {A : Type 0} (xs ys : List A) (place : ℕ) (x : A) → slice_get ys place ≡ Some x
    → (k : ℕ) × (slice_get (xs ++ ys) k ≡ Some x)
got_behind [] ys place x is = (place, is)
got_behind (y ∷ xs) ys place x is = let later = got_behind xs ys place x is in (suc later.0, later.1)

-- ---- tasks

abbrev task_of : Job → ℕ
task_of job = job.task

abbrev IsApart : Job → Job → Type 0
IsApart job other = nat_eq job.task other.task ≡ false

apart_by : (b : Bool) (x y : ℕ) → nat_eq x y ≡ b → x ≢ y → nat_eq x y ≡ false
apart_by true x y is differs = absurd (differs (eqb-true x y is))
apart_by false x y is differs = is

apart_all : (job : Job) (others : List Job) → Every (IsApart job) others
    → AllByRecursion (λ y. nat_eq job.task y ≡ false) (map task_of others)
apart_all job [] h = tt
apart_all job (other ∷ others) h = (h.0, apart_all job others h.1)

both_all : (x : ℕ) (ys zs : List ℕ) → AllByRecursion (λ y. nat_eq x y ≡ false) ys → AllByRecursion (λ y. nat_eq x y ≡ false) zs
    → AllByRecursion (λ y. nat_eq x y ≡ false) (ys ++ zs)
both_all x [] zs h k = k
both_all x (y ∷ ys) zs h k = (h.0, both_all x ys zs h.1 k)

mapped_joined : (xs ys : List Job) → map task_of (xs ++ ys) ≡ map task_of xs ++ map task_of ys
mapped_joined [] ys = refl
mapped_joined (x ∷ xs) ys = ap (λ l. x.task ∷ l) (mapped_joined xs ys)

none_twice : IsDistinct nat_eq (map task_of [])
unfolding IsDistinct
none_twice = tt

joined_once : (xs ys : List Job) → IsDistinct nat_eq (map task_of xs) → IsDistinct nat_eq (map task_of ys)
    → Every (λ x. Every (IsApart x) ys) xs → IsDistinct nat_eq (map task_of (xs ++ ys))
unfolding IsDistinct
joined_once [] ys d e h = e
joined_once (x ∷ xs) ys d e h = (
  subst (AllByRecursion (λ y. nat_eq x.task y ≡ false)) (sym (mapped_joined xs ys))
      (both_all x.task (map task_of xs) (map task_of ys) d.0 (apart_all x ys h.0)),
  joined_once xs ys d.1 e h.1,
)

-- ---- one step after another

abbrev StayRunning : List TaskBoard → List TaskBoard → Type 0
StayRunning old new = (task : ℕ) (running : Invocation) → (board_at old task).running ≡ Some running
    → (board_at new task).running ≡ Some running

some_number : Option Invocation → ℕ → ℕ
some_number None other = other
some_number (Some running) other = running.number

same_number : (a b : Invocation) → Some a ≡ Some b → a.number ≡ b.number
unfolding some_number
same_number a b e = ap (λ o. some_number o 0) e

-- a task that was started before runs on, so no other invocation of it is started
apart_later : (old mid new : List TaskBoard) → StayRunning mid new → (job other : Job) → IsNewlyRunning old mid job
    → IsNewlyRunning mid new other → IsApart job other
apart_later old mid new stays job other first second =
    apart_by (nat_eq job.task other.task) job.task other.task refl (λ same.
    let at_mid : (board_at mid other.task).running ≡ Some (invocation_of job) = subst (λ t. (board_at mid t).running ≡ Some (invocation_of job)) same first.runs in
    let at_new : (board_at new other.task).running ≡ Some (invocation_of job) = stays other.task (invocation_of job) at_mid in
    second.later (invocation_of job) at_mid (same_number (invocation_of job) (invocation_of other) (sym at_new ∙ second.runs)))

pub starts_none : (boards others : List TaskBoard) → others ≡ boards → StartsMore boards others []
starts_none boards others same = record {
  starts = record {
    each = tt;
    once = none_twice;
    all = λ task running is. inl (subst (λ bs. (board_at bs task).running ≡ Some running) same is);
  };
  stays = λ task running is. subst (λ bs. (board_at bs task).running ≡ Some running) (sym same) is;
}

all_joined : (old mid new : List TaskBoard) (first second : List Job) → Starts old mid first → Starts mid new second
    → (task : ℕ) (running : Invocation) → (board_at new task).running ≡ Some running
    → ((board_at old task).running ≡ Some running) ⊎ ((place : ℕ) × (slice_get (first ++ second) place ≡ Some (job_of task running)))
all_joined old mid new first second a b task running is = elim (b.all task running is) [
  | inl before ↦ elim (a.all task running before) [
    | inl long ↦ inl long
    | inr found ↦ inr (found.0, got_in_front first second found.0 (job_of task running) found.1)
  ]
  | inr found ↦ inr (got_behind first second found.0 (job_of task running) found.1)
]

pub starts_joined : (old mid new : List TaskBoard) (first second : List Job) → StartsMore old mid first → StartsMore mid new second
    → StartsMore old new (first ++ second)
starts_joined old mid new first second a b = record {
  starts = record {
    each = every_joined (IsNewlyRunning old new) first second
        (every_so (IsNewlyRunning old mid) (IsNewlyRunning old new)
        (λ job is. record { runs = b.stays job.task (invocation_of job) is.runs; later = is.later }) first a.starts.each)
        (every_so (IsNewlyRunning mid new) (IsNewlyRunning old new)
        (λ job is. record { runs = is.runs; later = λ running ran. is.later running (a.stays job.task running ran) }) second b.starts.each);
    once = joined_once first second a.starts.once b.starts.once
        (every_so (IsNewlyRunning old mid) (λ job. Every (IsApart job) second)
        (λ job is. every_so (IsNewlyRunning mid new) (IsApart job) (λ other then. apart_later old mid new b.stays job other is then) second b.starts.each)
        first a.starts.each);
    all = all_joined old mid new first second a.starts b.starts;
  };
  stays = λ task running is. b.stays task running (a.stays task running is);
}

-- ---- what waits to be given out

pub queues_none : (old new : Working) → new.kept.boards ≡ old.kept.boards → new.jobs ≡ old.jobs → Queues old new
queues_none old new boards jobs =
    record { started = []; jobs = jobs ∙ sym (append-nil old.jobs); starts = starts_none old.kept.boards new.kept.boards boards }

pub queues_joined : (old mid new : Working) → Queues old mid → Queues mid new → Queues old new
queues_joined old mid new a b = record {
  started = a.started ++ b.started;
  jobs = b.jobs ∙ ap (λ jobs. jobs ++ b.started) a.jobs ∙ append_assoc old.jobs a.started b.started;
  starts = starts_joined old.kept.boards mid.kept.boards new.kept.boards a.started b.started a.starts b.starts;
}

-- Steps of a session's work one after another: what they leave together.
use Rattle.std.proofs.Common.{◌≡◌, ◌≢◌, ◌⊎◌, inl, inr, ◌≤◌, ℕ, zero, suc, ◌+◌, Bool, true, false, List, [], ◌∷◌, ◌++◌, map, length, Some, nat_eq, refl, sym, ap, ◌∙◌, subst, arith, append_assoc, append-nil}
use Rattle.std.specs.Prelude.{slice_get}
use Rattle.std.specs.List.{IsDistinct, AllByRecursion}
use Rattle.std.proofs.lemmas.Bool.Decides.{nat_tests}
use Rattle.std.proofs.lemmas.List.{map-append}
use Rattle.app_tree.specs.Tree.{Shape}
use Rattle.app_tree.specs.Numbering.{reader}
use Rattle.app_tree.specs.Trace.{Every}
use Rattle.app_laws.proofs.WhatIsAsked.{both_of}
use Rattle.task_board.specs.declared.job.Invocation.{Invocation}
use Rattle.task_board.specs.declared.job.Job.{Job}
use Rattle.task_board.specs.Board.{TaskBoard, board_at}
use Rattle.session_model.specs.State.{SessionState}
use Rattle.session_model.specs.Flush.{Run}
use Rattle.session_model.specs.Standing.{KeptFlush, missing_readers}
use Rattle.session_model.specs.Texts.{output_of_run, batch_outputs, batch_messages}
use Rattle.session_laws.proofs.Journeys.{some_is}
use Rattle.flush_cycle.specs.Flushing.{Stepped}
use Rattle.flush_cycle.specs.Jobs.{invocation_of, job_of, IsNewlyRunning}
use Rattle.flush_cycle.specs.Reports.{made_of}
use Rattle.flush_cycle.specs.declared.report.Made.{Made}
use Rattle.flush_cycle.specs.Working.{Working}
use Rattle.flush_cycle.specs.inner.Acting.{Follows, StartsMore, Queues, with_run}

-- ---- one step behind another

pub stepped_on : (app : Shape) (old mid new : KeptFlush) (before between after : ℕ) (state middle next : SessionState) (earlier later : ℕ)
    → Stepped app old mid before between state middle earlier → Stepped app mid new between after middle next later
    → Stepped app old new before after state next (earlier + later)
stepped_on app old mid new before between after state middle next earlier later p q = record {
  stands = q.stands;
  bound = let a = p.bound in let b = q.bound in omega (a, b, arith);
}

-- behind a step that runs no body
pub follows_then : (app : Shape) (old mid new : KeptFlush) (before after : ℕ) (state middle next : SessionState) (bodies : ℕ)
    → Follows app old mid state middle → Stepped app mid new before after middle next bodies
    → Stepped app old new before after state next bodies
follows_then app old mid new before after state middle next bodies p q = record {
  stands = q.stands;
  bound = let a = p.missing in let b = q.bound in omega (a, b, arith);
}

-- in front of one
pub then_follows : (app : Shape) (old mid new : KeptFlush) (before after : ℕ) (state middle next : SessionState) (bodies : ℕ)
    → Stepped app old mid before after state middle bodies → Follows app mid new middle next
    → Stepped app old new before after state next bodies
then_follows app old mid new before after state middle next bodies p q = record {
  stands = q.stands;
  bound = let a = p.bound in let b = q.missing in omega (a, b, arith);
}

-- the bodies alone
pub stepped_bound : (app : Shape) (old new : KeptFlush) (before after : ℕ) (state next : SessionState) (bodies : ℕ)
    → Stepped app old new before after state next bodies → after ≤ before + (bodies + missing_readers app old.session state)
stepped_bound app old new before after state next bodies p = let a = p.bound in omega (a, arith)

-- ---- jobs

every_map : {A : Type 0} (P Q : A → Type 0) → ((x : A) → P x → Q x) → (xs : List A) → Every P xs → Every Q xs
every_map P Q f [] all = tt
every_map P Q f (x ∷ xs) all = (f x all.0, every_map P Q f xs all.1)

get_left : {A : Type 0} (xs ys : List A) (k : ℕ) (x : A) → slice_get xs k ≡ Some x → slice_get (xs ++ ys) k ≡ Some x
get_left [] ys k x h = cc
get_left (z ∷ xs) ys zero x h = h
get_left (z ∷ xs) ys (suc k) x h = get_left xs ys k x h

get_right : {A : Type 0} (xs ys : List A) (k : ℕ) (x : A) → slice_get ys k ≡ Some x → slice_get (xs ++ ys) (length xs + k) ≡ Some x
get_right [] ys k x h = let at : k ≡ 0 + k = omega arith in subst (λ place. slice_get ys place ≡ Some x) at h
get_right (z ∷ xs) ys k x h =
    let at : suc (length xs + k) ≡ suc (length xs) + k = omega arith in
    subst (λ place. slice_get (z ∷ (xs ++ ys)) place ≡ Some x) at (get_right xs ys k x h)

-- no later job is of this task
others_both : (t : ℕ) (xs ys : List Job) → AllByRecursion (λ y. nat_eq t y ≡ false) (map (λ job. job.task) xs)
    → Every (λ job. nat_eq t job.task ≡ false) ys → AllByRecursion (λ y. nat_eq t y ≡ false) (map (λ job. job.task) (xs ++ ys))
others_both t [] [] all more = tt
others_both t [] (y ∷ ys) all more = (more.0, others_both t [] ys tt more.1)
others_both t (x ∷ xs) ys all more = (all.0, others_both t xs ys all.1 more)

distinct_both : (xs ys : List Job) → IsDistinct nat_eq (map (λ job. job.task) xs) → IsDistinct nat_eq (map (λ job. job.task) ys)
    → Every (λ x. Every (λ y. nat_eq x.task y.task ≡ false) ys) xs → IsDistinct nat_eq (map (λ job. job.task) (xs ++ ys))
unfolding IsDistinct
distinct_both [] ys once more apart = more
distinct_both (x ∷ xs) ys once more apart = (others_both x.task xs ys once.0 apart.0, distinct_both xs ys once.1 more apart.1)

not_equal : (m n : ℕ) → m ≢ n → nat_eq m n ≡ false
not_equal m n apart = by (nat_eq m n) refl
  where
    by : (b : Bool) → nat_eq m n ≡ b → b ≡ false
    by true e = absurd (apart (grind (arith, nat_tests, e)))
    by false e = refl

module _ (old mid new : List TaskBoard) (first second : List Job) (p : StartsMore old mid first) (q : StartsMore mid new second) where
  still_new : (job : Job) → IsNewlyRunning old mid job → IsNewlyRunning old new job
  still_new job h = record { runs = q.stays job.task (invocation_of job) h.runs; later = h.later }

  new_before : (job : Job) → IsNewlyRunning mid new job → IsNewlyRunning old new job
  new_before job h = record { runs = h.runs; later = λ running is. h.later running (p.stays job.task running is) }

  -- a task that has begun an invocation runs it, so no other one begins
  apart : (a b : Job) → IsNewlyRunning old mid a → IsNewlyRunning mid new b → a.task ≢ b.task
  apart a b g h same =
      let there : (board_at mid b.task).running ≡ Some (invocation_of a) = subst (λ t. (board_at mid t).running ≡ Some (invocation_of a)) same g.runs in
      let same_one : invocation_of a ≡ invocation_of b = some_is (sym (q.stays b.task (invocation_of a) there) ∙ h.runs) in
      h.later (invocation_of a) there (ap (λ (i : Invocation). i.number) same_one)

  chain_all : (task : ℕ) (running : Invocation) → (board_at new task).running ≡ Some running
      → ((board_at old task).running ≡ Some running) ⊎ ((place : ℕ) × (slice_get (first ++ second) place ≡ Some (job_of task running)))
  chain_all task running is = elim (q.starts.all task running is) [
    | inl there ↦ elim (p.starts.all task running there) [
      | inl before ↦ inl before
      | inr found ↦ inr (found.0, get_left first second found.0 (job_of task running) found.1)
    ]
    | inr found ↦ inr (length first + found.0, get_right first second found.0 (job_of task running) found.1)
  ]

  starts_chain : StartsMore old new (first ++ second)
  starts_chain = record {
    starts = record {
      each = both_of (IsNewlyRunning old new) first second
          (every_map (IsNewlyRunning old mid) (IsNewlyRunning old new) still_new first p.starts.each)
          (every_map (IsNewlyRunning mid new) (IsNewlyRunning old new) new_before second q.starts.each);
      once = distinct_both first second p.starts.once q.starts.once
          (every_map (IsNewlyRunning old mid) (λ a. Every (λ b. nat_eq a.task b.task ≡ false) second)
          (λ a g. every_map (IsNewlyRunning mid new) (λ b. nat_eq a.task b.task ≡ false)
          (λ b h. not_equal a.task b.task (apart a b g h)) second q.starts.each) first p.starts.each);
      all = chain_all;
    };
    stays = λ task running is. q.stays task running (p.stays task running is);
  }

pub queues_chain : (old mid new : Working) → Queues old mid → Queues mid new → Queues old new
queues_chain old mid new p q = record {
  started = p.started ++ q.started;
  jobs = q.jobs ∙ ap (λ jobs. jobs ++ q.started) p.jobs ∙ append_assoc old.jobs p.started q.started;
  starts = starts_chain old.kept.boards mid.kept.boards new.kept.boards p.started q.started p.starts q.starts;
}

none_twice : IsDistinct nat_eq []
unfolding IsDistinct
none_twice = tt

-- where the boards and the jobs are as before
pub queues_none : (old new : Working) → new.kept.boards ≡ old.kept.boards → new.jobs ≡ old.jobs → Queues old new
queues_none old new boards jobs = record {
  started = [];
  jobs = jobs ∙ sym (append-nil old.jobs);
  starts = record {
    starts = record {
      each = tt;
      once = none_twice;
      all = λ task running is. inl (subst (λ bs. (board_at bs task).running ≡ Some running) boards is);
    };
    stays = λ task running is. subst (λ bs. (board_at bs task).running ≡ Some running) (sym boards) is;
  };
}

-- ---- what is told of runs

outputs_append : (app : Shape) (xs ys : List Run) → batch_outputs app (xs ++ ys) ≡ batch_outputs app xs ++ batch_outputs app ys
outputs_append app [] ys = refl
outputs_append app (x ∷ xs) ys =
    ap (λ more. output_of_run (reader app x.number) x ++ more) (outputs_append app xs ys)
    ∙ sym (append_assoc (output_of_run (reader app x.number) x) (batch_outputs app xs) (batch_outputs app ys))

messages_append : (xs ys : List Run) → batch_messages (xs ++ ys) ≡ batch_messages xs ++ batch_messages ys
messages_append [] ys = refl
messages_append (x ∷ xs) ys =
    ap (λ more. x.messages ++ more) (messages_append xs ys) ∙ sym (append_assoc x.messages (batch_messages xs) (batch_messages ys))

-- what is made is the same where its three parts are
pub made_parts : {R O M : Type 0} (f : R → O → M → Made) (r r' : R) (o o' : O) (m m' : M) → r ≡ r' → o ≡ o' → m ≡ m' → f r o m ≡ f r' o' m'
made_parts f r r' o o' m m' p q s = ap (λ z. f z o m) p ∙ ap (λ z. f r' z m) q ∙ ap (f r' o') s

-- no run tells nothing
pub with_run-none : (app : Shape) (made : Made) → with_run made (made_of app []) ≡ made
with_run-none app made =
    made_parts (λ r o m. record { runs = r; batch = record { outputs = o; messages = m } }) (made.runs ++ []) made.runs (made.batch.outputs ++ []) made.batch.outputs
    (made.batch.messages ++ []) made.batch.messages (append-nil made.runs) (append-nil made.batch.outputs) (append-nil made.batch.messages)

pub with_run-append : (app : Shape) (made : Made) (xs ys : List Run)
    → with_run (with_run made (made_of app xs)) (made_of app ys) ≡ with_run made (made_of app (xs ++ ys))
with_run-append app made xs ys =
    made_parts (λ r o m. record { runs = r; batch = record { outputs = o; messages = m } })
    (made.runs ++ map (λ run. run.number) xs ++ map (λ run. run.number) ys) (made.runs ++ map (λ run. run.number) (xs ++ ys))
    (made.batch.outputs ++ batch_outputs app xs ++ batch_outputs app ys) (made.batch.outputs ++ batch_outputs app (xs ++ ys))
    (made.batch.messages ++ batch_messages xs ++ batch_messages ys) (made.batch.messages ++ batch_messages (xs ++ ys))
    (append_assoc made.runs (map (λ run. run.number) xs) (map (λ run. run.number) ys) ∙ ap (λ z. made.runs ++ z) (sym (map-append (λ (run : Run). run.number) xs ys)))
    (append_assoc made.batch.outputs (batch_outputs app xs) (batch_outputs app ys) ∙ ap (λ z. made.batch.outputs ++ z) (sym (outputs_append app xs ys)))
    (append_assoc made.batch.messages (batch_messages xs) (batch_messages ys) ∙ ap (λ z. made.batch.messages ++ z) (sym (messages_append xs ys)))

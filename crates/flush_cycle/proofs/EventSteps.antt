-- What an event comes to, by its steps: the frozen inputs thaw, it sets what it sets, and then comes the flush.
use Rattle.std.proofs.Common.{◌≡◌, ◌≤◌, ℕ, ◌+◌, List, [], ◌++◌, Some, Result, refl, sym, ap, ◌∙◌, subst, append_assoc, arith}
use Rattle.std.specs.Prelude.{Ok, Err, OnOk}
use Rattle.rx_value.specs.declared.memory.Memory.{Memory}
use Rattle.shiny_json.specs.declared.message.Pair.{Pair}
use Rattle.app_tree.specs.Held.{Held}
use Rattle.app_tree.specs.Tree.{Shape}
use Rattle.app_tree.specs.View.{shape_of}
use Rattle.app_laws.specs.Proper.{IsProper}
use Rattle.session_laws.proofs.Proper.{orderly, covered}
use Rattle.session_model.specs.State.{SessionState}
use Rattle.session_model.specs.Change.{thaw}
use Rattle.session_model.specs.Apply.{apply_pairs}
use Rattle.session_model.specs.Tasks.{end_task}
use Rattle.session_model.specs.Flush.{FlushResult, flush}
use Rattle.session_model.specs.Alone.{flush_with_pairs}
use Rattle.session_model.specs.Standing.{KeptFlush, StandsWholly, missing_readers}
use Rattle.session_laws.specs.Sound.{IsRight}
use Rattle.task_board.specs.declared.job.Job.{Job}
use Rattle.task_board.specs.declared.job.Invocation.{Invocation}
use Rattle.task_board.specs.Board.{board_at}
use Rattle.term_eval.specs.Lent.{Lent}
use Rattle.flush_cycle.specs.Flushing.{flush_task_end, most_bodies}
use Rattle.flush_cycle.specs.Jobs.{Starts}
use Rattle.flush_cycle.specs.Reports.{nothing_made, made_of}
use Rattle.flush_cycle.specs.declared.report.Made.{Made}
use Rattle.flush_cycle.specs.declared.flushing.End.{End}
use Rattle.flush_cycle.specs.Working.{Working}
use Rattle.flush_cycle.specs.inner.Parts.{IsBoardOf}
use Rattle.flush_cycle.specs.inner.Acting.{Follows, Moves, Moved, Queues, EndsTask}
use Rattle.flush_cycle.specs.inner.Passing.{PassesIn, Passes, PassesAnewIn, PassesAnew, StartsAnew}
use Rattle.flush_cycle.proofs.JobsRise.{Rises, starts_both}
use Rattle.flush_cycle.proofs.JobsThroughFlush.{flush_rises, end_rises, ended_right}

-- ---- one event in one state

module _ (app : Shape) (old mid new : Working) (before after : ℕ) (state next : SessionState) (f : FlushResult)
    (missing : missing_readers app mid.kept.session next ≤ missing_readers app old.kept.session state) (none : mid.made ≡ nothing_made) where
  passes_behind : (result : Result End Memory) → PassesIn app mid new before after next f result → PassesAnewIn app old new before after state f result
  passes_behind (Ok e) p = record {
    stepped = record {
      stands = p.stepped.stands;
      bound = (let b = p.stepped.bound in omega (b, missing, arith));
    };
    end = p.end;
    told = p.told ∙ ap (λ (m : Made). record { runs = m.runs ++ (made_of app f.runs).runs; batch = record { outputs = m.batch.outputs ++ (made_of app f.runs).batch.outputs; messages = m.batch.messages ++ (made_of app f.runs).batch.messages } }) none;
  }
  passes_behind (Err e) p = omega (p, missing, arith)

follows_trans : (app : Shape) (a b d : KeptFlush) (M N O : SessionState) → Follows app a b M N → Follows app b d N O → Follows app a d M O
follows_trans app a b d M N O p q = record { stands = q.stands; missing = (let x = p.missing in let y = q.missing in omega (x, y, arith)) }

-- ---- the same app
pub proper_by : (a b : Held) → a ≡ b → IsProper (shape_of a) → IsProper (shape_of b)
proper_by a b same h = subst (λ (x : Held). IsProper (shape_of x)) same h

-- ---- no memory before the flush

pub lost_before : {S : Type 0} (follows : S → S → Type 0) (out : S → List Lent) (event : SessionState → FlushResult) (old new : Working)
    (asker : S) (steps : ℕ) (e : Memory) → new.app ≡ old.app → IsProper (shape_of old.app) → follows asker asker → out asker ≡ []
    → PassesAnew follows out event old new asker asker steps steps (Err e)
lost_before follows out event old new asker steps e app proper same none = record {
  app = app;
  proper = proper;
  passes = λ state stands. omega arith;
  within = omega arith;
  rests = λ end h. absurd cc;
  queues = λ state stands right. tt;
  succeeds = same;
  leaves = none;
}

-- ---- the flush of what came before it

module _ {S : Type 0} (follows : S → S → Type 0) (out : S → List Lent) (first : SessionState → SessionState) (old mid new : Working)
    (asker asker' : S) (before after : ℕ) (result : Result End Memory) (same : mid.app ≡ old.app) (none : mid.made ≡ nothing_made)
    (moves : Moves (shape_of old.app) old.kept mid.kept first)
    (p : Passes follows out (flush (shape_of mid.app)) mid new asker asker' before after result) where
  abbrev app : Shape
  app = shape_of old.app

  passes_mid : (state : SessionState) → StandsWholly app mid.kept state → PassesIn app mid new before after state (flush app state) result
  passes_mid = subst (λ (h : Held). (state : SessionState) → StandsWholly (shape_of h) mid.kept state → PassesIn (shape_of h) mid new before after state (flush (shape_of h) state) result) same p.passes

  passes_first : (state : SessionState) → StandsWholly app old.kept state → PassesAnewIn app old new before after state (flush app (first state)) result
  passes_first state stands =
      let moved : Follows app old.kept mid.kept state (first state) = moves state stands in
      passes_behind app old mid new before after state (first state) (flush app (first state)) moved.missing none result (passes_mid (first state) moved.stands)

  pub passes_anew : IsProper app → ((state : SessionState) → StandsWholly app old.kept state → IsRight app state → OnOk result (StartsAnew old new))
      → PassesAnew follows out (λ state. flush app (first state)) old new asker asker' before after result
  passes_anew proper queues = record {
    app = p.app ∙ same;
    proper = proper;
    passes = passes_first;
    within = subst (λ (h : Held). after ≤ before + most_bodies (shape_of h)) same p.within;
    rests = p.rests;
    queues = queues;
    succeeds = p.succeeds;
    leaves = p.leaves;
  }

  -- where nothing was started before the flush
  pub queues_alone : mid.kept.boards ≡ old.kept.boards → mid.jobs ≡ old.jobs → OnOk result (StartsAnew old new)
  queues_alone boards jobs = by result p.queues
    where
      by : (r : Result End Memory) → OnOk r (Queues mid new) → OnOk r (StartsAnew old new)
      by (Ok e) q = record {
        started = q.started;
        jobs = q.jobs ∙ ap (λ l. l ++ q.started) jobs;
        starts = subst (λ bs. Starts bs new.kept.boards q.started) boards q.starts.starts;
      }
      by (Err e) q = tt

  -- where these were
  module _ (one : List Job) (jobs : mid.jobs ≡ old.jobs ++ one) (starts : Starts old.kept.boards mid.kept.boards one) (later : Rises old.kept.boards mid.kept.boards)
      (lasts : (task : ℕ) (running : Invocation) → (board_at old.kept.boards task).running ≡ Some running → running.number ≡ (board_at old.kept.boards task).last_number) where
    numbered : (task : ℕ) (running : Invocation) → (board_at old.kept.boards task).running ≡ Some running → running.number ≤ (board_at mid.kept.boards task).last_number
    numbered task running h = let l = lasts task running h in let m = (later task).last in omega (l, m, arith)

    queues_ok : (e : End) → result ≡ Ok e → IsProper app → (state : SessionState) → StandsWholly app mid.kept state → IsRight app state → Queues mid new → StartsAnew old new
    queues_ok e is proper state stands right q =
        let passed = subst (PassesIn app mid new before after state (flush app state)) is (passes_mid state stands) in
        let rises : Rises mid.kept.boards new.kept.boards =
        subst (λ bs. Rises bs new.kept.boards) (sym stands.boards)
        (subst (Rises state.boards) (sym passed.stepped.stands.boards) (flush_rises app (orderly app proper) (covered app proper) state right)) in
        record {
          started = one ++ q.started;
          jobs = q.jobs ∙ ap (λ l. l ++ q.started) jobs ∙ append_assoc old.jobs one q.started;
          starts = starts_both old.kept.boards mid.kept.boards new.kept.boards rises numbered one q.started starts q.starts;
        }

    pub queues_both : IsProper app → (state : SessionState) → StandsWholly app mid.kept state → IsRight app state → OnOk result (StartsAnew old new)
    queues_both proper state stands right = by result refl p.queues
      where
        by : (r : Result End Memory) → result ≡ r → OnOk r (Queues mid new) → OnOk r (StartsAnew old new)
        by (Ok e) is q = queues_ok e is proper state stands right q
        by (Err e) is q = tt

-- ---- the two events

-- `old` with nothing made, and what thawed of it
module _ (old thawed : Working) (moved : Moved thaw (record old { made = nothing_made }) thawed) where
  moves_on : (step : SessionState → SessionState) (mid : Working) → Moves (shape_of thawed.app) thawed.kept mid.kept step
      → Moves (shape_of old.app) old.kept mid.kept (λ state. step (thaw state))
  moves_on step mid moves state stands =
      let one : Follows (shape_of old.app) old.kept thawed.kept state (thaw state) = moved.moves state stands in
      let two : Moves (shape_of old.app) thawed.kept mid.kept step = subst (λ (h : Held). Moves (shape_of h) thawed.kept mid.kept step) moved.app moves in
      follows_trans (shape_of old.app) old.kept thawed.kept mid.kept state (thaw state) (step (thaw state)) one (two (thaw state) one.stands)

  module _ {S : Type 0} (follows : S → S → Type 0) (out : S → List Lent) (mid new : Working) (asker asker' : S) (before after : ℕ) (result : Result End Memory)
      (p : Passes follows out (flush (shape_of mid.app)) mid new asker asker' before after result) where
    pub message_passes : IsProper (shape_of old.app) → (pairs : List Pair) → Moved (apply_pairs (shape_of thawed.app) pairs) thawed mid
        → PassesAnew follows out (flush_with_pairs (shape_of old.app) pairs) old new asker asker' before after result
    message_passes proper pairs set =
        let same : mid.app ≡ old.app = set.app ∙ moved.app in
        let none : mid.made ≡ nothing_made = set.made ∙ moved.made in
        let moves : Moves (shape_of old.app) old.kept mid.kept (λ state. apply_pairs (shape_of old.app) pairs (thaw state)) =
        moves_on (apply_pairs (shape_of old.app) pairs) mid (subst (λ (h : Held). Moves (shape_of thawed.app) thawed.kept mid.kept (apply_pairs (shape_of h) pairs)) moved.app set.moves) in
        passes_anew follows out (λ state. apply_pairs (shape_of old.app) pairs (thaw state)) old mid new asker asker' before after result same none moves p proper
        (λ state stands right. queues_alone follows out (λ s. apply_pairs (shape_of old.app) pairs (thaw s)) old mid new asker asker' before after result same none moves p (set.boards ∙ moved.boards) (set.jobs ∙ moved.jobs))

    pub task_end_passes : IsProper (shape_of old.app) → ((task : ℕ) → IsBoardOf (shape_of old.app) task (board_at old.kept.boards task)) → (task : ℕ) → EndsTask task thawed mid
        → PassesAnew follows out (flush_task_end (shape_of old.app) task) old new asker asker' before after result
    task_end_passes proper fit task ends =
        let app : Shape = shape_of old.app in
        let same : mid.app ≡ old.app = ends.app ∙ moved.app in
        let none : mid.made ≡ nothing_made = ends.made ∙ moved.made in
        let moves : Moves app old.kept mid.kept (λ state. end_task app task (thaw state)) =
        moves_on (end_task app task) mid (subst (λ (h : Held). Moves (shape_of thawed.app) thawed.kept mid.kept (end_task (shape_of h) task)) moved.app ends.moves) in
        passes_anew follows out (λ state. end_task app task (thaw state)) old mid new asker asker' before after result same none moves p proper
        (λ state stands right.
        let stood : Follows app old.kept mid.kept state (end_task app task (thaw state)) = moves state stands in
        let later : Rises old.kept.boards mid.kept.boards =
        subst (λ bs. Rises bs mid.kept.boards) (sym stands.boards) (subst (Rises state.boards) (sym stood.stands.boards) (end_rises app task state)) in
        queues_both follows out (λ s. end_task app task (thaw s)) old mid new asker asker' before after result same none moves p
        ends.started (ends.jobs ∙ ap (λ l. l ++ ends.started) moved.jobs) (subst (λ bs. Starts bs mid.kept.boards ends.started) moved.boards ends.starts) later
        (λ t running h. (fit t).last running h)
        proper (end_task app task (thaw state)) stood.stands
        (ended_right app (orderly app proper) (covered app proper) task state right))

-- The parts of a session in which nothing has run.
use Rattle.std.proofs.Common.{◌≡◌, ℕ, zero, suc, List, [], ◌∷◌, length, map, filter, get_or, replicate, true, Some, refl, sym, ap, ◌∙◌, subst, arith}
use Rattle.std.proofs.lemmas.List.{length-map}
use Rattle.app_tree.specs.Held.{Held}
use Rattle.app_tree.specs.Tree.{Node, Shape}
use Rattle.app_tree.specs.Numbering.{SourceNumbers, readers, is_task, numbers_of}
use Rattle.app_tree.specs.View.{shape_of}
use Rattle.app_laws.specs.Proper.{IsProper}
use Rattle.dep_graph.specs.MarkedReaders.{MarkedReaders}
use Rattle.pending_set.specs.Waiting.{Waiting}
use Rattle.react_session.specs.Keeping.{Keeping}
use Rattle.session_model.specs.Flush.{priority_of}
use Rattle.session_model.specs.State.{first_boards}
use Rattle.session_model.specs.Standing.{KeptSession, KeptFlush, first_kept_readers, first_session, first_outputs, first_kept_flush}
use Rattle.session_model.specs.Tasks.{first_task}
use Rattle.task_board.specs.Board.{TaskBoard, idle, board_at}
use Rattle.task_board.specs.declared.job.Invocation.{Invocation}
use Rattle.task_board.specs.declared.job.Job.{Job}
use Rattle.app_tree.specs.Trace.{Every}
use Rattle.flush_cycle.specs.Jobs.{IsStarted}
use Rattle.flush_cycle.specs.declared.output.OutputState.{OutputState}
use Rattle.flush_cycle.specs.Working.{IsAtRest, Working, KnowsWaiting}
use Rattle.flush_cycle.specs.inner.Roles.{role_of, first_output, output_seen}
use Rattle.flush_cycle.specs.inner.Parts.{IsBoardOf, IsHeld}

-- each reader has its role, and none is shown or was run
roles_first : (is : List Node) → map (λ o. o.role) (map first_output is) ≡ map role_of is
roles_first [] = refl
roles_first (i ∷ is) = ap (λ l. role_of i ∷ l) (roles_first is)

seen_first : (is : List Node) → map output_seen (map first_output is) ≡ first_outputs is
seen_first [] = refl
seen_first (i ∷ is) = ap (λ l. output_seen (first_output i) ∷ l) (seen_first is)

-- no task was ever invoked
pub boards_first : (items : List Node) → replicate (length (filter is_task items)) idle ≡ first_boards items
boards_first items = alike (filter is_task items)
  where
    alike : (is : List Node) → replicate (length is) idle ≡ map (λ i. idle) is
    alike [] = refl
    alike (i ∷ is) = ap (λ l. idle ∷ l) (alike is)

contexts_first : (is : List Node) → length (first_kept_readers is) ≡ length is
contexts_first [] = refl
contexts_first (i ∷ is) = ap suc (contexts_first is)

idle_at : (is : List Node) (task : ℕ) → get_or (map (λ i. idle) is) task idle ≡ idle
idle_at [] task = refl
idle_at (i ∷ is) zero = refl
idle_at (i ∷ is) (suc task) = idle_at is task

none_runs : (running : Invocation) → idle.running ≡ Some running → ⊥
none_runs running h = cc

idle_fits : (app : Shape) (task : ℕ) → IsBoardOf app task idle
idle_fits app task = record {
  last = λ running h. absurd (none_runs running h);
  args = λ running h. absurd (none_runs running h);
  queued = tt;
}

-- ---- of the app of these parts

module _ (held : Held) (session : Keeping) (outputs : List OutputState) (boards : List TaskBoard)
    (is : session.session ≡ first_session (shape_of held)) (shown : outputs ≡ map first_output (readers (shape_of held)))
    (idles : boards ≡ first_boards (shape_of held).items) where
  abbrev app : Shape
  app = shape_of held

  pub kept_first : record { session = session.session; outputs = map output_seen outputs; boards = boards } ≡ first_kept_flush app
  kept_first = λ j. record { session = is j; outputs = (ap (map output_seen) shown ∙ seen_first (readers app)) j; boards = idles j }

  pub held_first : (numbers : SourceNumbers) (first : ℕ) (pending : Waiting) (marked : MarkedReaders) (jobs : List Job) → IsProper app
      → numbers ≡ numbers_of app → first ≡ first_task app → session.app ≡ held → pending.priorities ≡ map priority_of (readers app)
      → length pending.waits ≡ length (readers app) → marked.room ≡ length (readers app) → jobs ≡ []
      → IsHeld held numbers first session outputs boards pending marked jobs
  held_first numbers first pending marked jobs proper numbers_are first_is of priorities waits room none = record {
    proper = proper;
    numbers_are = numbers_are;
    first_is = first_is;
    app = of;
    sources = ap (λ (s : KeptSession). length s.values) is;
    contexts = ap (λ (s : KeptSession). length s.readers) is ∙ contexts_first (readers app);
    roles = ap (map (λ o. o.role)) shown ∙ roles_first (readers app);
    priorities = priorities;
    waits = waits;
    room = omega (room, arith);
    tasks = ap length idles ∙ length-map (filter is_task app.items) (λ i. idle);
    boards_fit = λ task.
        subst (IsBoardOf app task) (sym (ap (λ bs. board_at bs task) idles ∙ idle_at (filter is_task app.items) task)) (idle_fits app task);
    jobs_fit = subst (λ l. Every (IsStarted app boards) l) (sym none) tt;
  }

  -- nothing runs, and who waits is known
  pub rests_first : (w : Working) → w.app ≡ held → w.kept ≡ record { session = session.session; outputs = map output_seen outputs; boards = boards }
      → w.whole ≡ true → KnowsWaiting app (first_kept_flush app) w.pending → IsAtRest w
  rests_first w of kept whole knows = record {
    ready = record {
      whole = whole;
      waiting =
          subst (λ (h : Held). KnowsWaiting (shape_of h) w.kept w.pending) (sym of)
          (subst (λ (k : KeptFlush). KnowsWaiting app k w.pending) (sym (kept ∙ kept_first)) knows);
    };
    none_runs = ap (λ (k : KeptFlush). k.session.running) (kept ∙ kept_first);
  }

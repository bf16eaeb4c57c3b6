-- The numbers of the invocations rise through each flush, from a state in which what a session keeps is right.
use Rattle.std.proofs.Common.{◌≡◌, ℕ, zero, suc, ◌+◌, ◌-◌, Bool, true, false, List, [], ◌∷◌, ◌++◌, length, Option, Some, None, refl, sym, ap, ◌∙◌, subst}
use Rattle.std.specs.Prelude.{not, ◌&&◌, ◌||◌, slice_set, if◌then◌else◌}
use Rattle.std.proofs.Math.Bool.{and-eq-true_iff}
use Rattle.rx_value.specs.declared.value.Value.{Value}
use Rattle.rx_value.specs.declared.value.Value.TheVariants as v
use Rattle.rx_value.specs.declared.outcome.Outcome.{Outcome}
use Rattle.rx_value.specs.declared.outcome.Outcome.TheVariants as outcome
use Rattle.rx_value.specs.Functions.{is_null}
use Rattle.rx_value.specs.declared.source.SourceValue.{SourceValue}
use Rattle.rx_value.specs.declared.source.TaskView.TheVariants as view
use Rattle.rx_value.specs.declared.source.SourceValue.TheVariants.{Plain, Task}
use Rattle.rx_value.specs.Value.{source_eq}
use Rattle.rx_value.specs.Results.{choose}
use Rattle.app_tree.specs.declared.term.Read.{Read}
use Rattle.app_tree.specs.Tree.{Tree, Trees, no_trees, tree, Act, set, invoke, update, freeze, perform, branch, branch_else, Acts, no_acts, act, Node, input, value, task, reactive, event, text, plot, observe, on, Shape}
use Rattle.app_tree.specs.Numbering.{readers, reader, is_output, is_observer, is_evaluated}
use Rattle.app_tree.specs.Current.{value_at}
use Rattle.app_tree.specs.Evaluate.{site_count}
use Rattle.app_tree.specs.Cover.{reads_in, reads_in_all, is_covered}
use Rattle.app_tree.specs.Trace.{Every}
use Rattle.task_board.specs.declared.job.Invocation.{Invocation}
use Rattle.task_board.specs.declared.job.Invoked.{Invoked}
use Rattle.task_board.specs.declared.job.Invoked.TheVariants.{Started, Queued, QueueFull}
use Rattle.task_board.specs.declared.job.Ended.{Ended}
use Rattle.task_board.specs.declared.job.Ended.TheVariants.{Next, Quiet, Stale}
use Rattle.task_board.specs.Board.{TaskBoard, AfterInvoke, AfterEnd, board_at, invocation_result, end_result}
use Rattle.session_model.specs.declared.state.ReaderState.{ReaderState}
use Rattle.session_model.specs.State.{SessionState, reader_state, with_reader, with_sources, has_run, is_alive}
use Rattle.session_model.specs.Change.{with_source_value, change, frozen_value, thawed_value, thaw_from, thaw}
use Rattle.session_model.specs.Reading.{TermResult, read_term}
use Rattle.session_model.specs.Run.{passing_manner, visit_expression}
use Rattle.session_model.specs.Tasks.{first_task, see_task, ended_view, with_end_shown, end_running, end_task}
use Rattle.app_tree.specs.Tasks.{task_outcome}
use Rattle.session_model.specs.Observing.{StatementsResult, sources_reached, more_sources, with_reads, with_reads_counted, bare_result, done_result, then_statements_by, with_value_by, with_value, tell_input, after_invoke, invoke_task, choose_block, read_by_observer, with_values, run_statement, run_block, do_on, observe_node, run_observer}
use Rattle.session_model.specs.Flush.{is_wanted, is_waiting, next_waiting, RunResult, is_observer_at, make_by, make_run, FlushResult, failure_of, go_on_unless_failed, flush_step, flush_within, flush}
use Rattle.app_laws.specs.Orderly.{ReadsBelow, IsOrderly, IsNumbered, AreNumbered, act_sites, IsNumberedAct, AreNumberedActs, reads_in_act, reads_in_acts}
use Rattle.app_laws.proofs.Agreeing.{front, back}
use Rattle.session_laws.specs.Sound.{IsRight}
use Rattle.session_laws.proofs.Running.{output_leaves}
use Rattle.session_laws.proofs.Right.{observer_alone, same_node, right_observer, right_board, right_steps, right_change, right_thaw, right_output}
use Rattle.session_laws.proofs.Observed.{term_on}
use Rattle.session_laws.proofs.Journeys.{Waits, next_waits}
use Rattle.flush_cycle.proofs.JobsRise.{IsLater, later_refl, invoked_later, ended_later, Rises, set_rises}

-- ---- what leaves the boards

change_boards : (s : ℕ) (x : SourceValue) (M : SessionState) → (change s x M).boards ≡ M.boards
change_boards s x M = by (source_eq (value_at M.values s) x)
  where
    by : (b : Bool) → (if b then M else with_source_value s x M).boards ≡ M.boards
    by true = refl
    by false = refl

thaw_from_boards : (xs : List SourceValue) (s : ℕ) (M : SessionState) → (thaw_from s xs M).boards ≡ M.boards
thaw_from_boards [] s M = refl
thaw_from_boards (x ∷ xs) s M = thaw_from_boards xs (suc s) (change s (thawed_value x) M) ∙ change_boards s (thawed_value x) M

pub thaw_boards : (M : SessionState) → (thaw M).boards ≡ M.boards
thaw_boards M = thaw_from_boards M.values 0 M

-- ---- the end of a task

see_boards : (app : Shape) (start : List TaskBoard) (t u : ℕ) (x : SourceValue) (b : TaskBoard) (M : SessionState) → Rises start M.boards → IsLater (board_at M.boards t) b
    → Rises start (slice_set (change u x M).boards t b)
see_boards app start t u x b M rises h = subst (λ bs. Rises start (slice_set bs t b)) (sym (change_boards u x M)) (set_rises start M.boards t b rises h)

rises_refl : (boards : List TaskBoard) → Rises boards boards
rises_refl boards t = later_refl (board_at boards t)

shown_rises : (app : Shape) (t : ℕ) (o : Outcome) (after : AfterEnd) (answer : Ended) (M : SessionState) → IsLater (board_at M.boards t) after.board
    → Rises M.boards (with_end_shown app t o after answer M).boards
shown_rises app t o after Quiet M h = see_boards app M.boards t (first_task app + t) (Task (ended_view o)) after.board M (rises_refl M.boards) h
shown_rises app t o after (Next job) M h =
    subst (λ bs. Rises M.boards (slice_set bs t after.board))
    (sym (change_boards (first_task app + t) (Task view.Running) (see_task app t (ended_view o) M)))
    (see_boards app M.boards t (first_task app + t) (Task (ended_view o)) after.board M (rises_refl M.boards) h)
shown_rises app t o after (Stale number) M h = rises_refl M.boards

running_rises : (app : Shape) (t : ℕ) (o : Option Invocation) (M : SessionState) → Rises M.boards (end_running app t o M).boards
running_rises app t None M = rises_refl M.boards
running_rises app t (Some running) M =
    let after : AfterEnd = end_result t running.number (board_at M.boards t) in
    shown_rises app t (task_outcome app t running.args) after after.answer M (ended_later t running.number (board_at M.boards t))

pub end_rises : (app : Shape) (t : ℕ) (M : SessionState) → Rises M.boards (end_task app t (thaw M)).boards
end_rises app t M = subst (λ bs. Rises bs (end_task app t (thaw M)).boards) (thaw_boards M) (running_rises app t (board_at (thaw M).boards t).running (thaw M))

-- ---- the flush

module _ (app : Shape) (orderly : IsOrderly app) (covered : (n : ℕ) → is_covered app n ≡ true) (start : List TaskBoard) where
  -- what is kept is right, and the numbers have risen
  pub record IsFurther (M : SessionState) : Type 0 where
    pub right : IsRight app M
    pub rises : Rises start M.boards

  abbrev Low : Read → Type 0
  Low = ReadsBelow app (length (readers app))

  further_by : (M N : SessionState) → IsRight app N → N.boards ≡ M.boards → IsFurther M → IsFurther N
  further_by M N right same f = record { right = right; rises = subst (Rises start) (sym same) f.rises }

  further_change : (M : SessionState) (s : ℕ) (x : SourceValue) → IsFurther M → IsFurther (change s x M)
  further_change M s x f = further_by M (change s x M) (right_change app orderly covered M s x f.right) (change_boards s x M) f

  further_board : (M : SessionState) (t u : ℕ) (x : SourceValue) (b : TaskBoard) → IsLater (board_at M.boards t) b → IsFurther M
      → IsFurther (record (change u x M) { boards = slice_set (change u x M).boards t b })
  further_board M t u x b h f = record {
    right = right_board app orderly covered (change u x M) t b (right_change app orderly covered M u x f.right);
    rises = see_boards app start t u x b M f.rises h;
  }

  term_further : (M : SessionState) → IsFurther M → (t : Tree) (n : ℕ) → IsNumbered n t → Every Low (reads_in t)
      → IsFurther (read_term app (passing_manner (visit_expression app)) t [] M).state
  term_further M f t n numbered low =
      let on = term_on app orderly covered M f.right.sound t n numbered low in
      let N : SessionState = (read_term app (passing_manner (visit_expression app)) t [] M).state in
      further_by M N (right_steps app orderly covered (length (readers app)) M N f.right on.steps on.sound) on.steps.boards f

  module _ (n : ℕ) (alone : (i : Node) → reader app n ≡ Some i → is_evaluated i ≡ false) where
    written : (N : SessionState) (r : ReaderState) → IsFurther N → IsFurther (with_reader n r N)
    written N r f = record { right = right_observer app orderly covered N n r alone f.right; rises = f.rises }

    reads_further : (rs : List Read) (M : SessionState) → IsFurther M → IsFurther (with_reads app n rs M)
    reads_further [] M f = f
    reads_further (r ∷ rs) M f =
        reads_further rs (with_reader n (record (reader_state M n) { dependencies = more_sources (sources_reached app M r) (reader_state M n).dependencies }) M)
        (written M (record (reader_state M n) { dependencies = more_sources (sources_reached app M r) (reader_state M n).dependencies }) f)

    counting_further : (isolated : Bool) (e : TermResult) → IsFurther e.state → IsFurther (with_reads_counted app n isolated e).state
    counting_further true e f = f
    counting_further false e f = reads_further e.outside e.state f

    abbrev Keeps : (SessionState → StatementsResult) → Type 0
    Keeps f = (M : SessionState) → IsFurther M → IsFurther (f M).state

    observed_further : (isolated : Bool) (t : Tree) (k : ℕ) → IsNumbered k t → Every Low (reads_in t) → (M : SessionState) → IsFurther M → IsFurther (read_by_observer app n isolated t M).state
    observed_further isolated t k d low M f = counting_further isolated (read_term app (passing_manner (visit_expression app)) t [] M) (term_further M f t k d low)

    value_by : (e : TermResult) (x : Outcome) (next : Value → SessionState → StatementsResult) → IsFurther e.state → ((y : Value) → Keeps (next y)) → IsFurther (with_value_by e x next).state
    value_by e (outcome.Val y) next f k = k y e.state f
    value_by e (outcome.Fail t) next f k = f
    value_by e outcome.Stop next f k = f
    value_by e outcome.Cancel next f k = f
    value_by e outcome.Running next f k = f

    value_further : (e : TermResult) (next : Value → SessionState → StatementsResult) → IsFurther e.state → ((y : Value) → Keeps (next y)) → IsFurther (with_value e next).state
    value_further e next f k = value_by e e.outcome next f k

    acts_by : (a : StatementsResult) (x : Outcome) (next : SessionState → StatementsResult) → IsFurther a.state → Keeps next → IsFurther (then_statements_by a x next).state
    acts_by a (outcome.Val y) next f k = k a.state f
    acts_by a (outcome.Fail t) next f k = f
    acts_by a outcome.Stop next f k = f
    acts_by a outcome.Cancel next f k = f
    acts_by a outcome.Running next f k = f

    invoked_further : (t : ℕ) (after : AfterInvoke) (answer : Invoked) (M : SessionState) → IsLater (board_at M.boards t) after.board → IsFurther M → IsFurther (after_invoke app t after answer M).state
    invoked_further t after (Started job) M h f = further_board M t (first_task app + t) (Task view.Running) after.board h f
    invoked_further t after Queued M h f = record { right = right_board app orderly covered M t after.board f.right; rises = set_rises start M.boards t after.board f.rises h }
    invoked_further t after QueueFull M h f = f

    invoke_further : (t : ℕ) (xs : List Value) → Keeps (invoke_task app t xs)
    invoke_further t xs M f =
        let after : AfterInvoke = invocation_result t xs (board_at M.boards t) in
        invoked_further t after after.answer M (invoked_later t xs (board_at M.boards t)) f

    values_further : (isolated : Bool) (ts : Trees) (k : ℕ) → AreNumbered k ts → Every Low (reads_in_all ts) → (done : List Value) (next : List Value → SessionState → StatementsResult) → ((xs : List Value) → Keeps (next xs)) → Keeps (with_values app n isolated ts done next)
    values_further isolated no_trees k d low done next h M f = h done M f
    values_further isolated (tree t more) k d low done next h M f =
        value_further (read_by_observer app n isolated t M) (λ x. with_values app n isolated more (done ++ x ∷ []) next) (observed_further isolated t k d.0 (front Low (reads_in t) (reads_in_all more) low) M f)
        (λ x. values_further isolated more (k + site_count t) d.1 (back Low (reads_in t) (reads_in_all more) low) (done ++ x ∷ []) next h)

    block_further : (one other : SessionState → StatementsResult) → Keeps one → Keeps other → (x : Value) → Keeps (choose_block one other x)
    block_further one other p q (v.Bool true) M f = p M f
    block_further one other p q (v.Bool false) M f = q M f
    block_further one other p q v.Null M f = f
    block_further one other p q (v.Int z) M f = f
    block_further one other p q (v.Text t) M f = f
    block_further one other p q (v.Ints zs) M f = f

    mutual
      act_further : (isolated : Bool) (a : Act) (k : ℕ) → IsNumberedAct k a → Every Low (reads_in_act a) → Keeps (run_statement app n isolated a)
      act_further isolated (set s t) k d low M f =
          value_further (read_by_observer app n isolated t M) (λ x after. done_result (change s (Plain x) after)) (observed_further isolated t k d low M f) (λ x N g. further_change N s (Plain x) g)
      act_further isolated (invoke s ts) k d low M f =
          values_further isolated ts k d low [] (invoke_task app (s - first_task app)) (invoke_further (s - first_task app)) M f
      act_further isolated (update s t) k d low M f = value_further (read_by_observer app n isolated t M) (tell_input app s) (observed_further isolated t k d low M f) (λ x N g. g)
      act_further isolated (freeze s) k d low M f = further_change M s (frozen_value (value_at M.values s)) f
      act_further isolated (perform t) k d low M f = observed_further isolated t k d low M f
      act_further isolated (branch t block) k d low M f =
          value_further (read_by_observer app n isolated t M) (choose_block (run_block app n isolated block) done_result) (observed_further isolated t k d.0 (front Low (reads_in t) (reads_in_acts block) low) M f)
          (block_further (run_block app n isolated block) done_result (acts_further isolated block (k + site_count t) d.1 (back Low (reads_in t) (reads_in_acts block) low)) (λ N g. g))
      act_further isolated (branch_else t block other) k d low M f =
          let rest : Every Low (reads_in_acts block ++ reads_in_acts other) = back Low (reads_in t) (reads_in_acts block ++ reads_in_acts other) low in
          value_further (read_by_observer app n isolated t M) (choose_block (run_block app n isolated block) (run_block app n isolated other)) (observed_further isolated t k d.0 (front Low (reads_in t) (reads_in_acts block ++ reads_in_acts other) low) M f)
          (block_further (run_block app n isolated block) (run_block app n isolated other) (acts_further isolated block (k + site_count t) d.1.0 (front Low (reads_in_acts block) (reads_in_acts other) rest))
          (acts_further isolated other _ d.1.1 (back Low (reads_in_acts block) (reads_in_acts other) rest)))

      acts_further : (isolated : Bool) (block : Acts) (k : ℕ) → AreNumberedActs k block → Every Low (reads_in_acts block) → Keeps (run_block app n isolated block)
      acts_further isolated no_acts k d low M f = f
      acts_further isolated (act a more) k d low M f =
          acts_by (run_statement app n isolated a M) (run_statement app n isolated a M).outcome (run_block app n isolated more) (act_further isolated a k d.0 (front Low (reads_in_act a) (reads_in_acts more) low) M f)
          (acts_further isolated more (k + act_sites a) d.1 (back Low (reads_in_act a) (reads_in_acts more) low))

    chosen_further : (b : Bool) (one other : SessionState → StatementsResult) → Keeps one → Keeps other → Keeps (choose b one other)
    chosen_further true one other p q M f = p M f
    chosen_further false one other p q M f = q M f

    node_further : (first : Bool) (i : Node) → reader app n ≡ Some i → Keeps (observe_node app n first (Some i))
    node_further first (input name begin) is M f = f
    node_further first (value name begin) is M f = f
    node_further first (task name parameters body) is M f = f
    node_further first (reactive name keys body) is M f = f
    node_further first (event name flags e body) is M f = f
    node_further first (text name shown) is M f = f
    node_further first (plot name shown) is M f = f
    node_further first (observe name priority block) is M f = acts_further false block 0 (orderly.sites n (observe name priority block) is) (orderly.reads n (observe name priority block) is) M f
    node_further first (on name priority flags e block) is M f =
        let d = orderly.sites n (on name priority flags e block) is in
        let low : Every Low (reads_in e ++ reads_in_acts block) = orderly.reads n (on name priority flags e block) is in
        value_further (read_by_observer app n false e M) (do_on app n first flags block) (observed_further false e 0 d.0 (front Low (reads_in e) (reads_in_acts block) low) M f)
        (λ x. chosen_further (is_null x && not flags.allow_null || first && flags.ignore_init) (bare_result outcome.Stop) (run_block app n true block) (λ N g. g) (acts_further true block (suc (site_count e)) d.1 (back Low (reads_in e) (reads_in_acts block) low)))

    nobody : (first : Bool) (o : Option Node) → reader app n ≡ o → Keeps (observe_node app n first o)
    nobody first None is M f = f
    nobody first (Some i) is M f = node_further first i is M f

    observer_further : Keeps (run_observer app n)
    observer_further M f = nobody (not (has_run (reader_state M n))) (reader app n) refl (with_sources n [] M) (written M (record (reader_state M n) { dependencies = Some (record { sources = []; changed = false }) }) f)

  -- ---- runs

  wanted_output : (i : Node) (r : ReaderState) → is_wanted i r ≡ true → is_observer i ≡ false → is_output i ≡ true
  wanted_output (input name begin) r h o = cc
  wanted_output (value name begin) r h o = cc
  wanted_output (task name parameters body) r h o = cc
  wanted_output (reactive name keys body) r h o = cc
  wanted_output (event name flags e body) r h o = cc
  wanted_output (text name shown) r h o = refl
  wanted_output (plot name shown) r h o = refl
  wanted_output (observe name priority block) r h o = cc
  wanted_output (on name priority flags e block) r h o = cc

  not_true : (b : Bool) → not b ≡ true → b ≡ false
  not_true true h = cc
  not_true false h = refl

  run_by : (n : ℕ) (M : SessionState) → IsFurther M → (i : Node) → reader app n ≡ Some i → is_waiting i (reader_state M n) ≡ true → (b : Bool) → is_observer i ≡ b → IsFurther (make_by b app n M).state
  run_by n M f i is waits true o = observer_further n (λ j js. subst (λ k. is_evaluated k ≡ false) (same_node is js) (observer_alone i o)) M f
  run_by n M f i is waits false o =
      let both = (and-eq-true_iff (is_wanted i (reader_state M n)) (not (is_alive (reader_state M n)))).0 waits in
      let output : is_output i ≡ true = wanted_output i (reader_state M n) both.0 o in
      let dead : is_alive (reader_state M n) ≡ false = not_true (is_alive (reader_state M n)) both.1 in
      let left = output_leaves app orderly covered n i is output M f.right.sound dead in
      further_by M (make_by false app n M).state (right_output app orderly covered n i is output M f.right dead) left.boards f

  run_further : (n : ℕ) (M : SessionState) → IsFurther M → Waits app M n → IsFurther (make_run app n M).state
  run_further n M f w = subst (λ b. IsFurther (make_by b app n M).state) (sym (ap is_observer_at w.is)) (run_by n M f w.node w.is w.waits (is_observer w.node) refl)

  abbrev KeepsAll : (SessionState → FlushResult) → Type 0
  KeepsAll go_on = (M : SessionState) → IsFurther M → IsFurther (go_on M).state

  failure_further : (go_on : SessionState → FlushResult) → KeepsAll go_on → (why : Option (List ℕ)) → KeepsAll (go_on_unless_failed why go_on)
  failure_further go_on k None M f = k M f
  failure_further go_on k (Some why) M f = f

  step_further : (go_on : SessionState → FlushResult) → KeepsAll go_on → (o : Option ℕ) (M : SessionState) → next_waiting app M ≡ o → IsFurther M → IsFurther (flush_step app go_on M o).state
  step_further go_on k None M h f = f
  step_further go_on k (Some n) M h f =
      let first : RunResult = make_run app n M in
      failure_further go_on k (failure_of app first.run) first.state (run_further n M f (next_waits app M n h))

  within_further : (left : ℕ) → KeepsAll (flush_within app left)
  within_further zero M f = f
  within_further (suc left) M f = step_further (flush_within app left) (within_further left) (next_waiting app M) M refl f

  pub flush_further : KeepsAll (flush app)
  flush_further M f = within_further app.budget M f

pub flush_rises : (app : Shape) → IsOrderly app → ((n : ℕ) → is_covered app n ≡ true) → (M : SessionState) → IsRight app M → Rises M.boards (flush app M).state.boards
flush_rises app orderly covered M right = (flush_further app orderly covered M.boards M (record { right = right; rises = rises_refl M.boards })).rises

-- ---- what is kept stays right where a task ends

module _ (app : Shape) (orderly : IsOrderly app) (covered : (n : ℕ) → is_covered app n ≡ true) where
  shown_right : (t : ℕ) (o : Outcome) (after : AfterEnd) (answer : Ended) (M : SessionState) → IsRight app M → IsRight app (with_end_shown app t o after answer M)
  shown_right t o after Quiet M right = right_board app orderly covered (see_task app t (ended_view o) M) t after.board (right_change app orderly covered M (first_task app + t) (Task (ended_view o)) right)
  shown_right t o after (Next job) M right =
      right_board app orderly covered (see_task app t view.Running (see_task app t (ended_view o) M)) t after.board
      (right_change app orderly covered (see_task app t (ended_view o) M) (first_task app + t) (Task view.Running) (right_change app orderly covered M (first_task app + t) (Task (ended_view o)) right))
  shown_right t o after (Stale number) M right = right

  running_right : (t : ℕ) (o : Option Invocation) (M : SessionState) → IsRight app M → IsRight app (end_running app t o M)
  running_right t None M right = right
  running_right t (Some running) M right =
      shown_right t (task_outcome app t running.args) (end_result t running.number (board_at M.boards t)) (end_result t running.number (board_at M.boards t)).answer M right

  pub ended_right : (t : ℕ) (M : SessionState) → IsRight app M → IsRight app (end_task app t (thaw M))
  ended_right t M right = running_right t (board_at (thaw M).boards t).running (thaw M) (right_thaw app orderly covered M.values 0 M right)

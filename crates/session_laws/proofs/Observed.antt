-- An observer's run keeps right what a session keeps, and each of its terms comes to its evaluation on what every
-- reader gives now.
use Rattle.std.proofs.Common.{◌≡◌, ℕ, suc, ◌+◌, ◌-◌, Bool, true, false, List, [], ◌∷◌, ◌++◌, length, Option, Some, None, refl, sym, ap, ◌∙◌, subst, arith}
use Rattle.std.specs.Prelude.{not, ◌&&◌, ◌||◌}
use Rattle.rx_value.specs.declared.value.Value.{Value}
use Rattle.rx_value.specs.declared.value.Value.TheVariants as v
use Rattle.rx_value.specs.declared.outcome.Outcome.{Outcome}
use Rattle.rx_value.specs.declared.outcome.Outcome.TheVariants as outcome
use Rattle.rx_value.specs.Functions.{is_null}
use Rattle.rx_value.specs.declared.source.TaskView.TheVariants as view
use Rattle.rx_value.specs.declared.source.SourceValue.TheVariants.{Plain, Task}
use Rattle.rx_value.specs.Results.{choose}
use Rattle.app_tree.specs.declared.term.Read.{Read}
use Rattle.app_tree.specs.declared.term.Read.TheVariants as read
use Rattle.app_tree.specs.Tree.{Tree, Trees, no_trees, tree, Act, set, invoke, update, freeze, perform, branch, branch_else, Acts, no_acts, act, Node, input, value, task, reactive, event, text, plot, observe, on, Shape}
use Rattle.app_tree.specs.Numbering.{readers, reader, is_evaluated}
use Rattle.app_tree.specs.Current.{value_at, told}
use Rattle.app_tree.specs.Evaluate.{Evaluation, evaluate, site_count}
use Rattle.app_tree.specs.Cover.{reads_in, reads_in_all, is_covered}
use Rattle.app_tree.specs.Fresh.{known_at, answer_to, fresh_outcome}
use Rattle.task_board.specs.declared.job.Invoked.{Invoked}
use Rattle.task_board.specs.declared.job.Invoked.TheVariants.{Started, Queued, QueueFull}
use Rattle.task_board.specs.Board.{AfterInvoke, board_at, invocation_result}
use Rattle.session_model.specs.declared.state.ReaderState.{ReaderState}
use Rattle.session_model.specs.State.{SessionState, isolated_of, reader_state, with_reader, with_sources, has_run}
use Rattle.session_model.specs.Change.{change, frozen_value}
use Rattle.app_tree.specs.Trace.{Every}
use Rattle.session_model.specs.Reading.{TermResult, read_term}
use Rattle.session_model.specs.Run.{passing_manner, visit_expression}
use Rattle.session_model.specs.Tasks.{first_task, see_task}
use Rattle.session_model.specs.Observing.{StatementsResult, sources_reached, more_sources, with_reads, with_reads_counted, bare_result, done_result, then_statements_by, with_value_by, with_value, tell_input, after_invoke, invoke_task, choose_block, read_by_observer, with_values, run_statement, run_block, do_on, observe_node, run_observer}
use Rattle.app_laws.specs.Orderly.{ReadsBelow, IsOrderly, IsNumbered, AreNumbered, act_sites, IsNumberedAct, AreNumberedActs, reads_in_act, reads_in_acts}
use Rattle.session_laws.specs.Now.{known_now, term_answers, read_by_trace}
use Rattle.session_laws.specs.Sound.{IsSound, IsRight}
use Rattle.app_laws.proofs.Agreeing.{front, back}
use Rattle.app_laws.proofs.WhatIsAsked.{term_asks}
use Rattle.session_laws.proofs.Freshness.{expression_now}
use Rattle.session_laws.proofs.Moving.{Steps, steps_refl, steps_trans, Good}
use Rattle.session_laws.proofs.Walking.{expression_of}
use Rattle.session_laws.proofs.Threading.{Serves, IsSourceRead, walks_fine, term_through}
use Rattle.session_laws.proofs.Running.{visits_good}
use Rattle.session_laws.proofs.Right.{sound_observer, right_observer, right_board, right_steps, right_change}

module _ (app : Shape) (orderly : IsOrderly app) (covered : (n : ℕ) → is_covered app n ≡ true) where
  abbrev R : ℕ
  R = length (readers app)

  good : Good app R (visit_expression app)
  good = visits_good app orderly covered R

  abbrev Low : Read → Type 0
  Low = ReadsBelow app R

  -- ---- a term
  module _ (M : SessionState) where
    pub record IsOn (N : SessionState) : Type 0 where
      pub sound : IsSound app N
      pub steps : Steps app R M N

    told_same : (r : Read) → IsSourceRead r → (N : SessionState) → IsOn N → told app N.values r ≡ answer_to app M.values (known_now app M) r
    told_same (read.Expr m) q N f = absurd q
    told_same (read.Input s) q N f = ap (λ v. told app v (read.Input s)) f.steps.same.values
    told_same (read.Value s) q N f = ap (λ v. told app v (read.Value s)) f.steps.same.values
    told_same (read.Status s) q N f = ap (λ v. told app v (read.Status s)) f.steps.same.values
    told_same (read.Result s) q N f = ap (λ v. told app v (read.Result s)) f.steps.same.values
    told_same (read.Width m) q N f = ap (λ v. told app v (read.Width m)) f.steps.same.values
    told_same (read.Height m) q N f = ap (λ v. told app v (read.Height m)) f.steps.same.values

    visit_on : (m : ℕ) → Low (read.Expr m) → (N : SessionState) → IsOn N → IsOn (visit_expression app m N).state
    visit_on m h N f = let w = good m h.0 h.1 N f.sound in record { sound = w.sound; steps = steps_trans app f.steps w.steps }

    visit_gives : (m : ℕ) → Low (read.Expr m) → (N : SessionState) → IsOn N → fresh_outcome app (visit_expression app m N).state.values (isolated_of (visit_expression app m N).state) m ≡ (known_at (known_now app M) m).outcome
    visit_gives m h N f =
        let w = good m h.0 h.1 N f.sound in
        let e = expression_of app m h.1 in
        expression_now app orderly (visit_expression app m N).state w.sound m e.0 e.1 e.2 w.alive ∙ ap (λ l. (known_at l m).outcome) (w.steps.same.known ∙ f.steps.same.known)

    serves : Serves app (passing_manner (visit_expression app)) (term_answers app M) Low IsOn
    serves = record { source = told_same; gives = visit_gives; visits = visit_on; keeps = λ s x N f. f }

    module _ (sound : IsSound app M) (t : Tree) (n : ℕ) (numbered : IsNumbered n t) (low : Every Low (reads_in t)) where
      starts : IsOn M
      starts = record { sound = sound; steps = steps_refl app R M }

      -- a term of an observer as it is stated is the term by its evaluation
      pub term_is : read_term app (passing_manner (visit_expression app)) t [] M ≡ read_by_trace app (passing_manner (visit_expression app)) t M
      term_is = term_through app (passing_manner (visit_expression app)) (term_answers app M) Low IsOn serves n (n + site_count t) (λ s i j. refl) t n numbered low (omega arith) (omega arith) [] M starts

      pub term_on : IsOn (read_term app (passing_manner (visit_expression app)) t [] M).state
      term_on =
          let e : Evaluation = evaluate t (term_answers app M) [] in
          subst (λ (r : TermResult). IsOn r.state) (sym term_is)
          (walks_fine app (passing_manner (visit_expression app)) (term_answers app M) Low IsOn serves e.asked (term_asks (term_answers app M) Low t n (n + site_count t) numbered low (omega arith) []) M starts)

    term_right : (right : IsRight app M) (t : Tree) (n : ℕ) → IsNumbered n t → Every Low (reads_in t) → IsRight app (read_term app (passing_manner (visit_expression app)) t [] M).state
    term_right right t n numbered low =
        let on : IsOn (read_term app (passing_manner (visit_expression app)) t [] M).state = term_on right.sound t n numbered low in
        right_steps app orderly covered R M (read_term app (passing_manner (visit_expression app)) t [] M).state right on.steps on.sound

  -- ---- the statements of observer n
  module _ (n : ℕ) (alone : (i : Node) → reader app n ≡ Some i → is_evaluated i ≡ false) where
    -- what holds through each write of what the observer has reached
    reads_keep : (P : SessionState → Type 0) → ((N : SessionState) (r : ReaderState) → P N → P (with_reader n r N)) → (rs : List Read) (M : SessionState) → P M → P (with_reads app n rs M)
    reads_keep P writes [] M p = p
    reads_keep P writes (r ∷ rs) M p =
        reads_keep P writes rs (with_reader n (record (reader_state M n) { dependencies = more_sources (sources_reached app M r) (reader_state M n).dependencies }) M)
        (writes M (record (reader_state M n) { dependencies = more_sources (sources_reached app M r) (reader_state M n).dependencies }) p)

    counting_keeps : (P : SessionState → Type 0) → ((N : SessionState) (r : ReaderState) → P N → P (with_reader n r N)) → (isolated : Bool) (e : TermResult) → P e.state → P (with_reads_counted app n isolated e).state
    counting_keeps P writes true e p = p
    counting_keeps P writes false e p = reads_keep P writes e.outside e.state p

    counting_right : (isolated : Bool) (e : TermResult) → IsRight app e.state → IsRight app (with_reads_counted app n isolated e).state
    counting_right isolated e right = counting_keeps (IsRight app) (λ N r p. right_observer app orderly covered N n r alone p) isolated e right

    pub observed_sound : (isolated : Bool) (t : Tree) (k : ℕ) → IsNumbered k t → Every Low (reads_in t) → (M : SessionState) → IsSound app M → IsSound app (read_by_observer app n isolated t M).state
    observed_sound isolated t k d low M sound =
        counting_keeps (IsSound app) (λ N r p. sound_observer app orderly covered N n r alone p) isolated (read_term app (passing_manner (visit_expression app)) t [] M) (term_on M sound t k d low).sound

    abbrev Keeps : (SessionState → StatementsResult) → Type 0
    Keeps f = (M : SessionState) → IsRight app M → IsRight app (f M).state

    observed_right : (isolated : Bool) (t : Tree) (k : ℕ) → IsNumbered k t → Every Low (reads_in t) → (M : SessionState) → IsRight app M → IsRight app (read_by_observer app n isolated t M).state
    observed_right isolated t k d low M right = counting_right isolated (read_term app (passing_manner (visit_expression app)) t [] M) (term_right M right t k d low)

    value_by : (e : TermResult) (x : Outcome) (next : Value → SessionState → StatementsResult) → IsRight app e.state → ((y : Value) → Keeps (next y)) → IsRight app (with_value_by e x next).state
    value_by e (outcome.Val y) next right k = k y e.state right
    value_by e (outcome.Fail t) next right k = right
    value_by e outcome.Stop next right k = right
    value_by e outcome.Cancel next right k = right
    value_by e outcome.Running next right k = right

    value_right : (e : TermResult) (next : Value → SessionState → StatementsResult) → IsRight app e.state → ((y : Value) → Keeps (next y)) → IsRight app (with_value e next).state
    value_right e next right k = value_by e e.outcome next right k

    acts_by : (a : StatementsResult) (x : Outcome) (next : SessionState → StatementsResult) → IsRight app a.state → Keeps next → IsRight app (then_statements_by a x next).state
    acts_by a (outcome.Val y) next right k = k a.state right
    acts_by a (outcome.Fail t) next right k = right
    acts_by a outcome.Stop next right k = right
    acts_by a outcome.Cancel next right k = right
    acts_by a outcome.Running next right k = right

    invoked_right : (t : ℕ) (after : AfterInvoke) (answer : Invoked) → Keeps (after_invoke app t after answer)
    invoked_right t after (Started job) M right = right_board app orderly covered (see_task app t view.Running M) t after.board (right_change app orderly covered M (first_task app + t) (Task view.Running) right)
    invoked_right t after Queued M right = right_board app orderly covered M t after.board right
    invoked_right t after QueueFull M right = right

    values_right : (isolated : Bool) (ts : Trees) (k : ℕ) → AreNumbered k ts → Every Low (reads_in_all ts) → (done : List Value) (next : List Value → SessionState → StatementsResult) → ((xs : List Value) → Keeps (next xs)) → Keeps (with_values app n isolated ts done next)
    values_right isolated no_trees k d low done next h M right = h done M right
    values_right isolated (tree t more) k d low done next h M right =
        value_right (read_by_observer app n isolated t M) (λ x. with_values app n isolated more (done ++ x ∷ []) next) (observed_right isolated t k d.0 (front Low (reads_in t) (reads_in_all more) low) M right)
        (λ x. values_right isolated more (k + site_count t) d.1 (back Low (reads_in t) (reads_in_all more) low) (done ++ x ∷ []) next h)

    block_right : (one other : SessionState → StatementsResult) → Keeps one → Keeps other → (x : Value) → Keeps (choose_block one other x)
    block_right one other p q (v.Bool true) M right = p M right
    block_right one other p q (v.Bool false) M right = q M right
    block_right one other p q v.Null M right = right
    block_right one other p q (v.Int z) M right = right
    block_right one other p q (v.Text t) M right = right
    block_right one other p q (v.Ints zs) M right = right

    mutual
      act_right : (isolated : Bool) (a : Act) (k : ℕ) → IsNumberedAct k a → Every Low (reads_in_act a) → Keeps (run_statement app n isolated a)
      act_right isolated (set s t) k d low M right =
          value_right (read_by_observer app n isolated t M) (λ x after. done_result (change s (Plain x) after)) (observed_right isolated t k d low M right) (λ x N r. right_change app orderly covered N s (Plain x) r)
      act_right isolated (invoke s ts) k d low M right =
          values_right isolated ts k d low [] (invoke_task app (s - first_task app))
          (λ xs N r. invoked_right (s - first_task app) (invocation_result (s - first_task app) xs (board_at N.boards (s - first_task app))) (invocation_result (s - first_task app) xs (board_at N.boards (s - first_task app))).answer N r) M right
      act_right isolated (update s t) k d low M right = value_right (read_by_observer app n isolated t M) (tell_input app s) (observed_right isolated t k d low M right) (λ x N r. r)
      act_right isolated (freeze s) k d low M right = right_change app orderly covered M s (frozen_value (value_at M.values s)) right
      act_right isolated (perform t) k d low M right = observed_right isolated t k d low M right
      act_right isolated (branch t block) k d low M right =
          value_right (read_by_observer app n isolated t M) (choose_block (run_block app n isolated block) done_result) (observed_right isolated t k d.0 (front Low (reads_in t) (reads_in_acts block) low) M right)
          (block_right (run_block app n isolated block) done_result (acts_right isolated block (k + site_count t) d.1 (back Low (reads_in t) (reads_in_acts block) low)) (λ N r. r))
      act_right isolated (branch_else t block other) k d low M right =
          let rest : Every Low (reads_in_acts block ++ reads_in_acts other) = back Low (reads_in t) (reads_in_acts block ++ reads_in_acts other) low in
          value_right (read_by_observer app n isolated t M) (choose_block (run_block app n isolated block) (run_block app n isolated other)) (observed_right isolated t k d.0 (front Low (reads_in t) (reads_in_acts block ++ reads_in_acts other) low) M right)
          (block_right (run_block app n isolated block) (run_block app n isolated other) (acts_right isolated block (k + site_count t) d.1.0 (front Low (reads_in_acts block) (reads_in_acts other) rest))
          (acts_right isolated other _ d.1.1 (back Low (reads_in_acts block) (reads_in_acts other) rest)))

      acts_right : (isolated : Bool) (block : Acts) (k : ℕ) → AreNumberedActs k block → Every Low (reads_in_acts block) → Keeps (run_block app n isolated block)
      acts_right isolated no_acts k d low M right = right
      acts_right isolated (act a more) k d low M right =
          acts_by (run_statement app n isolated a M) (run_statement app n isolated a M).outcome (run_block app n isolated more) (act_right isolated a k d.0 (front Low (reads_in_act a) (reads_in_acts more) low) M right)
          (acts_right isolated more (k + act_sites a) d.1 (back Low (reads_in_act a) (reads_in_acts more) low))

    chosen_right : (b : Bool) (one other : SessionState → StatementsResult) → Keeps one → Keeps other → Keeps (choose b one other)
    chosen_right true one other p q M right = p M right
    chosen_right false one other p q M right = q M right

    node_right : (first : Bool) (i : Node) → reader app n ≡ Some i → Keeps (observe_node app n first (Some i))
    node_right first (input name start) is M right = right
    node_right first (value name start) is M right = right
    node_right first (task name parameters body) is M right = right
    node_right first (reactive name keys body) is M right = right
    node_right first (event name flags e body) is M right = right
    node_right first (text name shown) is M right = right
    node_right first (plot name shown) is M right = right
    node_right first (observe name priority block) is M right = acts_right false block 0 (orderly.sites n (observe name priority block) is) (orderly.reads n (observe name priority block) is) M right
    node_right first (on name priority flags e block) is M right =
        let d = orderly.sites n (on name priority flags e block) is in
        let low : Every Low (reads_in e ++ reads_in_acts block) = orderly.reads n (on name priority flags e block) is in
        value_right (read_by_observer app n false e M) (do_on app n first flags block) (observed_right false e 0 d.0 (front Low (reads_in e) (reads_in_acts block) low) M right)
        (λ x. chosen_right (is_null x && not flags.allow_null || first && flags.ignore_init) (bare_result outcome.Stop) (run_block app n true block) (λ N r. r) (acts_right true block (suc (site_count e)) d.1 (back Low (reads_in e) (reads_in_acts block) low)))

    nobody : (first : Bool) (o : Option Node) → reader app n ≡ o → Keeps (observe_node app n first o)
    nobody first None is M right = right
    nobody first (Some i) is M right = node_right first i is M right

    pub right_observed : Keeps (run_observer app n)
    right_observed M right =
        nobody (not (has_run (reader_state M n))) (reader app n) refl (with_sources n [] M) (right_observer app orderly covered M n (record (reader_state M n) { dependencies = Some (record { sources = []; changed = false }) }) alone right)

-- Each flush, each event and each journal leave what a session keeps right; and where no one waits, each output that is
-- shown has last come to its fresh outcome.
use Rattle.std.proofs.Common.{◌≡◌, ◌<◌, ℕ, zero, suc, ◌+◌, Bool, true, false, List, [], ◌∷◌, length, Option, Some, None, refl, sym, ap, ◌∙◌, subst, arith}
use Rattle.std.proofs.lemmas.Bool.{false≢true}
use Rattle.std.specs.Prelude.{⊤, not, ◌&&◌, ◌||◌, slice_get, unwrap_or, option_map, int_lt, if◌then◌else◌}
use Rattle.std.proofs.Math.Bool.{and-eq-true_iff}
use Rattle.rx_value.specs.declared.value.Value.{Value}
use Rattle.rx_value.specs.declared.outcome.Outcome.{Outcome}
use Rattle.rx_value.specs.declared.source.TaskView.TheVariants as view
use Rattle.rx_value.specs.declared.source.SourceValue.TheVariants.{Plain, Task}
use Rattle.shiny_json.specs.declared.message.Pair.{Pair}
use Rattle.shiny_json.specs.declared.message.Client.{Client}
use Rattle.shiny_json.specs.declared.message.Client.TheVariants.{Init, Update, Refused}
use Rattle.shiny_json.specs.Client.{client_message}
use Rattle.app_tree.specs.Tree.{Node, input, value, task, reactive, event, text, plot, observe, on, Shape}
use Rattle.app_tree.specs.Numbering.{readers, reader, is_output, is_observer, width_source, height_source, is_evaluated}
use Rattle.app_tree.specs.Evaluate.{Evaluation}
use Rattle.app_tree.specs.Cover.{is_covered}
use Rattle.app_tree.specs.Fresh.{fresh_outcome}
use Rattle.task_board.specs.declared.job.Invocation.{Invocation}
use Rattle.task_board.specs.declared.job.Ended.{Ended}
use Rattle.task_board.specs.declared.job.Ended.TheVariants.{Next, Quiet, Stale}
use Rattle.task_board.specs.Board.{AfterEnd, board_at, end_result}
use Rattle.session_model.specs.declared.event.Event.{Event}
use Rattle.session_model.specs.declared.event.Event.TheVariants.{Text, Other, TaskEnd, End}
use Rattle.session_model.specs.declared.state.ReaderState.{ReaderState}
use Rattle.session_model.specs.State.{SessionState, first_reader, first_state, isolated_of, reader_state, is_alive}
use Rattle.session_model.specs.Change.{thaw}
use Rattle.session_model.specs.Tasks.{first_task, ended_view, see_task, with_end_shown, end_running, end_task, is_running}
use Rattle.app_tree.specs.Tasks.{task_outcome}
use Rattle.session_model.specs.Flush.{is_wanted, is_waiting, Waiting, first_of, and_later, priority_of, waiting_from, next_waiting, RunResult, is_observer_at, make_by, make_run, FlushEnd, done, budget_spent, observer_failed, FlushResult, failure_of, go_on_unless_failed, flush_step, flush_within, flush}
use Rattle.session_model.specs.Apply.{Target, width, height, hidden, target_of, is_shown_by, with_shown, apply_to, apply_pair, apply_pairs}
use Rattle.session_model.specs.Apply as target
use Rattle.session_model.specs.Alone.{Ending, JournalResult, first_result, Effect, flushes, refuses, ends, nothing, flush_with_pairs, message_effect, task_effect, event_effect, effect_from, effect, flush_ending, items_after, result_after, after_event, result_from, journal_result}
use Rattle.app_laws.specs.Orderly.{IsOrderly}
use Rattle.session_laws.specs.Sound.{IsRight}
use Rattle.session_laws.proofs.Expected.{settled, nobody_waits}
use Rattle.app_laws.proofs.KnownLists.{get_in}
use Rattle.session_laws.proofs.Moving.{not_both}
use Rattle.session_laws.proofs.Freshness.{reader_fresh}
use Rattle.session_laws.proofs.Running.{no_expression}
use Rattle.session_laws.proofs.Right.{observer_alone, right_write, right_board, right_change, right_thaw, right_output, right_first}
use Rattle.session_laws.proofs.Observed.{right_observed}

-- ---- who waits is an observer or an output that isn't alive

pub record Waits (app : Shape) (state : SessionState) (n : ℕ) : Type 0 where
  pub node : Node
  pub is : reader app n ≡ Some node
  pub waits : is_waiting node (reader_state state n) ≡ true

record WaitsFrom (n : ℕ) (is : List Node) (rs : List ReaderState) (w : Waiting) : Type 0 where
  behind : ℕ
  node : Node
  kept : ReaderState
  number : w.number ≡ n + behind
  here : slice_get is behind ≡ Some node
  there : slice_get rs behind ≡ Some kept
  waits : is_waiting node kept ≡ true

one_of : (w : Waiting) (later : Option Waiting) (P : Waiting → Type 0) → P w → ((x : Waiting) → later ≡ Some x → P x) → P (first_of w later)
one_of w None P p k = p
one_of w (Some x) P p k = by (int_lt w.priority x.priority)
  where
    by : (b : Bool) → P (if b then x else w)
    by true = k x refl
    by false = p

pub moved_on : (n k : ℕ) → suc n + k ≡ n + suc k
moved_on n k = omega arith

still : (n : ℕ) → n ≡ n + 0
still n = omega arith

pub some_is : {A : Type 0} {x y : A} → Some x ≡ Some y → x ≡ y
some_is h = cc

later_waits : (n : ℕ) (i : Node) (is : List Node) (r : ReaderState) (rs : List ReaderState) (x : Waiting) → WaitsFrom (suc n) is rs x → WaitsFrom n (i ∷ is) (r ∷ rs) x
later_waits n i is r rs x f = record { behind = suc f.behind; node = f.node; kept = f.kept; number = f.number ∙ moved_on n f.behind; here = f.here; there = f.there; waits = f.waits }

waits_at : (n : ℕ) (i : Node) (is : List Node) (r : ReaderState) (rs : List ReaderState) (w : Waiting) (b : Bool) → is_waiting i r ≡ b → ((x : Waiting) → waiting_from (suc n) is rs ≡ Some x → WaitsFrom n (i ∷ is) (r ∷ rs) x)
    → and_later b (record { number = n; priority = priority_of i }) (waiting_from (suc n) is rs) ≡ Some w → WaitsFrom n (i ∷ is) (r ∷ rs) w
waits_at n i is r rs w true q k g =
    subst (WaitsFrom n (i ∷ is) (r ∷ rs)) (some_is g)
    (one_of (record { number = n; priority = priority_of i }) (waiting_from (suc n) is rs) (WaitsFrom n (i ∷ is) (r ∷ rs))
    (record { behind = 0; node = i; kept = r; number = still n; here = refl; there = refl; waits = q }) k)
waits_at n i is r rs w false q k g = k w g

waits_from : (n : ℕ) (is : List Node) (rs : List ReaderState) (w : Waiting) → waiting_from n is rs ≡ Some w → WaitsFrom n is rs w
waits_from n [] rs w h = cc
waits_from n (i ∷ is) [] w h = cc
waits_from n (i ∷ is) (r ∷ rs) w h = waits_at n i is r rs w (is_waiting i r) refl (λ x q. later_waits n i is r rs x (waits_from (suc n) is rs x q)) h

mapped : (o : Option Waiting) (n : ℕ) → option_map (λ w. w.number) o ≡ Some n → (w : Waiting) × (o ≡ Some w) × (w.number ≡ n)
mapped None n h = cc
mapped (Some w) n h = (w, refl, some_is h)

pub next_waits : (app : Shape) (state : SessionState) (n : ℕ) → next_waiting app state ≡ Some n → Waits app state n
next_waits app state n h =
    let found = mapped (waiting_from 0 (readers app) state.readers) n h in
    let f : WaitsFrom 0 (readers app) state.readers found.0 = waits_from 0 (readers app) state.readers found.0 found.1 in
    let at : f.behind ≡ n = (let number = f.number in let same = found.2 in omega (number, same, arith)) in
    subst (Waits app state) at (record { node = f.node; is = f.here; waits = subst (λ r. is_waiting f.node r ≡ true) (sym (ap (λ o. unwrap_or o first_reader) f.there)) f.waits })

pub get_some : {A : Type 0} (xs : List A) (n : ℕ) → n < length xs → (x : A) × (slice_get xs n ≡ Some x)
get_some [] n h = absurd (omega (h, arith))
get_some (x ∷ xs) zero h = (x, refl)
get_some (x ∷ xs) (suc n) h = get_some xs n (omega (h, arith))

-- ---- such a reader

wanted_kind : (i : Node) (r : ReaderState) → is_wanted i r ≡ true → is_observer i ≡ false → is_output i ≡ true
wanted_kind (input name start) r h o = cc
wanted_kind (value name start) r h o = cc
wanted_kind (task name parameters body) r h o = cc
wanted_kind (reactive name keys body) r h o = cc
wanted_kind (event name flags e body) r h o = cc
wanted_kind (text name shown) r h o = refl
wanted_kind (plot name shown) r h o = refl
wanted_kind (observe name priority block) r h o = cc
wanted_kind (on name priority flags e block) r h o = cc

not_true : (b : Bool) → not b ≡ true → b ≡ false
not_true true h = cc
not_true false h = refl

waiting_dead : (i : Node) (r : ReaderState) → is_waiting i r ≡ true → is_alive r ≡ false
waiting_dead i r h = by (is_wanted i r) h
  where
    by : (a : Bool) → (a && not (is_alive r)) ≡ true → is_alive r ≡ false
    by true q = not_true (is_alive r) q
    by false q = cc

module _ (app : Shape) (orderly : IsOrderly app) (covered : (n : ℕ) → is_covered app n ≡ true) where
  -- ---- the flush

  run_by : (n : ℕ) (state : SessionState) → IsRight app state → (i : Node) → reader app n ≡ Some i → is_waiting i (reader_state state n) ≡ true → (b : Bool) → is_observer i ≡ b → IsRight app (make_by b app n state).state
  run_by n state right i is waits true o = right_observed app orderly covered n (λ j js. subst (λ k. is_evaluated k ≡ false) (some_is (sym is ∙ js)) (observer_alone i o)) state right
  run_by n state right i is waits false o =
      right_output app orderly covered n i is (wanted_kind i (reader_state state n) ((and-eq-true_iff (is_wanted i (reader_state state n)) (not (is_alive (reader_state state n)))).0 waits).0 o) state right (waiting_dead i (reader_state state n) waits)

  pub right_run : (n : ℕ) (state : SessionState) → IsRight app state → Waits app state n → IsRight app (make_run app n state).state
  right_run n state right w = subst (λ b. IsRight app (make_by b app n state).state) (sym (ap is_observer_at w.is)) (run_by n state right w.node w.is w.waits (is_observer w.node) refl)

  abbrev Keeps : (SessionState → FlushResult) → Type 0
  Keeps go_on = (state : SessionState) → IsRight app state → IsRight app (go_on state).state

  failure_right : (go_on : SessionState → FlushResult) → Keeps go_on → (why : Option (List ℕ)) → Keeps (go_on_unless_failed why go_on)
  failure_right go_on k None state right = k state right
  failure_right go_on k (Some why) state right = right

  step_right : (go_on : SessionState → FlushResult) → Keeps go_on → (o : Option ℕ) (state : SessionState) → next_waiting app state ≡ o → IsRight app state → IsRight app (flush_step app go_on state o).state
  step_right go_on k None state h right = right
  step_right go_on k (Some n) state h right =
      let first : RunResult = make_run app n state in
      failure_right go_on k (failure_of app first.run) first.state (right_run n state right (next_waits app state n h))

  flush_right : (left : ℕ) → Keeps (flush_within app left)
  flush_right zero state right = right
  flush_right (suc left) state right = step_right (flush_within app left) (flush_right left) (next_waiting app state) state refl right

  pub right_flush : (state : SessionState) → IsRight app state → IsRight app (flush app state).state
  right_flush state right = flush_right app.budget state right

  -- ---- an event

  shown_right : (n : ℕ) (shown : Bool) (state : SessionState) → IsRight app state → IsRight app (with_shown n shown state)
  shown_right n shown state right = right_write app orderly covered state n (record (reader_state state n) { shown = shown }) (record { dependencies = refl; isolated = refl }) refl right

  applied_to : (t : Option Target) (x : Value) (state : SessionState) → IsRight app state → IsRight app (apply_to app t x state)
  applied_to None x state right = right
  applied_to (Some (target.input s)) x state right = right_change app orderly covered state s (Plain x) right
  applied_to (Some (width n)) x state right = right_change app orderly covered state (width_source app n) (Plain x) right
  applied_to (Some (height n)) x state right = right_change app orderly covered state (height_source app n) (Plain x) right
  applied_to (Some (hidden n)) x state right = shown_right n (is_shown_by x) state right

  pairs_right : (ps : List Pair) (state : SessionState) → IsRight app state → IsRight app (apply_pairs app ps state)
  pairs_right [] state right = right
  pairs_right (p ∷ ps) state right = pairs_right ps (apply_pair app p state) (applied_to (target_of p.name app.items) p.value state right)

  thawed_right : (state : SessionState) → IsRight app state → IsRight app (thaw state)
  thawed_right state right = right_thaw app orderly covered state.values 0 state right

  pub right_applied : (ps : List Pair) (state : SessionState) → IsRight app state → IsRight app (flush_with_pairs app ps state).state
  right_applied ps state right = right_flush (apply_pairs app ps (thaw state)) (pairs_right ps (thaw state) (thawed_right state right))

  after_right : (t : ℕ) (o : Outcome) (after : AfterEnd) (answer : Ended) (state : SessionState) → IsRight app state → IsRight app (with_end_shown app t o after answer state)
  after_right t o after Quiet state right = right_board app orderly covered (see_task app t (ended_view o) state) t after.board (right_change app orderly covered state (first_task app + t) (Task (ended_view o)) right)
  after_right t o after (Next job) state right =
      right_board app orderly covered (see_task app t view.Running (see_task app t (ended_view o) state)) t after.board
      (right_change app orderly covered (see_task app t (ended_view o) state) (first_task app + t) (Task view.Running) (right_change app orderly covered state (first_task app + t) (Task (ended_view o)) right))
  after_right t o after (Stale number) state right = right

  running_right : (t : ℕ) (o : Option Invocation) (state : SessionState) → IsRight app state → IsRight app (end_running app t o state)
  running_right t None state right = right
  running_right t (Some running) state right =
      after_right t (task_outcome app t running.args) (end_result t running.number (board_at state.boards t)) (end_result t running.number (board_at state.boards t)).answer state right

  pub right_ended : (t : ℕ) (state : SessionState) → IsRight app state → IsRight app (flush app (end_task app t (thaw state))).state
  right_ended t state right = right_flush (end_task app t (thaw state)) (running_right t (board_at (thaw state).boards t).running (thaw state) (thawed_right state right))

  -- ---- a journal

  -- what an effect has made is right, and where it flushed to its end nobody waits
  abbrev IsRightEffect : Effect → Type 0
  IsRightEffect (flushes first flushed) = IsRight app flushed.state × (flushed.end ≡ done → next_waiting app flushed.state ≡ None)
  IsRightEffect _ = ⊤

  flushed_right : (state : SessionState) (b : Bool) → IsRight app (flush app state).state → IsRightEffect (flushes b (flush app state))
  flushed_right state b right = (right, nobody_waits app state)

  message_right : (begun : Bool) (state : SessionState) (m : Client) → IsRight app state → IsRightEffect (message_effect app begun state m)
  message_right false state (Init ps) right = flushed_right (apply_pairs app ps (thaw state)) true (right_applied ps state right)
  message_right true state (Init ps) right = tt
  message_right true state (Update ps) right = flushed_right (apply_pairs app ps (thaw state)) false (right_applied ps state right)
  message_right false state (Update ps) right = tt
  message_right true state (Refused cause) right = tt
  message_right false state (Refused cause) right = tt

  task_right : (b : Bool) (t : ℕ) (state : SessionState) → IsRight app state → IsRightEffect (task_effect b app t state)
  task_right true t state right = flushed_right (end_task app t (thaw state)) false (right_ended t state right)
  task_right false t state right = tt

  event_right : (so_far : JournalResult) (e : Event) → IsRight app so_far.state → IsRightEffect (event_effect app so_far e)
  event_right so_far (Text t) right = message_right so_far.begun so_far.state (client_message t) right
  event_right so_far Other right = tt
  event_right so_far (TaskEnd t number) right = task_right (is_running t number so_far.state) t so_far.state right
  event_right so_far End right = tt

  from_right : (so_far : JournalResult) (o : Option Ending) (e : Event) → IsRight app so_far.state → IsRightEffect (effect_from app so_far o e)
  from_right so_far None e right = event_right so_far e right
  from_right so_far (Some end) e right = tt

  -- a session that goes on has nobody waiting, once it has begun; and before that no output is shown
  pub record IsWell (so_far : JournalResult) : Type 0 where
    pub right : IsRight app so_far.state
    pub waits : so_far.ending ≡ None → so_far.begun ≡ true → next_waiting app so_far.state ≡ None
    pub first : so_far.begun ≡ false → so_far.state ≡ first_state app

  no_ending : (end : FlushEnd) → flush_ending end ≡ None → end ≡ done
  no_ending done h = refl
  no_ending budget_spent h = cc
  no_ending (observer_failed why) h = cc

  after_well : (so_far : JournalResult) (items : ℕ) (e : Effect) → IsWell so_far → IsRightEffect e → IsWell (result_after so_far items e)
  after_well so_far items (flushes first flushed) w r = record { right = r.0; waits = λ h b. r.1 (no_ending flushed.end h); first = λ h. absurd (false≢true (sym h)) }
  after_well so_far items (refuses cause) w r = record { right = w.right; waits = λ h b. absurd cc; first = w.first }
  after_well so_far items ends w r = record { right = w.right; waits = λ h b. absurd cc; first = w.first }
  after_well so_far items nothing w r = w

  from_well : (journal : List Event) (so_far : JournalResult) → IsWell so_far → IsWell (result_from app so_far journal)
  from_well [] so_far w = w
  from_well (e ∷ journal) so_far w = from_well journal (after_event app so_far e) (after_well so_far (items_after e so_far.items) (effect app so_far e) w (from_right so_far so_far.ending e w.right))

  pub journal_well : (journal : List Event) → IsWell (journal_result app journal)
  journal_well journal = from_well journal (first_result app) (record { right = right_first app orderly covered; waits = λ h b. absurd (false≢true b); first = λ h. refl })

  -- ---- where nobody waits

  wanted_alive : (a b : Bool) → a ≡ true → (a && not b) ≡ false → b ≡ true
  wanted_alive a true p q = refl
  wanted_alive a false p q = absurd (not_both (ap (λ z. z && true) p) q)

  pub settled_fresh : (state : SessionState) → IsRight app state → next_waiting app state ≡ None → (n : ℕ) (i : Node) → reader app n ≡ Some i → is_output i ≡ true → is_wanted i (reader_state state n) ≡ true
      → (reader_state state n).last ≡ Some (fresh_outcome app state.values (isolated_of state) n)
  settled_fresh state right none n i is output wanted =
      let inside = get_in (readers app) n i is in
      let size = right.sound.size in
      let kept = get_some state.readers n (omega (inside, size, arith)) in
      let own : reader_state state n ≡ kept.0 = ap (λ o. unwrap_or o first_reader) kept.1 in
      let quiet : is_waiting i (reader_state state n) ≡ false = ap (is_waiting i) own ∙ settled app state none n i kept.0 is kept.1 in
      let alive : is_alive (reader_state state n) ≡ true = wanted_alive (is_wanted i (reader_state state n)) (is_alive (reader_state state n)) wanted quiet in
      right.last.at n i is output alive
      ∙ ap (λ (e : Evaluation). Some e.outcome) (sym (reader_fresh app orderly state right.sound n i is (ap (λ b. b || is_output i) (no_expression i output) ∙ output) alive))

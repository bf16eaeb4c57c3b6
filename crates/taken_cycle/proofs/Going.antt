-- A flush that has come so far: what it has left to do gives what the whole flush gives.
use Rattle.std.proofs.Common.{◌≡◌, ℕ, zero, suc, ◌-◌, ◌<◌, Bool, true, false, List, [], ◌∷◌, ◌++◌, length, take, drop, filter, Some, None, refl, sym, ap, ◌∙◌, subst, arith, zero-add, append-nil, append_assoc}
use Rattle.std.specs.Prelude.{◌+◌, not, slice_get, slice_set, unwrap_or, option_map}
use Rattle.std.proofs.lemmas.List.{length-set, take-set}
use Rattle.std.proofs.lemmas.List.Elements.{filter-append}
use Rattle.rx_value.specs.declared.outcome.Outcome.{Outcome}
use Rattle.rx_value.specs.declared.source.SourceValue.{SourceValue}
use Rattle.app_tree.specs.declared.term.Read.{Read}
use Rattle.app_tree.specs.declared.term.Read.TheVariants.{Input}
use Rattle.app_tree.specs.Tree.{Node, text, Shape}
use Rattle.app_tree.specs.Numbering.{is_reader, reader}
use Rattle.app_tree.specs.Evaluate.{Answers, Evaluation, read_of}
use Rattle.app_tree.specs.Fresh.{IsolatedOutcomes, kept_sites, answer_to, known_expressions, sources_of_reads, sources_read, evaluate_node, fresh_evaluation, fresh_outcome}
use Rattle.shiny_json.specs.declared.batch.BatchOutput.{BatchOutput}
use Rattle.session_model.specs.declared.state.ReaderState.{ReaderState}
use Rattle.session_model.specs.State.{SessionState, first_reader, isolated_of, has_run, reader_state, with_sources}
use Rattle.session_model.specs.Run.{ReaderRun, reader_as_run_begins, state_as_run_begins, read_node, finished_run, visit_expression, run_reader}
use Rattle.session_model.specs.Flush.{Waiting, Run, RunResult, FlushEnd, done, budget_spent, FlushResult, output_result, is_observer_at, make_by, make_run, failure_by, failure_of, no_runs, with_first_run, go_on_unless_failed, after_run, flush_step, end_without_budget, flush_within, flush, waiting_from, next_waiting}
use Rattle.session_model.specs.Texts.{run_texts_of, output_of_run}
use Rattle.taken_cycle.specs.State.{state_of}
use Rattle.taken_cycle.specs.inner.Passed.{IsPassed, WaitsAt, waits_at, IsShown, AreShown, Passes, end_of, ran_reader, shown_output, shown_outcome}
use Rattle.taken_cycle.specs.Built.{plain_shown, first_unbuilt}
use Rattle.taken_cycle.proofs.Building.{no_priority_behind}
use Rattle.taken_cycle.proofs.Passing.{split_at, waiting-found, none_before}

-- a flush behind these runs, which ran so many bodies
abbrev pub behind : List Run → ℕ → FlushResult → FlushResult
behind runs bodies rest = record { state = rest.state; runs = runs ++ rest.runs; bodies = bodies + rest.bodies; end = rest.end }

pub record Going (app : Shape) (values : List SourceValue) (start readers : List ReaderState) (left : ℕ) (outputs : List BatchOutput) (place number : ℕ) : Type 0 where
  pub passed : IsPassed app.items readers place number
  pub runs : List Run
  pub bodies : ℕ
  pub shown : AreShown app runs outputs
  pub rest : behind runs bodies (flush_within app left (state_of values readers)) ≡ flush app (state_of values start)

-- behind no run a flush is as it is
behind_nothing : (rest : FlushResult) → behind [] 0 rest ≡ rest
behind_nothing rest = λ i. record { state = rest.state; runs = rest.runs; bodies = zero-add rest.bodies i; end = rest.end }

-- a run in front of a flush that stands behind others is one more of these
behind_more : (runs : List Run) (bodies : ℕ) (first : RunResult) (rest : FlushResult) → behind runs bodies (with_first_run first rest) ≡ behind (runs ++ first.run ∷ []) (bodies + first.bodies) rest
behind_more runs bodies first rest =
    let all : runs ++ first.run ∷ rest.runs ≡ (runs ++ first.run ∷ []) ++ rest.runs = sym (append_assoc runs (first.run ∷ []) rest.runs) in
    let count : bodies + (first.bodies + rest.bodies) ≡ bodies + first.bodies + rest.bodies = omega arith in
    λ i. record { state = rest.state; runs = all i; bodies = count i; end = rest.end }

-- nothing was run yet
pub going_first : (app : Shape) (values : List SourceValue) (readers : List ReaderState) (left : ℕ) (outputs : List BatchOutput) → left ≡ app.budget → outputs ≡ [] → Going app values readers readers left outputs 0 0
going_first app values readers left outputs budget none = record {
  passed = record { counted = refl; within = omega arith; none_waits = refl };
  runs = [];
  bodies = 0;
  shown = subst (AreShown app []) (sym none) tt;
  rest = behind_nothing (flush_within app left (state_of values readers)) ∙ ap (λ n. flush_within app n (state_of values readers)) budget;
}

-- ---- one element of a list, changed by a function

abbrev update : {A : Type 0} → ℕ → A → (A → A) → List A → List A
update n d f xs = slice_set xs n (f (unwrap_or (slice_get xs n) d))

update-update : {A : Type 0} (n : ℕ) (d : A) (f g : A → A) (xs : List A) → n < length xs → update n d g (update n d f xs) ≡ update n d (λ a. g (f a)) xs
update-update n d f g [] h = absurd (omega (arith, h))
update-update zero d f g (x ∷ xs) h = refl
update-update (suc n) d f g (x ∷ xs) h = ap (λ l. x ∷ l) (update-update n d f g xs (omega (arith, h)))

length-update : {A : Type 0} (n : ℕ) (d : A) (f : A → A) (xs : List A) → length (update n d f xs) ≡ length xs
length-update n d f xs = length-set xs n (f (unwrap_or (slice_get xs n) d))

update-thrice : {A : Type 0} (n : ℕ) (d : A) (f g h : A → A) (xs : List A) → n < length xs → update n d h (update n d g (update n d f xs)) ≡ update n d (λ a. h (g (f a))) xs
update-thrice n d f g h xs lt =
    let lt_then : n < length (update n d f xs) = omega (arith, length-update n d f xs, lt) in
    update-update n d g h (update n d f xs) lt_then ∙ update-update n d f (λ a. h (g a)) xs lt

-- the element behind a front
slice_get-middle : {A : Type 0} (xs : List A) (x : A) (ys : List A) → slice_get (xs ++ x ∷ ys) (length xs) ≡ Some x
slice_get-middle [] x ys = refl
slice_get-middle (y ∷ xs) x ys = slice_get-middle xs x ys

-- ---- a run

abbrev sources_of : Shape → List SourceValue → IsolatedOutcomes → List Read → List ℕ
sources_of app values isolated reads = sources_of_reads app (known_expressions app values (kept_sites isolated)) [] reads

abbrev reader_after : List ℕ → Outcome → ReaderState → ReaderState
reader_after sources outcome r = record { dependencies = Some (record { sources = sources; changed = false }); isolated = []; shown = r.shown; last = Some outcome }

abbrev answers_at : Shape → List SourceValue → IsolatedOutcomes → ℕ → Answers
answers_at app values isolated n = record { read = answer_to app values (known_expressions app values (kept_sites isolated)); site = kept_sites isolated n }

evaluation_is : (app : Shape) (values : List SourceValue) (isolated : IsolatedOutcomes) (n : ℕ) (name : List ℕ) (s : ℕ) → reader app n ≡ Some (text name (plain_shown s))
    → fresh_evaluation app values isolated n ≡ read_of (answers_at app values isolated n) (Input s)
evaluation_is app values isolated n name s e = ap (λ i. evaluate_node i (answers_at app values isolated n)) e

-- a run of an output of today's form runs one body and visits nothing
abbrev ran_plainly : Shape → ℕ → SessionState → ReaderRun
ran_plainly app n state = record {
  state = with_sources n (sources_read app state.values (isolated_of state) n) state;
  outcome = fresh_outcome app state.values (isolated_of state) n;
  bodies = 1;
}

ran_is : (app : Shape) (n : ℕ) (state : SessionState) (name : List ℕ) (s : ℕ) → reader app n ≡ Some (text name (plain_shown s)) → run_reader app n state ≡ ran_plainly app n (state_as_run_begins n state)
ran_is app n state name s e = ap (λ i. finished_run app n (read_node app (visit_expression app) n (not (has_run (reader_state state n))) i (state_as_run_begins n state))) e

-- the state after a run of reader n, whose outcome is its last
state_is : (app : Shape) (values : List SourceValue) (readers : List ReaderState) (n : ℕ) (name : List ℕ) (s : ℕ) → reader app n ≡ Some (text name (plain_shown s)) → n < length readers
    → (output_result n (ran_plainly app n (state_as_run_begins n (state_of values readers)))).state ≡ state_of values (slice_set readers n (ran_reader s values (unwrap_or (slice_get readers n) first_reader)))
state_is app values readers n name s e lt =
    let isolated = isolated_of (state_as_run_begins n (state_of values readers)) in
    let seen = fresh_evaluation app values isolated n in
    let depend : ReaderState → ReaderState = λ r. record r { dependencies = Some (record { sources = sources_of app values isolated seen.outside; changed = false }) } in
    let keep : ReaderState → ReaderState = λ r. record r { last = Some seen.outcome } in
    ap (state_of values) (update-thrice n first_reader reader_as_run_begins depend keep readers lt
    ∙ ap (λ (e' : Evaluation). slice_set readers n (reader_after (sources_of app values isolated e'.outside) e'.outcome (unwrap_or (slice_get readers n) first_reader))) (evaluation_is app values isolated n name s e))

outcome_is : (app : Shape) (values : List SourceValue) (readers : List ReaderState) (n : ℕ) (name : List ℕ) (s : ℕ) → reader app n ≡ Some (text name (plain_shown s))
    → (ran_plainly app n (state_as_run_begins n (state_of values readers))).outcome ≡ shown_outcome s values
outcome_is app values readers n name s e = ap (λ (seen : Evaluation). seen.outcome) (evaluation_is app values (isolated_of (state_as_run_begins n (state_of values readers))) n name s e)

abbrev run_of : ℕ → Outcome → Run
run_of n outcome = record { number = n; outcome = outcome; messages = [] }

-- what the flush makes of the reader that waits
made_is : (app : Shape) (values : List SourceValue) (readers : List ReaderState) (n : ℕ) (name : List ℕ) (s : ℕ) → reader app n ≡ Some (text name (plain_shown s)) → n < length readers
    → make_run app n (state_of values readers)
    ≡ record { state = state_of values (slice_set readers n (ran_reader s values (unwrap_or (slice_get readers n) first_reader))); bodies = 1; run = run_of n (shown_outcome s values) }
made_is app values readers n name s e lt =
    let state = state_of values readers in
    let after = state_is app values readers n name s e lt in
    let outcome = outcome_is app values readers n name s e in
    ap (λ i. make_by (is_observer_at i) app n state) e ∙ ap (output_result n) (ran_is app n state name s e)
    ∙ (λ i. record { state = after i; bodies = 1; run = run_of n (outcome i) })

no_failure : (app : Shape) (n : ℕ) (outcome : Outcome) (name : List ℕ) (s : ℕ) → reader app n ≡ Some (text name (plain_shown s)) → failure_of app (run_of n outcome) ≡ None
no_failure app n outcome name s e = ap (λ i. failure_by (is_observer_at i) outcome) e

-- ---- the end

flush_done : (app : Shape) (left : ℕ) (state : SessionState) → next_waiting app state ≡ None → flush_within app left state ≡ no_runs done state
flush_done app zero state e = ap (λ o. no_runs (end_without_budget o) state) e
flush_done app (suc left) state e = ap (flush_step app (flush_within app left) state) e

-- behind the runs so far comes none, and they are those of these outputs
passes_so_far : (app : Shape) (values : List SourceValue) (start readers : List ReaderState) (left : ℕ) (outputs : List BatchOutput) (place number : ℕ) (end : FlushEnd) (spent : Bool)
    → Going app values start readers left outputs place number → flush_within app left (state_of values readers) ≡ no_runs end (state_of values readers) → end ≡ end_of spent
    → Passes app (flush app (state_of values start)) (state_of values readers) outputs spent
passes_so_far app values start readers left outputs place number end spent g last ends =
    let state = state_of values readers in
    let whole : behind g.runs g.bodies (no_runs end state) ≡ flush app (state_of values start) = sym (ap (behind g.runs g.bodies) last) ∙ g.rest in
    let shown : AreShown app (g.runs ++ []) outputs = subst (λ runs. AreShown app runs outputs) (sym (append-nil g.runs)) g.shown in
    subst (λ f. Passes app f state outputs spent) whole (record { state = refl; shown = shown; end = ends })

-- nothing waits any more
pub all_done : (app : Shape) (values : List SourceValue) (start readers : List ReaderState) (left : ℕ) (outputs : List BatchOutput) (place number : ℕ) → Going app values start readers left outputs place number
    → waiting_from 0 (filter is_reader app.items) readers ≡ None → Passes app (flush app (state_of values start)) (state_of values readers) outputs false
all_done app values start readers left outputs place number g e =
    let none : next_waiting app (state_of values readers) ≡ None = ap (option_map (λ (w : Waiting). w.number)) e in
    passes_so_far app values start readers left outputs place number done false g (flush_done app left (state_of values readers) none) refl

-- one still waits, and nothing is left of the budget
pub all_spent : (app : Shape) (values : List SourceValue) (start readers : List ReaderState) (left : ℕ) (outputs : List BatchOutput) (place number n : ℕ) → Going app values start readers left outputs place number
    → left ≡ 0 → next_waiting app (state_of values readers) ≡ Some n → Passes app (flush app (state_of values start)) (state_of values readers) outputs true
all_spent app values start readers left outputs place number n g none e =
    let state = state_of values readers in
    let last : flush_within app left state ≡ no_runs budget_spent state = ap (λ k. flush_within app k state) none ∙ ap (λ o. no_runs (end_without_budget o) state) e in
    passes_so_far app values start readers left outputs place number budget_spent true g last refl

-- ---- one more run

-- the readers, round the one that waits
readers_round : (items : List Node) (p : ℕ) (name : List ℕ) (s : ℕ) → slice_get items p ≡ Some (text name (plain_shown s)) → filter is_reader items ≡ filter is_reader (take p items) ++ text name (plain_shown s) ∷ filter is_reader (drop (suc p) items)
readers_round items p name s e = ap (filter is_reader) (split_at items p (text name (plain_shown s)) e) ∙ filter-append is_reader (take p items) (text name (plain_shown s) ∷ drop (suc p) items)

pub next_is : (app : Shape) (values : List SourceValue) (readers : List ReaderState) (p n : ℕ) (name : List ℕ) (s : ℕ) → first_unbuilt app.items ≡ None → IsPassed app.items readers p n → WaitsAt app.items readers p n name s
    → next_waiting app (state_of values readers) ≡ Some n
next_is app values readers p n name s built passed waits =
    let before = filter is_reader (take p app.items) in
    ap (option_map (λ (w : Waiting). w.number))
    (ap (λ l. waiting_from 0 l readers) (readers_round app.items p name s waits.item)
    ∙ waiting-found 0 before name s (filter is_reader (drop (suc p) app.items)) readers (no_priority_behind app.items (suc p) built) (none_before app.items readers p n passed) (ap (waits_at readers) passed.counted ∙ waits.waits))
    ∙ ap Some (zero-add (length before) ∙ passed.counted)

reader_is : (app : Shape) (readers : List ReaderState) (p n : ℕ) (name : List ℕ) (s : ℕ) → IsPassed app.items readers p n → WaitsAt app.items readers p n name s → reader app n ≡ Some (text name (plain_shown s))
reader_is app readers p n name s passed waits =
    let before = filter is_reader (take p app.items) in
    ap (λ l. slice_get l n) (readers_round app.items p name s waits.item) ∙ ap (slice_get (before ++ text name (plain_shown s) ∷ filter is_reader (drop (suc p) app.items))) (sym passed.counted)
    ∙ slice_get-middle before (text name (plain_shown s)) (filter is_reader (drop (suc p) app.items))

pub waits_within : (readers : List ReaderState) (n : ℕ) → waits_at readers n ≡ true → n < length readers
waits_within [] n e = cc
waits_within (r ∷ readers) zero e = omega arith
waits_within (r ∷ readers) (suc n) e = let less = waits_within readers n e in omega (arith, less)

shown_more : (app : Shape) (runs : List Run) (outputs : List BatchOutput) (run : Run) (o : BatchOutput) → AreShown app runs outputs → IsShown app run o → AreShown app (runs ++ run ∷ []) (outputs ++ o ∷ [])
shown_more app [] [] run o h one = (one, tt)
shown_more app [] (p ∷ outputs) run o h one = absurd h
shown_more app (r ∷ runs) [] run o h one = absurd h
shown_more app (r ∷ runs) (p ∷ outputs) run o h one = (h.0, shown_more app runs outputs run o h.1 one)

-- the outcome of an output that shows an input
is_shown : (app : Shape) (n : ℕ) (name : List ℕ) (s : ℕ) (values : List SourceValue) → reader app n ≡ Some (text name (plain_shown s)) → IsShown app (run_of n (shown_outcome s values)) (shown_output name s values)
is_shown app n name s values e = record {
  texts = ap run_texts_of e;
  value = ap (λ i. output_of_run i (run_of n (shown_outcome s values))) e;
  silent = refl;
}

-- the run of the next that waits stands in front of what is left
flush_more : (app : Shape) (left n : ℕ) (state : SessionState) (made : RunResult) → 0 < left → next_waiting app state ≡ Some n → make_run app n state ≡ made → failure_of app made.run ≡ None
    → flush_within app left state ≡ with_first_run made (flush_within app (left - 1) made.state)
flush_more app zero n state made h e m none = absurd (omega (arith, h))
flush_more app (suc left) n state made h e m none =
    let same : suc left - 1 ≡ left = omega arith in
    ap (flush_step app (flush_within app left) state) e ∙ ap (after_run app (flush_within app left)) m
    ∙ ap (λ why. with_first_run made (go_on_unless_failed why (flush_within app left) made.state)) none
    ∙ sym (ap (λ k. with_first_run made (flush_within app k made.state)) same)

-- the state of the reader at the place doesn't matter to those before it
passed_with : (items : List Node) (readers : List ReaderState) (p n : ℕ) (r : ReaderState) → IsPassed items readers p n → IsPassed items (slice_set readers n r) p n
passed_with items readers p n r h = record {
  counted = h.counted;
  within = h.within;
  none_waits = ap (waiting_from 0 (filter is_reader (take p items))) (take-set readers n r) ∙ h.none_waits;
}

-- one that waits was run
pub one_more : (app : Shape) (values : List SourceValue) (start readers : List ReaderState) (left : ℕ) (outputs : List BatchOutput) (place number : ℕ) (name : List ℕ) (s : ℕ) → first_unbuilt app.items ≡ None
    → Going app values start readers left outputs place number → 0 < left → (p n : ℕ) → IsPassed app.items readers p n → WaitsAt app.items readers p n name s
    → Going app values start (slice_set readers n (ran_reader s values (unwrap_or (slice_get readers n) first_reader))) (left - 1) (outputs ++ shown_output name s values ∷ []) p n
one_more app values start readers left outputs place number name s built g some p n passed waits =
    let state = state_of values readers in
    let after = ran_reader s values (unwrap_or (slice_get readers n) first_reader) in
    let at = reader_is app readers p n name s passed waits in
    let run = run_of n (shown_outcome s values) in
    let made : RunResult = record { state = state_of values (slice_set readers n after); bodies = 1; run = run } in
    let one : flush_within app left state ≡ with_first_run made (flush_within app (left - 1) made.state) =
    flush_more app left n state made some (next_is app values readers p n name s built passed waits) (made_is app values readers n name s at (waits_within readers n waits.waits))
    (no_failure app n (shown_outcome s values) name s at) in
    record {
      passed = passed_with app.items readers p n after passed;
      runs = g.runs ++ run ∷ [];
      bodies = g.bodies + 1;
      shown = shown_more app g.runs outputs run (shown_output name s values) g.shown (is_shown app n name s values at);
      rest = sym (behind_more g.runs g.bodies made (flush_within app (left - 1) made.state)) ∙ sym (ap (behind g.runs g.bodies) one) ∙ g.rest;
    }

-- ---- the same, of lists that are equal to those

pub passed_of_slices : (items items' : List Node) (readers readers' : List ReaderState) (p n : ℕ) → items' ≡ items → readers' ≡ readers → IsPassed items' readers' p n → IsPassed items readers p n
passed_of_slices items items' readers readers' p n e f h =
    let over_items : List Node → Type 0 = λ i. IsPassed i readers p n in
    let over_readers : List ReaderState → Type 0 = λ r. IsPassed items' r p n in
    subst over_items e (subst over_readers f h)

pub waits_of_slices : (items items' : List Node) (readers readers' : List ReaderState) (p n : ℕ) (name : List ℕ) (s : ℕ) → items' ≡ items → readers' ≡ readers → WaitsAt items' readers' p n name s
    → WaitsAt items readers p n name s
waits_of_slices items items' readers readers' p n name s e f h =
    let over_items : List Node → Type 0 = λ i. WaitsAt i readers p n name s in
    let over_readers : List ReaderState → Type 0 = λ r. WaitsAt items' r p n name s in
    subst over_items e (subst over_readers f h)

pub going_with : (app : Shape) (values : List SourceValue) (start readers readers' : List ReaderState) (left : ℕ) (outputs outputs' : List BatchOutput) (place number : ℕ) → readers' ≡ readers → outputs' ≡ outputs
    → Going app values start readers left outputs place number → Going app values start readers' left outputs' place number
going_with app values start readers readers' left outputs outputs' place number e f g =
    let over_readers : List ReaderState → Type 0 = λ r. Going app values start r left outputs place number in
    let over_outputs : List BatchOutput → Type 0 = λ o. Going app values start readers' left o place number in
    subst over_outputs (sym f) (subst over_readers (sym e) g)

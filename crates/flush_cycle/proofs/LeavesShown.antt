-- No run and no change of a source touches the boards of the tasks, nor of any reader whether it is shown and its last outcome.
use Rattle.std.proofs.Common.{◌≡◌, ℕ, zero, suc, ℤ, Bool, true, false, List, [], ◌∷◌, ◌++◌, map, length, Option, Some, None, refl, sym, ap, ◌∙◌}
use Rattle.std.specs.Prelude.{not, ◌==◌, ◌&&◌, slice_get, slice_set, unwrap_or, if◌then◌else◌}
use Rattle.rx_value.specs.declared.value.Value.{Value}
use Rattle.rx_value.specs.declared.value.Value.TheVariants as v
use Rattle.rx_value.specs.declared.outcome.Outcome.{Outcome}
use Rattle.rx_value.specs.declared.outcome.Outcome.TheVariants as o
use Rattle.rx_value.specs.declared.source.SourceValue.{SourceValue}
use Rattle.rx_value.specs.Functions.{is_null}
use Rattle.rx_value.specs.Numbers.{number_list}
use Rattle.rx_value.specs.Operators.{unary_result, binary_result}
use Rattle.rx_value.specs.Results.{choose}
use Rattle.rx_value.specs.Value.{source_eq}
use Rattle.app_tree.specs.declared.item.Flags.{Flags}
use Rattle.app_tree.specs.declared.term.Operator.{Operator}
use Rattle.app_tree.specs.declared.term.Operator.TheVariants as operator
use Rattle.app_tree.specs.declared.term.Read.{Read}
use Rattle.app_tree.specs.declared.term.Read.TheVariants as read
use Rattle.app_tree.specs.Tree.{Tree, constant, group, get, variable, isolate, stop, require, fold, unary, binary, choice, call, Trees, no_trees, tree, Node, input, value, task, reactive, event, text, plot, observe, on, Shape}
use Rattle.app_tree.specs.Numbering.{readers, reader}
use Rattle.app_tree.specs.Current.{value_at}
use Rattle.app_tree.specs.Evaluate.{called, stop_outcome, required, wanted_bool, site_count}
use Rattle.app_tree.specs.Fresh.{sources_read}
use Rattle.session_model.specs.declared.state.ReaderState.{ReaderState}
use Rattle.session_model.specs.State.{SessionState, first_reader, isolated_of, reader_state, with_reader, has_run, is_alive}
use Rattle.session_model.specs.Change.{with_source_value, change}
use Rattle.session_model.specs.Reading.{TermResult, VisitResult, Manner, Reading, plain_reading, go_on_by, go_on, read_in, decided_in, operated_in, chosen_in, over_each_in, over_list_in, read_term, read_terms}
use Rattle.session_model.specs.Run.{reader_as_run_begins, state_as_run_begins, keeping_manner, passing_manner, without_reads, with_body_counted, read_cached, read_site, ignored_site_reading, read_event_body, read_node, run_with, run_if_dead, visit_below, visit_expression, run_reader}
use Rattle.session_model.specs.Observing.{sources_reached, more_sources, with_reads, with_reads_counted, read_by_observer}
use Rattle.session_model.specs.Standing.{KeptOutput}
use Rattle.session_laws.proofs.Changing.{marked_at}
use Rattle.session_laws.proofs.States.{get_mapped}

-- what the flush looks after of a reader
abbrev pub looked_after : ReaderState → KeptOutput
looked_after r = record { shown = r.shown; last = r.last }

pub record IsShownAlike (M N : SessionState) : Type 0 where
  pub boards : N.boards ≡ M.boards
  pub readers : (n : ℕ) → looked_after (reader_state N n) ≡ looked_after (reader_state M n)

pub shown_refl : (M : SessionState) → IsShownAlike M M
shown_refl M = record { boards = refl; readers = λ n. refl }

pub shown_trans : {M N O : SessionState} → IsShownAlike M N → IsShownAlike N O → IsShownAlike M O
shown_trans p q = record { boards = q.boards ∙ p.boards; readers = λ n. q.readers n ∙ p.readers n }

-- ---- what is kept for one reader is written

pub same_map : {A B : Type 0} (f : A → B) (d : A) (xs : List A) (n : ℕ) (x : A) → f x ≡ f (unwrap_or (slice_get xs n) d) → map f (slice_set xs n x) ≡ map f xs
same_map f d [] n x h = refl
same_map f d (y ∷ xs) zero x h = ap (λ z. z ∷ map f xs) h
same_map f d (y ∷ xs) (suc n) x h = ap (λ l. f y ∷ l) (same_map f d xs n x h)

pub shown_written : (n : ℕ) (r : ReaderState) (M : SessionState) → looked_after r ≡ looked_after (reader_state M n) → IsShownAlike M (with_reader n r M)
shown_written n r M h = record {
  boards = refl;
  readers = λ m.
      sym (get_mapped looked_after first_reader (slice_set M.readers n r) m)
      ∙ ap (λ l. unwrap_or (slice_get l m) (looked_after first_reader)) (same_map looked_after first_reader M.readers n r h)
      ∙ get_mapped looked_after first_reader M.readers m;
}

-- ---- a change of a source

pub shown_change : (s : ℕ) (x : SourceValue) (M : SessionState) → IsShownAlike M (change s x M)
shown_change s x M = by (source_eq (value_at M.values s) x)
  where
    by : (b : Bool) → IsShownAlike M (if b then M else with_source_value s x M)
    by true = shown_refl M
    by false = record { boards = refl; readers = λ n. ap looked_after (marked_at s n x M) }

module _ (app : Shape) where
  abbrev Keeps : Reading → Type 0
  Keeps f = (M : SessionState) → IsShownAlike M (f M).state

  -- visits and what is kept of isolated sites leave it
  pub record IsQuietManner (manner : Manner) : Type 0 where
    pub visits : (m : ℕ) (M : SessionState) → IsShownAlike M (manner.visit m M).state
    pub keeps : (s : ℕ) (outcome : Outcome) (M : SessionState) → IsShownAlike M (manner.keep s outcome M)

  -- ---- a term

  module _ (manner : Manner) (quiet : IsQuietManner manner) where
    on_by : (e : TermResult) (x : Outcome) (next : Value → Reading) (M : SessionState) → IsShownAlike M e.state → ((y : Value) → Keeps (next y)) → IsShownAlike M (go_on_by e x next).state
    on_by e (o.Val y) next M p k = shown_trans p (k y e.state)
    on_by e (o.Fail why) next M p k = p
    on_by e o.Stop next M p k = p
    on_by e o.Cancel next M p k = p
    on_by e o.Running next M p k = p

    goes_on : (f : Reading) (next : Value → Reading) → Keeps f → ((y : Value) → Keeps (next y)) → Keeps (λ s. go_on (f s) next)
    goes_on f next p k M = on_by (f M) (f M).outcome next M (p M) k

    plain : (outcome : Outcome) → Keeps (plain_reading outcome)
    plain outcome M = shown_refl M

    reads : (r : Read) → Keeps (read_in app manner r)
    reads (read.Expr m) M = quiet.visits m M
    reads (read.Input s) M = shown_refl M
    reads (read.Value s) M = shown_refl M
    reads (read.Status s) M = shown_refl M
    reads (read.Result s) M = shown_refl M
    reads (read.Width n) M = shown_refl M
    reads (read.Height n) M = shown_refl M

    decided : (b : Bool) (f : Reading) → Keeps f → (x : Value) → Keeps (decided_in b f x)
    decided true f p (v.Bool true) M = shown_refl M
    decided true f p (v.Bool false) M = goes_on f (λ y. plain_reading (wanted_bool y)) p (λ y. plain (wanted_bool y)) M
    decided false f p (v.Bool false) M = shown_refl M
    decided false f p (v.Bool true) M = goes_on f (λ y. plain_reading (wanted_bool y)) p (λ y. plain (wanted_bool y)) M
    decided true f p v.Null M = shown_refl M
    decided true f p (v.Int z) M = shown_refl M
    decided true f p (v.Text t) M = shown_refl M
    decided true f p (v.Ints zs) M = shown_refl M
    decided false f p v.Null M = shown_refl M
    decided false f p (v.Int z) M = shown_refl M
    decided false f p (v.Text t) M = shown_refl M
    decided false f p (v.Ints zs) M = shown_refl M

    operated : (op : Operator) (f : Reading) → Keeps f → (x : Value) → Keeps (operated_in op f x)
    operated operator.Or f p x M = decided true f p x M
    operated operator.And f p x M = decided false f p x M
    operated (operator.Strict op) f p x M = goes_on f (λ y. plain_reading (binary_result op x y)) p (λ y. plain (binary_result op x y)) M

    chosen : (f g : Reading) → Keeps f → Keeps g → (x : Value) → Keeps (chosen_in f g x)
    chosen f g p q (v.Bool true) M = p M
    chosen f g p q (v.Bool false) M = q M
    chosen f g p q v.Null M = shown_refl M
    chosen f g p q (v.Int z) M = shown_refl M
    chosen f g p q (v.Text t) M = shown_refl M
    chosen f g p q (v.Ints zs) M = shown_refl M

    over_each : (step : Value → ℤ → Reading) → ((a : Value) (z : ℤ) → Keeps (step a z)) → (zs : List ℤ) (a : Value) → Keeps (over_each_in step a zs)
    over_each step p [] a M = shown_refl M
    over_each step p (z ∷ zs) a M = goes_on (step a z) (λ next. over_each_in step next zs) (p a z) (λ next. over_each step p zs next) M

    over_list : (step : Value → ℤ → Reading) → ((a : Value) (z : ℤ) → Keeps (step a z)) → (start : Value) (l : Option (List ℤ)) → Keeps (over_list_in step start l)
    over_list step p start (Some zs) M = over_each step p zs start M
    over_list step p start None M = shown_refl M

    mutual
      pub shown_term : (t : Tree) (args : List Value) → Keeps (read_term app manner t args)
      shown_term (constant x) args M = shown_refl M
      shown_term (group t) args M = shown_term t args M
      shown_term (get r) args M = reads r M
      shown_term (variable n) args M = shown_refl M
      shown_term (isolate site t) args M =
          let e : TermResult = read_term app manner t args M in
          shown_trans (shown_term t args M) (quiet.keeps site e.outcome e.state)
      shown_term (stop t) args M = goes_on (read_term app manner t args) (λ x. plain_reading (stop_outcome x)) (shown_term t args) (λ x. plain (stop_outcome x)) M
      shown_term (require t cancels) args M = goes_on (read_term app manner t args) (λ x. plain_reading (required cancels x)) (shown_term t args) (λ x. plain (required cancels x)) M
      shown_term (fold list start accumulator element body) args M =
          goes_on (read_term app manner list args)
          (λ x s. go_on (read_term app manner start args s) (λ y. over_list_in (λ a z. read_term app manner body (args ++ a ∷ v.Int z ∷ [])) y (number_list x)))
          (shown_term list args)
          (λ x. goes_on (read_term app manner start args) (λ y. over_list_in (λ a z. read_term app manner body (args ++ a ∷ v.Int z ∷ [])) y (number_list x)) (shown_term start args)
          (λ y. over_list (λ a z. read_term app manner body (args ++ a ∷ v.Int z ∷ [])) (λ a z. shown_term body (args ++ a ∷ v.Int z ∷ [])) y (number_list x))) M
      shown_term (unary op t) args M = goes_on (read_term app manner t args) (λ x. plain_reading (unary_result op x)) (shown_term t args) (λ x. plain (unary_result op x)) M
      shown_term (binary op a b) args M = goes_on (read_term app manner a args) (operated_in op (read_term app manner b args)) (shown_term a args) (operated op (read_term app manner b args) (shown_term b args)) M
      shown_term (choice condition m n) args M =
          goes_on (read_term app manner condition args) (chosen_in (read_term app manner m args) (read_term app manner n args)) (shown_term condition args)
          (chosen (read_term app manner m args) (read_term app manner n args) (shown_term m args) (shown_term n args)) M
      shown_term (call f ts) args M = shown_terms ts args [] (λ xs. plain_reading (called f xs)) (λ xs. plain (called f xs)) M

      pub shown_terms : (ts : Trees) (args done : List Value) (next : List Value → Reading) → ((xs : List Value) → Keeps (next xs)) → Keeps (read_terms app manner ts args done next)
      shown_terms no_trees args done next k M = k done M
      shown_terms (tree t more) args done next k M =
          goes_on (read_term app manner t args) (λ x. read_terms app manner more args (done ++ x ∷ []) next) (shown_term t args)
          (λ x. shown_terms more args (done ++ x ∷ []) next k) M

  -- ---- a reader

  module _ (visit : ℕ → SessionState → VisitResult) (visits : (m : ℕ) (M : SessionState) → IsShownAlike M (visit m M).state) (n : ℕ) where
    passing : IsQuietManner (passing_manner visit)
    passing = record { visits = visits; keeps = λ s outcome M. shown_refl M }

    keeping : IsQuietManner (keeping_manner visit n)
    keeping = record { visits = visits; keeps = λ s outcome M. shown_written n (record (reader_state M n) { isolated = (reader_state M n).isolated ++ (s, outcome) ∷ [] }) M refl }

    cached : (keys : Trees) (body : Tree) → Keeps (read_cached app visit n keys body)
    cached no_trees body M = shown_term (keeping_manner visit n) keeping body [] M
    cached (tree key more) body M =
        shown_terms (keeping_manner visit n) keeping (tree key more) [] [] (λ keys s. without_reads (with_body_counted (read_term app (passing_manner visit) body [] s)))
        (λ keys. shown_term (passing_manner visit) passing body []) M

    one_of : (b : Bool) (f g : Reading) → Keeps f → Keeps g → Keeps (choose b f g)
    one_of true f g p q M = p M
    one_of false f g p q M = q M

    site : (s : ℕ) (body : Tree) → Keeps (read_site app visit n s body)
    site s body M =
        let e : TermResult = read_term app (keeping_manner visit n) body [] M in
        shown_trans (shown_term (keeping_manner visit n) keeping body [] M) (keeping.keeps s e.outcome e.state)

    ignored : (s : ℕ) → Keeps (ignored_site_reading visit n s)
    ignored s M = keeping.keeps s o.Stop M

    event_body : (first : Bool) (flags : Flags) (s : ℕ) (body : Tree) (x : Value) → Keeps (read_event_body app visit n first flags s body x)
    event_body first flags s body x M =
        one_of (is_null x && not flags.allow_null) (plain_reading o.Stop) (choose (first && flags.ignore_init) (ignored_site_reading visit n s) (read_site app visit n s body))
        (λ N. shown_refl N) (one_of (first && flags.ignore_init) (ignored_site_reading visit n s) (read_site app visit n s body) (ignored s) (site s body)) M

    node : (first : Bool) (i : Option Node) → Keeps (read_node app visit n first i)
    node first None M = shown_refl M
    node first (Some (input name start)) M = shown_refl M
    node first (Some (value name start)) M = shown_refl M
    node first (Some (task name parameters body)) M = shown_refl M
    node first (Some (reactive name keys body)) M = cached keys body M
    node first (Some (event name flags e body)) M =
        goes_on (keeping_manner visit n) keeping (read_term app (keeping_manner visit n) e []) (read_event_body app visit n first flags (site_count e) body)
        (shown_term (keeping_manner visit n) keeping e []) (event_body first flags (site_count e) body) M
    node first (Some (text name shown)) M = cached shown.keys shown.body M
    node first (Some (plot name shown)) M = cached shown.keys shown.body M
    node first (Some (observe name priority block)) M = shown_refl M
    node first (Some (on name priority flags e block)) M = shown_refl M

    pub shown_run_with : (M : SessionState) → IsShownAlike M (run_with app visit n M).state
    shown_run_with M =
        let begun : SessionState = state_as_run_begins n M in
        let e : TermResult = read_node app visit n (not (has_run (reader_state M n))) (reader app n) begun in
        let own : ReaderState = record (reader_state e.state n) { dependencies = Some (record { sources = sources_read app e.state.values (isolated_of e.state) n; changed = false }) } in
        shown_trans (shown_written n (reader_as_run_begins (reader_state M n)) M refl)
        (shown_trans (node (not (has_run (reader_state M n))) (reader app n) begun) (shown_written n own e.state refl))

  run_if : (b : Bool) (n : ℕ) (visit : ℕ → SessionState → VisitResult) → ((m : ℕ) (M : SessionState) → IsShownAlike M (visit m M).state) → (M : SessionState) → IsShownAlike M (run_if_dead b (run_with app visit n) M).state
  run_if true n visit visits M = shown_refl M
  run_if false n visit visits M = shown_run_with visit visits n M

  by_number : (k : ℕ) (visit : ℕ → SessionState → VisitResult) → ((m : ℕ) (M : SessionState) → IsShownAlike M (visit m M).state) → (b : Bool) (m : ℕ) (M : SessionState)
      → IsShownAlike M (choose b (λ s. run_if_dead (is_alive (reader_state s k)) (run_with app visit k) s) (visit m) M).state
  by_number k visit visits true m M = run_if (is_alive (reader_state M k)) k visit visits M
  by_number k visit visits false m M = visits m M

  below : (k m : ℕ) (M : SessionState) → IsShownAlike M (visit_below app k m M).state
  below zero m M = shown_refl M
  below (suc k) m M = by_number k (visit_below app k) (below k) (m == k) m M

  pub shown_visit : (m : ℕ) (M : SessionState) → IsShownAlike M (visit_expression app m M).state
  shown_visit m M = below (length (readers app)) m M

  pub shown_run : (n : ℕ) (M : SessionState) → IsShownAlike M (run_reader app n M).state
  shown_run n M = shown_run_with (visit_expression app) shown_visit n M

  -- ---- a term of an observer

  reached : (n : ℕ) (rs : List Read) (M : SessionState) → IsShownAlike M (with_reads app n rs M)
  reached n [] M = shown_refl M
  reached n (r ∷ more) M =
      let own : ReaderState = record (reader_state M n) { dependencies = more_sources (sources_reached app M r) (reader_state M n).dependencies } in
      shown_trans (shown_written n own M refl) (reached n more (with_reader n own M))

  counted : (n : ℕ) (isolated : Bool) (e : TermResult) → IsShownAlike e.state (with_reads_counted app n isolated e).state
  counted n true e = shown_refl e.state
  counted n false e = reached n e.outside e.state

  pub shown_observed : (n : ℕ) (isolated : Bool) (t : Tree) (M : SessionState) → IsShownAlike M (read_by_observer app n isolated t M).state
  shown_observed n isolated t M =
      let manner : Manner = passing_manner (visit_expression app) in
      shown_trans (shown_term manner (record { visits = shown_visit; keeps = λ s outcome N. shown_refl N }) t [] M) (counted n isolated (read_term app manner t [] M))

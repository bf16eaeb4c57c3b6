-- A reader that is evaluated in a session walks through what its trace asks, and counts its body.
use Rattle.std.proofs.Common.{◌≡◌, ◌≢◌, ◌<◌, ℕ, suc, ◌+◌, Bool, true, false, List, [], ◌++◌, length, Option, Some, None, refl, sym, ap, ◌∙◌, subst, arith}
use Rattle.std.specs.Prelude.{not, ◌&&◌, if◌then◌else◌}
use Rattle.rx_value.specs.declared.value.Value.{Value}
use Rattle.rx_value.specs.declared.outcome.Outcome.{Outcome}
use Rattle.rx_value.specs.declared.outcome.Outcome.TheVariants as outcome
use Rattle.rx_value.specs.Functions.{is_null}
use Rattle.rx_value.specs.Results.{choose}
use Rattle.app_tree.specs.declared.term.Read.{Read}
use Rattle.app_tree.specs.declared.item.Flags.{Flags}
use Rattle.app_tree.specs.Tree.{Tree, Trees, no_trees, tree, Node, input, value, task, reactive, event, text, plot, observe, on, Shape}
use Rattle.app_tree.specs.Numbering.{reader, is_evaluated}
use Rattle.app_tree.specs.Evaluate.{Answers, Evaluation, plain, then_with, at_site, evaluate, site_count, site_count_all}
use Rattle.app_tree.specs.Cover.{reads_in, reads_in_all, cached_node, is_covered}
use Rattle.app_tree.specs.Fresh.{ignored_site, first_sites, cached, event_body, evaluate_node}
use Rattle.app_tree.specs.Fresh as fresh
use Rattle.session_model.specs.declared.state.ReaderState.{ReaderState}
use Rattle.session_model.specs.State.{SessionState, reader_state, has_run, is_alive}
use Rattle.app_tree.specs.Trace.{Every}
use Rattle.session_model.specs.Reading as r
use Rattle.session_model.specs.Reading.{TermResult, VisitResult, go_on, read_term}
use Rattle.session_model.specs.Run as run
use Rattle.session_model.specs.Run.{keeping_manner, passing_manner, with_body_counted, read_cached, read_site, read_event_body, read_node}
use Rattle.app_laws.specs.Orderly.{ReadsBelow, IsOrderly, IsNumbered, AreNumbered, IsNumberedNode, reads_in_node}
use Rattle.app_laws.specs.Recorded.{given_outcome}
use Rattle.session_laws.specs.Now.{open_site, open_sites, open_answers, walk_of_trace}
use Rattle.session_model.specs.Bodies.{bodies_behind_keys, bodies_counted}
use Rattle.app_laws.proofs.Agreeing.{front, back}
use Rattle.app_laws.proofs.Asking.{bare_numbered}
use Rattle.app_laws.proofs.WhatIsAsked.{term_asks, sites_between}
use Rattle.app_laws.proofs.Covering.{covered_body}
use Rattle.app_laws.proofs.FirstRun.{none_ignored, one_ignored, others_ignored}
use Rattle.session_laws.proofs.Moving.{Steps, Good}
use Rattle.session_laws.proofs.Walking.{IsMid, keeping_serves, passing_serves}
use Rattle.session_laws.proofs.Threading.{Serves, through, both, site_through, term_through, terms_through, reached_eq}
use Rattle.session_laws.proofs.CountedTerms.{plus, plus_one, counted_terms, walked_bare}

-- the sites of a reader as it runs
open_none : (app : Shape) (n : ℕ) (r : ReaderState) (s : ℕ) → first_sites app n s ≡ None → open_site app n r s ≡ None
open_none app n r s h = by (has_run r)
  where
    by : (b : Bool) → (if b then None else first_sites app n s) ≡ None
    by true = refl
    by false = h

module _ (app : Shape) (orderly : IsOrderly app) (k : ℕ) (visit : ℕ → SessionState → VisitResult) (good : Good app k visit)
    (M : SessionState) (n : ℕ) (inside : n < length M.readers) (dead : is_alive (reader_state M n) ≡ false) (apart : (N O : SessionState) → Steps app k N O → reader_state O n ≡ reader_state N n) where
  abbrev Mid : SessionState → Type 0
  Mid = IsMid app orderly k visit good M n inside dead apart

  abbrev Low : Read → Type 0
  Low = ReadsBelow app k

  abbrev a : Answers
  a = open_answers app M n

  abbrev keeps : Serves app (keeping_manner visit n) a Low Mid
  keeps = keeping_serves app orderly k visit good M n inside dead apart (open_sites app M n)

  abbrev passes : Serves app (passing_manner visit) a Low Mid
  passes = passing_serves app orderly k visit good M n inside dead apart (open_sites app M n)

  abbrev T : Evaluation → SessionState → TermResult
  T = through app (keeping_manner visit n) a Low Mid keeps

  -- what a reader comes to in the session, as its evaluation says; whether a body counts is said apart
  abbrev pub Comes : TermResult → Evaluation → ℕ → SessionState → Type 0
  Comes e x c N = e ≡ plus c (T x N)

  -- ---- a body behind keys that cover it
  covered_through : (keys : Trees) (body : Tree) → site_count body ≡ 0 → Every Low (reads_in body) → (N : SessionState) → Mid N
      → run.without_reads (read_term app (passing_manner visit) body [] N) ≡ T (fresh.without_reads (evaluate body a [])) N
  covered_through keys body bare low N f =
      let through_it : read_term app (passing_manner visit) body [] N ≡ through app (passing_manner visit) a Low Mid passes (evaluate body a []) N =
      term_through app (passing_manner visit) a Low Mid passes 0 0 (λ s i j. absurd (omega (j, arith))) body 0 (bare_numbered body 0 bare) low (omega arith) (omega (bare, arith)) [] N f in
      let same : walk_of_trace (passing_manner visit) a.site (evaluate body a []).asked N ≡ walk_of_trace (keeping_manner visit n) a.site (evaluate body a []).asked N =
      walked_bare visit n 0 a.site (evaluate body a []).asked (sites_between a body 0 0 (bare_numbered body 0 bare) (omega (bare, arith)) []) N in
      ap run.without_reads through_it ∙ reached_eq (ap (λ (w : VisitResult). w.state) same) (ap (λ (w : VisitResult). w.bodies) same) refl refl

  module _ (unanswered : (s : ℕ) → a.site s ≡ None) where
    pub cached_through : (keys : Trees) (body : Tree) → AreNumbered 0 keys → IsNumbered (site_count_all keys) body → Every Low (reads_in_all keys ++ reads_in body)
        → ((key : Tree) (more : Trees) → keys ≡ tree key more → site_count body ≡ 0) → (N : SessionState) → Mid N → Comes (read_cached app visit n keys body N) (cached keys body a) (bodies_behind_keys keys a) N
    cached_through no_trees body d b q bare N f =
        plus_one (read_term app (keeping_manner visit n) body [] N)
        ∙ ap (plus 1) (term_through app (keeping_manner visit n) a Low Mid keeps 0 (0 + site_count body) (λ s i j. unanswered s) body 0 b q (omega arith) (omega arith) [] N f)
    cached_through (tree key more) body d b q bare N f =
        let keys : Trees = tree key more in
        let none : site_count body ≡ 0 = bare key more refl in
        let of_keys : Every Low (reads_in_all keys) = front Low (reads_in_all keys) (reads_in body) q in
        let of_body : Every Low (reads_in body) = back Low (reads_in_all keys) (reads_in body) q in
        counted_terms app (keeping_manner visit n) a Low Mid keeps 0 (0 + site_count_all keys) (λ s i j. unanswered s) keys 0 d of_keys (omega arith) (omega arith) [] (λ xs s. run.without_reads (read_term app (passing_manner visit) body [] s)) N f
        ∙ ap (plus (bodies_behind_keys keys a))
        (terms_through app (keeping_manner visit n) a Low Mid keeps 0 (0 + site_count_all keys) (λ s i j. unanswered s) keys 0 d of_keys (omega arith) (omega arith) [] []
        (λ xs s. run.without_reads (read_term app (passing_manner visit) body [] s)) (λ xs. fresh.without_reads (evaluate body a [])) (λ xs s g. covered_through keys body none of_body s g) N f)

  -- ---- an event
  module _ (name : List ℕ) (flags : Flags) (e body : Tree) (is : reader app n ≡ Some (event name flags e body)) where
    ignored_by : (b : Bool) → flags.ignore_init ≡ b → ignored_site (reader app n) ≡ (if b then Some (site_count e) else None)
    ignored_by b h = ap ignored_site is ∙ ap (λ c. if c then Some (site_count e) else None) h

    event_open : (s : ℕ) → site_count e ≢ s → a.site s ≡ None
    event_open s d = open_none app n (reader_state M n) s (by flags.ignore_init refl)
      where
        by : (b : Bool) → flags.ignore_init ≡ b → first_sites app n s ≡ None
        by true h = others_ignored app n (site_count e) s (ignored_by true h) d
        by false h = none_ignored app n (ignored_by false h) s

    -- whether the body is left out
    body_site : (b : Bool) → (not (has_run (reader_state M n)) && flags.ignore_init) ≡ b → a.site (site_count e) ≡ (if b then Some outcome.Stop else None)
    body_site b h = by (has_run (reader_state M n)) refl flags.ignore_init refl b h
      where
        by : (ran : Bool) → has_run (reader_state M n) ≡ ran → (ignores : Bool) → flags.ignore_init ≡ ignores → (b : Bool) → (not (has_run (reader_state M n)) && flags.ignore_init) ≡ b → a.site (site_count e) ≡ (if b then Some outcome.Stop else None)
        by true p ignores q true h = absurd cc
        by true p ignores q false h = ap (λ c. if c then None else first_sites app n (site_count e)) p
        by false p true q true h = ap (λ c. if c then None else first_sites app n (site_count e)) p ∙ one_ignored app n (site_count e) (ignored_by true q)
        by false p true q false h = absurd cc
        by false p false q true h = absurd cc
        by false p false q false h = ap (λ c. if c then None else first_sites app n (site_count e)) p ∙ none_ignored app n (ignored_by false q) (site_count e)

    module _ (numbered : IsNumbered (suc (site_count e)) body) (low : Every Low (reads_in body)) where
      body_through : (N : SessionState) → Mid N → read_term app (keeping_manner visit n) body [] N ≡ T (evaluate body a []) N
      body_through = term_through app (keeping_manner visit n) a Low Mid keeps (suc (site_count e)) (suc (site_count e) + site_count body) (λ s i j. event_open s (λ q. omega (q, i, arith))) body (suc (site_count e)) numbered low (omega arith) (omega arith) []

      left_out : (N : SessionState) → a.site (site_count e) ≡ Some outcome.Stop → (x : Option Outcome) → x ≡ Some outcome.Stop → run.ignored_site_reading visit n (site_count e) N ≡ T (at_site (site_count e) (evaluate body) a [] x) N
      left_out N q None h = cc
      left_out N q (Some y) h =
          let stop : y ≡ outcome.Stop = ap given_outcome h in
          let kept : given_outcome (a.site (site_count e)) ≡ outcome.Stop = ap given_outcome q in
          reached_eq (ap (λ o. (keeping_manner visit n).keep (site_count e) o N) (sym kept)) refl refl (sym stop)

      behind : (b : Bool) → (not (has_run (reader_state M n)) && flags.ignore_init) ≡ b → (N : SessionState) → Mid N
          → choose b (run.ignored_site_reading visit n (site_count e)) (read_site app visit n (site_count e) body) N ≡ T (at_site (site_count e) (evaluate body) a [] (a.site (site_count e))) N
      behind true h N f = left_out N (body_site true h) (a.site (site_count e)) (body_site true h)
      behind false h N f = site_through app (keeping_manner visit n) a Low Mid keeps (site_count e) (read_term app (keeping_manner visit n) body []) (evaluate body) [] (a.site (site_count e)) (body_site false h) body_through N f

      event_by : (x : Value) (b : Bool) (N : SessionState) → Mid N
          → choose b (r.plain_reading outcome.Stop) (choose (not (has_run (reader_state M n)) && flags.ignore_init) (run.ignored_site_reading visit n (site_count e)) (read_site app visit n (site_count e) body)) N
          ≡ T (if b then plain outcome.Stop else at_site (site_count e) (evaluate body) a [] (a.site (site_count e))) N
      event_by x true N f = refl
      event_by x false N f = behind (not (has_run (reader_state M n)) && flags.ignore_init) refl N f

      pub event_through : IsNumbered 0 e → Every Low (reads_in e) → (N : SessionState) → Mid N
          → Comes (with_body_counted (go_on (read_term app (keeping_manner visit n) e [] N) (read_event_body app visit n (not (has_run (reader_state M n))) flags (site_count e) body))) (then_with (evaluate e a []) (event_body flags e body a)) 1 N
      event_through d q N f =
          plus_one (go_on (read_term app (keeping_manner visit n) e [] N) (read_event_body app visit n (not (has_run (reader_state M n))) flags (site_count e) body))
          ∙ ap (plus 1) (both app (keeping_manner visit n) a Low Mid keeps (read_term app (keeping_manner visit n) e []) (evaluate e a []) (read_event_body app visit n (not (has_run (reader_state M n))) flags (site_count e) body) (event_body flags e body a)
          (term_through app (keeping_manner visit n) a Low Mid keeps 0 (0 + site_count e) (λ s i j. event_open s (λ q. omega (q, j, arith))) e 0 d q (omega arith) (omega arith) [])
          (term_asks a Low e 0 (0 + site_count e) d q (omega arith) [])
          (λ x N f. event_by x (is_null x && not flags.allow_null) N f) N f)

  -- ---- any reader that is evaluated; a picture is made of the outcome alone
  module _ (i : Node) (is : reader app n ≡ Some i) (evaluated : is_evaluated i ≡ true) (low : Every Low (reads_in_node i)) (covered : is_covered app n ≡ true) where
    abbrev reading : SessionState → TermResult
    reading = read_node app visit n (not (has_run (reader_state M n))) (reader app n)

    abbrev e : Evaluation
    e = evaluate_node (reader app n) a

    pub record IsWalked (N : SessionState) : Type 0 where
      pub state : (reading N).state ≡ (walk_of_trace (keeping_manner visit n) a.site e.asked N).state
      pub bodies : (reading N).bodies ≡ (walk_of_trace (keeping_manner visit n) a.site e.asked N).bodies + bodies_counted (reader app n) a

    plain_sites : (j : Node) → reader app n ≡ Some j → ignored_site (Some j) ≡ None → (s : ℕ) → a.site s ≡ None
    plain_sites j h none s = open_none app n (reader_state M n) s (none_ignored app n (ap ignored_site h ∙ none) s)

    bare_of : (j : Node) → reader app n ≡ Some j → (keys : Trees) (body : Tree) → ((key : Tree) (more : Trees) → keys ≡ tree key more → cached_node (Some j) ≡ Some (record { keys = tree key more; body = body })) → (key : Tree) (more : Trees) → keys ≡ tree key more → site_count body ≡ 0
    bare_of j h keys body c key more q = (covered_body app n j key more body h (c key more q) covered).bare

    -- from what a node says
    abbrev Node_walks : Node → SessionState → Type 0
    Node_walks j N = ((read_node app visit n (not (has_run (reader_state M n))) (Some j) N).state ≡ (walk_of_trace (keeping_manner visit n) a.site (evaluate_node (Some j) a).asked N).state)
        × ((read_node app visit n (not (has_run (reader_state M n))) (Some j) N).bodies ≡ (walk_of_trace (keeping_manner visit n) a.site (evaluate_node (Some j) a).asked N).bodies + bodies_counted (Some j) a)

    of_comes : (x : TermResult) (y : Evaluation) (c : ℕ) (N : SessionState) → Comes x y c N → (x.state ≡ (walk_of_trace (keeping_manner visit n) a.site y.asked N).state) × (x.bodies ≡ (walk_of_trace (keeping_manner visit n) a.site y.asked N).bodies + c)
    of_comes x y c N h = (ap (λ (z : TermResult). z.state) h, ap (λ (z : TermResult). z.bodies) h)

    node_walks : (j : Node) → reader app n ≡ Some j → is_evaluated j ≡ true → IsNumberedNode j → Every Low (reads_in_node j) → (N : SessionState) → Mid N → Node_walks j N
    node_walks (input name start) h x d q N f = cc
    node_walks (value name start) h x d q N f = cc
    node_walks (task name parameters body) h x d q N f = cc
    node_walks (observe name priority block) h x d q N f = cc
    node_walks (on name priority flags t block) h x d q N f = cc
    node_walks (reactive name keys body) h x d q N f =
        of_comes (read_cached app visit n keys body N) (cached keys body a) (bodies_behind_keys keys a) N
        (cached_through (plain_sites (reactive name keys body) h refl) keys body d.0 d.1 q (bare_of (reactive name keys body) h keys body (λ key more p. ap (λ ks. cached_node (Some (reactive name ks body))) p)) N f)
    node_walks (event name flags t body) h x d q N f =
        of_comes (with_body_counted (go_on (read_term app (keeping_manner visit n) t [] N) (read_event_body app visit n (not (has_run (reader_state M n))) flags (site_count t) body))) (then_with (evaluate t a []) (event_body flags t body a)) 1 N
        (event_through name flags t body h d.1 (back Low (reads_in t) (reads_in body) q) d.0 (front Low (reads_in t) (reads_in body) q) N f)
    node_walks (text name shown) h x d q N f =
        of_comes (read_cached app visit n shown.keys shown.body N) (cached shown.keys shown.body a) (bodies_behind_keys shown.keys a) N
        (cached_through (plain_sites (text name shown) h refl) shown.keys shown.body d.0 d.1 q (bare_of (text name shown) h shown.keys shown.body (λ key more p. ap (λ ks. cached_node (Some (text name (record shown { keys = ks })))) p)) N f)
    node_walks (plot name shown) h x d q N f =
        of_comes (read_cached app visit n shown.keys shown.body N) (cached shown.keys shown.body a) (bodies_behind_keys shown.keys a) N
        (cached_through (plain_sites (plot name shown) h refl) shown.keys shown.body d.0 d.1 q (bare_of (plot name shown) h shown.keys shown.body (λ key more p. ap (λ ks. cached_node (Some (plot name (record shown { keys = ks })))) p)) N f)

    pub node_walked : (N : SessionState) → Mid N → IsWalked N
    node_walked N f =
        let w : Node_walks i N = node_walks i is evaluated (orderly.sites n i is) low N f in
        record {
          state = subst (λ (o : Option Node). (read_node app visit n (not (has_run (reader_state M n))) o N).state ≡ (walk_of_trace (keeping_manner visit n) a.site (evaluate_node o a).asked N).state) (sym is) w.0;
          bodies = subst (λ (o : Option Node). (read_node app visit n (not (has_run (reader_state M n))) o N).bodies ≡ (walk_of_trace (keeping_manner visit n) a.site (evaluate_node o a).asked N).bodies + bodies_counted o a) (sym is) w.1;
        }

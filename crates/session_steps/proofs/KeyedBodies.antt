-- The body of a cached reader whose keys all come to values: in the state, and in a session where nothing is wanted.
use Rattle.std.proofs.Common.{◌≡◌, ◌≢◌, ◌<◌, ℕ, zero, suc, Bool, true, false, List, [], ◌∷◌, ◌++◌, length, Option, Some, Ok, refl, sym, ap, ◌∙◌, subst, arith}
use Rattle.std.specs.Prelude.{◌==◌, if◌then◌else◌}
use Rattle.rx_value.specs.declared.value.Value.{Value}
use Rattle.rx_value.specs.declared.outcome.Outcome.{Outcome}
use Rattle.app_tree.specs.Tree.{Node, Shape}
use Rattle.app_tree.specs.Numbering.{readers, reader, is_expression}
use Rattle.app_tree.specs.Current.{CurrentValues}
use Rattle.app_tree.specs.Evaluate.{Answers, TraceEntry, reads, given, enters, leaves, Evaluation, evaluate, outcome_of}
use Rattle.app_tree.specs.Trace.{Every, OfRead, EveryRead}
use Rattle.app_tree.specs.Fresh.{Sites, known_at, answer_to, is_expression_at, evaluate_node, known_by, known_of, with_known, known_below, known_expressions}
use Rattle.app_tree.specs.Keys.{keys_result, keys_evaluation}
use Rattle.app_tree.specs.Cover.{Cached, cached_node, is_covered, keyed_outcome}
use Rattle.app_tree.specs.Wanted.{completed}
use Rattle.app_tree.specs.WellFormed.{IsWellFormed}
use Rattle.session_model.specs.State.{SessionState}
use Rattle.session_model.specs.Standing.{KeptSession, StandsForState}
use Rattle.app_laws.specs.AskedLaws.{IsAnsweredAlike}
use Rattle.app_laws.specs.KeyedLaws.{answers_at}
use Rattle.app_laws.specs.Orderly.{ReadsBelow, bound_of, IsOrderly}
use Rattle.app_laws.proofs.Agreeing.{front, back, term_agrees}
use Rattle.app_laws.proofs.Keyed.{covered_body_is_keyed}
use Rattle.app_laws.proofs.KnownLists.{get_in, known_is, same_answer}
use Rattle.app_laws.proofs.WhatIsAsked.{every_map, reads_zip, reads_map, if_true, if_false, eq_self, eq_apart}
use Rattle.session_laws.specs.Now.{open_sites, sites_now, known_now, open_answers}
use Rattle.session_laws.proofs.Moving.{not_both}
use Rattle.session_laws.proofs.Proper.{orderly as orderly_of, covered as covered_of}
use Rattle.session_laws.proofs.Staying.{asked_low}
use Rattle.session_laws.proofs.Walking.{expression_of}
use Rattle.session_steps.specs.Keeping.{open_site_of, answering, attempt}
use Rattle.session_steps.specs.StandLaws.{BodyIsKeyed}
use Rattle.session_steps.proofs.Keys.{keys_same, IsCachedNode, cached_is, node_split}
use Rattle.session_steps.proofs.Living.{sites_as, live_answer}
use Rattle.session_steps.proofs.Wanting.{IsLiveRead, live_all}

-- answers alike to reads and to sites are so to all that is asked
pub all_alike : (a b : Answers) → ((s : ℕ) → a.site s ≡ b.site s) → (xs : List TraceEntry) → EveryRead (λ r. a.read r ≡ b.read r) xs → Every (IsAnsweredAlike a b) xs
all_alike a b sites xs h = every_map (OfRead (λ r. a.read r ≡ b.read r)) (IsAnsweredAlike a b) one xs h
  where
    one : (x : TraceEntry) → OfRead (λ r. a.read r ≡ b.read r) x → IsAnsweredAlike a b x
    one (reads r) p = p
    one (given s) p = sites s
    one (enters s) p = sites s
    one (leaves s o) p = tt

-- ---- sites of which those of the expressions below a number are the same

known_apart : (app : Shape) (values : CurrentValues) (sites sites' : Sites) (k : ℕ) → ((j : ℕ) → j < k → is_expression_at (reader app j) ≡ true → sites' j ≡ sites j) → known_below app values sites' k ≡ known_below app values sites k
known_apart app values sites sites' zero h = refl
known_apart app values sites sites' (suc k) h =
    ap (λ l. with_known app values sites' l k) (known_apart app values sites sites' k (λ j l e. h j (omega (l, arith)) e))
    ∙ ap (λ x. known_below app values sites k ++ x ∷ []) (entry (is_expression_at (reader app k)) refl)
  where
    entry : (b : Bool) → is_expression_at (reader app k) ≡ b → known_of app values sites' (known_below app values sites k) k b ≡ known_of app values sites (known_below app values sites k) k b
    entry true e = ap (λ (s : ℕ → Option Outcome). known_by app (known_below app values sites k) (evaluate_node (reader app k) (record { read = answer_to app values (known_below app values sites k); site = s }))) (h k (omega arith) e)
    entry false e = refl

-- ---- in the state

module _ (app : Shape) (well : IsWellFormed app) (orderly : IsOrderly app) (M : SessionState) (n : ℕ) (i : Node) (is : reader app n ≡ Some i) where
  abbrev k : ℕ
  k = bound_of app n i

  abbrev a : Answers
  a = open_answers app M n

  -- as they are now, but for those of reader n, which runs
  abbrev opened : Sites
  opened j = if j == n then open_sites app M n else sites_now app M j

  apart_by : (b : Bool) → is_expression i ≡ b → (j : ℕ) → j < k → is_expression_at (reader app j) ≡ true → j ≢ n
  apart_by true x j l e q =
      let own : k ≡ n = if_true (is_expression i) n (length (readers app)) x in
      omega (own, l, q, arith)
  apart_by false x j l e q = not_both (subst (λ z. is_expression_at (reader app z) ≡ true) q e) (ap is_expression_at is ∙ x)

  known_same : (m : ℕ) → m < k → is_expression_at (reader app m) ≡ true → known_at (known_now app M) m ≡ known_at (known_expressions app M.values opened) m
  known_same m l e =
      let x = expression_of app m e in
      let inside : m < length (readers app) = get_in (readers app) m x.0 x.1 in
      let below : known_below app M.values opened (suc m) ≡ known_below app M.values (sites_now app M) (suc m) =
      known_apart app M.values (sites_now app M) opened (suc m) (λ j h y. if_false (j == n) (open_sites app M n) (sites_now app M j) (eq_apart j n (apart_by (is_expression i) refl j (omega (h, l, arith)) y))) in
      known_is app M.values (sites_now app M) (length (readers app)) m inside
      ∙ sym (known_is app M.values (sites_now app M) (suc m) m (omega arith))
      ∙ ap (λ l. known_at l m) (sym below)
      ∙ known_is app M.values opened (suc m) m (omega arith)
      ∙ sym (known_is app M.values opened (length (readers app)) m inside)

  abbrev b : Answers
  b = answers_at app M.values opened n

  site_same : (s : ℕ) → a.site s ≡ b.site s
  site_same s = ap (λ (f : ℕ → Option Outcome). f s) (sym (if_true (n == n) (open_sites app M n) (sites_now app M n) (eq_self n)))

  alike : (xs : List TraceEntry) → EveryRead (ReadsBelow app k) xs → Every (IsAnsweredAlike a b) xs
  alike xs l = all_alike a b site_same xs (reads_map (ReadsBelow app k) (λ r. a.read r ≡ b.read r) (same_answer app M.values (known_now app M) (known_expressions app M.values opened) k known_same) xs l)

  module _ (covered : is_covered app n ≡ true) (c : Cached) (cached : cached_node (reader app n) ≡ Some c) (xs : List Value) (values : keys_result c.keys (open_answers app M n) ≡ Ok xs) where
    abbrev K : Evaluation
    K = keys_evaluation c.keys (open_answers app M n)

    abbrev B : Evaluation
    B = evaluate c.body (open_answers app M n) []

    low : EveryRead (ReadsBelow app k) (K.asked ++ B.asked)
    low = subst (λ (e : Evaluation). EveryRead (ReadsBelow app k) e.asked) (node_split (reader app n) c (cached_is (reader app n) c cached) a xs values) (asked_low app orderly n i is a)

    -- it comes to what the keys' values say
    pub keyed_now : outcome_of c.body (open_answers app M n) [] ≡ keyed_outcome app n xs
    keyed_now =
        ap (λ (e : Evaluation). e.outcome) (sym (term_agrees a b c.body [] (alike B.asked (back (OfRead (ReadsBelow app k)) K.asked B.asked low))))
        ∙ covered_body_is_keyed app well n c cached covered M.values opened xs (keys_same a b c.keys [] xs values (alike K.asked (front (OfRead (ReadsBelow app k)) K.asked B.asked low)))

-- ---- in a session

module _ (app : Shape) (orderly : IsOrderly app) (S : KeptSession) (M : SessionState) (stands : StandsForState app S M) (n k : ℕ) where
  -- what lives is answered as the trace's reads are
  pub live_alike : (xs : List TraceEntry) → EveryRead (ReadsBelow app k) xs → EveryRead (IsLiveRead app S) xs → Every (IsAnsweredAlike (completed (answering app S n)) (open_answers app M n)) xs
  live_alike xs l h =
      all_alike (completed (answering app S n)) (open_answers app M n) (sites_as app orderly S M stands n) xs
      (reads_zip (ReadsBelow app k) (IsLiveRead app S) (λ r. (completed (answering app S n)).read r ≡ (open_answers app M n).read r) (live_answer app orderly S M stands k) xs l h)

node_of : (app : Shape) (n : ℕ) (c : Cached) → cached_node (reader app n) ≡ Some c → (i : Node) × (reader app n ≡ Some i)
node_of app n c h = let w : IsCachedNode (reader app n) c = cached_is (reader app n) c h in (w.node, w.is)

pub body_is_keyed : BodyIsKeyed
body_is_keyed app p S M stands n c xs cached none values =
    let orderly : IsOrderly app = orderly_of app p in
    let i = node_of app n c cached in
    let k : ℕ = bound_of app n i.0 in
    let b : Answers = completed (answering app S n) in
    let a : Answers = open_answers app M n in
    let K : Evaluation = keys_evaluation c.keys b in
    let B : Evaluation = evaluate c.body b [] in
    let split = node_split (reader app n) c (cached_is (reader app n) c cached) b xs values in
    let low : EveryRead (ReadsBelow app k) (K.asked ++ B.asked) = subst (λ (e : Evaluation). EveryRead (ReadsBelow app k) e.asked) split (asked_low app orderly n i.0 i.1 b) in
    let live : EveryRead (IsLiveRead app S) (K.asked ++ B.asked) = subst (λ (e : Evaluation). EveryRead (IsLiveRead app S) e.asked) split (live_all app S (open_site_of app S n) (attempt app S n).asked none) in
    let alike : Every (IsAnsweredAlike b a) (K.asked ++ B.asked) = live_alike app orderly S M stands n k (K.asked ++ B.asked) low live in
    ap (λ (e : Evaluation). e.outcome) (sym (term_agrees b a c.body [] (back (IsAnsweredAlike b a) K.asked B.asked alike)))
    ∙ keyed_now app p.well_formed orderly M n i.0 i.1 (covered_of app p n) c cached xs (keys_same b a c.keys [] xs values (front (IsAnsweredAlike b a) K.asked B.asked alike))

-- The list of what the expressions come to: each by its number, from those before it.
use Rattle.std.proofs.Common.{◌≡◌, inl, inr, ◌<◌, ℕ, zero, suc, Bool, true, false, List, [], ◌∷◌, ◌++◌, length, Option, Some, refl, sym, ap, ◌∙◌, subst, arith}
use Rattle.std.specs.Prelude.{slice_get, unwrap_or}
use Rattle.std.proofs.lemmas.Bool.Decides.{eqb_tells}
use Rattle.rx_value.specs.declared.outcome.Outcome.{Outcome}
use Rattle.app_tree.specs.declared.term.Read.{Read}
use Rattle.app_tree.specs.declared.term.Read.TheVariants as read
use Rattle.app_tree.specs.Tree.{Node, Shape}
use Rattle.app_tree.specs.Numbering.{readers, reader, is_expression}
use Rattle.app_tree.specs.Current.{CurrentValues}
use Rattle.app_tree.specs.Evaluate.{Answers, TraceEntry, reads, given, enters, leaves}
use Rattle.app_tree.specs.Fresh.{Sites, Known, unknown, known_at, answer_to, union, sources_of_read, sources_of_reads, evaluate_node, evaluate_reader, known_by, is_expression_at, known_of, with_known, known_below, known_expressions}
use Rattle.app_tree.specs.Trace.{Every, OfRead, EveryRead}
use Rattle.app_laws.specs.AskedLaws.{IsAnsweredAlike}
use Rattle.app_laws.specs.Orderly.{ReadsBelow, bound_of, IsOrderly, IsNumberedNode, reads_in_node}
use Rattle.app_laws.proofs.NodesAgree.{node_agrees}
use Rattle.app_laws.proofs.WhatIsAsked.{every_map, reads_map, node_asks, node_covers, if_true}

-- ---- lists

pub length-more : {A : Type 0} (xs : List A) (x : A) → length (xs ++ x ∷ []) ≡ suc (length xs)
length-more [] x = refl
length-more (y ∷ xs) x = ap suc (length-more xs x)

pub get-last : {A : Type 0} (xs : List A) (x : A) → slice_get (xs ++ x ∷ []) (length xs) ≡ Some x
get-last [] x = refl
get-last (y ∷ xs) x = get-last xs x

pub get-before : {A : Type 0} (xs : List A) (x : A) (n : ℕ) → n < length xs → slice_get (xs ++ x ∷ []) n ≡ slice_get xs n
get-before [] x n h = absurd (omega (h, arith))
get-before (y ∷ xs) x zero h = refl
get-before (y ∷ xs) x (suc n) h = get-before xs x n (omega (h, arith))

pub get_in : {A : Type 0} (xs : List A) (n : ℕ) (x : A) → slice_get xs n ≡ Some x → n < length xs
get_in [] n x h = cc
get_in (y ∷ xs) zero x h = omega arith
get_in (y ∷ xs) (suc n) x h = let rest = get_in xs n x h in omega (rest, arith)

-- ---- equal answers

alike_asked : (a b : Answers) → ((s : ℕ) → a.site s ≡ b.site s) → (x : TraceEntry) → OfRead (λ r. a.read r ≡ b.read r) x → IsAnsweredAlike a b x
alike_asked a b same (reads r) h = h
alike_asked a b same (given s) h = same s
alike_asked a b same (enters s) h = same s
alike_asked a b same (leaves s o) h = tt

pub evaluation_alike : (a b : Answers) (i : Option Node) → ((s : ℕ) → a.site s ≡ b.site s) → EveryRead (λ r. a.read r ≡ b.read r) (evaluate_node i a).asked → evaluate_node i b ≡ evaluate_node i a
evaluation_alike a b i same h =
    node_agrees a b i (every_map (OfRead (λ r. a.read r ≡ b.read r)) (IsAnsweredAlike a b) (alike_asked a b same) (evaluate_node i a).asked h)

pub sources_alike : (app : Shape) (known known' : List Known) (rs : List Read) → Every (λ r. sources_of_read app known r ≡ sources_of_read app known' r) rs → (sources : List ℕ) → sources_of_reads app known sources rs ≡ sources_of_reads app known' sources rs
sources_alike app known known' [] h sources = refl
sources_alike app known known' (r ∷ rs) h sources = ap (λ l. sources_of_reads app known (union sources l) rs) h.0 ∙ sources_alike app known known' rs h.1 (union sources (sources_of_read app known' r))

-- two lists that have the same for each expression below a bound
module _ (app : Shape) (values : CurrentValues) (known known' : List Known) (bound : ℕ) (same : (m : ℕ) → m < bound → is_expression_at (reader app m) ≡ true → known_at known m ≡ known_at known' m) where
  pub same_answer : (r : Read) → ReadsBelow app bound r → answer_to app values known r ≡ answer_to app values known' r
  same_answer (read.Expr m) h = ap (λ (k : Known). k.outcome) (same m h.0 h.1)
  same_answer (read.Input s) h = refl
  same_answer (read.Value s) h = refl
  same_answer (read.Status s) h = refl
  same_answer (read.Result s) h = refl
  same_answer (read.Width n) h = refl
  same_answer (read.Height n) h = refl

  same_sources : (r : Read) → ReadsBelow app bound r → sources_of_read app known r ≡ sources_of_read app known' r
  same_sources (read.Expr m) h = ap (λ (k : Known). k.sources) (same m h.0 h.1)
  same_sources (read.Input s) h = refl
  same_sources (read.Value s) h = refl
  same_sources (read.Status s) h = refl
  same_sources (read.Result s) h = refl
  same_sources (read.Width n) h = refl
  same_sources (read.Height n) h = refl

  module _ (site : ℕ → Option Outcome) (i : Node) (numbered : IsNumberedNode i) (low : Every (ReadsBelow app bound) (reads_in_node i)) where
    abbrev by_one : Answers
    by_one = record { read = answer_to app values known; site = site }

    abbrev by_other : Answers
    by_other = record { read = answer_to app values known'; site = site }

    asked_low : EveryRead (ReadsBelow app bound) (evaluate_node (Some i) by_one).asked
    asked_low = node_asks by_one (ReadsBelow app bound) i numbered low

    pub same_evaluation : evaluate_node (Some i) by_other ≡ evaluate_node (Some i) by_one
    same_evaluation =
        evaluation_alike by_one by_other (Some i) (λ s. refl) (reads_map (ReadsBelow app bound) (λ r. by_one.read r ≡ by_other.read r) same_answer (evaluate_node (Some i) by_one).asked asked_low)

    pub same_known : known_by app known' (evaluate_node (Some i) by_other) ≡ known_by app known (evaluate_node (Some i) by_one)
    same_known =
        let outside : Every (ReadsBelow app bound) (evaluate_node (Some i) by_one).outside = node_covers by_one (ReadsBelow app bound) i numbered asked_low in
        ap (known_by app known') same_evaluation
        ∙ ap (λ l. record { outcome = (evaluate_node (Some i) by_one).outcome; sources = l })
        (sym (sources_alike app known known' (evaluate_node (Some i) by_one).outside (every_map (ReadsBelow app bound) (λ r. sources_of_read app known r ≡ sources_of_read app known' r) same_sources (evaluate_node (Some i) by_one).outside outside) []))

-- ---- what is known of the expressions below a number

module _ (app : Shape) (values : CurrentValues) (sites : Sites) where
  pub known_size : (k : ℕ) → length (known_below app values sites k) ≡ k
  known_size zero = refl
  known_size (suc k) = length-more (known_below app values sites k) _ ∙ ap suc (known_size k)

  -- what the list has at a number
  abbrev pub known_entry : ℕ → Known
  known_entry m = known_of app values sites (known_below app values sites m) m (is_expression_at (reader app m))

  known_last : (k : ℕ) → known_at (known_below app values sites (suc k)) k ≡ known_entry k
  known_last k =
      subst (λ z. known_at (known_below app values sites (suc k)) z ≡ known_entry k) (known_size k)
      (ap (λ o. unwrap_or o unknown) (get-last (known_below app values sites k) (known_entry k)))

  pub known_is : (k m : ℕ) → m < k → known_at (known_below app values sites k) m ≡ known_entry m
  known_is zero m h = absurd (omega (h, arith))
  known_is (suc k) m h = elim (eqb_tells m k) [
    | inl p ↦ subst (λ z. known_at (known_below app values sites (suc k)) z ≡ known_entry z) (sym p.1) (known_last k)
    | inr p ↦ let differ = p.1 in let below : m < k = omega (h, differ, arith) in let size = known_size k in
        ap (λ o. unwrap_or o unknown) (get-before (known_below app values sites k) (known_entry k) m (omega (below, size, arith))) ∙ known_is k m below
  ]

  abbrev all : List Known
  all = known_expressions app values sites

  module _ (orderly : IsOrderly app) (m : ℕ) (i : Node) (is : reader app m ≡ Some i) (expression : is_expression i ≡ true) where
    inside : m < length (readers app)
    inside = get_in (readers app) m i is

    own_bound : bound_of app m i ≡ m
    own_bound = if_true (is_expression i) m (length (readers app)) expression

    pub low_reads : Every (ReadsBelow app m) (reads_in_node i)
    low_reads = subst (λ b. Every (ReadsBelow app b) (reads_in_node i)) own_bound (orderly.reads m i is)

    before_same : (j : ℕ) → j < m → is_expression_at (reader app j) ≡ true → known_at (known_below app values sites m) j ≡ known_at all j
    before_same j h e = known_is m j h ∙ sym (known_is (length (readers app)) j (let last = inside in omega (h, last, arith)))

    at_reader : known_entry m ≡ known_by app (known_below app values sites m) (evaluate_node (Some i) (record { read = answer_to app values (known_below app values sites m); site = sites m }))
    at_reader = ap (λ (o : Option Node). known_of app values sites (known_below app values sites m) m (is_expression_at o)) is
        ∙ ap (known_of app values sites (known_below app values sites m) m) expression
        ∙ ap (λ o. known_by app (known_below app values sites m) (evaluate_node o (record { read = answer_to app values (known_below app values sites m); site = sites m }))) is

    -- what is known of an expression is what it comes to by what is known of all
    pub known_fixed : known_at all m ≡ known_by app all (evaluate_reader app values sites all m)
    known_fixed =
        known_is (length (readers app)) m inside ∙ at_reader
        ∙ sym (same_known app values (known_below app values sites m) all m before_same (sites m) i (orderly.sites m i is) low_reads)
        ∙ ap (λ o. known_by app all (evaluate_node o (record { read = answer_to app values all; site = sites m }))) (sym is)

-- sites that make no difference to any expression
pub known_same : (app : Shape) (values : CurrentValues) (sites sites' : Sites)
    → ((n : ℕ) → is_expression_at (reader app n) ≡ true
    → known_by app (known_below app values sites n) (evaluate_reader app values sites' (known_below app values sites n) n) ≡ known_by app (known_below app values sites n) (evaluate_reader app values sites (known_below app values sites n) n))
    → (k : ℕ) → known_below app values sites' k ≡ known_below app values sites k
known_same app values sites sites' h zero = refl
known_same app values sites sites' h (suc k) =
    ap (λ l. with_known app values sites' l k) (known_same app values sites sites' h k)
    ∙ ap (λ e. known_below app values sites k ++ e ∷ []) (entry (is_expression_at (reader app k)) refl)
  where
    entry : (b : Bool) → is_expression_at (reader app k) ≡ b → known_of app values sites' (known_below app values sites k) k b ≡ known_of app values sites (known_below app values sites k) k b
    entry true e = h k e
    entry false e = refl

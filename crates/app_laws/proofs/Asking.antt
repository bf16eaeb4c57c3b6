-- A fact of each evaluation, from the facts of its parts: one induction over terms for all of them.
use Rattle.std.proofs.Common.{◌≡◌, ◌≤◌, ◌<◌, ℕ, suc, ◌+◌, ℤ, Bool, true, false, List, [], ◌∷◌, ◌++◌, Option, Some, None, refl, sym, subst, arith}
use Rattle.std.specs.Prelude.{not, ◌&&◌, if◌then◌else◌}
use Rattle.rx_value.specs.declared.value.Value.{Value}
use Rattle.rx_value.specs.declared.value.Value.TheVariants as v
use Rattle.rx_value.specs.declared.outcome.Outcome.{Outcome}
use Rattle.rx_value.specs.declared.outcome.Outcome.TheVariants as outcome
use Rattle.rx_value.specs.Numbers.{number_list}
use Rattle.rx_value.specs.Operators.{unary_result, binary_result}
use Rattle.rx_value.specs.Functions.{is_null}
use Rattle.app_tree.specs.declared.term.Read.{Read}
use Rattle.app_tree.specs.declared.term.Operator.{Operator}
use Rattle.app_tree.specs.declared.term.Operator.TheVariants as operator
use Rattle.app_tree.specs.declared.item.Flags.{Flags}
use Rattle.app_tree.specs.Tree.{Tree, constant, group, get, variable, isolate, stop, require, fold, unary, binary, choice, call, Trees, no_trees, tree, Node, input, value, task, reactive, event, text, plot, observe, on}
use Rattle.app_tree.specs.Evaluate.{Answers, given, enters, leaves, Evaluation, Meaning, plain, read_of, after, then_by, then_with, wanted_bool, decided_by, operated, chosen_by, called, stop_outcome, required, over_each, over_list, at_site, evaluate, evaluate_all, site_count, site_count_all}
use Rattle.app_tree.specs.Cover.{reads_in, reads_in_all}
use Rattle.app_tree.specs.Fresh.{without_reads, rendered, cached, event_body, evaluate_node}
use Rattle.app_tree.specs.Trace.{Every}
use Rattle.app_laws.specs.Orderly.{IsNumbered, AreNumbered, IsNumberedNode, reads_in_node}
use Rattle.app_laws.proofs.Agreeing.{front, back}

-- a site that is answered, and one that is evaluated
abbrev pub given_site : ℕ → Outcome → Evaluation
given_site site outcome = record { outcome = outcome; asked = given site ∷ []; outside = [] }

abbrev pub left_site : ℕ → Evaluation → Evaluation
left_site site e = record { outcome = e.outcome; asked = enters site ∷ (e.asked ++ leaves site e.outcome ∷ []); outside = [] }

-- a term without sites is numbered from anywhere
zero_left : (a b : ℕ) → a + b ≡ 0 → a ≡ 0
zero_left a b h = omega (h, arith)

zero_right : (a b : ℕ) → a + b ≡ 0 → b ≡ 0
zero_right a b h = omega (h, arith)

mutual
  pub bare_numbered : (t : Tree) (n : ℕ) → site_count t ≡ 0 → IsNumbered n t
  bare_numbered (constant x) n h = tt
  bare_numbered (group t) n h = bare_numbered t n h
  bare_numbered (get r) n h = tt
  bare_numbered (variable k) n h = tt
  bare_numbered (isolate site t) n h = cc
  bare_numbered (stop t) n h = bare_numbered t n h
  bare_numbered (require t cancels) n h = bare_numbered t n h
  bare_numbered (fold list start accumulator element body) n h =
      let two : site_count list + site_count start ≡ 0 = zero_left (site_count list + site_count start) (site_count body) h in
      (bare_numbered list n (zero_left (site_count list) (site_count start) two), (bare_numbered start (n + site_count list) (zero_right (site_count list) (site_count start) two), zero_right (site_count list + site_count start) (site_count body) h))
  bare_numbered (unary op t) n h = bare_numbered t n h
  bare_numbered (binary op a b) n h = (bare_numbered a n (zero_left (site_count a) (site_count b) h), bare_numbered b (n + site_count a) (zero_right (site_count a) (site_count b) h))
  bare_numbered (choice condition a b) n h =
      let two : site_count condition + site_count a ≡ 0 = zero_left (site_count condition + site_count a) (site_count b) h in
      (bare_numbered condition n (zero_left (site_count condition) (site_count a) two), (bare_numbered a (n + site_count condition) (zero_right (site_count condition) (site_count a) two), bare_numbered b (n + site_count condition + site_count a) (zero_right (site_count condition + site_count a) (site_count b) h)))
  bare_numbered (call f ts) n h = bare_all ts n h

  bare_all : (ts : Trees) (n : ℕ) → site_count_all ts ≡ 0 → AreNumbered n ts
  bare_all no_trees n h = tt
  bare_all (tree t more) n h = (bare_numbered t n (zero_left (site_count t) (site_count_all more) h), bare_all more (n + site_count t) (zero_right (site_count t) (site_count_all more) h))

-- the number behind the last site of a reader
abbrev pub node_sites : Node → ℕ
node_sites (reactive name keys body) = site_count_all keys + site_count body
node_sites (event name flags e body) = suc (site_count e) + site_count body
node_sites (text name shown) = site_count_all shown.keys + site_count shown.body
node_sites (plot name shown) = site_count_all shown.keys + site_count shown.body
node_sites _ = 0

-- P l h e: a fact of an evaluation whose sites have numbers from l on and below h, where what is read has Q
pub record IsOfParts (a : Answers) (Q : Read → Type 0) (P : ℕ → ℕ → Evaluation → Type 0) : Type 0 where
  pub nothing : (l h : ℕ) (x : Outcome) → l ≤ h → P l h (plain x)
  pub reading : (l h : ℕ) (r : Read) → l ≤ h → Q r → P l h (read_of a r)
  pub joined : (l m h : ℕ) (e next : Evaluation) → l ≤ m → m ≤ h → P l m e → P m h next → P l h (after e next)
  pub wider : (l h k i : ℕ) (e : Evaluation) → k ≤ l → h ≤ i → P l h e → P k i e
  pub answered : (n h : ℕ) (x : Outcome) → n < h → a.site n ≡ Some x → P n h (given_site n x)
  pub entered : (n h : ℕ) (e : Evaluation) → n < h → a.site n ≡ None → P (suc n) h e → P n h (left_site n e)

module _ (a : Answers) (Q : Read → Type 0) (P : ℕ → ℕ → Evaluation → Type 0) (of : IsOfParts a Q P) where
  goes : (l m h : ℕ) (e : Evaluation) (x : Outcome) (next : Value → Evaluation) → l ≤ m → m ≤ h → P l m e → ((y : Value) → P m h (next y)) → P l h (then_by e x next)
  goes l m h e (outcome.Val x) next i j p k = of.joined l m h e (next x) i j p (k x)
  goes l m h e (outcome.Fail t) next i j p k = of.wider l m l h e (omega arith) j p
  goes l m h e outcome.Stop next i j p k = of.wider l m l h e (omega arith) j p
  goes l m h e outcome.Cancel next i j p k = of.wider l m l h e (omega arith) j p
  goes l m h e outcome.Running next i j p k = of.wider l m l h e (omega arith) j p

  -- and then nothing is asked
  ends : (l h : ℕ) (e : Evaluation) (f : Value → Outcome) → l ≤ h → P l h e → P l h (then_with e (λ x. plain (f x)))
  ends l h e f i p = goes l h h e e.outcome (λ x. plain (f x)) i (omega arith) p (λ x. of.nothing h h (f x) (omega arith))

  decided : (d : Bool) (m : Meaning) (args : List Value) (l h : ℕ) → l ≤ h → P l h (m a args) → (x : Value) → P l h (decided_by d m a args x)
  decided true m args l h i p (v.Bool true) = of.nothing l h _ i
  decided true m args l h i p (v.Bool false) = ends l h (m a args) wanted_bool i p
  decided false m args l h i p (v.Bool false) = of.nothing l h _ i
  decided false m args l h i p (v.Bool true) = ends l h (m a args) wanted_bool i p
  decided true m args l h i p v.Null = of.nothing l h _ i
  decided true m args l h i p (v.Int z) = of.nothing l h _ i
  decided true m args l h i p (v.Text t) = of.nothing l h _ i
  decided true m args l h i p (v.Ints zs) = of.nothing l h _ i
  decided false m args l h i p v.Null = of.nothing l h _ i
  decided false m args l h i p (v.Int z) = of.nothing l h _ i
  decided false m args l h i p (v.Text t) = of.nothing l h _ i
  decided false m args l h i p (v.Ints zs) = of.nothing l h _ i

  operates : (op : Operator) (m : Meaning) (args : List Value) (l h : ℕ) → l ≤ h → P l h (m a args) → (x : Value) → P l h (operated op m a args x)
  operates operator.Or m args l h i p x = decided true m args l h i p x
  operates operator.And m args l h i p x = decided false m args l h i p x
  operates (operator.Strict op) m args l h i p x = ends l h (m a args) (λ y. binary_result op x y) i p

  chooses : (m n : Meaning) (args : List Value) (l h : ℕ) → l ≤ h → P l h (m a args) → P l h (n a args) → (x : Value) → P l h (chosen_by m n a args x)
  chooses m n args l h i p q (v.Bool true) = p
  chooses m n args l h i p q (v.Bool false) = q
  chooses m n args l h i p q v.Null = of.nothing l h _ i
  chooses m n args l h i p q (v.Int z) = of.nothing l h _ i
  chooses m n args l h i p q (v.Text t) = of.nothing l h _ i
  chooses m n args l h i p q (v.Ints zs) = of.nothing l h _ i

  each : (step : Value → ℤ → Evaluation) (l h : ℕ) → l ≤ h → ((x : Value) (z : ℤ) → P l l (step x z)) → (x : Value) (zs : List ℤ) → P l h (over_each step x zs)
  each step l h i k x [] = of.nothing l h _ i
  each step l h i k x (z ∷ zs) = goes l l h (step x z) (step x z).outcome (λ y. over_each step y zs) (omega arith) i (k x z) (λ y. each step l h i k y zs)

  each_of : (step : Value → ℤ → Evaluation) (l h : ℕ) → l ≤ h → ((x : Value) (z : ℤ) → P l l (step x z)) → (x : Value) (o : Option (List ℤ)) → P l h (over_list step x o)
  each_of step l h i k x (Some zs) = each step l h i k x zs
  each_of step l h i k x None = of.nothing l h _ i

  pub site : (n h : ℕ) (m : Meaning) (args : List Value) (x : Option Outcome) → n < h → a.site n ≡ x → P (suc n) h (m a args) → P n h (at_site n m a args x)
  site n h m args (Some x) i q p = of.answered n h x i q
  site n h m args None i q p = of.entered n h (m a args) i q p

  mutual
    pub term_has : (t : Tree) (n h : ℕ) → IsNumbered n t → Every Q (reads_in t) → n + site_count t ≤ h → (args : List Value) → P n h (evaluate t a args)
    term_has (constant x) n h d q i args = of.nothing n h _ (omega (i, arith))
    term_has (group t) n h d q i args = term_has t n h d q i args
    term_has (get r) n h d q i args = of.reading n h r (omega (i, arith)) q.0
    term_has (variable k) n h d q i args = of.nothing n h _ (omega (i, arith))
    term_has (isolate s t) n h d q i args =
        let here : P n h (at_site n (evaluate t) a args (a.site n)) = site n h (evaluate t) args (a.site n) (omega (i, arith)) refl (term_has t (suc n) h d.1 q (omega (i, arith)) args) in
        subst (λ k. P n h (at_site k (evaluate t) a args (a.site k))) (sym d.0) here
    term_has (stop t) n h d q i args = ends n h (evaluate t a args) stop_outcome (omega (i, arith)) (term_has t n h d q i args)
    term_has (require t cancels) n h d q i args = ends n h (evaluate t a args) (required cancels) (omega (i, arith)) (term_has t n h d q i args)
    term_has (fold list start accumulator element body) n h d q i args =
        let m : ℕ = n + site_count list in
        let k : ℕ = n + site_count list + site_count start in
        let two : Every Q (reads_in list ++ reads_in start) = front Q (reads_in list ++ reads_in start) (reads_in body) q in
        let none : site_count body ≡ 0 = d.1.1 in
        goes n m h (evaluate list a args) (evaluate list a args).outcome _ (omega arith) (omega (i, arith)) (term_has list n m d.0 (front Q (reads_in list) (reads_in start) two) (omega arith) args)
        (λ x. goes m k h (evaluate start a args) (evaluate start a args).outcome _ (omega arith) (omega (i, arith)) (term_has start m k d.1.0 (back Q (reads_in list) (reads_in start) two) (omega arith) args)
        (λ y. each_of (λ c z. evaluate body a (args ++ c ∷ v.Int z ∷ [])) k h (omega (i, arith))
        (λ c z. term_has body k k (bare_numbered body k none) (back Q (reads_in list ++ reads_in start) (reads_in body) q) (omega (none, arith)) (args ++ c ∷ v.Int z ∷ [])) y (number_list x)))
    term_has (unary op t) n h d q i args = ends n h (evaluate t a args) (λ x. unary_result op x) (omega (i, arith)) (term_has t n h d q i args)
    term_has (binary op l r) n h d q i args =
        let m : ℕ = n + site_count l in
        goes n m h (evaluate l a args) (evaluate l a args).outcome (operated op (evaluate r) a args) (omega arith) (omega (i, arith)) (term_has l n m d.0 (front Q (reads_in l) (reads_in r) q) (omega arith) args)
        (λ x. operates op (evaluate r) args m h (omega (i, arith)) (term_has r m h d.1 (back Q (reads_in l) (reads_in r) q) (omega (i, arith)) args) x)
    term_has (choice condition c e) n h d q i args =
        let m : ℕ = n + site_count condition in
        let k : ℕ = n + site_count condition + site_count c in
        let two : Every Q (reads_in condition ++ reads_in c) = front Q (reads_in condition ++ reads_in c) (reads_in e) q in
        goes n m h (evaluate condition a args) (evaluate condition a args).outcome (chosen_by (evaluate c) (evaluate e) a args) (omega arith) (omega (i, arith))
        (term_has condition n m d.0 (front Q (reads_in condition) (reads_in c) two) (omega arith) args)
        (λ x. chooses (evaluate c) (evaluate e) args m h (omega (i, arith)) (term_has c m h d.1.0 (back Q (reads_in condition) (reads_in c) two) (omega (i, arith)) args)
        (of.wider k h m h (evaluate e a args) (omega arith) (omega arith) (term_has e k h d.1.1 (back Q (reads_in condition ++ reads_in c) (reads_in e) q) (omega (i, arith)) args)) x)
    term_has (call f ts) n h d q i args =
        terms_have ts n (n + site_count_all ts) h d q (omega arith) i args [] (λ xs. plain (called f xs)) (λ xs. of.nothing (n + site_count_all ts) h (called f xs) i)

    pub terms_have : (ts : Trees) (n m h : ℕ) → AreNumbered n ts → Every Q (reads_in_all ts) → n + site_count_all ts ≤ m → m ≤ h → (args done : List Value) (next : List Value → Evaluation)
        → ((xs : List Value) → P m h (next xs)) → P n h (evaluate_all ts a args done next)
    terms_have no_trees n m h d q i j args done next k = of.wider m h n h (next done) (omega (i, arith)) (omega arith) (k done)
    terms_have (tree t more) n m h d q i j args done next k =
        let l : ℕ = n + site_count t in
        goes n l h (evaluate t a args) (evaluate t a args).outcome _ (omega arith) (omega (i, j, arith)) (term_has t n l d.0 (front Q (reads_in t) (reads_in_all more) q) (omega arith) args)
        (λ x. terms_have more l m h d.1 (back Q (reads_in t) (reads_in_all more) q) (omega (i, arith)) j args (done ++ x ∷ []) next k)

  -- ---- a reader
  module _ (unread : (l h : ℕ) (e : Evaluation) → P l h e → P l h (without_reads e)) (shows : (l h : ℕ) (e : Evaluation) → P l h e → P l h (rendered e)) where
    cached_has : (keys : Trees) (body : Tree) (h : ℕ) → AreNumbered 0 keys → IsNumbered (site_count_all keys) body → Every Q (reads_in_all keys ++ reads_in body) → site_count_all keys + site_count body ≤ h
        → P 0 h (cached keys body a)
    cached_has no_trees body h d b q i = term_has body 0 h b q i []
    cached_has (tree key more) body h d b q i =
        let keys : Trees = tree key more in
        terms_have keys 0 (site_count_all keys) h d (front Q (reads_in_all keys) (reads_in body) q) (omega arith) (omega (i, arith)) [] [] (λ xs. without_reads (evaluate body a []))
        (λ xs. unread (site_count_all keys) h (evaluate body a []) (term_has body (site_count_all keys) h b (back Q (reads_in_all keys) (reads_in body) q) i []))

    event_has : (flags : Flags) (e body : Tree) (h : ℕ) → IsNumbered (suc (site_count e)) body → Every Q (reads_in body) → suc (site_count e) + site_count body ≤ h → (x : Value) (b : Bool)
        → P (site_count e) h (if b then plain outcome.Stop else at_site (site_count e) (evaluate body) a [] (a.site (site_count e)))
    event_has flags e body h d q i x true = of.nothing (site_count e) h _ (omega (i, arith))
    event_has flags e body h d q i x false = site (site_count e) h (evaluate body) [] (a.site (site_count e)) (omega (i, arith)) refl (term_has body (suc (site_count e)) h d q i [])

    pub node_has : (i : Node) (h : ℕ) → IsNumberedNode i → Every Q (reads_in_node i) → node_sites i ≤ h → P 0 h (evaluate_node (Some i) a)
    node_has (input name start) h d q i = of.nothing 0 h _ (omega arith)
    node_has (value name start) h d q i = of.nothing 0 h _ (omega arith)
    node_has (task name parameters body) h d q i = of.nothing 0 h _ (omega arith)
    node_has (reactive name keys body) h d q i = cached_has keys body h d.0 d.1 q i
    node_has (event name flags e body) h d q i =
        goes 0 (site_count e) h (evaluate e a []) (evaluate e a []).outcome (event_body flags e body a) (omega arith) (omega (i, arith)) (term_has e 0 (site_count e) d.0 (front Q (reads_in e) (reads_in body) q) (omega arith) [])
        (λ x. event_has flags e body h d.1 (back Q (reads_in e) (reads_in body) q) i x (is_null x && not flags.allow_null))
    node_has (text name shown) h d q i = cached_has shown.keys shown.body h d.0 d.1 q i
    node_has (plot name shown) h d q i = shows 0 h (cached shown.keys shown.body a) (cached_has shown.keys shown.body h d.0 d.1 q i)
    node_has (observe name priority block) h d q i = of.nothing 0 h _ (omega arith)
    node_has (on name priority flags e block) h d q i = of.nothing 0 h _ (omega arith)

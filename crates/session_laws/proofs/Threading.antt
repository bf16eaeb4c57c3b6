-- A term that is evaluated with the session's state handed on from read to read comes to its evaluation, and leaves the
-- state that walking through what it asks gives.
use Rattle.std.proofs.Common.{◌≡◌, ◌≤◌, ◌<◌, ℕ, suc, ◌+◌, ℤ, Bool, true, false, List, [], ◌∷◌, ◌++◌, Option, Some, None, refl, sym, ap, ◌∙◌, arith}
use Rattle.std.specs.Prelude.{⊤}
use Rattle.rx_value.specs.declared.value.Value.{Value}
use Rattle.rx_value.specs.declared.value.Value.TheVariants as v
use Rattle.rx_value.specs.declared.outcome.Outcome.{Outcome}
use Rattle.rx_value.specs.declared.outcome.Outcome.TheVariants as outcome
use Rattle.rx_value.specs.Numbers.{number_list}
use Rattle.rx_value.specs.Operators.{unary_result, binary_result}
use Rattle.app_tree.specs.declared.term.Read.{Read}
use Rattle.app_tree.specs.declared.term.Read.TheVariants as read
use Rattle.app_tree.specs.declared.term.Operator.{Operator}
use Rattle.app_tree.specs.declared.term.Operator.TheVariants as operator
use Rattle.app_tree.specs.Tree.{Tree, constant, group, get, variable, isolate, stop, require, fold, unary, binary, choice, call, Trees, no_trees, tree, Shape}
use Rattle.app_tree.specs.Current.{told}
use Rattle.app_tree.specs.Evaluate.{Answers, TraceEntry, reads, given, enters, leaves, Evaluation, Meaning, plain, read_of, after, then_by, then_with, wanted_bool, decided_by, operated, chosen_by, called, stop_outcome, required, over_each, over_list, at_site, evaluate, evaluate_all, site_count, site_count_all}
use Rattle.app_tree.specs.Cover.{reads_in, reads_in_all}
use Rattle.app_tree.specs.Fresh.{fresh_outcome}
use Rattle.session_model.specs.State.{SessionState, isolated_of}
use Rattle.app_tree.specs.Trace.{Every, OfRead, EveryRead}
use Rattle.session_model.specs.Reading as r
use Rattle.session_model.specs.Reading.{TermResult, VisitResult, Manner, Reading, joined_results, go_on_by, go_on, read_in, decided_in, operated_in, chosen_in, over_each_in, over_list_in, kept_in, read_term, read_terms}
use Rattle.app_laws.specs.Orderly.{IsNumbered, AreNumbered}
use Rattle.app_laws.specs.Recorded.{given_outcome}
use Rattle.session_laws.specs.Now.{joined_visits, walk_of_entry, walk_of_trace}
use Rattle.app_laws.proofs.Agreeing.{front, back}
use Rattle.app_laws.proofs.Asking.{bare_numbered}
use Rattle.app_laws.proofs.WhatIsAsked.{term_asks}

add_assoc : (a b c : ℕ) → (a + b) + c ≡ a + (b + c)
add_assoc a b c = omega arith

add_zero : (a : ℕ) → a + 0 ≡ a
add_zero a = omega arith

zero_add : (a : ℕ) → a ≡ 0 + a
zero_add a = omega arith

pub visited_eq : {x y : VisitResult} → x.state ≡ y.state → x.bodies ≡ y.bodies → x ≡ y
visited_eq p q = λ i. record { state = p i; bodies = q i }

pub reached_eq : {x y : TermResult} → x.state ≡ y.state → x.bodies ≡ y.bodies → x.outside ≡ y.outside → x.outcome ≡ y.outcome → x ≡ y
reached_eq p q s t = λ i. record { state = p i; bodies = q i; outside = s i; outcome = t i }

pub walk_of_trace-append : (manner : Manner) (site : ℕ → Option Outcome) (xs ys : List TraceEntry) (state : SessionState)
    → walk_of_trace manner site (xs ++ ys) state ≡ joined_visits (walk_of_trace manner site xs state) (walk_of_trace manner site ys (walk_of_trace manner site xs state).state)
walk_of_trace-append manner site [] ys state = visited_eq refl (zero_add (walk_of_trace manner site ys state).bodies)
walk_of_trace-append manner site (x ∷ xs) ys state =
    let one : VisitResult = walk_of_entry manner site x state in
    let two : VisitResult = walk_of_trace manner site xs one.state in
    let three : VisitResult = walk_of_trace manner site ys two.state in
    ap (joined_visits one) (walk_of_trace-append manner site xs ys one.state) ∙ visited_eq refl (sym (add_assoc one.bodies two.bodies three.bodies))

abbrev pub IsSourceRead : Read → Type 0
IsSourceRead (read.Expr m) = ⊥
IsSourceRead r = ⊤

-- a state in which each read is answered as these answers say, and stays so answered
pub record Serves (app : Shape) (manner : Manner) (a : Answers) (Low : Read → Type 0) (Fine : SessionState → Type 0) : Type 0 where
  pub source : (r : Read) → IsSourceRead r → (state : SessionState) → Fine state → told app state.values r ≡ a.read r
  pub gives : (m : ℕ) → Low (read.Expr m) → (state : SessionState) → Fine state → fresh_outcome app (manner.visit m state).state.values (isolated_of (manner.visit m state).state) m ≡ a.read (read.Expr m)
  pub visits : (m : ℕ) → Low (read.Expr m) → (state : SessionState) → Fine state → Fine (manner.visit m state).state
  pub keeps : (s : ℕ) (o : Outcome) (state : SessionState) → Fine state → Fine (manner.keep s o state)

module _ (app : Shape) (manner : Manner) (a : Answers) (Low : Read → Type 0) (Fine : SessionState → Type 0) (serves : Serves app manner a Low Fine) where
  abbrev walks : List TraceEntry → SessionState → VisitResult
  walks asked state = walk_of_trace manner a.site asked state

  abbrev pub through : Evaluation → SessionState → TermResult
  through e state = record { state = (walks e.asked state).state; bodies = (walks e.asked state).bodies; outside = e.outside; outcome = e.outcome }

  step_fine : (x : TraceEntry) → OfRead Low x → (state : SessionState) → Fine state → Fine (walk_of_entry manner a.site x state).state
  step_fine (reads (read.Expr m)) q state f = serves.visits m q state f
  step_fine (reads (read.Input s)) q state f = f
  step_fine (reads (read.Value s)) q state f = f
  step_fine (reads (read.Status s)) q state f = f
  step_fine (reads (read.Result s)) q state f = f
  step_fine (reads (read.Width n)) q state f = f
  step_fine (reads (read.Height n)) q state f = f
  step_fine (given s) q state f = serves.keeps s (given_outcome (a.site s)) state f
  step_fine (enters s) q state f = f
  step_fine (leaves s o) q state f = serves.keeps s o state f

  pub walks_fine : (xs : List TraceEntry) → EveryRead Low xs → (state : SessionState) → Fine state → Fine (walks xs state).state
  walks_fine [] q state f = f
  walks_fine (x ∷ xs) q state f = walks_fine xs q.1 (walk_of_entry manner a.site x state).state (step_fine x q.0 state f)

  abbrev pub IsThrough : Reading → Evaluation → Type 0
  IsThrough reading e = (state : SessionState) → Fine state → reading state ≡ through e state

  pub joined : (e next : Evaluation) (state : SessionState) → joined_results (through e state) (through next (walks e.asked state).state) ≡ through (after e next) state
  joined e next state =
      let both : walks (e.asked ++ next.asked) state ≡ joined_visits (walks e.asked state) (walks next.asked (walks e.asked state).state) = walk_of_trace-append manner a.site e.asked next.asked state in
      reached_eq (ap (λ (w : VisitResult). w.state) (sym both)) (ap (λ (w : VisitResult). w.bodies) (sym both)) refl refl

  goes : (e : Evaluation) (x : Outcome) (next : Value → Reading) (next' : Value → Evaluation) → EveryRead Low e.asked → ((y : Value) → IsThrough (next y) (next' y)) → (state : SessionState) → Fine state
      → go_on_by (through e state) x next ≡ through (then_by e x next') state
  goes e (outcome.Val y) next next' q k state f =
      ap (joined_results (through e state)) (k y (walks e.asked state).state (walks_fine e.asked q state f)) ∙ joined e (next' y) state
  goes e (outcome.Fail t) next next' q k state f = refl
  goes e outcome.Stop next next' q k state f = refl
  goes e outcome.Cancel next next' q k state f = refl
  goes e outcome.Running next next' q k state f = refl

  pub both : (reading : Reading) (e : Evaluation) (next : Value → Reading) (next' : Value → Evaluation) → IsThrough reading e → EveryRead Low e.asked → ((y : Value) → IsThrough (next y) (next' y))
      → IsThrough (λ state. go_on (reading state) next) (then_with e next')
  both reading e next next' p q k state f = ap (λ r. go_on r next) (p state f) ∙ goes e e.outcome next next' q k state f

  plainly : (x : Outcome) → IsThrough (r.plain_reading x) (plain x)
  plainly x state f = refl

  ends : (reading : Reading) (e : Evaluation) (g : Value → Outcome) → IsThrough reading e → EveryRead Low e.asked → IsThrough (λ state. go_on (reading state) (λ x. r.plain_reading (g x))) (then_with e (λ x. plain (g x)))
  ends reading e g p q = both reading e (λ x. r.plain_reading (g x)) (λ x. plain (g x)) p q (λ x. plainly (g x))

  decided : (d : Bool) (reading : Reading) (m : Meaning) (args : List Value) → IsThrough reading (m a args) → EveryRead Low (m a args).asked → (x : Value) → IsThrough (decided_in d reading x) (decided_by d m a args x)
  decided true reading m args p q (v.Bool true) = plainly _
  decided true reading m args p q (v.Bool false) = ends reading (m a args) wanted_bool p q
  decided false reading m args p q (v.Bool false) = plainly _
  decided false reading m args p q (v.Bool true) = ends reading (m a args) wanted_bool p q
  decided true reading m args p q v.Null = plainly _
  decided true reading m args p q (v.Int z) = plainly _
  decided true reading m args p q (v.Text t) = plainly _
  decided true reading m args p q (v.Ints zs) = plainly _
  decided false reading m args p q v.Null = plainly _
  decided false reading m args p q (v.Int z) = plainly _
  decided false reading m args p q (v.Text t) = plainly _
  decided false reading m args p q (v.Ints zs) = plainly _

  operates : (op : Operator) (reading : Reading) (m : Meaning) (args : List Value) → IsThrough reading (m a args) → EveryRead Low (m a args).asked → (x : Value) → IsThrough (operated_in op reading x) (operated op m a args x)
  operates operator.Or reading m args p q x = decided true reading m args p q x
  operates operator.And reading m args p q x = decided false reading m args p q x
  operates (operator.Strict op) reading m args p q x = ends reading (m a args) (λ y. binary_result op x y) p q

  chooses : (one two : Reading) (m n : Meaning) (args : List Value) → IsThrough one (m a args) → IsThrough two (n a args) → (x : Value) → IsThrough (chosen_in one two x) (chosen_by m n a args x)
  chooses one two m n args p q (v.Bool true) = p
  chooses one two m n args p q (v.Bool false) = q
  chooses one two m n args p q v.Null = plainly _
  chooses one two m n args p q (v.Int z) = plainly _
  chooses one two m n args p q (v.Text t) = plainly _
  chooses one two m n args p q (v.Ints zs) = plainly _

  each : (step : Value → ℤ → Reading) (step' : Value → ℤ → Evaluation) → ((x : Value) (z : ℤ) → IsThrough (step x z) (step' x z)) → ((x : Value) (z : ℤ) → EveryRead Low (step' x z).asked) → (x : Value) (zs : List ℤ)
      → IsThrough (over_each_in step x zs) (over_each step' x zs)
  each step step' k q x [] = plainly _
  each step step' k q x (z ∷ zs) = both (step x z) (step' x z) (λ y. over_each_in step y zs) (λ y. over_each step' y zs) (k x z) (q x z) (λ y. each step step' k q y zs)

  each_of : (step : Value → ℤ → Reading) (step' : Value → ℤ → Evaluation) → ((x : Value) (z : ℤ) → IsThrough (step x z) (step' x z)) → ((x : Value) (z : ℤ) → EveryRead Low (step' x z).asked) → (x : Value) (o : Option (List ℤ))
      → IsThrough (over_list_in step x o) (over_list step' x o)
  each_of step step' k q x (Some zs) = each step step' k q x zs
  each_of step step' k q x None = plainly _

  pub reads_through : (r : Read) → Low r → IsThrough (read_in app manner r) (read_of a r)
  reads_through (read.Expr m) q state f =
      reached_eq refl (sym (add_zero (manner.visit m state).bodies)) refl (serves.gives m q state f)
  reads_through (read.Input s) q state f = reached_eq refl refl refl (serves.source (read.Input s) tt state f)
  reads_through (read.Value s) q state f = reached_eq refl refl refl (serves.source (read.Value s) tt state f)
  reads_through (read.Status s) q state f = reached_eq refl refl refl (serves.source (read.Status s) tt state f)
  reads_through (read.Result s) q state f = reached_eq refl refl refl (serves.source (read.Result s) tt state f)
  reads_through (read.Width n) q state f = reached_eq refl refl refl (serves.source (read.Width n) tt state f)
  reads_through (read.Height n) q state f = reached_eq refl refl refl (serves.source (read.Height n) tt state f)

  -- a site that is evaluated is kept behind what it asks
  pub site_through : (s : ℕ) (reading : Reading) (m : Meaning) (args : List Value) (x : Option Outcome) → x ≡ None → IsThrough reading (m a args) → IsThrough (λ state. kept_in manner s (reading state)) (at_site s m a args x)
  site_through s reading m args (Some y) q p state f = cc
  site_through s reading m args None q p state f =
      let e : Evaluation = m a args in
      let both : walks (e.asked ++ leaves s e.outcome ∷ []) state ≡ joined_visits (walks e.asked state) (walks (leaves s e.outcome ∷ []) (walks e.asked state).state) = walk_of_trace-append manner a.site e.asked (leaves s e.outcome ∷ []) state in
      ap (kept_in manner s) (p state f)
      ∙ reached_eq (ap (λ (w : VisitResult). w.state) (sym both)) (sym (add_zero (walks e.asked state).bodies) ∙ ap (λ (w : VisitResult). w.bodies) (sym both) ∙ zero_add (walks (e.asked ++ leaves s e.outcome ∷ []) state).bodies) refl refl

  -- between these numbers no site is answered
  module _ (low high : ℕ) (unanswered : (s : ℕ) → low ≤ s → s < high → a.site s ≡ None) where
    abbrev asked_of : (t : Tree) (n : ℕ) → IsNumbered n t → Every Low (reads_in t) → (args : List Value) → EveryRead Low (evaluate t a args).asked
    asked_of t n d q args = term_asks a Low t n (n + site_count t) d q (omega arith) args

    mutual
      pub term_through : (t : Tree) (n : ℕ) → IsNumbered n t → Every Low (reads_in t) → low ≤ n → n + site_count t ≤ high → (args : List Value) → IsThrough (read_term app manner t args) (evaluate t a args)
      term_through (constant x) n d q i j args = plainly _
      term_through (group t) n d q i j args = term_through t n d q i j args
      term_through (get r) n d q i j args = reads_through r q.0
      term_through (variable k) n d q i j args = plainly _
      term_through (isolate s t) n d q i j args =
          let here : s ≡ n = d.0 in
          site_through s (read_term app manner t args) (evaluate t) args (a.site s) (unanswered s (omega (here, i, arith)) (omega (here, j, arith))) (term_through t (suc n) d.1 q (omega (i, arith)) (omega (j, arith)) args)
      term_through (stop t) n d q i j args = ends (read_term app manner t args) (evaluate t a args) stop_outcome (term_through t n d q i j args) (asked_of t n d q args)
      term_through (require t cancels) n d q i j args = ends (read_term app manner t args) (evaluate t a args) (required cancels) (term_through t n d q i j args) (asked_of t n d q args)
      term_through (fold list start accumulator element body) n d q i j args =
          let m : ℕ = n + site_count list in
          let k : ℕ = n + site_count list + site_count start in
          let two : Every Low (reads_in list ++ reads_in start) = front Low (reads_in list ++ reads_in start) (reads_in body) q in
          let first : Every Low (reads_in list) = front Low (reads_in list) (reads_in start) two in
          let second : Every Low (reads_in start) = back Low (reads_in list) (reads_in start) two in
          let last : Every Low (reads_in body) = back Low (reads_in list ++ reads_in start) (reads_in body) q in
          let none : site_count body ≡ 0 = d.1.1 in
          both (read_term app manner list args) (evaluate list a args) _ _ (term_through list n d.0 first i (omega (j, arith)) args) (asked_of list n d.0 first args)
          (λ x. both (read_term app manner start args) (evaluate start a args) _ _ (term_through start m d.1.0 second (omega (i, arith)) (omega (j, arith)) args) (asked_of start m d.1.0 second args)
          (λ y. each_of (λ c z. read_term app manner body (args ++ c ∷ v.Int z ∷ [])) (λ c z. evaluate body a (args ++ c ∷ v.Int z ∷ []))
          (λ c z. term_through body k (bare_numbered body k none) last (omega (i, arith)) (omega (j, none, arith)) (args ++ c ∷ v.Int z ∷ []))
          (λ c z. asked_of body k (bare_numbered body k none) last (args ++ c ∷ v.Int z ∷ [])) y (number_list x)))
      term_through (unary op t) n d q i j args = ends (read_term app manner t args) (evaluate t a args) (λ x. unary_result op x) (term_through t n d q i j args) (asked_of t n d q args)
      term_through (binary op l t) n d q i j args =
          let m : ℕ = n + site_count l in
          let first : Every Low (reads_in l) = front Low (reads_in l) (reads_in t) q in
          let second : Every Low (reads_in t) = back Low (reads_in l) (reads_in t) q in
          both (read_term app manner l args) (evaluate l a args) (operated_in op (read_term app manner t args)) (operated op (evaluate t) a args) (term_through l n d.0 first i (omega (j, arith)) args) (asked_of l n d.0 first args)
          (λ x. operates op (read_term app manner t args) (evaluate t) args (term_through t m d.1 second (omega (i, arith)) (omega (j, arith)) args) (asked_of t m d.1 second args) x)
      term_through (choice condition c e) n d q i j args =
          let m : ℕ = n + site_count condition in
          let k : ℕ = n + site_count condition + site_count c in
          let two : Every Low (reads_in condition ++ reads_in c) = front Low (reads_in condition ++ reads_in c) (reads_in e) q in
          let first : Every Low (reads_in condition) = front Low (reads_in condition) (reads_in c) two in
          both (read_term app manner condition args) (evaluate condition a args) (chosen_in (read_term app manner c args) (read_term app manner e args)) (chosen_by (evaluate c) (evaluate e) a args)
          (term_through condition n d.0 first i (omega (j, arith)) args) (asked_of condition n d.0 first args)
          (λ x. chooses (read_term app manner c args) (read_term app manner e args) (evaluate c) (evaluate e) args
          (term_through c m d.1.0 (back Low (reads_in condition) (reads_in c) two) (omega (i, arith)) (omega (j, arith)) args)
          (term_through e k d.1.1 (back Low (reads_in condition ++ reads_in c) (reads_in e) q) (omega (i, arith)) (omega (j, arith)) args) x)
      term_through (call fun ts) n d q i j args = terms_through ts n d q i j args [] (λ xs. r.plain_reading (called fun xs)) (λ xs. plain (called fun xs)) (λ xs. plainly (called fun xs))

      pub terms_through : (ts : Trees) (n : ℕ) → AreNumbered n ts → Every Low (reads_in_all ts) → low ≤ n → n + site_count_all ts ≤ high → (args done : List Value) (next : List Value → Reading) (next' : List Value → Evaluation)
          → ((xs : List Value) → IsThrough (next xs) (next' xs)) → IsThrough (read_terms app manner ts args done next) (evaluate_all ts a args done next')
      terms_through no_trees n d q i j args done next next' k = k done
      terms_through (tree t more) n d q i j args done next next' k =
          let first : Every Low (reads_in t) = front Low (reads_in t) (reads_in_all more) q in
          both (read_term app manner t args) (evaluate t a args) (λ x. read_terms app manner more args (done ++ x ∷ []) next) (λ x. evaluate_all more a args (done ++ x ∷ []) next')
          (term_through t n d.0 first i (omega (j, arith)) args) (asked_of t n d.0 first args)
          (λ x. terms_through more (n + site_count t) d.1 (back Low (reads_in t) (reads_in_all more) q) (omega (i, arith)) (omega (j, arith)) args (done ++ x ∷ []) next next' k)

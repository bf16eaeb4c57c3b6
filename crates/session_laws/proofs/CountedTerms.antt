-- A body that is run behind its keys counts where all keys came to values.
use Rattle.std.proofs.Common.{◌≡◌, ◌≤◌, ◌<◌, ℕ, suc, ◌+◌, List, [], ◌∷◌, ◌++◌, Option, None, refl, sym, ap, ◌∙◌, arith}
use Rattle.rx_value.specs.declared.value.Value.{Value}
use Rattle.rx_value.specs.declared.outcome.Outcome.{Outcome}
use Rattle.rx_value.specs.declared.outcome.Outcome.TheVariants as outcome
use Rattle.app_tree.specs.declared.term.Read.{Read}
use Rattle.app_tree.specs.declared.term.Read.TheVariants as read
use Rattle.app_tree.specs.Tree.{Trees, no_trees, tree, Shape}
use Rattle.app_tree.specs.Evaluate.{Answers, TraceEntry, reads, given, enters, leaves, Evaluation, evaluate, site_count, site_count_all}
use Rattle.app_tree.specs.Cover.{reads_in, reads_in_all}
use Rattle.session_model.specs.State.{SessionState}
use Rattle.app_tree.specs.Trace.{Every}
use Rattle.session_model.specs.Reading.{TermResult, VisitResult, Manner, Reading, joined_results, go_on_by, go_on, read_term, read_terms}
use Rattle.session_model.specs.Run.{with_body_counted, keeping_manner, passing_manner, no_visit}
use Rattle.app_laws.specs.Orderly.{AreNumbered}
use Rattle.app_tree.specs.Keys.{KeysResult, after_key, keys_from}
use Rattle.session_model.specs.Bodies.{one_if_values}
use Rattle.session_laws.specs.Now.{walk_of_trace, joined_visits}
use Rattle.app_laws.proofs.Agreeing.{front, back}
use Rattle.app_laws.proofs.WhatIsAsked.{IsSiteIn, term_asks}
use Rattle.session_laws.proofs.Threading.{Serves, through, walks_fine, term_through, reached_eq}

abbrev pub plus : ℕ → TermResult → TermResult
plus c e = record e { bodies = e.bodies + c }

one_more : (a : ℕ) → suc a ≡ a + 1
one_more a = omega arith

none_more : (a : ℕ) → a ≡ a + 0
none_more a = omega arith

moved : (a b c : ℕ) → a + (b + c) ≡ (a + b) + c
moved a b c = omega arith

pub plus_one : (e : TermResult) → with_body_counted e ≡ plus 1 e
plus_one e = reached_eq refl (one_more e.bodies) refl refl

module _ (app : Shape) (manner : Manner) (a : Answers) (Low : Read → Type 0) (Fine : SessionState → Type 0) (serves : Serves app manner a Low Fine) (low high : ℕ) (unanswered : (s : ℕ) → low ≤ s → s < high → a.site s ≡ None) where
  abbrev T : Evaluation → SessionState → TermResult
  T = through app manner a Low Fine serves

  followed_plus : (c : ℕ) (e r : TermResult) → joined_results e (plus c r) ≡ plus c (joined_results e r)
  followed_plus c e r = reached_eq refl (moved e.bodies r.bodies c) refl refl

  by_first : (e : Evaluation) (x : Outcome) → e.outcome ≡ x → (g f : Value → Reading) (done : List Value) (more : List Value → KeysResult) (N : SessionState)
      → ((y : Value) → g y (walk_of_trace manner a.site e.asked N).state ≡ plus (one_if_values (more (done ++ y ∷ []))) (f y (walk_of_trace manner a.site e.asked N).state))
      → go_on_by (T e N) x g ≡ plus (one_if_values (after_key done x more)) (go_on_by (T e N) x f)
  by_first e (outcome.Val y) q g f done more N k = ap (joined_results (T e N)) (k y) ∙ followed_plus (one_if_values (more (done ++ y ∷ []))) (T e N) (f y (walk_of_trace manner a.site e.asked N).state)
  by_first e (outcome.Fail t) q g f done more N k = reached_eq refl (none_more (T e N).bodies) refl refl
  by_first e outcome.Stop q g f done more N k = reached_eq refl (none_more (T e N).bodies) refl refl
  by_first e outcome.Cancel q g f done more N k = reached_eq refl (none_more (T e N).bodies) refl refl
  by_first e outcome.Running q g f done more N k = reached_eq refl (none_more (T e N).bodies) refl refl

  pub counted_terms : (ts : Trees) (n : ℕ) → AreNumbered n ts → Every Low (reads_in_all ts) → low ≤ n → n + site_count_all ts ≤ high → (done : List Value) (f : List Value → Reading) (N : SessionState) → Fine N
      → read_terms app manner ts [] done (λ xs s. with_body_counted (f xs s)) N ≡ plus (one_if_values (keys_from ts a done)) (read_terms app manner ts [] done f N)
  counted_terms no_trees n d q i j done f N fine = plus_one (f done N)
  counted_terms (tree t more) n d q i j done f N fine =
      let e : Evaluation = evaluate t a [] in
      let first : Every Low (reads_in t) = front Low (reads_in t) (reads_in_all more) q in
      let one : read_term app manner t [] N ≡ T e N = term_through app manner a Low Fine serves low high unanswered t n d.0 first i (omega (j, arith)) [] N fine in
      let rest_fine : Fine (walk_of_trace manner a.site e.asked N).state = walks_fine app manner a Low Fine serves e.asked (term_asks a Low t n (n + site_count t) d.0 first (omega arith) []) N fine in
      ap (λ r. go_on r (λ x. read_terms app manner more [] (done ++ x ∷ []) (λ xs s. with_body_counted (f xs s)))) one
      ∙ by_first e e.outcome refl (λ x. read_terms app manner more [] (done ++ x ∷ []) (λ xs s. with_body_counted (f xs s))) (λ x. read_terms app manner more [] (done ++ x ∷ []) f) done (keys_from more a) N
      (λ x. counted_terms more (n + site_count t) d.1 (back Low (reads_in t) (reads_in_all more) q) (omega (i, arith)) (omega (j, arith)) (done ++ x ∷ []) f (walk_of_trace manner a.site e.asked N).state rest_fine)
      ∙ sym (ap (λ r. plus (one_if_values (keys_from (tree t more) a done)) (go_on r (λ x. read_terms app manner more [] (done ++ x ∷ []) f))) one)

-- where no site is met nothing is kept
pub walked_bare : (visit : ℕ → SessionState → VisitResult) (n l : ℕ) (site : ℕ → Option Outcome) (xs : List TraceEntry) → Every (IsSiteIn l l) xs → (N : SessionState) → walk_of_trace (passing_manner visit) site xs N ≡ walk_of_trace (keeping_manner visit n) site xs N
walked_bare visit n l site [] h N = refl
walked_bare visit n l site (reads (read.Expr m) ∷ xs) h N = ap (joined_visits (visit m N)) (walked_bare visit n l site xs h.1 (visit m N).state)
walked_bare visit n l site (reads (read.Input s) ∷ xs) h N = ap (joined_visits (no_visit N)) (walked_bare visit n l site xs h.1 N)
walked_bare visit n l site (reads (read.Value s) ∷ xs) h N = ap (joined_visits (no_visit N)) (walked_bare visit n l site xs h.1 N)
walked_bare visit n l site (reads (read.Status s) ∷ xs) h N = ap (joined_visits (no_visit N)) (walked_bare visit n l site xs h.1 N)
walked_bare visit n l site (reads (read.Result s) ∷ xs) h N = ap (joined_visits (no_visit N)) (walked_bare visit n l site xs h.1 N)
walked_bare visit n l site (reads (read.Width m) ∷ xs) h N = ap (joined_visits (no_visit N)) (walked_bare visit n l site xs h.1 N)
walked_bare visit n l site (reads (read.Height m) ∷ xs) h N = ap (joined_visits (no_visit N)) (walked_bare visit n l site xs h.1 N)
walked_bare visit n l site (given s ∷ xs) h N = let below = h.0.0 in let above = h.0.1 in absurd (omega (below, above, arith))
walked_bare visit n l site (enters s ∷ xs) h N = let below = h.0.0 in let above = h.0.1 in absurd (omega (below, above, arith))
walked_bare visit n l site (leaves s x ∷ xs) h N = let below = h.0.0 in let above = h.0.1 in absurd (omega (below, above, arith))

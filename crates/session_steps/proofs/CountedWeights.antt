-- Whose body counts: what is missing is a sum over the readers, and what a run counts is the same in the session and the state.
use Rattle.std.proofs.Common.{◌≡◌, ◌≤◌, ℕ, zero, suc, ◌+◌, Bool, true, false, List, Option, Some, None, refl, sym, ap, ◌∙◌, subst, arith}
use Rattle.std.specs.Prelude.{⊤, not, ◌&&◌, ◌||◌, if◌then◌else◌}
use Rattle.rx_value.specs.declared.outcome.Outcome.{Outcome}
use Rattle.app_tree.specs.Tree.{Node, input, value, task, reactive, event, text, plot, observe, on, Shape}
use Rattle.app_tree.specs.Numbering.{reader, is_expression, is_output, is_evaluated}
use Rattle.app_tree.specs.Evaluate.{Answers, TraceEntry, reads, given, enters, leaves, Evaluation}
use Rattle.app_tree.specs.Fresh.{answer_to, evaluate_node, ignored_site, first_sites}
use Rattle.app_tree.specs.Trace.{Every, OfRead, EveryRead}
use Rattle.app_tree.specs.Wanted.{completed}
use Rattle.app_laws.specs.AskedLaws.{IsAnsweredAlike}
use Rattle.app_laws.specs.Orderly.{ReadsBelow, bound_of, IsOrderly}
use Rattle.app_laws.proofs.Asking.{IsOfParts, node_sites, node_has}
use Rattle.app_laws.proofs.FirstRun.{none_ignored}
use Rattle.app_laws.proofs.WhatIsAsked.{both_of, every_all, every_zip, reads_zip, IsAnyRead, any_reads}
use Rattle.app_laws.specs.Orderly.{reads_in_node}
use Rattle.session_model.specs.declared.state.ReaderState.{ReaderState}
use Rattle.session_model.specs.State.{SessionState, reader_state, has_run, is_alive}
use Rattle.session_model.specs.Bodies.{bodies_counted}
use Rattle.session_model.specs.Standing.{IsAliveRead, KeptSession, is_bare, StandsForState, fresh_answers, missing_below}
use Rattle.session_laws.specs.Now.{open_site, known_now, open_answers}
use Rattle.session_laws.proofs.Freshness.{fresh_read, expression_fresh}
use Rattle.session_laws.proofs.Staying.{Same, asked_low}
use Rattle.session_steps.specs.Keeping.{lives, answering, attempt, wanted, open_site_of}
use Rattle.session_steps.proofs.Wanting.{live_all}
use Rattle.session_steps.proofs.Living.{sound, left_bare}
use Rattle.session_steps.proofs.KeyedBodies.{live_alike}
use Rattle.session_steps.proofs.Ran.{no_sites}
use Rattle.session_steps.proofs.CountedTotals.{total, only}
use Rattle.session_steps.proofs.CountedKeys.{count_same}

-- ---- what an expression without a site asks

abbrev pub IsRead : TraceEntry → Type 0
IsRead (reads r) = ⊤
IsRead _ = ⊥

-- where no number is left for a site
abbrev NoSite : ℕ → ℕ → Evaluation → Type 0
NoSite l h e = h ≤ l → Every IsRead e.asked

no_site : (a : Answers) → IsOfParts a IsAnyRead NoSite
no_site a = record {
  nothing = λ l h x i w. tt;
  reading = λ l h r i q w. (tt, tt);
  joined = λ l m h e next i j p k w. both_of IsRead e.asked next.asked (p (omega (i, j, w, arith))) (k (omega (i, j, w, arith)));
  wider = λ l h k i e x y p w. p (omega (x, y, w, arith));
  answered = λ n h x i q w. absurd (omega (i, w, arith));
  entered = λ n h e i q p w. absurd (omega (i, w, arith));
}

-- a bare reader is an expression
pub bare_is : (o : Option Node) → is_bare o ≡ true → (i : Node) × (o ≡ Some i) × (is_expression i ≡ true)
bare_is None h = cc
bare_is (Some (input name start)) h = cc
bare_is (Some (value name start)) h = cc
bare_is (Some (task name parameters body)) h = cc
bare_is (Some (reactive name keys body)) h = (reactive name keys body, refl, refl)
bare_is (Some (event name flags e body)) h = cc
bare_is (Some (text name shown)) h = cc
bare_is (Some (plot name shown)) h = cc
bare_is (Some (observe name priority block)) h = cc
bare_is (Some (on name priority flags e block)) h = cc

pub alike_reads : (a b : Answers) (x : TraceEntry) → OfRead (λ r. a.read r ≡ b.read r) x → IsRead x → IsAnsweredAlike a b x
alike_reads a b (reads r) p q = p
alike_reads a b (given s) p q = absurd q
alike_reads a b (enters s) p q = absurd q
alike_reads a b (leaves s x) p q = absurd q

open_where : (b : Bool) (x : Option Outcome) → x ≡ None → (if b then None else x) ≡ None
open_where true x h = refl
open_where false x h = h

entry_by : (b c : Bool) (x y : ℕ) → (b ≡ true → c ≡ false → x ≡ y) → (if b && not c then x else 0) ≡ only b c y
entry_by true true x y h = refl
entry_by true false x y h = h refl refl
entry_by false c x y h = refl

module _ (app : Shape) where
  -- what is asked now, and each site evaluated
  abbrev pub plainly : SessionState → Answers
  plainly M = record { read = answer_to app M.values (known_now app M); site = λ s. None }

  -- how many bodies a run of reader j counts now
  abbrev pub weight : SessionState → ℕ → ℕ
  weight M j = bodies_counted (reader app j) (record { read = answer_to app M.values (known_now app M); site = λ s. None })

  pub same_weight : (M N : SessionState) → Same app M N → (j : ℕ) → weight N j ≡ weight M j
  same_weight M N p j = (λ z. bodies_counted (reader app j) (record { read = answer_to app (p.values z) (p.known z); site = λ s. None }))

  -- alive in state N and not in the session, where state M says what counts
  abbrev pub lacks : SessionState → SessionState → KeptSession → ℕ → ℕ
  lacks M N S j = only (is_alive (reader_state N j)) (lives S j) (weight M j)

  -- an open site is evaluated, unless the body of an event is
  opens : (n : ℕ) (r : ReaderState) → ignored_site (reader app n) ≡ None → (s : ℕ) → None ≡ open_site app n r s
  opens n r h s = sym (open_where (has_run r) (first_sites app n s) (none_ignored app n h s))

  open_alike : (M : SessionState) (n : ℕ) → ignored_site (reader app n) ≡ None → (x : TraceEntry) → IsAnsweredAlike (plainly M) (open_answers app M n) x
  open_alike M n h (reads r) = refl
  open_alike M n h (given s) = opens n (reader_state M n) h s
  open_alike M n h (enters s) = opens n (reader_state M n) h s
  open_alike M n h (leaves s o) = tt

  pub open_weight : (M : SessionState) (n : ℕ) → bodies_counted (reader app n) (open_answers app M n) ≡ weight M n
  open_weight M n = count_same (plainly M) (open_answers app M n) (reader app n)
      (λ h. every_all (IsAnsweredAlike (plainly M) (open_answers app M n)) (open_alike M n h) (evaluate_node (reader app n) (plainly M)).asked)

  module _ (orderly : IsOrderly app) where
    pub bare_reads : (n : ℕ) → is_bare (reader app n) ≡ true → (a : Answers) → Every IsRead (evaluate_node (reader app n) a).asked
    bare_reads n bare a =
        let e = bare_is (reader app n) bare in
        let none : node_sites e.0 ≡ 0 = no_sites e.0 (subst (λ o. is_bare o ≡ true) e.1 bare) in
        subst (λ o. Every IsRead (evaluate_node o a).asked) (sym e.1)
        (node_has a IsAnyRead NoSite (no_site a) (λ l h x p. p) (λ l h x p. p) e.0 0 (orderly.sites n e.0 e.1) (any_reads (reads_in_node e.0)) (omega (none, arith)) (omega arith))

    module _ (S : KeptSession) (M : SessionState) (stands : StandsForState app S M) where
      -- what the session counts where nothing is wanted
      module _ (n : ℕ) (i : Node) (is : reader app n ≡ Some i) (none : wanted app S n ≡ None) where
        pub run_weight : bodies_counted (reader app n) (completed (answering app S n)) ≡ weight M n
        run_weight = sym (count_same (completed (answering app S n)) (open_answers app M n) (reader app n)
            (λ h. live_alike app orderly S M stands n (bound_of app n i) (attempt app S n).asked (asked_low app orderly n i is (completed (answering app S n))) (live_all app S (open_site_of app S n) (attempt app S n).asked none))) ∙ open_weight M n

      -- ---- what is missing
      missing_weight : (j : ℕ) → is_alive (reader_state M j) ≡ true → is_bare (reader app j) ≡ true → bodies_counted (reader app j) (fresh_answers app M j) ≡ weight M j
      missing_weight j alive bare =
          let e = bare_is (reader app j) bare in
          let f : Answers = fresh_answers app M j in
          let p : Answers = plainly M in
          let k : ℕ = bound_of app j e.0 in
          let asked : List TraceEntry = (evaluate_node (reader app j) f).asked in
          let evaluated : is_evaluated e.0 ≡ true = ap (λ b. b || is_output e.0) e.2 in
          let same : EveryRead (λ r. f.read r ≡ p.read r) asked =
          reads_zip (ReadsBelow app k) (IsAliveRead M) (λ r. f.read r ≡ p.read r) (λ r l x. sym (fresh_read app orderly M k (λ m b g y. expression_fresh app orderly M (sound app orderly S M stands) m g y) r l x)) asked
          (asked_low app orderly j e.0 e.1 f) (stands.consistent.closed j e.0 e.1 evaluated alive) in
          sym (count_same f p (reader app j) (λ h. every_zip (OfRead (λ r. f.read r ≡ p.read r)) IsRead (IsAnsweredAlike f p) (alike_reads f p) asked same (bare_reads j bare f)))

      pub missing_is : (k : ℕ) → missing_below app S M k ≡ total (lacks M M S) k
      missing_is zero = refl
      missing_is (suc k) = (λ z. missing_is k z
          + entry_by (is_alive (reader_state M k)) (lives S k) (bodies_counted (reader app k) (fresh_answers app M k)) (weight M k)
          (λ h d. missing_weight k h (left_bare app orderly S M stands k d h)) z)

-- In a sound state what an alive reader gives now is what it comes to afresh.
use Rattle.std.proofs.Common.{◌≡◌, ◌<◌, ℕ, zero, suc, true, List, [], length, Option, Some, None, refl, sym, ap, ◌∙◌, subst, arith}
use Rattle.std.specs.Prelude.{◌||◌}
use Rattle.app_tree.specs.declared.term.Read.{Read}
use Rattle.app_tree.specs.declared.term.Read.TheVariants as read
use Rattle.app_tree.specs.Tree.{Node, Shape}
use Rattle.app_tree.specs.Numbering.{readers, reader, is_expression, is_output, is_evaluated}
use Rattle.app_tree.specs.Evaluate.{Answers, Evaluation}
use Rattle.app_tree.specs.Fresh.{Known, known_at, answer_to, sources_of_read, sources_of_reads, evaluate_node, is_expression_at, known_expressions, kept_sites, fresh_evaluation, fresh_outcome, sources_read}
use Rattle.session_model.specs.State.{SessionState, isolated_of, reader_state, is_alive}
use Rattle.app_tree.specs.Trace.{Every, EveryRead}
use Rattle.app_laws.specs.Orderly.{ReadsBelow, bound_of, IsOrderly}
use Rattle.session_laws.specs.Now.{sites_now, known_now, evaluation_now}
use Rattle.session_model.specs.Standing.{IsAliveRead}
use Rattle.session_laws.specs.Sound.{IsSoundAt, IsSound}
use Rattle.app_laws.proofs.WhatIsAsked.{reads_zip, node_covers, if_true}
use Rattle.app_laws.proofs.KnownLists.{evaluation_alike, sources_alike, known_fixed}
use Rattle.session_laws.proofs.States.{kept_is}
use Rattle.session_laws.proofs.Staying.{alive_now, asked_low}

module _ (app : Shape) (orderly : IsOrderly app) where
  -- what is read outside of sites is among what is asked, also of a reader given by its number
  pub outside_of : (n : ℕ) (i : Node) → reader app n ≡ Some i → (a : Answers) (P : Read → Type 0) → EveryRead P (evaluate_node (reader app n) a).asked → Every P (evaluate_node (reader app n) a).outside
  outside_of n i is a P =
      subst (λ (x : Option Node). EveryRead P (evaluate_node x a).asked → Every P (evaluate_node x a).outside) (sym is) (node_covers a P i (orderly.sites n i is))

  module _ (M : SessionState) where
    abbrev pub fresh_known : List Known
    fresh_known = known_expressions app M.values (kept_sites (isolated_of M))

    abbrev pub IsFreshAt : ℕ → Type 0
    IsFreshAt m = known_at fresh_known m ≡ known_at (known_now app M) m

    -- a read that is answered now as it is afresh
    abbrev pub IsFreshRead : Read → Type 0
    IsFreshRead r = answer_to app M.values (known_now app M) r ≡ answer_to app M.values fresh_known r

    abbrev ReachesFresh : Read → Type 0
    ReachesFresh r = sources_of_read app (known_now app M) r ≡ sources_of_read app fresh_known r

    module _ (bound : ℕ) (below : (m : ℕ) → m < bound → is_expression_at (reader app m) ≡ true → is_alive (reader_state M m) ≡ true → IsFreshAt m) where
      pub fresh_read : (r : Read) → ReadsBelow app bound r → IsAliveRead M r → IsFreshRead r
      fresh_read (read.Expr m) h a = ap (λ (k : Known). k.outcome) (sym (below m h.0 h.1 a))
      fresh_read (read.Input s) h a = refl
      fresh_read (read.Value s) h a = refl
      fresh_read (read.Status s) h a = refl
      fresh_read (read.Result s) h a = refl
      fresh_read (read.Width n) h a = refl
      fresh_read (read.Height n) h a = refl

      pub fresh_reach : (r : Read) → ReadsBelow app bound r → IsAliveRead M r → ReachesFresh r
      fresh_reach (read.Expr m) h a = ap (λ (k : Known). k.sources) (sym (below m h.0 h.1 a))
      fresh_reach (read.Input s) h a = refl
      fresh_reach (read.Value s) h a = refl
      fresh_reach (read.Status s) h a = refl
      fresh_reach (read.Result s) h a = refl
      fresh_reach (read.Width n) h a = refl
      fresh_reach (read.Height n) h a = refl

    -- reader n is alive, and so is what it asks
    module _ (n : ℕ) (i : Node) (is : reader app n ≡ Some i) (alive : is_alive (reader_state M n) ≡ true) (closed : EveryRead (IsAliveRead M) (evaluation_now app M n).asked)
        (below : (m : ℕ) → m < bound_of app n i → is_expression_at (reader app m) ≡ true → is_alive (reader_state M m) ≡ true → IsFreshAt m) where
      abbrev now_answers : Answers
      now_answers = record { read = answer_to app M.values (known_now app M); site = sites_now app M n }

      abbrev fresh_answers : Answers
      fresh_answers = record { read = answer_to app M.values fresh_known; site = kept_sites (isolated_of M) n }

      low : EveryRead (ReadsBelow app (bound_of app n i)) (evaluation_now app M n).asked
      low = asked_low app orderly n i is now_answers

      pub fresh_evaluated : fresh_evaluation app M.values (isolated_of M) n ≡ evaluation_now app M n
      fresh_evaluated = evaluation_alike now_answers fresh_answers (reader app n) (λ s. ap (λ f. f s) (alive_now app n (reader_state M n) alive) ∙ sym (kept_is M n s))
          (reads_zip (ReadsBelow app (bound_of app n i)) (IsAliveRead M) IsFreshRead (fresh_read (bound_of app n i) below) (evaluation_now app M n).asked low closed)

      reached : Every ReachesFresh (evaluation_now app M n).outside
      reached = outside_of n i is now_answers ReachesFresh (reads_zip (ReadsBelow app (bound_of app n i)) (IsAliveRead M) ReachesFresh (fresh_reach (bound_of app n i) below) (evaluation_now app M n).asked low closed)

      pub fresh_sources : sources_of_reads app fresh_known [] (fresh_evaluation app M.values (isolated_of M) n).outside ≡ sources_of_reads app (known_now app M) [] (evaluation_now app M n).outside
      fresh_sources = ap (λ (e : Evaluation). sources_of_reads app fresh_known [] e.outside) fresh_evaluated ∙ sym (sources_alike app (known_now app M) fresh_known (evaluation_now app M n).outside reached [])

    module _ (sound : IsSound app M) where
      expression_below : (k m : ℕ) → m < k → (o : Option Node) → reader app m ≡ o → is_expression_at o ≡ true → is_alive (reader_state M m) ≡ true → IsFreshAt m
      expression_below zero m h o is e alive = absurd (omega (h, arith))
      expression_below (suc k) m h None is e alive = cc
      expression_below (suc k) m h (Some i) is e alive =
          let own : bound_of app m i ≡ m = if_true (is_expression i) m (length (readers app)) e in
          let at : IsSoundAt app M m = sound.at m i is (ap (λ b. b || is_output i) e) alive in
          let below : (j : ℕ) → j < bound_of app m i → is_expression_at (reader app j) ≡ true → is_alive (reader_state M j) ≡ true → IsFreshAt j =
          λ j w x a. expression_below k j (omega (h, w, own, arith)) (reader app j) refl x a in
          known_fixed app M.values (kept_sites (isolated_of M)) orderly m i is e
          ∙ (λ z. record { outcome = (fresh_evaluated m i is alive at.closed below z).outcome; sources = fresh_sources m i is alive at.closed below z })
          ∙ sym (known_fixed app M.values (sites_now app M) orderly m i is e)

      pub expression_fresh : (m : ℕ) → is_expression_at (reader app m) ≡ true → is_alive (reader_state M m) ≡ true → IsFreshAt m
      expression_fresh m e alive = expression_below (suc m) m (omega arith) (reader app m) refl e alive

      pub reader_fresh : (n : ℕ) (i : Node) → reader app n ≡ Some i → is_evaluated i ≡ true → is_alive (reader_state M n) ≡ true → fresh_evaluation app M.values (isolated_of M) n ≡ evaluation_now app M n
      reader_fresh n i is e alive = fresh_evaluated n i is alive (sound.at n i is e alive).closed (λ m h x a. expression_fresh m x a)

      pub reader_fresh_sources : (n : ℕ) (i : Node) → reader app n ≡ Some i → is_evaluated i ≡ true → is_alive (reader_state M n) ≡ true
          → sources_read app M.values (isolated_of M) n ≡ sources_of_reads app (known_now app M) [] (evaluation_now app M n).outside
      reader_fresh_sources n i is e alive = fresh_sources n i is alive (sound.at n i is e alive).closed (λ m h x a. expression_fresh m x a)

      -- what is known now of an expression is what it gives now
      pub expression_now : (m : ℕ) (i : Node) → reader app m ≡ Some i → is_expression i ≡ true → is_alive (reader_state M m) ≡ true → fresh_outcome app M.values (isolated_of M) m ≡ (known_at (known_now app M) m).outcome
      expression_now m i is e alive =
          ap (λ (x : Evaluation). x.outcome) (reader_fresh m i is (ap (λ b. b || is_output i) e) alive)
          ∙ ap (λ (k : Known). k.outcome) (sym (known_fixed app M.values (sites_now app M) orderly m i is e))

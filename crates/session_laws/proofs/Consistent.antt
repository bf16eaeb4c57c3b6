-- A consistent state is sound: what an alive reader comes to afresh is what it gives now.
use Rattle.std.proofs.Common.{◌≡◌, ◌<◌, ℕ, zero, suc, true, length, Option, Some, None, refl, sym, ap, ◌∙◌, subst, arith}
use Rattle.std.specs.Prelude.{◌||◌}
use Rattle.app_tree.specs.Tree.{Node, Shape}
use Rattle.app_tree.specs.Numbering.{readers, reader, is_expression, is_output}
use Rattle.app_tree.specs.Evaluate.{Answers, Evaluation}
use Rattle.app_tree.specs.Trace.{EveryRead}
use Rattle.app_tree.specs.Fresh.{is_among, answer_to, is_expression_at, kept_sites, fresh_evaluation}
use Rattle.session_model.specs.State.{SessionState, isolated_of, reader_state, is_alive}
use Rattle.session_model.specs.Standing.{IsAliveRead, IsConsistent}
use Rattle.app_laws.specs.Orderly.{ReadsBelow, bound_of, IsOrderly}
use Rattle.app_laws.proofs.WhatIsAsked.{reads_zip, if_true}
use Rattle.app_laws.proofs.KnownLists.{evaluation_alike, known_fixed}
use Rattle.session_laws.specs.Now.{sites_now, known_now, evaluation_now}
use Rattle.session_laws.specs.Sound.{IsSound}
use Rattle.session_laws.proofs.States.{kept_is}
use Rattle.session_laws.proofs.Staying.{alive_now, asked_low}
use Rattle.session_laws.proofs.Freshness.{fresh_known, IsFreshAt, fresh_read, fresh_evaluated, fresh_sources, reader_fresh, reader_fresh_sources}

module _ (app : Shape) (orderly : IsOrderly app) (M : SessionState) where
  -- reader n is alive, and so is what it asks afresh
  module _ (n : ℕ) (i : Node) (is : reader app n ≡ Some i) (alive : is_alive (reader_state M n) ≡ true) (closed : EveryRead (IsAliveRead M) (fresh_evaluation app M.values (isolated_of M) n).asked)
      (below : (m : ℕ) → m < bound_of app n i → is_expression_at (reader app m) ≡ true → is_alive (reader_state M m) ≡ true → IsFreshAt app orderly M m) where
    abbrev afresh : Answers
    afresh = record { read = answer_to app M.values (fresh_known app orderly M); site = kept_sites (isolated_of M) n }

    abbrev now : Answers
    now = record { read = answer_to app M.values (known_now app M); site = sites_now app M n }

    low : EveryRead (ReadsBelow app (bound_of app n i)) (fresh_evaluation app M.values (isolated_of M) n).asked
    low = asked_low app orderly n i is afresh

    now_evaluated : evaluation_now app M n ≡ fresh_evaluation app M.values (isolated_of M) n
    now_evaluated = evaluation_alike afresh now (reader app n) (λ s. kept_is M n s ∙ sym (ap (λ f. f s) (alive_now app n (reader_state M n) alive)))
        (reads_zip (ReadsBelow app (bound_of app n i)) (IsAliveRead M) (λ r. afresh.read r ≡ now.read r) (λ r h a. sym (fresh_read app orderly M (bound_of app n i) below r h a))
        (fresh_evaluation app M.values (isolated_of M) n).asked low closed)

    pub closed_now : EveryRead (IsAliveRead M) (evaluation_now app M n).asked
    closed_now = subst (λ (e : Evaluation). EveryRead (IsAliveRead M) e.asked) (sym now_evaluated) closed

  module _ (consistent : IsConsistent app M) where
    expression_below : (k m : ℕ) → m < k → (o : Option Node) → reader app m ≡ o → is_expression_at o ≡ true → is_alive (reader_state M m) ≡ true → IsFreshAt app orderly M m
    expression_below zero m h o is e alive = absurd (omega (h, arith))
    expression_below (suc k) m h None is e alive = cc
    expression_below (suc k) m h (Some i) is e alive =
        let own : bound_of app m i ≡ m = if_true (is_expression i) m (length (readers app)) e in
        let below : (j : ℕ) → j < bound_of app m i → is_expression_at (reader app j) ≡ true → is_alive (reader_state M j) ≡ true → IsFreshAt app orderly M j =
        λ j w x a. expression_below k j (omega (h, w, own, arith)) (reader app j) refl x a in
        let closed : EveryRead (IsAliveRead M) (evaluation_now app M m).asked = closed_now m i is alive (consistent.closed m i is (ap (λ b. b || is_output i) e) alive) below in
        known_fixed app M.values (kept_sites (isolated_of M)) orderly m i is e
        ∙ (λ z. record { outcome = (fresh_evaluated app orderly M m i is alive closed below z).outcome; sources = fresh_sources app orderly M m i is alive closed below z })
        ∙ sym (known_fixed app M.values (sites_now app M) orderly m i is e)

    all_fresh : (m : ℕ) → is_expression_at (reader app m) ≡ true → is_alive (reader_state M m) ≡ true → IsFreshAt app orderly M m
    all_fresh m e alive = expression_below (suc m) m (omega arith) (reader app m) refl e alive

    pub consistent_sound : IsSound app M
    consistent_sound = record {
      size = consistent.size;
      at = λ n i is e alive.
          let closed : EveryRead (IsAliveRead M) (evaluation_now app M n).asked = closed_now n i is alive (consistent.closed n i is e alive) (λ m h x a. all_fresh m x a) in
          record {
            sources = λ s. consistent.sources n i is e alive s ∙ ap (is_among s) (fresh_sources app orderly M n i is alive closed (λ m h x a. all_fresh m x a));
            closed = closed;
          };
    }

  -- and a sound one is consistent
  pub sound_consistent : IsSound app M → IsConsistent app M
  sound_consistent sound = record {
    size = sound.size;
    sources = λ n i is e a s. (sound.at n i is e a).sources s ∙ ap (is_among s) (sym (reader_fresh_sources app orderly M sound n i is e a));
    closed = λ n i is e a. subst (λ (x : Evaluation). EveryRead (IsAliveRead M) x.asked) (sym (reader_fresh app orderly M sound n i is e a)) (sound.at n i is e a).closed;
  }

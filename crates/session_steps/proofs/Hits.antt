-- A hit leaves out what the body would have run, and all of that is without a site.
use Rattle.std.proofs.Common.{◌≡◌, ◌≢◌, inl, inr, ◌⊎◌, ◌≤◌, ℕ, true, false, List, [], ◌++◌, length, Some, None, Ok, refl, sym, ap, ◌∙◌, subst, arith, append-nil}
use Rattle.rx_value.specs.declared.value.Value.{Value}
use Rattle.app_tree.specs.declared.term.Read.{Read}
use Rattle.app_tree.specs.declared.term.Read.TheVariants as read
use Rattle.app_tree.specs.Tree.{Node, Shape}
use Rattle.app_tree.specs.Numbering.{readers, reader, is_expression, is_output}
use Rattle.app_tree.specs.Evaluate.{Answers, Evaluation, after, evaluate}
use Rattle.app_tree.specs.Trace.{Every, OfRead, EveryRead}
use Rattle.app_tree.specs.Fresh.{without_reads, sources_of_reads, evaluate_node, fresh_outcome}
use Rattle.app_tree.specs.Keys.{keys_result, keys_evaluation}
use Rattle.app_tree.specs.Cover.{reads_in, is_covered_by, covered_below, Cached, cached_node, is_covered, keyed_outcome}
use Rattle.app_tree.specs.Wanted.{completed, first_wanted}
use Rattle.app_tree.specs.WellFormed.{IsWellFormed}
use Rattle.session_model.specs.State.{SessionState, isolated_of, reader_state, is_alive}
use Rattle.session_model.specs.Run.{visit_expression, run_reader}
use Rattle.session_model.specs.Standing.{HasSameMembers, KeptSession, is_bare, IsAliveRead, StandsForState}
use Rattle.app_laws.specs.AskedLaws.{IsAnsweredAlike}
use Rattle.app_laws.specs.Orderly.{ReadsBelow, bound_of, IsOrderly, reads_in_node}
use Rattle.app_laws.specs.Recorded.{recorded}
use Rattle.app_laws.proofs.Agreeing.{front}
use Rattle.app_laws.proofs.Asking.{bare_numbered}
use Rattle.app_laws.proofs.Covering.{IsCoveredBody, covered_by}
use Rattle.app_laws.proofs.CoveredReads.{KeyReads, key_has}
use Rattle.app_laws.proofs.WhatIsAsked.{both_of, every_map, reads_map, reads_zip, term_asks, node_asks, recorded-append}
use Rattle.session_laws.specs.Now.{open_sites, known_now, trace, open_answers}
use Rattle.session_laws.specs.VisitLaws.{IsReadOf, IsClosed}
use Rattle.session_laws.proofs.Moving.{not_both}
use Rattle.session_laws.proofs.Staying.{asked_low}
use Rattle.session_steps.specs.Keeping.{kept_known, lives, open_site_of, answering, keys_attempt, keys_attempted, shown_outcome, hit_kept}
use Rattle.session_steps.specs.StandLaws.{StandsWith}
use Rattle.session_steps.proofs.Covered.{IsCovered, covered_reads, IsCoveredNode, covered_low, covered_at, covered_up}
use Rattle.session_steps.proofs.Ends.{after_stands, expression_in, output_in}
use Rattle.session_steps.proofs.KeyedBodies.{keyed_now, live_alike}
use Rattle.session_steps.proofs.Keys.{keys_same, keys_agree, keys_read, keys_cover, bare_records, shown_evaluation, IsCachedNode, cached_is, node_split}
use Rattle.session_steps.proofs.Living.{sites_as, read_alive, ReachesAlike, live_sources}
use Rattle.session_steps.proofs.Members.{reads_same}
use Rattle.session_steps.proofs.Ran.{IsRunIn}
use Rattle.session_steps.proofs.Wanting.{IsLiveRead, live_all}

module _ (app : Shape) (well : IsWellFormed app) (orderly : IsOrderly app) (covered : (n : ℕ) → is_covered app n ≡ true) (S : KeptSession) (M : SessionState) (stands : StandsForState app S M)
    (n : ℕ) (i : Node) (is : reader app n ≡ Some i) (c : Cached) (cached : cached_node (reader app n) ≡ Some c)
    (none : first_wanted (answering app S n) (keys_attempt app S n c).asked ≡ None) (xs : List Value) (values : keys_attempted app S n c ≡ Ok xs) where
  abbrev k : ℕ
  k = bound_of app n i

  abbrev R : ℕ
  R = length (readers app)

  abbrev b : Answers
  b = completed (answering app S n)

  abbrev a : Answers
  a = open_answers app M n

  abbrev KS : Evaluation
  KS = keys_evaluation c.keys (completed (answering app S n))

  abbrev KM : Evaluation
  KM = keys_evaluation c.keys (open_answers app M n)

  abbrev B : Evaluation
  B = evaluate c.body (open_answers app M n) []

  is_cached : IsCachedNode (reader app n) c
  is_cached = cached_is (reader app n) c cached

  low : EveryRead (ReadsBelow app k) KS.asked
  low = front (OfRead (ReadsBelow app k)) KS.asked (evaluate c.body b []).asked
      (subst (λ (e : Evaluation). EveryRead (ReadsBelow app k) e.asked) (node_split (reader app n) c is_cached b xs values) (asked_low app orderly n i is b))

  live : EveryRead (IsLiveRead app S) KS.asked
  live = live_all app S (open_site_of app S n) KS.asked none

  alike : Every (IsAnsweredAlike b a) KS.asked
  alike = live_alike app orderly S M stands n k KS.asked low live

  -- ---- the keys in the state

  same : KM ≡ KS
  same = keys_agree b a c.keys alike

  values_now : keys_result c.keys (open_answers app M n) ≡ Ok xs
  values_now = keys_same b a c.keys [] xs values alike

  trace_is : trace app M n ≡ shown_evaluation (reader app n) (after KM (without_reads B))
  trace_is = node_split (reader app n) c is_cached a xs values_now

  keys_alive : EveryRead (IsAliveRead M) KM.asked
  keys_alive = subst (λ (e : Evaluation). EveryRead (IsAliveRead M) e.asked) (sym same) (reads_zip (ReadsBelow app k) (IsLiveRead app S) (IsAliveRead M) (read_alive app orderly S M stands k) KS.asked low live)

  cover : IsCoveredBody app c.keys c.body
  cover = covered_by app c (ap (is_covered_by app) (sym cached) ∙ covered n)

  -- ---- what is kept

  reaches : Every (ReachesAlike app orderly S M stands) KS.outside
  reaches = keys_cover b (ReachesAlike app orderly S M stands) c.keys (is_cached.numbered (orderly.sites n is_cached.node is_cached.is))
      (reads_zip (ReadsBelow app k) (IsLiveRead app S) (ReachesAlike app orderly S M stands) (live_sources app orderly S M stands k) KS.asked low live)

  sources_are : HasSameMembers (sources_of_reads app (kept_known S) [] KS.outside) (sources_of_reads app (known_now app M) [] (trace app M n).outside)
  sources_are = subst (λ rs. HasSameMembers (sources_of_reads app (kept_known S) [] KS.outside) (sources_of_reads app (known_now app M) [] rs))
      (ap (λ (e : Evaluation). e.outside) (sym same) ∙ sym (append-nil KM.outside) ∙ ap (λ (e : Evaluation). e.outside) (sym trace_is))
      (reads_same app (kept_known S) (known_now app M) KS.outside reaches [] [] (λ s. refl))

  records_are : recorded (open_site_of app S n) KS.asked ≡ recorded (open_sites app M n) (trace app M n).asked
  records_are =
      (λ j. recorded (λ s. sites_as app orderly S M stands n s j) (sym same j).asked)
      ∙ sym (append-nil (recorded (open_sites app M n) KM.asked))
      ∙ ap (λ l. recorded (open_sites app M n) KM.asked ++ l) (sym (bare_records a c.body cover.bare))
      ∙ sym (recorded-append (open_sites app M n) KM.asked B.asked)
      ∙ ap (λ (e : Evaluation). recorded (open_sites app M n) e.asked) (sym trace_is)

  comes : shown_outcome (reader app n) (keyed_outcome app n xs) ≡ (trace app M n).outcome
  comes = ap (shown_outcome (reader app n)) (sym (keyed_now app well orderly M n i is (covered n) c cached xs values_now)) ∙ ap (λ (e : Evaluation). e.outcome) (sym trace_is)

  hit_as : (N : SessionState) → IsRunIn app n M N → StandsWith app n (hit_kept app n c xs S) N (fresh_outcome app N.values (isolated_of N) n)
  hit_as N run = after_stands app orderly S M stands n i is N run (keys_attempt app S n c) (shown_outcome (reader app n) (keyed_outcome app n xs)) sources_are records_are comes

  -- ---- what is run beside reader n is covered by the keys
  abbrev Mild : ℕ → Type 0
  Mild j = (is_alive (reader_state M j) ≡ true) ⊎ ((j ≡ n) ⊎ (covered_below app c.keys (length (readers app)) j ≡ true))

  of_alive : (r : Read) → IsAliveRead M r → IsReadOf Mild r
  of_alive (read.Expr m) h = inl h
  of_alive (read.Input s) h = tt
  of_alive (read.Value s) h = tt
  of_alive (read.Status s) h = tt
  of_alive (read.Result s) h = tt
  of_alive (read.Width m) h = tt
  of_alive (read.Height m) h = tt

  mild_keys : EveryRead (IsReadOf Mild) KM.asked
  mild_keys = reads_map (IsAliveRead M) (IsReadOf Mild) of_alive KM.asked keys_alive

  key_reads : KeyReads (IsReadOf Mild) c.keys
  key_reads = keys_read a (IsReadOf Mild) c.keys [] xs values_now mild_keys

  mild_read : (l : ℕ) → l ≤ R → (r : Read) → IsCovered c.keys (covered_below app c.keys l) r → IsReadOf Mild r
  mild_read l h r (inl q) = key_has (IsReadOf Mild) c.keys r q key_reads
  mild_read l h (read.Expr m) (inr q) = inr (inr (covered_up c.keys app l R m h q))
  mild_read l h (read.Input s) (inr q) = absurd q
  mild_read l h (read.Value s) (inr q) = absurd q
  mild_read l h (read.Status s) (inr q) = absurd q
  mild_read l h (read.Result s) (inr q) = absurd q
  mild_read l h (read.Width m) (inr q) = absurd q
  mild_read l h (read.Height m) (inr q) = absurd q

  mild_here : EveryRead (IsReadOf Mild) (trace app M n).asked
  mild_here = subst (λ (e : Evaluation). EveryRead (IsReadOf Mild) e.asked) (sym trace_is) (both_of (OfRead (IsReadOf Mild)) KM.asked B.asked mild_keys
      (let bare = cover.bare in term_asks a (IsReadOf Mild) c.body 0 0 (bare_numbered c.body 0 bare)
      (every_map (IsCovered c.keys (covered_below app c.keys R)) (IsReadOf Mild) (mild_read R (omega arith)) (reads_in c.body) (covered_reads c.keys (covered_below app c.keys R) (reads_in c.body) cover.reads)) (omega (bare, arith)) []))

  mild_there : (m : ℕ) → covered_below app c.keys R m ≡ true → EveryRead (IsReadOf Mild) (trace app M m).asked
  mild_there m h =
      let w : IsCoveredNode c.keys (covered_below app c.keys m) (reader app m) = covered_at c.keys app R m h in
      let below = covered_low c.keys app R m h in
      subst (λ o. EveryRead (IsReadOf Mild) (evaluate_node o (open_answers app M m)).asked) (sym w.is)
      (node_asks (open_answers app M m) (IsReadOf Mild) w.node (orderly.sites m w.node w.is) (every_map (IsCovered c.keys (covered_below app c.keys m)) (IsReadOf Mild) (mild_read m (omega (below, arith))) (reads_in_node w.node) w.reads))

  closed : IsClosed app M Mild
  closed m (inl h) d = absurd (not_both h d)
  closed m (inr (inl q)) d = subst (λ z. EveryRead (IsReadOf Mild) (trace app M z).asked) (sym q) mild_here
  closed m (inr (inr h)) d = mild_there m h

  mild_bare : (j : ℕ) → Mild j → j ≢ n → is_alive (reader_state M j) ≡ false → is_bare (reader app j) ≡ true
  mild_bare j (inl h) d w = absurd (not_both h w)
  mild_bare j (inr (inl q)) d w = absurd (d q)
  mild_bare j (inr (inr h)) d w = let x : IsCoveredNode c.keys (covered_below app c.keys j) (reader app j) = covered_at c.keys app R j h in ap is_bare x.is ∙ x.bare

  pub expression_hits : is_expression i ≡ true → lives S n ≡ false
      → StandsWith app n (hit_kept app n c xs S) (visit_expression app n M).state (fresh_outcome app (visit_expression app n M).state.values (isolated_of (visit_expression app n M).state) n)
  expression_hits x dead = hit_as (visit_expression app n M).state (expression_in app orderly S M stands n i is covered Mild closed (inr (inl refl)) mild_bare x dead)

  pub output_hits : is_output i ≡ true
      → StandsWith app n (hit_kept app n c xs S) (run_reader app n M).state (fresh_outcome app (run_reader app n M).state.values (isolated_of (run_reader app n M).state) n)
  output_hits o = hit_as (run_reader app n M).state (output_in app orderly S M stands n i is covered Mild closed (inr (inl refl)) mild_bare o mild_here)

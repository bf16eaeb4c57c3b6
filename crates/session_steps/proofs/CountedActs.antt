-- The beginning of an observer's run, its end, and a write run no body: no more readers are missing after them.
use Rattle.std.proofs.Common.{◌≡◌, ◌≢◌, inl, inr, ◌≤◌, ℕ, zero, suc, ◌+◌, Bool, true, false, List, [], ◌∷◌, length, Some, refl, sym, ap, ◌∙◌, subst, arith}
use Rattle.std.specs.Prelude.{◌||◌, not, ◌&&◌, map, slice_get, slice_set, unwrap_or, if◌then◌else◌}
use Rattle.std.proofs.lemmas.Bool.Decides.{eqb_tells}
use Rattle.rx_value.specs.declared.source.SourceValue.{SourceValue}
use Rattle.rx_value.specs.Value.{source_eq}
use Rattle.app_tree.specs.Tree.{Node, input, value, task, reactive, event, text, plot, observe, on, Shape}
use Rattle.app_tree.specs.Numbering.{readers, reader, is_observer, is_output, is_evaluated}
use Rattle.app_tree.specs.Current.{value_at}
use Rattle.app_tree.specs.Cover.{is_covered}
use Rattle.app_tree.specs.declared.term.Read.{Read}
use Rattle.app_tree.specs.Evaluate.{Answers, TraceEntry, reads, given, enters, leaves}
use Rattle.app_tree.specs.Fresh.{is_among, answer_to, evaluate_node, known_expressions, kept_sites}
use Rattle.app_tree.specs.Trace.{Every, OfRead, EveryRead}
use Rattle.app_laws.specs.AskedLaws.{IsAnsweredAlike}
use Rattle.app_laws.specs.Orderly.{IsOrderly}
use Rattle.app_laws.proofs.WhatIsAsked.{every_map, every_zip}
use Rattle.session_model.specs.declared.state.ReaderState.{ReaderState}
use Rattle.session_model.specs.State.{SessionState, first_reader, isolated_of, reader_state, with_sources, is_alive}
use Rattle.session_model.specs.Change.{with_source_value}
use Rattle.session_model.specs.Bodies.{bodies_counted}
use Rattle.session_model.specs.Standing.{Dependence, never_run, stale, alive, is_live, dependence_by, KeptReader, KeptSession, kept_reader, is_bare, StandsForState, fresh_answers, is_missing, missing_below, missing_readers}
use Rattle.session_laws.specs.Now.{sites_now, known_now}
use Rattle.session_laws.proofs.Proper.{orderly as orderly_of, covered as covered_of}
use Rattle.session_laws.proofs.Changing.{unmarked, marked_at, unchanged_answers}
use Rattle.session_laws.proofs.States.{state_there}
use Rattle.session_steps.specs.Keeping.{reached_by, lives}
use Rattle.session_steps.specs.Acting.{marked_dependence, changed_kept, write_kept, begin_kept, finish_kept}
use Rattle.session_steps.specs.BodyLaws.{FinishIsBounded, BeginIsBounded, WriteIsBounded}
use Rattle.session_steps.proofs.KeptReaders.{kept_there}
use Rattle.session_steps.proofs.Living.{sound, live_reached, left_bare}
use Rattle.session_steps.proofs.Written.{kept_marked, changed_stands}
use Rattle.session_steps.proofs.CountedTotals.{total, total_most, fewer}
use Rattle.session_steps.proofs.CountedKeys.{count_same}
use Rattle.session_steps.proofs.CountedWeights.{IsRead, bare_is, alike_reads, plainly, weight, lacks, bare_reads, missing_is}

-- ---- the end of an observer's run

finish_below : (app : Shape) (session : KeptSession) (state : SessionState) (k : ℕ) → missing_below app (finish_kept session) state k ≡ missing_below app session state k
finish_below app session state zero = refl
finish_below app session state (suc k) = ap (λ z. z + (if is_missing session state k then bodies_counted (reader app k) (fresh_answers app state k) else 0)) (finish_below app session state k)

pub finish_is_bounded : FinishIsBounded
finish_is_bounded app session state = finish_below app session state (length (readers app))

-- ---- its beginning

no_bodies : (i : Node) → is_observer i ≡ true → (a : Answers) → bodies_counted (Some i) a ≡ 0
no_bodies (input name start) h a = cc
no_bodies (value name start) h a = cc
no_bodies (task name parameters body) h a = cc
no_bodies (reactive name keys body) h a = cc
no_bodies (event name flags e body) h a = cc
no_bodies (text name shown) h a = cc
no_bodies (plot name shown) h a = cc
no_bodies (observe name priority block) h a = refl
no_bodies (on name priority flags e block) h a = refl

same_map : {A B : Type 0} (f : A → B) (d : A) (xs : List A) (n : ℕ) (x : A) → f x ≡ f (unwrap_or (slice_get xs n) d) → map f (slice_set xs n x) ≡ map f xs
same_map f d [] n x h = refl
same_map f d (y ∷ xs) zero x h = ap (λ z. z ∷ map f xs) h
same_map f d (y ∷ xs) (suc n) x h = ap (λ l. f y ∷ l) (same_map f d xs n x h)

counts_none : (b : Bool) (c d : ℕ) → c ≡ 0 → (if b then c else 0) ≤ d
counts_none true c d h = omega (h, arith)
counts_none false c d h = omega arith

module _ (app : Shape) (n : ℕ) (i : Node) (is : reader app n ≡ Some i) (observer : is_observer i ≡ true) (S : KeptSession) (M : SessionState) where
  abbrev T : KeptSession
  T = begin_kept n S

  abbrev N : SessionState
  N = with_sources n [] M

  abbrev mine : KeptReader
  mine = record (kept_reader S n) { dependence = alive [] }

  abbrev own : ReaderState
  own = record (reader_state M n) { dependencies = Some (record { sources = []; changed = false }) }

  isolated_same : isolated_of N ≡ isolated_of M
  isolated_same = same_map (λ (r : ReaderState). r.isolated) first_reader M.readers n (record (reader_state M n) { dependencies = Some (record { sources = []; changed = false }) }) refl

  answers_same : (j : ℕ) → fresh_answers app N j ≡ fresh_answers app M j
  answers_same j = (λ z. record {
    read = answer_to app M.values (known_expressions app M.values (kept_sites (isolated_same z)));
    site = kept_sites (isolated_same z) j;
  })

  here : (if is_missing T N n then bodies_counted (reader app n) (fresh_answers app N n) else 0) ≤ (if is_missing S M n then bodies_counted (reader app n) (fresh_answers app M n) else 0)
  here = counts_none (is_missing T N n) (bodies_counted (reader app n) (fresh_answers app N n)) _ (ap (λ o. bodies_counted o (fresh_answers app N n)) is ∙ no_bodies i observer (fresh_answers app N n))

  there : (j : ℕ) → j ≢ n → (if is_missing T N j then bodies_counted (reader app j) (fresh_answers app N j) else 0) ≡ (if is_missing S M j then bodies_counted (reader app j) (fresh_answers app M j) else 0)
  there j d = (λ z. if is_alive (state_there M n j own d z) && not (is_live (kept_there S n j mine d z).dependence) then bodies_counted (reader app j) (answers_same j z) else 0)

  begin_below : (k : ℕ) → missing_below app T N k ≤ missing_below app S M k
  begin_below zero = omega arith
  begin_below (suc k) = elim (eqb_tells k n) [
    | inl p ↦ subst (λ z. missing_below app T N k + (if is_missing T N z then bodies_counted (reader app z) (fresh_answers app N z) else 0) ≤ missing_below app S M k + (if is_missing S M z then bodies_counted (reader app z) (fresh_answers app M z) else 0)) (sym p.1)
        (let below = begin_below k in let at = here in omega (below, at, arith))
    | inr p ↦ (let below = begin_below k in let at = there k p.1 in omega (below, at, arith))
  ]

pub begin_is_bounded : BeginIsBounded
begin_is_bounded app p S M stands n i is o = begin_below app n i is o S M (length (readers app))

-- ---- a write

same_reads : (a b : Answers) → ((r : Read) → a.read r ≡ b.read r) → (x : TraceEntry) → IsRead x → IsAnsweredAlike a b x
same_reads a b h (reads r) p = h r
same_reads a b h (given s) p = absurd p
same_reads a b h (enters s) p = absurd p
same_reads a b h (leaves s x) p = absurd p

unmarked_lives : (b : Bool) (sources : List ℕ) → b ≡ false → is_live (dependence_by b sources) ≡ true
unmarked_lives true sources q = cc
unmarked_lives false sources q = refl

still_lives : (s : ℕ) (d : Dependence) → is_live d ≡ true → is_among s (reached_by d) ≡ false → is_live (marked_dependence s d) ≡ true
still_lives s never_run h q = cc
still_lives s stale h q = cc
still_lives s (alive sources) h q = unmarked_lives (is_among s sources) sources q

module _ (app : Shape) (orderly : IsOrderly app) (covered : (n : ℕ) → is_covered app n ≡ true) (S : KeptSession) (M : SessionState) (stands : StandsForState app S M) (s : ℕ) (x : SourceValue) where
  abbrev U : SessionState
  U = with_source_value s x M

  abbrev V : KeptSession
  V = changed_kept s x S

  after : StandsForState app V U
  after = changed_stands app orderly covered S M stands s x

  was_alive : (j : ℕ) → is_alive (reader_state U j) ≡ true → is_alive (reader_state M j) ≡ true
  was_alive j a = (unmarked s (reader_state M j) (sym (ap is_alive (marked_at s j x M)) ∙ a)).alive

  lives_on : (j : ℕ) → is_alive (reader_state U j) ≡ true → lives S j ≡ true → lives V j ≡ true
  lives_on j a h =
      let w = unmarked s (reader_state M j) (sym (ap is_alive (marked_at s j x M)) ∙ a) in
      ap (λ (k : KeptReader). is_live k.dependence) (kept_marked s j x S)
      ∙ still_lives s (kept_reader S j).dependence h (live_reached app orderly S M stands j h s ∙ w.apart)

  same_count : (j : ℕ) → is_alive (reader_state U j) ≡ true → lives V j ≡ false → weight app U j ≡ weight app M j
  same_count j lives_there d =
      let bare : is_bare (reader app j) ≡ true = left_bare app orderly V U after j d lives_there in
      let e = bare_is (reader app j) bare in
      let evaluated : is_evaluated e.0 ≡ true = ap (λ b. b || is_output e.0) e.2 in
      let p : Answers = plainly app M in
      let q : Answers = plainly app U in
      let now : Answers = record { read = answer_to app M.values (known_now app M); site = sites_now app M j } in
      let only_reads : Every IsRead (evaluate_node (reader app j) now).asked = bare_reads app orderly j bare now in
      let same : EveryRead (λ r. p.read r ≡ q.read r) (evaluate_node (reader app j) now).asked = unchanged_answers app orderly covered M (sound app orderly S M stands) s x j e.0 e.1 evaluated lives_there in
      let as_now : bodies_counted (reader app j) q ≡ bodies_counted (reader app j) now =
      count_same now q (reader app j) (λ h. every_zip (OfRead (λ r. p.read r ≡ q.read r)) IsRead (IsAnsweredAlike now q) (alike_reads now q) (evaluate_node (reader app j) now).asked same only_reads) in
      let was_now : bodies_counted (reader app j) p ≡ bodies_counted (reader app j) now =
      count_same now p (reader app j) (λ h. every_map IsRead (IsAnsweredAlike now p) (same_reads now p (λ r. refl)) (evaluate_node (reader app j) now).asked only_reads) in
      as_now ∙ sym was_now

  changed_bound : missing_readers app V U ≤ missing_readers app S M
  changed_bound =
      let R : ℕ = length (readers app) in
      let later : missing_readers app V U ≡ total (lacks app U U V) R = missing_is app orderly V U after R in
      let before : missing_readers app S M ≡ total (lacks app M M S) R = missing_is app orderly S M stands R in
      let most : total (lacks app U U V) R ≤ total (lacks app M M S) R = total_most (lacks app U U V) (lacks app M M S) R
      (λ j. fewer (is_alive (reader_state U j)) (lives V j) (is_alive (reader_state M j)) (lives S j) (weight app U j) (weight app M j) (was_alive j) (lives_on j) (same_count j)) in
      omega (later, before, most, arith)

  bound_by : (b : Bool) → missing_readers app (if b then S else V) (if b then M else U) ≤ missing_readers app S M
  bound_by true = omega arith
  bound_by false = changed_bound

pub write_is_bounded : WriteIsBounded
write_is_bounded app p S M stands s x =
    subst (λ v. missing_readers app (write_kept s x S) (if source_eq (value_at v s) x then M else with_source_value s x M) ≤ missing_readers app S M) stands.values
    (bound_by app (orderly_of app p) (covered_of app p) S M stands s x (source_eq (value_at S.values s) x))

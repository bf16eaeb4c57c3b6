-- A term of an observer runs no more bodies in the session than the state counts, beside those that were missing.
use Rattle.std.proofs.Common.{◌≡◌, inl, inr, ◌<◌, ◌≤◌, ℕ, ◌+◌, Bool, true, false, List, [], ◌∷◌, length, Option, Some, None, refl, sym, ap, ◌∙◌, subst, arith}
use Rattle.std.proofs.lemmas.Bool.Decides.{eqb_tells}
use Rattle.rx_value.specs.declared.outcome.Outcome.{Outcome}
use Rattle.app_tree.specs.declared.term.Read.{Read}
use Rattle.app_tree.specs.Tree.{Tree, Node, Shape}
use Rattle.app_tree.specs.Numbering.{readers, reader, is_observer}
use Rattle.app_tree.specs.Cover.{reads_in, is_covered}
use Rattle.app_tree.specs.Evaluate.{evaluate}
use Rattle.app_tree.specs.Trace.{Every}
use Rattle.app_laws.specs.Orderly.{ReadsBelow, bound_of, IsNumbered, IsOrderly}
use Rattle.app_laws.specs.Proper.{IsProper}
use Rattle.app_laws.proofs.KnownLists.{get_in}
use Rattle.app_laws.proofs.WhatIsAsked.{both_of, every_map, every_zip}
use Rattle.session_model.specs.declared.state.Dependencies.{Dependencies}
use Rattle.session_model.specs.declared.state.ReaderState.{ReaderState}
use Rattle.session_model.specs.State.{SessionState, reader_state, with_reader, is_alive}
use Rattle.session_model.specs.Reading.{TermResult, read_term}
use Rattle.session_model.specs.Run.{passing_manner, visit_expression}
use Rattle.session_model.specs.Observing.{sources_reached, more_sources, with_reads, with_reads_counted, read_by_observer}
use Rattle.session_model.specs.Standing.{Dependence, never_run, stale, alive, is_live, KeptReader, KeptSession, kept_reader, StandsForState, missing_readers}
use Rattle.session_laws.specs.Now.{term_answers}
use Rattle.session_laws.specs.Sound.{IsSound}
use Rattle.session_laws.proofs.Proper.{orderly as orderly_of, covered as covered_of}
use Rattle.session_laws.proofs.Absorbing.{visits}
use Rattle.session_laws.proofs.Moving.{Visits}
use Rattle.session_laws.proofs.Observed.{IsOn, term_is, term_on}
use Rattle.session_laws.proofs.States.{state_here, state_there, state_size}
use Rattle.session_laws.proofs.Staying.{alive_by, alike_eq, Same, same_refl, same_trans, same_readers}
use Rattle.session_laws.proofs.Walking.{expression_of}
use Rattle.session_steps.specs.Keeping.{lives, with_kept}
use Rattle.session_steps.specs.Bringing.{reading}
use Rattle.session_steps.specs.Acting.{reached_in, more_reached, reads_kept, term_attempt, term_kept, Comes}
use Rattle.session_steps.specs.BodyLaws.{IsBounded}
use Rattle.session_steps.proofs.KeptReaders.{kept_here, kept_there, kept_size}
use Rattle.session_steps.proofs.Living.{sound, live_alive}
use Rattle.session_steps.proofs.Observers.{apart}
use Rattle.session_steps.proofs.Forced.{force_stands}
use Rattle.session_steps.proofs.Terms.{term_stands}
use Rattle.session_steps.proofs.BodiesAsked.{term_reads}
use Rattle.session_steps.proofs.BodiesOnce.{alike_lives, IsBelow, Goes, goes}
use Rattle.session_steps.proofs.BodiesTerms.{term_wants_below, Runs, runs}
use Rattle.session_steps.proofs.CountedTotals.{total, only, counted, total_same, total_balance, balance}
use Rattle.session_steps.proofs.CountedWeights.{weight, same_weight, lacks, missing_is}
use Rattle.session_steps.proofs.CountedVisits.{newly, Counts, term_counts}
use Rattle.session_steps.proofs.CountedBrings.{counts_where, Weighs, weighs_back, gains, weighs}

more_lives : (xs : List ℕ) (d : Dependence) → is_live (more_reached xs d) ≡ is_live d
more_lives xs never_run = refl
more_lives xs stale = refl
more_lives xs (alive sources) = refl

more_alive : (xs : List ℕ) (d : Option Dependencies) → alive_by (more_sources xs d) ≡ alive_by d
more_alive xs None = refl
more_alive xs (Some d) = refl

module _ (app : Shape) (n : ℕ) where
  -- ---- in the session

  reads_size : (rs : List Read) (s : KeptSession) → length (reads_kept app n rs s).readers ≡ length s.readers
  reads_size [] s = refl
  reads_size (r ∷ rs) s =
      reads_size rs (with_kept n (record (kept_reader s n) { dependence = more_reached (reached_in app s r) (kept_reader s n).dependence }) s)
      ∙ kept_size s n (record (kept_reader s n) { dependence = more_reached (reached_in app s r) (kept_reader s n).dependence })

  -- what the observer has reached changes nothing of who lives
  reads_live : (rs : List Read) (s : KeptSession) → n < length s.readers → (j : ℕ) → lives (reads_kept app n rs s) j ≡ lives s j
  reads_live [] s room j = refl
  reads_live (r ∷ rs) s room j =
      let k : KeptReader = record (kept_reader s n) { dependence = more_reached (reached_in app s r) (kept_reader s n).dependence } in
      reads_live rs (with_kept n k s) (let e = kept_size s n k in omega (e, room, arith)) j ∙ elim (eqb_tells j n) [
        | inl p ↦ subst (λ z. lives (with_kept n k s) z ≡ lives s z) (sym p.1) (ap (λ (x : KeptReader). is_live x.dependence) (kept_here s n k room) ∙ more_lives (reached_in app s r) (kept_reader s n).dependence)
        | inr p ↦ ap (λ (x : KeptReader). is_live x.dependence) (kept_there s n j k p.1)
      ]

  term_live : (isolated : Bool) (t : Tree) (s : KeptSession) → n < length s.readers → (j : ℕ) → lives (term_kept app n isolated t s) j ≡ lives s j
  term_live true t s room j = refl
  term_live false t s room j = reads_live (term_attempt app s t).outside s room j

  module _ (orderly : IsOrderly app) (isolated : Bool) (t : Tree) (low : Every (ReadsBelow app (length (readers app))) (reads_in t)) where
    pub record Grows (bodies : List ℕ) (s s' : KeptSession) : Type 0 where
      pub keeps : (j : ℕ) → lives s j ≡ true → lives s' j ≡ true
      pub live : Every (λ j. lives s' j ≡ true) bodies

    pub grows : (bodies : List ℕ) (s s' : KeptSession) (x : Outcome) → Comes app n isolated t bodies s s' x → length s.readers ≡ length (readers app) → n < length (readers app) → Grows bodies s s'
    grows _ _ _ _ (Comes.ends s s' none a) size room = record {
      keeps = λ j h. alike_lives (term_kept app n isolated t s) s' a j ∙ term_live isolated t s (omega (size, room, arith)) j ∙ h;
      live = tt;
    }
    grows _ _ _ _ (Comes.waits earlier later m s s' s'' x w b c) size room =
        let l : IsBelow app orderly (length (readers app)) m = term_wants_below app orderly n isolated t low s m w in
        let e = expression_of app m l.1 in
        let g : Goes app orderly reading m (bound_of app m e.0) earlier s s' = goes app orderly reading earlier m s s' b size e.0 e.1 in
        let h : Grows later s' s'' = grows later s' s'' x c (g.size ∙ size) room in
        record {
          keeps = λ j p. h.keeps j (g.keeps j p);
          live = both_of (λ j. lives s'' j ≡ true) earlier later (every_map (λ j. lives s' j ≡ true) (λ j. lives s'' j ≡ true) h.keeps earlier g.live) h.live;
        }

  -- ---- in the state

  -- what the observer has reached changes nothing of who is alive, nor of what any expression gives
  pub record IsQuiet (M N : SessionState) : Type 0 where
    pub same : Same app M N
    pub alive : (j : ℕ) → is_alive (reader_state N j) ≡ is_alive (reader_state M j)

  module _ (orderly : IsOrderly app) (covered : (n : ℕ) → is_covered app n ≡ true) (i : Node) (is : reader app n ≡ Some i) (observer : is_observer i ≡ true) where
    reads_quiet : (rs : List Read) (M : SessionState) → n < length M.readers → IsQuiet M (with_reads app n rs M)
    reads_quiet [] M room = record { same = same_refl app M; alive = λ j. refl }
    reads_quiet (r ∷ rs) M room =
        let q : ReaderState = record (reader_state M n) { dependencies = more_sources (sources_reached app M r) (reader_state M n).dependencies } in
        let size : length (with_reader n q M).readers ≡ length M.readers = state_size M n q in
        let rest : IsQuiet (with_reader n q M) (with_reads app n rs (with_reader n q M)) = reads_quiet rs (with_reader n q M) (omega (size, room, arith)) in
        record {
          same = same_trans app (same_readers app M (with_reader n q M) refl (λ m x. alike_eq (state_there M n m q (apart app orderly covered n i is observer m x)))) rest.same;
          alive = λ j. rest.alive j ∙ elim (eqb_tells j n) [
            | inl p ↦ subst (λ z. is_alive (reader_state (with_reader n q M) z) ≡ is_alive (reader_state M z)) (sym p.1) (ap is_alive (state_here M n q room) ∙ more_alive (sources_reached app M r) (reader_state M n).dependencies)
            | inr p ↦ ap is_alive (state_there M n j q p.1)
          ];
        }

    pub counted_quiet : (isolated : Bool) (e : TermResult) → n < length e.state.readers → IsQuiet e.state (with_reads_counted app n isolated e).state
    counted_quiet true e room = record { same = same_refl app e.state; alive = λ j. refl }
    counted_quiet false e room = reads_quiet e.outside e.state room

  pub counted_bodies : (isolated : Bool) (e : TermResult) → (with_reads_counted app n isolated e).bodies ≡ e.bodies
  counted_bodies true e = refl
  counted_bodies false e = refl

module _ (app : Shape) (proper : IsProper app) (n : ℕ) (isolated : Bool) (t : Tree) (low : Every (ReadsBelow app (length (readers app))) (reads_in t)) where
  abbrev orderly : IsOrderly app
  orderly = orderly_of app proper

  abbrev covered : (n : ℕ) → is_covered app n ≡ true
  covered = covered_of app proper

  abbrev R : ℕ
  R = length (readers app)

  term_weighs : (bodies : List ℕ) (s s' : KeptSession) (x : Outcome) → Comes app n isolated t bodies s s' x → (M : SessionState) → StandsForState app s M → Every (Weighs app M) bodies
  term_weighs _ _ _ _ (Comes.ends s s' none a) M st = tt
  term_weighs _ _ _ _ (Comes.waits earlier later m s s' s'' x w b c) M st =
      let e = expression_of app m (term_wants_below app orderly n isolated t low s m w).1 in
      let N : SessionState = (visit_expression app m M).state in
      let v : Visits app R m M N = visits app orderly covered M (sound app orderly s M st) m e.0 e.1 e.2 in
      both_of (Weighs app M) earlier later (weighs app proper reading earlier m s s' b M st e.0 e.1)
      (weighs_back app M N v.steps.same later (term_weighs later s' s'' x c N (force_stands app proper s s' M st m e.0 e.1 e.2 earlier b).stands))

  module _ (i : Node) (is : reader app n ≡ Some i) (observer : is_observer i ≡ true) (k : ℕ) (numbered : IsNumbered k t) (bodies : List ℕ) (s s' : KeptSession) (x : Outcome) (c : Comes app n isolated t bodies s s' x) (M : SessionState) (st : StandsForState app s M) where
    before : IsSound app M
    before = sound app orderly s M st

    -- the evaluation, and the state after its reads
    abbrev e : TermResult
    e = read_term app (passing_manner (visit_expression app)) t [] M

    abbrev W : SessionState
    W = (read_by_observer app n isolated t M).state

    on : IsOn app orderly covered M e.state
    on = term_on app orderly covered M before t k numbered low

    counts : Counts app M M (record { state = e.state; bodies = e.bodies })
    counts = subst (λ (r : TermResult). Counts app M M (record { state = r.state; bodies = r.bodies })) (sym (term_is app orderly covered M before t k numbered low))
        (term_counts app orderly covered M (evaluate t (term_answers app M) []).asked (term_reads (term_answers app M) (ReadsBelow app R) t low []) M before (same_refl app M))

    quiet : IsQuiet app n e.state W
    quiet = counted_quiet app n orderly covered i is observer isolated e (let size = on.sound.size in let at = get_in (readers app) n i is in omega (size, at, arith))

    same : Same app M W
    same = same_trans app on.steps.same quiet.same

    st' : StandsForState app s' W
    st' = (term_stands app proper s s' M st n i is observer isolated t k numbered low bodies x c).stands

    g : Grows app n orderly isolated t low bodies s s'
    g = grows app n orderly isolated t low bodies s s' x c st.size (get_in (readers app) n i is)

    r : Runs app orderly n isolated t low bodies s
    r = runs app orderly n isolated t low bodies s s' x c st.size

    one : length bodies ≤ total (gains app M (lives s) s') R
    one = counted (gains app M (lives s) s') R bodies r.once (every_map (IsBelow app orderly R) (λ j. j < R) (λ j b. b.0) bodies r.below)
        (every_zip (λ j. lives s j ≡ false) (λ j. (lives s' j ≡ true) × Weighs app M j) (λ j. 1 ≤ gains app M (lives s) s' j) (λ j d h. counts_where (lives s' j) (lives s j) (weight app M j) h.0 d h.1) bodies r.was
        (every_zip (λ j. lives s' j ≡ true) (Weighs app M) (λ j. (lives s' j ≡ true) × Weighs app M j) (λ j p q. (p, q)) bodies g.live (term_weighs bodies s s' x c M st)))

    pub term_bounded : IsBounded app bodies s s' M (read_by_observer app n isolated t M).state (read_by_observer app n isolated t M).bodies
    term_bounded =
        let ran = one in
        let first : missing_readers app s M ≡ total (lacks app M M s) R = missing_is app orderly s M st R in
        let last : missing_readers app s' W ≡ total (lacks app M W s') R = missing_is app orderly s' W st' R
        ∙ total_same (lacks app W W s') (lacks app M W s') R (λ j. ap (only (is_alive (reader_state W j)) (lives s' j)) (same_weight app M W same j)) in
        let ran_bodies : (read_by_observer app n isolated t M).bodies ≡ total (newly app M M W) R = counted_bodies app n isolated e ∙ counts.bodies
        ∙ total_same (newly app M M e.state) (newly app M M W) R (λ j. ap (λ b. only b (is_alive (reader_state M j)) (weight app M j)) (sym (quiet.alive j))) in
        let sum : total (gains app M (lives s) s') R + total (lacks app M W s') R ≡ total (newly app M M W) R + total (lacks app M M s) R =
        total_balance (gains app M (lives s) s') (lacks app M W s') (newly app M M W) (lacks app M M s) R
        (λ j. balance (lives s j) (lives s' j) (is_alive (reader_state M j)) (is_alive (reader_state W j)) (weight app M j) (g.keeps j) (live_alive app orderly s' W st' j) (live_alive app orderly s M st j)
        (λ a. quiet.alive j ∙ counts.keeps j a)) in
        omega (ran, first, last, ran_bodies, sum, arith)

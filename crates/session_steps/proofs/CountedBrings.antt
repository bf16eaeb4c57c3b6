-- A session runs no more bodies than the state counts, beside those that were missing: each body that is run is one of a reader
-- that becomes alive in the session, and so was missing, or becomes alive in the state too.
use Rattle.std.proofs.Common.{◌≡◌, ◌≢◌, inl, inr, ◌≤◌, ℕ, zero, suc, ◌+◌, Bool, true, false, List, length, Some, refl, sym, ap, ◌∙◌, subst, arith}
use Rattle.std.specs.Prelude.{◌||◌, nat_eq, replicate, if◌then◌else◌}
use Rattle.std.proofs.lemmas.Bool.Decides.{eqb_tells}
use Rattle.app_tree.specs.Tree.{Node, Shape}
use Rattle.app_tree.specs.Numbering.{readers, reader, is_expression, is_output, is_evaluated}
use Rattle.app_tree.specs.Cover.{is_covered}
use Rattle.app_tree.specs.Trace.{Every}
use Rattle.app_tree.specs.Wanted.{completed}
use Rattle.app_laws.specs.Orderly.{bound_of, IsOrderly}
use Rattle.app_laws.specs.Proper.{IsProper}
use Rattle.app_laws.proofs.WhatIsAsked.{both_of, every_map, every_zip, if_false}
use Rattle.session_model.specs.State.{SessionState, reader_state, is_alive}
use Rattle.session_model.specs.Bodies.{bodies_counted}
use Rattle.session_model.specs.Run.{ReaderRun, run_with, visit_of_run, visit_below, visit_expression, run_reader}
use Rattle.session_model.specs.Standing.{KeptSession, StandsForState, missing_readers}
use Rattle.session_laws.specs.Sound.{IsSound}
use Rattle.session_laws.proofs.Proper.{orderly as orderly_of, covered as covered_of}
use Rattle.session_laws.proofs.Absorbing.{visits}
use Rattle.session_laws.proofs.Moving.{not_both, Visits}
use Rattle.session_laws.proofs.Running.{no_expression, Leaves}
use Rattle.session_laws.proofs.Staying.{Same, same_trans}
use Rattle.session_laws.proofs.Walking.{expression_of}
use Rattle.session_laws.proofs.Marking as marking
use Rattle.session_steps.specs.Keeping.{lives, answering}
use Rattle.session_steps.specs.Bringing.{Aim, reading, running, Brings}
use Rattle.session_steps.specs.BodyLaws.{WasDead, IsBounded}
use Rattle.session_steps.proofs.Living.{sound, live_alive}
use Rattle.session_steps.proofs.Forced.{force_stands}
use Rattle.session_steps.proofs.Outputs.{output_stands}
use Rattle.session_steps.proofs.BodiesListed.{never}
use Rattle.session_steps.proofs.BodiesOnce.{wanted_below, Goes, goes, among_readers}
use Rattle.session_steps.proofs.BodiesOnward.{IsFinished}
use Rattle.session_steps.proofs.CountedTotals.{total, only, counted, total_same, total_most, total_balance, balance}
use Rattle.session_steps.proofs.CountedWeights.{weight, same_weight, lacks, run_weight, missing_is}
use Rattle.session_steps.proofs.CountedVisits.{newly, Counts, run_counted, counted_below, visit_counts}

each_copy : (P : ℕ → Type 0) (n c : ℕ) → (1 ≤ c → P n) → Every P (replicate c n)
each_copy P n zero h = tt
each_copy P n (suc c) h = (h (omega arith), each_copy P n c (λ l. h (omega arith)))

pub counts_where : (l' l : Bool) (c : ℕ) → l' ≡ true → l ≡ false → 1 ≤ c → 1 ≤ only l' l c
counts_where true false c p q h = h
counts_where true true c p q h = cc
counts_where false l c p q h = cc

-- lives, but for n
abbrev pub lives_but : ℕ → KeptSession → ℕ → Bool
lives_but n s j = if nat_eq j n then false else lives s j

pub but_here : (n : ℕ) (s : KeptSession) → lives_but n s n ≡ false
but_here n s = elim (eqb_tells n n) [ inl p ↦ ap (λ b. if b then false else lives s n) p.0 | inr p ↦ absurd (p.1 refl) ]

pub but_there : (n : ℕ) (s : KeptSession) (j : ℕ) → j ≢ n → lives_but n s j ≡ lives s j
but_there n s j d = elim (eqb_tells j n) [ inl p ↦ absurd (d p.1) | inr p ↦ ap (λ b. if b then false else lives s j) p.0 ]

but_dead : (n : ℕ) (s : KeptSession) (j : ℕ) → WasDead running n s j → lives_but n s j ≡ false
but_dead n s j w = elim (eqb_tells j n) [
  | inl p ↦ subst (λ z. lives_but n s z ≡ false) (sym p.1) (but_here n s)
  | inr p ↦ but_there n s j p.1 ∙ never (lives s j) (λ h. p.1 (w h))
]

module _ (app : Shape) where
  -- a reader whose body counts
  abbrev pub Weighs : SessionState → ℕ → Type 0
  Weighs M j = 1 ≤ weight app M j

  pub weighs_back : (M N : SessionState) → Same app M N → (bodies : List ℕ) → Every (Weighs N) bodies → Every (Weighs M) bodies
  weighs_back M N same bodies h = every_map (Weighs N) (Weighs M) (λ j w. let e = same_weight app M N same j in omega (w, e, arith)) bodies h

  -- those that live now and didn't
  abbrev pub gains : SessionState → (ℕ → Bool) → KeptSession → ℕ → ℕ
  gains M l s j = only (lives s j) (l j) (weight app M j)

  module _ (orderly : IsOrderly app) where
    pub gained : (aim : Aim) (n : ℕ) (i : Node) → reader app n ≡ Some i → (bodies : List ℕ) (s s' : KeptSession) (M : SessionState) → Goes app orderly aim n (bound_of app n i) bodies s s'
        → Every (Weighs M) bodies → (l : ℕ → Bool) → ((j : ℕ) → WasDead aim n s j → l j ≡ false) → length bodies ≤ total (gains M l s') (length (readers app))
    gained aim n i is bodies s s' M g weighs l dead =
        counted (gains M l s') (length (readers app)) bodies g.once (among_readers app orderly n i is bodies g.among)
        (every_zip (WasDead aim n s) (λ j. (lives s' j ≡ true) × Weighs M j) (λ j. 1 ≤ gains M l s' j) (λ j w h. counts_where (lives s' j) (l j) (weight app M j) h.0 (dead j w) h.1) bodies g.was
        (every_zip (λ j. lives s' j ≡ true) (Weighs M) (λ j. (lives s' j ≡ true) × Weighs M j) (λ j p q. (p, q)) bodies g.live weighs))

module _ (app : Shape) (proper : IsProper app) where
  abbrev pub orderly : IsOrderly app
  orderly = orderly_of app proper

  abbrev pub covered : (n : ℕ) → is_covered app n ≡ true
  covered = covered_of app proper

  abbrev R : ℕ
  R = length (readers app)

  -- each body that is run counts in the state
  pub weighs : (aim : Aim) (bodies : List ℕ) (n : ℕ) (s s' : KeptSession) → Brings app aim bodies n s s' → (M : SessionState) → StandsForState app s M → (i : Node) → reader app n ≡ Some i → Every (Weighs app M) bodies
  weighs _ _ _ _ _ (Brings.living n s l) M st i is = tt
  weighs _ _ _ _ _ (Brings.dead bodies n s s' d b) M st i is = weighs running bodies n s s' b M st i is
  weighs _ _ _ _ _ (Brings.ends n s s' none a) M st i is =
      each_copy (Weighs app M) n (bodies_counted (reader app n) (completed (answering app s n))) (λ h. let e = run_weight app orderly s M st n i is none in omega (h, e, arith))
  weighs _ _ _ _ _ (Brings.hits n c xs s s' cached none values a) M st i is = tt
  weighs _ _ _ _ _ (Brings.waits earlier later n m s s' s'' w b c) M st i is =
      let e = expression_of app m (wanted_below app orderly s n i is m w).1 in
      let N : SessionState = (visit_expression app m M).state in
      let v : Visits app R m M N = visits app orderly covered M (sound app orderly s M st) m e.0 e.1 e.2 in
      both_of (Weighs app M) earlier later (weighs reading earlier m s s' b M st e.0 e.1)
      (weighs_back app M N v.steps.same later (weighs running later n s' s'' c N (force_stands app proper s s' M st m e.0 e.1 e.2 earlier b).stands i is))

  -- ---- an expression

  pub force_bounded : (s s' : KeptSession) (M : SessionState) → StandsForState app s M → (n : ℕ) (i : Node) → reader app n ≡ Some i → is_expression i ≡ true → (bodies : List ℕ) → Brings app reading bodies n s s'
      → IsBounded app bodies s s' M (visit_expression app n M).state (visit_expression app n M).bodies
  force_bounded s s' M st n i is x bodies b =
      let N : SessionState = (visit_expression app n M).state in
      let before : IsSound app M = sound app orderly s M st in
      let v : Visits app R n M N = visits app orderly covered M before n i is x in
      let st' : StandsForState app s' N = (force_stands app proper s s' M st n i is x bodies b).stands in
      let g : Goes app orderly reading n (bound_of app n i) bodies s s' = goes app orderly reading bodies n s s' b st.size i is in
      let one : length bodies ≤ total (gains app M (lives s) s') R = gained app orderly reading n i is bodies s s' M g (weighs reading bodies n s s' b M st i is) (lives s) (λ j d. d) in
      let first : missing_readers app s M ≡ total (lacks app M M s) R = missing_is app orderly s M st R in
      let last : missing_readers app s' N ≡ total (lacks app M N s') R = missing_is app orderly s' N st' R
      ∙ total_same (lacks app N N s') (lacks app M N s') R (λ j. ap (only (is_alive (reader_state N j)) (lives s' j)) (same_weight app M N v.steps.same j)) in
      let c : Counts app M M (visit_expression app n M) = visit_counts app orderly covered M before n i is x in
      let counts : (visit_expression app n M).bodies ≡ total (newly app M M N) R = c.bodies in
      let sum : total (gains app M (lives s) s') R + total (lacks app M N s') R ≡ total (newly app M M N) R + total (lacks app M M s) R =
      total_balance (gains app M (lives s) s') (lacks app M N s') (newly app M M N) (lacks app M M s) R
      (λ j. balance (lives s j) (lives s' j) (is_alive (reader_state M j)) (is_alive (reader_state N j)) (weight app M j) (g.keeps j) (live_alive app orderly s' N st' j) (live_alive app orderly s M st j) (c.keeps j)) in
      omega (one, first, last, counts, sum, arith)

  pub force_begins_bounded : (s s' : KeptSession) (M : SessionState) → StandsForState app s M → (n : ℕ) (i : Node) → reader app n ≡ Some i → is_expression i ≡ true → (bodies : List ℕ) (f : IsFinished app orderly reading bodies n s)
      → length bodies ≤ (visit_expression app n M).bodies + missing_readers app s M
  force_begins_bounded s s' M st n i is x bodies f =
      let all = force_bounded s f.after M st n i is x f.all f.does in
      let most = f.most in
      omega (all, most, arith)

  -- ---- an output, which is run alive or not: the run forgets it first

  module _ (n : ℕ) (i : Node) (is : reader app n ≡ Some i) (o : is_output i ≡ true) (s s' : KeptSession) (M : SessionState) (st : StandsForState app s M) (bodies : List ℕ) (b : Brings app running bodies n s s') where
    before : IsSound app M
    before = sound app orderly s M st

    -- M with the output marked, and the state after the run
    abbrev N : SessionState
    N = marking.N app orderly covered n i is o M before

    abbrev O : SessionState
    O = (run_reader app n M).state

    marked_same : Same app M N
    marked_same = marking.same app orderly covered n i is o M before

    left : Leaves app orderly R n N O (run_reader app n M).outcome
    left = marking.leaves app orderly covered n i is o M before

    own : bound_of app n i ≡ R
    own = if_false (is_expression i) n R (no_expression i o)

    evaluated : is_evaluated i ≡ true
    evaluated = ap (λ b. b || is_output i) (no_expression i o) ∙ o

    ran : Counts app N N (visit_of_run (run_reader app n N))
    ran = subst (λ k. Counts app N N (visit_of_run (run_with app (visit_below app k) n N))) own
        (run_counted app orderly covered n i is evaluated (counted_below app orderly covered (bound_of app n i)) N (marking.marked_sound app orderly covered n i is o M before) (marking.dead app orderly covered n i is o M before))

    counts : Counts app N N (visit_of_run (run_reader app n M))
    counts = subst (λ (r : ReaderRun). Counts app N N (visit_of_run r)) (marking.stated_same app orderly covered n i is o M before) ran

    st' : StandsForState app s' O
    st' = (output_stands app proper s s' M st n i is o bodies b).stands

    g : Goes app orderly running n (bound_of app n i) bodies s s'
    g = goes app orderly running bodies n s s' b st.size i is

    -- where it is the output that isn't alive, and elsewhere
    but_live : (j : ℕ) → lives_but n s j ≡ true → lives s j ≡ true
    but_live j h = elim (eqb_tells j n) [
      | inl p ↦ absurd (not_both (subst (λ z. lives_but n s z ≡ true) p.1 h) (but_here n s))
      | inr p ↦ sym (but_there n s j p.1) ∙ h
    ]

    marked_there : (j : ℕ) → j ≢ n → is_alive (reader_state N j) ≡ is_alive (reader_state M j)
    marked_there j d = ap is_alive (marking.there app orderly covered n i is o M before j d)

    but_alive : (j : ℕ) → lives_but n s j ≡ true → is_alive (reader_state N j) ≡ true
    but_alive j h = elim (eqb_tells j n) [
      | inl p ↦ absurd (not_both (subst (λ z. lives_but n s z ≡ true) p.1 h) (but_here n s))
      | inr p ↦ marked_there j p.1 ∙ live_alive app orderly s M st j (but_live j h)
    ]

    -- what was missing of the others
    rest_most : (j : ℕ) → only (is_alive (reader_state N j)) (lives_but n s j) (weight app M j) ≤ lacks app M M s j
    rest_most j = elim (eqb_tells j n) [
      | inl p ↦ (let none : only (is_alive (reader_state N j)) (lives_but n s j) (weight app M j) ≡ 0 =
          subst (λ z. only (is_alive (reader_state N z)) (lives_but n s z) (weight app M z) ≡ 0) (sym p.1) (ap (λ a. only a (lives_but n s n) (weight app M n)) (marking.dead app orderly covered n i is o M before)) in omega (none, arith))
      | inr p ↦ (let same : only (is_alive (reader_state N j)) (lives_but n s j) (weight app M j) ≡ lacks app M M s j =
          (λ z. only (marked_there j p.1 z) (but_there n s j p.1 z) (weight app M j)) in omega (same, arith))
    ]

    pub output_bounded : IsBounded app bodies s s' M (run_reader app n M).state (run_reader app n M).bodies
    output_bounded =
        let one : length bodies ≤ total (gains app M (lives_but n s) s') R = gained app orderly running n i is bodies s s' M g (weighs running bodies n s s' b M st i is) (lives_but n s) (but_dead n s) in
        let first : missing_readers app s M ≡ total (lacks app M M s) R = missing_is app orderly s M st R in
        let last : missing_readers app s' O ≡ total (lacks app M O s') R = missing_is app orderly s' O st' R
        ∙ total_same (lacks app O O s') (lacks app M O s') R (λ j. ap (only (is_alive (reader_state O j)) (lives s' j)) (same_weight app M O (same_trans app marked_same left.same) j)) in
        let ran_bodies : (run_reader app n M).bodies ≡ total (newly app M N O) R = counts.bodies
        ∙ total_same (newly app N N O) (newly app M N O) R (λ j. ap (only (is_alive (reader_state O j)) (is_alive (reader_state N j))) (same_weight app M N marked_same j)) in
        let sum : total (gains app M (lives_but n s) s') R + total (lacks app M O s') R ≡ total (newly app M N O) R + total (λ j. only (is_alive (reader_state N j)) (lives_but n s j) (weight app M j)) R =
        total_balance (gains app M (lives_but n s) s') (lacks app M O s') (newly app M N O) (λ j. only (is_alive (reader_state N j)) (lives_but n s j) (weight app M j)) R
        (λ j. balance (lives_but n s j) (lives s' j) (is_alive (reader_state N j)) (is_alive (reader_state O j)) (weight app M j) (λ h. g.keeps j (but_live j h)) (live_alive app orderly s' O st' j) (but_alive j) (counts.keeps j)) in
        let most : total (λ j. only (is_alive (reader_state N j)) (lives_but n s j) (weight app M j)) R ≤ total (lacks app M M s) R =
        total_most (λ j. only (is_alive (reader_state N j)) (lives_but n s j) (weight app M j)) (lacks app M M s) R rest_most in
        omega (one, first, last, ran_bodies, sum, most, arith)

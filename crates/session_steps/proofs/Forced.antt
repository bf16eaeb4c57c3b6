-- Whatever a session did to make an expression alive, it stands for the state after a visit to it there.
use Rattle.std.proofs.Common.{◌≡◌, inl, inr, ◌<◌, ℕ, Bool, true, false, List, length, Some, refl, sym, ap, ◌∙◌, subst, arith}
use Rattle.std.specs.Prelude.{⊤, ◌||◌}
use Rattle.app_tree.specs.declared.term.Read.{Read}
use Rattle.app_tree.specs.declared.term.Read.TheVariants as read
use Rattle.app_tree.specs.Tree.{Node, Shape}
use Rattle.app_tree.specs.Numbering.{readers, reader, is_expression, is_output}
use Rattle.app_tree.specs.Cover.{is_covered}
use Rattle.app_tree.specs.Evaluate.{Evaluation}
use Rattle.app_tree.specs.Trace.{EveryRead}
use Rattle.app_tree.specs.Fresh.{fresh_outcome}
use Rattle.session_model.specs.State.{SessionState, isolated_of, reader_state, is_alive}
use Rattle.session_model.specs.Reading.{VisitResult}
use Rattle.session_model.specs.Run.{visit_expression}
use Rattle.session_model.specs.Standing.{is_live, KeptReader, KeptSession, kept_reader, IsAliveRead, StandsForState}
use Rattle.app_laws.specs.Orderly.{bound_of, IsOrderly}
use Rattle.app_laws.specs.Proper.{IsProper}
use Rattle.app_laws.proofs.WhatIsAsked.{if_true}
use Rattle.session_laws.specs.Now.{trace}
use Rattle.session_laws.proofs.Absorbing.{leaves_each, absorbs, visits}
use Rattle.session_laws.proofs.Moving.{not_both}
use Rattle.session_laws.proofs.Proper.{orderly, covered}
use Rattle.session_laws.proofs.Walking.{expression_of}
use Rattle.session_steps.specs.Keeping.{lives, attempt, wanted, keys_attempt, with_kept, reader_after, run_kept, hit_kept, IsAlike}
use Rattle.session_steps.specs.Bringing.{Aim, reading, running, Brings, living, dead, ends, hits, waits}
use Rattle.session_steps.specs.StandLaws.{ForceStands, StandsWith}
use Rattle.session_steps.proofs.Attempts.{wanted_low, wanted_asked}
use Rattle.session_steps.proofs.Dependences.{same_live}
use Rattle.session_steps.proofs.Ends.{alike_with, expression_ends}
use Rattle.session_steps.proofs.Hits.{expression_hits}
use Rattle.session_steps.proofs.KeptReaders.{kept_there}
use Rattle.session_steps.proofs.Living.{sound, live_alive, left_bare}
use Rattle.session_steps.proofs.Ran.{bare_now}
use Rattle.session_steps.proofs.Walks.{visit_still}

-- what is wanted of an expression is a smaller one
pub wanted_smaller : (app : Shape) (orderly : IsOrderly app) (S : KeptSession) (n : ℕ) (i : Node) → reader app n ≡ Some i → is_expression i ≡ true → (m : ℕ) → wanted app S n ≡ Some (read.Expr m) → m < n
wanted_smaller app orderly S n i is x m w =
    let low = (wanted_low app orderly S n i is m w).0 in
    let own : bound_of app n i ≡ n = if_true (is_expression i) n (length (readers app)) x in
    omega (low, own, arith)

alike_lives : (S T : KeptSession) → IsAlike S T → (j : ℕ) → lives T j ≡ lives S j
alike_lives S T alike j = sym (same_live (kept_reader S j).dependence (kept_reader T j).dependence (alike.readers j).dependence)

put_lives : (S T : KeptSession) (n : ℕ) (r : KeptReader) → IsAlike (with_kept n r S) T → (j : ℕ) → n < j → lives T j ≡ lives S j
put_lives S T n r alike j h = alike_lives (with_kept n r S) T alike j ∙ ap (λ (x : KeptReader). is_live x.dependence) (kept_there S n j r (λ q. omega (h, q, arith)))

-- no reader of a greater number is touched
pub beyond : (app : Shape) (orderly : IsOrderly app) (aim : Aim) (bodies : List ℕ) (n : ℕ) (s s' : KeptSession) → Brings app aim bodies n s s' → (i : Node) → reader app n ≡ Some i → is_expression i ≡ true → (j : ℕ) → n < j → lives s' j ≡ lives s j
beyond app orderly _ _ _ _ _ (living n s h) i is x j l = refl
beyond app orderly _ _ _ _ _ (dead bodies n s s' h f) i is x j l = beyond app orderly running bodies n s s' f i is x j l
beyond app orderly _ _ _ _ _ (ends n s s' w alike) i is x j l = put_lives s s' n (reader_after app s n (attempt app s n) (attempt app s n).outcome) alike j l
beyond app orderly _ _ _ _ _ (hits n c xs s s' cached none values alike) i is x j l =
    put_lives s s' n (reader_after app s n (keys_attempt app s n c) _) alike j l
beyond app orderly _ _ _ _ _ (waits earlier later n m s s' s'' w f g) i is x j l =
    let low : m < n = wanted_smaller app orderly s n i is x m w in
    let e = expression_of app m (wanted_low app orderly s n i is m w).1 in
    beyond app orderly running later n s' s'' g i is x j l ∙ beyond app orderly reading earlier m s s' f e.0 e.1 e.2 j (omega (low, l, arith))

module _ (app : Shape) (orderly : IsOrderly app) (covered : (n : ℕ) → is_covered app n ≡ true) (S : KeptSession) (M : SessionState) (stands : StandsForState app S M)
    (n : ℕ) (i : Node) (is : reader app n ≡ Some i) (x : is_expression i ≡ true) (rest : lives S n ≡ false) (m : ℕ) (wants : wanted app S n ≡ Some (read.Expr m)) where
  abbrev A : SessionState
  A = (visit_expression app n M).state

  asked : (Q : Read → Type 0) → EveryRead Q (trace app M n).asked → Q (read.Expr m)
  asked = wanted_asked app orderly S M stands n i is m wants

  -- where n is alive in the state, it has no site
  still_asked : is_alive (reader_state M n) ≡ true → EveryRead (IsAliveRead M) (trace app M n).asked
  still_asked h =
      subst (λ (e : Evaluation). EveryRead (IsAliveRead M) e.asked) (bare_now app orderly M n i is (left_bare app orderly S M stands n rest h))
      ((sound app orderly S M stands).at n i is (ap (λ b. b || is_output i) x) h).closed

  -- the visit of n makes it alive
  made_by : (b : Bool) → is_alive (reader_state M n) ≡ b → is_alive (reader_state A m) ≡ true
  made_by true h =
      subst (λ (v : VisitResult). is_alive (reader_state v.state m) ≡ true) (sym (visit_still app (length (readers app)) n M h)) (asked (IsAliveRead M) (still_asked h))
  made_by false h = elim (leaves_each app orderly covered M (sound app orderly S M stands) n i is x n) [
    | inl p ↦ absurd (not_both (visits app orderly covered M (sound app orderly S M stands) n i is x).alive (ap is_alive p ∙ h))
    | inr r ↦ asked (IsAliveRead A) r.asks
  ]

  pub visit_absorbed : (j : Node) → reader app m ≡ Some j → is_expression j ≡ true → (visit_expression app n (visit_expression app m M).state).state ≡ (visit_expression app n M).state
  visit_absorbed j js y = absorbs app orderly covered M (sound app orderly S M stands) n i is x m j js y (made_by (is_alive (reader_state M n)) refl)

-- ---- the induction

-- with the fresh outcome in a state
abbrev pub StandsFresh : Shape → ℕ → KeptSession → SessionState → Type 0
StandsFresh app n S N = StandsWith app n S N (fresh_outcome app N.values (isolated_of N) n)

-- one that is run isn't alive
abbrev pub IsDeadFor : Aim → ℕ → KeptSession → Type 0
IsDeadFor reading n s = ⊤
IsDeadFor running n s = lives s n ≡ false

pub forced : (app : Shape) → IsProper app → (aim : Aim) (bodies : List ℕ) (n : ℕ) (s s' : KeptSession) → Brings app aim bodies n s s' → (M : SessionState) → StandsForState app s M
    → (i : Node) → reader app n ≡ Some i → is_expression i ≡ true → IsDeadFor aim n s → StandsFresh app n s' (visit_expression app n M).state
forced app p _ _ _ _ _ (living n s h) M st i is x rest =
    subst (λ (v : VisitResult). StandsFresh app n s v.state) (sym (visit_still app (length (readers app)) n M (live_alive app (orderly app p) s M st n h)))
    (record { stands = st; keeps = st.outcomes n i is (ap (λ b. b || is_output i) x) h })
forced app p _ _ _ _ _ (dead bodies n s s' h f) M st i is x rest = forced app p running bodies n s s' f M st i is x h
forced app p _ _ _ _ _ (ends n s s' w alike) M st i is x rest =
    alike_with app n (run_kept app n s) s' (visit_expression app n M).state _ alike (expression_ends app (orderly app p) s M st n i is w (covered app p) x rest)
forced app p _ _ _ _ _ (hits n c xs s s' cached none values alike) M st i is x rest =
    alike_with app n (hit_kept app n c xs s) s' (visit_expression app n M).state _ alike
    (expression_hits app p.well_formed (orderly app p) (covered app p) s M st n i is c cached none xs values x rest)
forced app p _ _ _ _ _ (waits earlier later n m s s' s'' w f g) M st i is x rest =
    let low : m < n = wanted_smaller app (orderly app p) s n i is x m w in
    let e = expression_of app m (wanted_low app (orderly app p) s n i is m w).1 in
    let first : StandsFresh app m s' (visit_expression app m M).state = forced app p reading earlier m s s' f M st e.0 e.1 e.2 tt in
    let still : lives s' n ≡ false = beyond app (orderly app p) reading earlier m s s' f e.0 e.1 e.2 n low ∙ rest in
    subst (StandsFresh app n s'') (visit_absorbed app (orderly app p) (covered app p) s M st n i is x rest m w e.0 e.1 e.2)
    (forced app p running later n s' s'' g (visit_expression app m M).state first.stands i is x still)

pub force_stands : ForceStands
force_stands app p S T M stands n i is x bodies brings = forced app p reading bodies n S T brings M stands i is x tt

-- What is kept for one reader is put, and the session stands for a state in which beside that reader only some without a site
-- were run.
use Rattle.std.proofs.Common.{◌≡◌, ◌≢◌, inl, inr, ◌⊎◌, ◌<◌, ℕ, Bool, true, false, length, Some, refl, sym, ap, ◌∙◌, subst, arith}
use Rattle.std.proofs.lemmas.Bool.Decides.{eqb_tells}
use Rattle.app_tree.specs.Tree.{Node, Shape}
use Rattle.app_tree.specs.Numbering.{readers, reader, is_evaluated}
use Rattle.app_tree.specs.Evaluate.{Evaluation}
use Rattle.app_tree.specs.Fresh.{fresh_outcome}
use Rattle.session_model.specs.declared.state.ReaderState.{ReaderState}
use Rattle.session_model.specs.State.{SessionState, isolated_of, reader_state, is_alive}
use Rattle.session_model.specs.Standing.{is_live, did_run, dependence_of, IsSameDependence, IsBehind, KeptReader, KeptSession, kept_reader, is_bare, IsRunning, StandsForState}
use Rattle.app_laws.specs.Orderly.{IsOrderly}
use Rattle.session_laws.specs.Now.{site_now}
use Rattle.session_laws.specs.Sound.{IsSound}
use Rattle.session_laws.proofs.Consistent.{sound_consistent}
use Rattle.session_laws.proofs.Freshness.{reader_fresh}
use Rattle.session_laws.proofs.Moving.{not_both}
use Rattle.session_laws.proofs.StandingLaws.{live_is}
use Rattle.session_laws.proofs.Staying.{Same, evaluation_same}
use Rattle.session_steps.specs.Keeping.{lives, with_kept}
use Rattle.session_steps.proofs.Dependences.{dead_behind}
use Rattle.session_steps.proofs.KeptReaders.{kept_here, kept_there, kept_size}
use Rattle.session_steps.proofs.Living.{sound, live_alive}

-- reader j has no site, and was run in the state
pub record IsLeftOut (app : Shape) (M N : SessionState) (j : ℕ) : Type 0 where
  pub bare : is_bare (reader app j) ≡ true
  pub was : is_alive (reader_state M j) ≡ false
  pub is : is_alive (reader_state N j) ≡ true

abbrev pub IsLeftOrOut : Shape → SessionState → SessionState → ℕ → Type 0
IsLeftOrOut app M N j = (reader_state N j ≡ reader_state M j) ⊎ IsLeftOut app M N j

-- what is put for reader n is what the state has of it
pub record IsPut (app : Shape) (N : SessionState) (n : ℕ) (r : KeptReader) : Type 0 where
  pub depends : is_bare (reader app n) ≡ false → IsSameDependence r.dependence (dependence_of (reader_state N n).dependencies)
  pub behind : is_bare (reader app n) ≡ true → IsBehind r.dependence (dependence_of (reader_state N n).dependencies)
  pub sites : is_bare (reader app n) ≡ false → r.isolated ≡ (reader_state N n).isolated
  pub gives : (i : Node) → reader app n ≡ Some i → is_evaluated i ≡ true → r.outcome ≡ fresh_outcome app N.values (isolated_of N) n

module _ (app : Shape) (orderly : IsOrderly app) (S : KeptSession) (M N : SessionState) (stands : StandsForState app S M) (later : IsSound app N) (same : Same app M N)
    (n : ℕ) (room : n < length (readers app)) (each : (j : ℕ) → j ≢ n → IsLeftOrOut app M N j) (r : KeptReader) (put : IsPut app N n r)
    (ran : did_run (kept_reader S n).dependence ≡ true → did_run r.dependence ≡ true) where
  abbrev T : KeptSession
  T = with_kept n r S

  mine : kept_reader T n ≡ r
  mine = kept_here S n r (let size = stands.size in omega (room, size, arith))

  theirs : (m : ℕ) → m ≢ n → kept_reader T m ≡ kept_reader S m
  theirs m d = kept_there S n m r d

  fresh_same : (m : ℕ) (i : Node) → reader app m ≡ Some i → is_evaluated i ≡ true → reader_state N m ≡ reader_state M m → is_alive (reader_state M m) ≡ true
      → fresh_outcome app M.values (isolated_of M) m ≡ fresh_outcome app N.values (isolated_of N) m
  fresh_same m i is x p a =
      ap (λ (y : Evaluation). y.outcome)
      (reader_fresh app orderly M (sound app orderly S M stands) m i is x a ∙ sym (evaluation_same app same m (ap (site_now app m) p)) ∙ sym (reader_fresh app orderly N later m i is x (ap is_alive p ∙ a)))

  -- ---- of the other readers
  depends_there : (m : ℕ) → m ≢ n → is_bare (reader app m) ≡ false → IsLeftOrOut app M N m → IsSameDependence (kept_reader T m).dependence (dependence_of (reader_state N m).dependencies)
  depends_there m d b (inl p) =
      subst (λ (x : KeptReader). IsSameDependence x.dependence (dependence_of (reader_state N m).dependencies)) (sym (theirs m d))
      (subst (λ (x : ReaderState). IsSameDependence (kept_reader S m).dependence (dependence_of x.dependencies)) (sym p) (stands.dependences m b))
  depends_there m d b (inr s) = absurd (not_both s.bare b)

  dead_there : (m : ℕ) → is_alive (reader_state M m) ≡ false → (b : Bool) → lives S m ≡ b → lives S m ≡ false
  dead_there m h false q = q
  dead_there m h true q = absurd (not_both (live_alive app orderly S M stands m q) h)

  behind_there : (m : ℕ) → m ≢ n → is_bare (reader app m) ≡ true → IsLeftOrOut app M N m → IsBehind (kept_reader T m).dependence (dependence_of (reader_state N m).dependencies)
  behind_there m d b (inl p) =
      subst (λ (x : KeptReader). IsBehind x.dependence (dependence_of (reader_state N m).dependencies)) (sym (theirs m d))
      (subst (λ (x : ReaderState). IsBehind (kept_reader S m).dependence (dependence_of x.dependencies)) (sym p) (stands.bare_dependences m b))
  behind_there m d b (inr s) =
      subst (λ (x : KeptReader). IsBehind x.dependence (dependence_of (reader_state N m).dependencies)) (sym (theirs m d))
      (dead_behind (kept_reader S m).dependence (dependence_of (reader_state N m).dependencies) (dead_there m s.was (lives S m) refl) (live_is (reader_state N m) ∙ s.is))

  sites_there : (m : ℕ) → m ≢ n → is_bare (reader app m) ≡ false → IsLeftOrOut app M N m → (kept_reader T m).isolated ≡ (reader_state N m).isolated
  sites_there m d b (inl p) = ap (λ (x : KeptReader). x.isolated) (theirs m d) ∙ stands.isolated m b ∙ sym (ap (λ (x : ReaderState). x.isolated) p)
  sites_there m d b (inr s) = absurd (not_both s.bare b)

  gives_there : (m : ℕ) (i : Node) → m ≢ n → reader app m ≡ Some i → is_evaluated i ≡ true → lives T m ≡ true → IsLeftOrOut app M N m → (kept_reader T m).outcome ≡ fresh_outcome app N.values (isolated_of N) m
  gives_there m i d is x h (inl p) =
      let live : lives S m ≡ true = sym (ap (λ (y : KeptReader). is_live y.dependence) (theirs m d)) ∙ h in
      ap (λ (y : KeptReader). y.outcome) (theirs m d) ∙ stands.outcomes m i is x live ∙ fresh_same m i is x p (live_alive app orderly S M stands m live)
  gives_there m i d is x h (inr s) =
      absurd (not_both (live_alive app orderly S M stands m (sym (ap (λ (y : KeptReader). is_live y.dependence) (theirs m d)) ∙ h)) s.was)

  ran_there : (m : ℕ) → did_run (kept_reader S m).dependence ≡ true → did_run (kept_reader T m).dependence ≡ true
  ran_there m h = elim (eqb_tells m n) [
    | inl p ↦ subst (λ z. did_run (kept_reader T z).dependence ≡ true) (sym p.1) (ap (λ (y : KeptReader). did_run y.dependence) mine ∙ ran (subst (λ z. did_run (kept_reader S z).dependence ≡ true) p.1 h))
    | inr p ↦ ap (λ (y : KeptReader). did_run y.dependence) (theirs m p.1) ∙ h
  ]

  pub put_stands : StandsForState app T N
  put_stands = record {
    values = stands.values ∙ sym same.values;
    size = kept_size S n r ∙ stands.size;
    consistent = sound_consistent app orderly N later;
    dependences = λ m b. elim (eqb_tells m n) [
      | inl p ↦ subst (λ z. IsSameDependence (kept_reader T z).dependence (dependence_of (reader_state N z).dependencies)) (sym p.1)
          (subst (λ (x : KeptReader). IsSameDependence x.dependence (dependence_of (reader_state N n).dependencies)) (sym mine) (put.depends (subst (λ z. is_bare (reader app z) ≡ false) p.1 b)))
      | inr p ↦ depends_there m p.1 b (each m p.1)
    ];
    bare_dependences = λ m b. elim (eqb_tells m n) [
      | inl p ↦ subst (λ z. IsBehind (kept_reader T z).dependence (dependence_of (reader_state N z).dependencies)) (sym p.1)
          (subst (λ (x : KeptReader). IsBehind x.dependence (dependence_of (reader_state N n).dependencies)) (sym mine) (put.behind (subst (λ z. is_bare (reader app z) ≡ true) p.1 b)))
      | inr p ↦ behind_there m p.1 b (each m p.1)
    ];
    isolated = λ m b. elim (eqb_tells m n) [
      | inl p ↦ subst (λ z. (kept_reader T z).isolated ≡ (reader_state N z).isolated) (sym p.1) (ap (λ (x : KeptReader). x.isolated) mine ∙ put.sites (subst (λ z. is_bare (reader app z) ≡ false) p.1 b))
      | inr p ↦ sites_there m p.1 b (each m p.1)
    ];
    outcomes = λ m i is x h. elim (eqb_tells m n) [
      | inl p ↦ subst (λ z. (kept_reader T z).outcome ≡ fresh_outcome app N.values (isolated_of N) z) (sym p.1) (ap (λ (y : KeptReader). y.outcome) mine ∙ put.gives i (subst (λ z. reader app z ≡ Some i) p.1 is) x)
      | inr p ↦ gives_there m i p.1 is x h (each m p.1)
    ];
    running = λ m h. let old : IsRunning app S m = stands.running m h in record { observer = old.observer; ran = ran_there m old.ran };
  }

  pub put_outcome : (kept_reader (with_kept n r S) n).outcome ≡ r.outcome
  put_outcome = ap (λ (y : KeptReader). y.outcome) mine

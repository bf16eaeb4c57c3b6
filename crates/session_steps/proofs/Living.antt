-- What lives in a session that stands for a state is alive there, and known as it is now.
use Rattle.std.proofs.Common.{◌≡◌, ℕ, Bool, true, false, [], Option, Some, None, refl, sym, ap, ◌∙◌}
use Rattle.std.specs.Prelude.{◌||◌, unwrap_or, if◌then◌else◌}
use Rattle.rx_value.specs.declared.outcome.Outcome.{Outcome}
use Rattle.rx_value.specs.declared.outcome.Outcome.TheVariants.{Stop}
use Rattle.app_tree.specs.declared.term.Read.{Read}
use Rattle.app_tree.specs.declared.term.Read.TheVariants as read
use Rattle.app_tree.specs.Tree.{Node, input, value, task, reactive, event, text, plot, observe, on, Shape}
use Rattle.app_tree.specs.Numbering.{reader, is_expression, is_output, is_evaluated}
use Rattle.app_tree.specs.Current.{told}
use Rattle.app_tree.specs.Fresh.{Known, known_at, answer_to, is_among, sources_of_read, sources_of_reads, is_expression_at, ignored_site, first_sites}
use Rattle.session_model.specs.State.{SessionState, reader_state, sources_in, has_run, is_alive}
use Rattle.session_model.specs.Standing.{is_live, did_run, dependence_of, HasSameMembers, KeptSession, kept_reader, is_bare, IsAliveRead, StandsForState}
use Rattle.app_laws.specs.Orderly.{ReadsBelow, IsOrderly}
use Rattle.app_laws.proofs.FirstRun.{none_ignored}
use Rattle.app_laws.proofs.KnownLists.{known_fixed}
use Rattle.session_laws.specs.Now.{open_site, sites_now, known_now, evaluation_now}
use Rattle.session_laws.specs.Sound.{IsSound}
use Rattle.session_laws.proofs.Consistent.{consistent_sound}
use Rattle.session_laws.proofs.Freshness.{expression_now}
use Rattle.session_laws.proofs.StandingLaws.{live_is}
use Rattle.session_laws.proofs.Walking.{expression_of}
use Rattle.session_steps.specs.Keeping.{reached_by, kept_known, lives, outcome_if_alive, kept_answer, open_site_of}
use Rattle.session_steps.proofs.Dependences.{same_live, same_ran, IsAliveToo, same_alive, behind_alive, alive_is, ran_is}
use Rattle.session_steps.proofs.KeptReaders.{known_kept}
use Rattle.session_steps.proofs.Wanting.{IsLiveRead}

-- ---- sites

-- an expression without a site has no body to ignore
bare_ignores : (o : Option Node) → is_bare o ≡ true → ignored_site o ≡ None
bare_ignores None h = refl
bare_ignores (Some (input name start)) h = refl
bare_ignores (Some (value name start)) h = refl
bare_ignores (Some (task name parameters body)) h = refl
bare_ignores (Some (reactive name keys body)) h = refl
bare_ignores (Some (event name flags e body)) h = cc
bare_ignores (Some (text name shown)) h = refl
bare_ignores (Some (plot name shown)) h = refl
bare_ignores (Some (observe name priority block)) h = refl
bare_ignores (Some (on name priority flags e block)) h = refl

both_open : (b : Bool) (x : Option Outcome) → x ≡ None → (if b then None else x) ≡ None
both_open true x h = refl
both_open false x h = h

module _ (app : Shape) (orderly : IsOrderly app) (S : KeptSession) (M : SessionState) (stands : StandsForState app S M) where
  pub sound : IsSound app M
  sound = consistent_sound app orderly M stands.consistent

  -- ---- who lives

  alive_too : (n : ℕ) (b : Bool) → is_bare (reader app n) ≡ b → lives S n ≡ true → IsAliveToo (kept_reader S n).dependence (dependence_of (reader_state M n).dependencies)
  alive_too n true q h = behind_alive (kept_reader S n).dependence (dependence_of (reader_state M n).dependencies) (stands.bare_dependences n q) h
  alive_too n false q h = same_alive (kept_reader S n).dependence (dependence_of (reader_state M n).dependencies) (stands.dependences n q) h

  pub live_alive : (n : ℕ) → lives S n ≡ true → is_alive (reader_state M n) ≡ true
  live_alive n h = sym (live_is (reader_state M n)) ∙ (alive_too n (is_bare (reader app n)) refl h).live

  pub live_reached : (n : ℕ) → lives S n ≡ true → HasSameMembers (reached_by (kept_reader S n).dependence) (sources_in (reader_state M n).dependencies)
  live_reached n h s = (alive_too n (is_bare (reader app n)) refl h).reached s ∙ ap (λ d. is_among s (reached_by d)) (alive_is (reader_state M n) (live_alive n h))

  -- where it isn't alive in the session alone, it has no site
  pub left_bare : (n : ℕ) → lives S n ≡ false → is_alive (reader_state M n) ≡ true → is_bare (reader app n) ≡ true
  left_bare n dead alive = by (is_bare (reader app n)) refl
    where
      by : (b : Bool) → is_bare (reader app n) ≡ b → is_bare (reader app n) ≡ true
      by true q = q
      by false q =
          let same = same_live_of q in
          let no : true ≡ false = sym (live_is (reader_state M n) ∙ alive) ∙ sym same ∙ dead in
          cc
        where
          same_live_of : is_bare (reader app n) ≡ false → lives S n ≡ is_live (dependence_of (reader_state M n).dependencies)
          same_live_of p = same_live (kept_reader S n).dependence (dependence_of (reader_state M n).dependencies) (stands.dependences n p)

  -- ---- its sites, as it runs
  sites_by : (n s : ℕ) (b : Bool) → is_bare (reader app n) ≡ b → open_site_of app S n s ≡ open_site app n (reader_state M n) s
  sites_by n s false q =
      ap (λ b. if b then None else first_sites app n s) (same_ran (kept_reader S n).dependence (dependence_of (reader_state M n).dependencies) (stands.dependences n q) ∙ ran_is (reader_state M n))
  sites_by n s true q =
      let none : first_sites app n s ≡ None = none_ignored app n (bare_ignores (reader app n) q) s in
      both_open (did_run (kept_reader S n).dependence) (first_sites app n s) none ∙ sym (both_open (has_run (reader_state M n)) (first_sites app n s) none)

  pub sites_as : (n s : ℕ) → open_site_of app S n s ≡ open_site app n (reader_state M n) s
  sites_as n s = sites_by n s (is_bare (reader app n)) refl

  -- ---- what is known of it
  module _ (m : ℕ) (e : is_expression_at (reader app m) ≡ true) (h : lives S m ≡ true) where
    x : (i : Node) × (reader app m ≡ Some i) × (is_expression i ≡ true)
    x = expression_of app m e

    evaluated : is_evaluated x.0 ≡ true
    evaluated = ap (λ b. b || is_output x.0) x.2

    fixed : known_at (known_now app M) m ≡ record { outcome = (evaluation_now app M m).outcome; sources = sources_of_reads app (known_now app M) [] (evaluation_now app M m).outside }
    fixed = known_fixed app M.values (sites_now app M) orderly m x.0 x.1 x.2

    pub known_outcome : (known_at (kept_known S) m).outcome ≡ (known_at (known_now app M) m).outcome
    known_outcome =
        ap (λ (k : Known). k.outcome) (known_kept S m) ∙ stands.outcomes m x.0 x.1 evaluated h
        ∙ expression_now app orderly M sound m x.0 x.1 x.2 (live_alive m h)

    pub known_sources : HasSameMembers (known_at (kept_known S) m).sources (known_at (known_now app M) m).sources
    known_sources s =
        ap (λ (k : Known). is_among s k.sources) (known_kept S m) ∙ live_reached m h s
        ∙ (sound.at m x.0 x.1 evaluated (live_alive m h)).sources s
        ∙ ap (λ (k : Known). is_among s k.sources) (sym fixed)

  -- ---- reads

  pub read_alive : (k : ℕ) (r : Read) → ReadsBelow app k r → IsLiveRead app S r → IsAliveRead M r
  read_alive k (read.Expr m) l h = live_alive m h
  read_alive k (read.Input s) l h = tt
  read_alive k (read.Value s) l h = tt
  read_alive k (read.Status s) l h = tt
  read_alive k (read.Result s) l h = tt
  read_alive k (read.Width m) l h = tt
  read_alive k (read.Height m) l h = tt

  pub live_answer : (k : ℕ) (r : Read) → ReadsBelow app k r → IsLiveRead app S r → unwrap_or (kept_answer app S r) Stop ≡ answer_to app M.values (known_now app M) r
  live_answer k (read.Expr m) l h =
      ap (λ b. unwrap_or (outcome_if_alive b (kept_reader S m).outcome) Stop) h ∙ ap (λ (x : Known). x.outcome) (sym (known_kept S m)) ∙ known_outcome m l.1 h
  live_answer k (read.Input s) l h = ap (λ v. told app v (read.Input s)) stands.values
  live_answer k (read.Value s) l h = ap (λ v. told app v (read.Value s)) stands.values
  live_answer k (read.Status s) l h = ap (λ v. told app v (read.Status s)) stands.values
  live_answer k (read.Result s) l h = ap (λ v. told app v (read.Result s)) stands.values
  live_answer k (read.Width m) l h = ap (λ v. told app v (read.Width m)) stands.values
  live_answer k (read.Height m) l h = ap (λ v. told app v (read.Height m)) stands.values

  abbrev pub ReachesAlike : Read → Type 0
  ReachesAlike r = HasSameMembers (sources_of_read app (kept_known S) r) (sources_of_read app (known_now app M) r)

  pub live_sources : (k : ℕ) (r : Read) → ReadsBelow app k r → IsLiveRead app S r → ReachesAlike r
  live_sources k (read.Expr m) l h = known_sources m l.1 h
  live_sources k (read.Input s) l h = λ t. refl
  live_sources k (read.Value s) l h = λ t. refl
  live_sources k (read.Status s) l h = λ t. refl
  live_sources k (read.Result s) l h = λ t. refl
  live_sources k (read.Width m) l h = λ t. refl
  live_sources k (read.Height m) l h = λ t. refl

  -- what the session answers is what it is now
  pub tells : (k : ℕ) (r : Read) → ReadsBelow app k r → (o : Outcome) → kept_answer app S r ≡ Some o → IsLiveRead app S r → answer_to app M.values (known_now app M) r ≡ o
  tells k r l o h live = sym (live_answer k r l live) ∙ ap (λ x. unwrap_or x Stop) h

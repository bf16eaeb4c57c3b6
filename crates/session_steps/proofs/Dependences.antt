-- What readers are known to depend on, up to the order of sources.
use Rattle.std.proofs.Common.{◌≡◌, ℕ, Bool, true, false, List, Option, Some, None, refl, sym, ap, ◌∙◌}
use Rattle.std.specs.Prelude.{is_some, not}
use Rattle.std.proofs.lemmas.Bool.{false≢true}
use Rattle.session_model.specs.declared.state.Dependencies.{Dependencies}
use Rattle.session_model.specs.declared.state.ReaderState.{ReaderState}
use Rattle.session_model.specs.State.{sources_in, is_alive}
use Rattle.session_model.specs.Standing.{HasSameMembers, Dependence, never_run, stale, alive, is_live, did_run, dependence_by, dependence_of, IsSameDependence, IsBehind}
use Rattle.session_steps.specs.Keeping.{reached_by}
use Rattle.session_laws.proofs.Staying.{alive_by}

-- ---- the order of sources says nothing

pub same_before : (d e f : Dependence) → IsSameDependence d e → IsSameDependence d f → IsSameDependence e f
same_before never_run never_run f p q = q
same_before stale stale f p q = q
same_before (alive xs) (alive ys) (alive zs) p q = λ s. sym (p s) ∙ q s
same_before (alive xs) (alive ys) never_run p q = absurd q
same_before (alive xs) (alive ys) stale p q = absurd q
same_before never_run stale f p q = absurd p
same_before never_run (alive ys) f p q = absurd p
same_before stale never_run f p q = absurd p
same_before stale (alive ys) f p q = absurd p
same_before (alive xs) never_run f p q = absurd p
same_before (alive xs) stale f p q = absurd p

pub behind_before : (d e f : Dependence) → IsSameDependence d e → IsBehind d f → IsBehind e f
behind_before never_run never_run f p q = tt
behind_before stale stale f p q = q
behind_before (alive xs) (alive ys) (alive zs) p q = λ s. sym (p s) ∙ q s
behind_before (alive xs) (alive ys) never_run p q = absurd q
behind_before (alive xs) (alive ys) stale p q = absurd q
behind_before never_run stale f p q = absurd p
behind_before never_run (alive ys) f p q = absurd p
behind_before stale never_run f p q = absurd p
behind_before stale (alive ys) f p q = absurd p
behind_before (alive xs) never_run f p q = absurd p
behind_before (alive xs) stale f p q = absurd p

pub same_live : (d e : Dependence) → IsSameDependence d e → is_live d ≡ is_live e
same_live never_run never_run p = refl
same_live stale stale p = refl
same_live (alive xs) (alive ys) p = refl
same_live never_run stale p = absurd p
same_live never_run (alive ys) p = absurd p
same_live stale never_run p = absurd p
same_live stale (alive ys) p = absurd p
same_live (alive xs) never_run p = absurd p
same_live (alive xs) stale p = absurd p

pub same_ran : (d e : Dependence) → IsSameDependence d e → did_run d ≡ did_run e
same_ran never_run never_run p = refl
same_ran stale stale p = refl
same_ran (alive xs) (alive ys) p = refl
same_ran never_run stale p = absurd p
same_ran never_run (alive ys) p = absurd p
same_ran stale never_run p = absurd p
same_ran stale (alive ys) p = absurd p
same_ran (alive xs) never_run p = absurd p
same_ran (alive xs) stale p = absurd p

-- ---- of what is alive

-- the other one is alive too, and depends on the same
pub record IsAliveToo (d e : Dependence) : Type 0 where
  pub live : is_live e ≡ true
  pub reached : HasSameMembers (reached_by d) (reached_by e)

pub same_alive : (d e : Dependence) → IsSameDependence d e → is_live d ≡ true → IsAliveToo d e
same_alive (alive xs) (alive ys) p h = record { live = refl; reached = p }
same_alive (alive xs) never_run p h = absurd p
same_alive (alive xs) stale p h = absurd p
same_alive never_run e p h = cc
same_alive stale e p h = cc

pub behind_alive : (d e : Dependence) → IsBehind d e → is_live d ≡ true → IsAliveToo d e
behind_alive (alive xs) (alive ys) p h = record { live = refl; reached = p }
behind_alive (alive xs) never_run p h = absurd p
behind_alive (alive xs) stale p h = absurd p
behind_alive never_run e p h = cc
behind_alive stale e p h = cc

-- one that isn't alive is behind each that is
pub dead_behind : (d e : Dependence) → is_live d ≡ false → is_live e ≡ true → IsBehind d e
dead_behind never_run e h k = tt
dead_behind stale (alive ys) h k = tt
dead_behind stale never_run h k = cc
dead_behind stale stale h k = cc
dead_behind (alive xs) e h k = cc

-- and the other way round, where the two are the same
pub both_same : (sources : List ℕ) (e : Dependence) → is_live e ≡ true → HasSameMembers sources (reached_by e) → IsSameDependence (alive sources) e
both_same sources (alive ys) h p = p
both_same sources never_run h p = cc
both_same sources stale h p = cc

pub both_behind : (sources : List ℕ) (e : Dependence) → is_live e ≡ true → HasSameMembers sources (reached_by e) → IsBehind (alive sources) e
both_behind sources (alive ys) h p = p
both_behind sources never_run h p = cc
both_behind sources stale h p = cc

-- ---- of a state's reader

-- one that is alive depends on what it has reached
alive_where : (d : Option Dependencies) → alive_by d ≡ true → dependence_of d ≡ alive (sources_in d)
alive_where None h = cc
alive_where (Some d) h = by d.changed refl
  where
    by : (b : Bool) → d.changed ≡ b → dependence_by d.changed d.sources ≡ alive d.sources
    by false q = ap (λ z. dependence_by z d.sources) q
    by true q = absurd (false≢true (ap not (sym q) ∙ h))

pub alive_is : (r : ReaderState) → is_alive r ≡ true → dependence_of r.dependencies ≡ alive (sources_in r.dependencies)
alive_is r h = alive_where r.dependencies h

ran_by : (d : Option Dependencies) → did_run (dependence_of d) ≡ is_some d
ran_by None = refl
ran_by (Some d) = by d.changed
  where
    by : (b : Bool) → did_run (dependence_by b d.sources) ≡ true
    by true = refl
    by false = refl

pub ran_is : (r : ReaderState) → did_run (dependence_of r.dependencies) ≡ is_some r.dependencies
ran_is r = ran_by r.dependencies

-- A session that stands for a state stands for it after a write to both.
use Rattle.std.proofs.Common.{◌≡◌, ℕ, Bool, true, false, List, Option, Some, None, refl, sym, ap, ◌∙◌, subst}
use Rattle.std.specs.Prelude.{slice_set, if◌then◌else◌}
use Rattle.std.proofs.lemmas.Bool.{false≢true}
use Rattle.rx_value.specs.declared.source.SourceValue.{SourceValue}
use Rattle.rx_value.specs.Value.{source_eq}
use Rattle.app_tree.specs.Tree.{Node, Shape}
use Rattle.app_tree.specs.Numbering.{reader, is_evaluated}
use Rattle.app_tree.specs.Current.{value_at}
use Rattle.app_tree.specs.Cover.{is_covered}
use Rattle.app_tree.specs.Evaluate.{Evaluation}
use Rattle.app_tree.specs.Fresh.{is_among, fresh_outcome}
use Rattle.session_model.specs.declared.state.Dependencies.{Dependencies}
use Rattle.session_model.specs.declared.state.ReaderState.{ReaderState}
use Rattle.session_model.specs.State.{SessionState, isolated_of, reader_state, is_alive}
use Rattle.session_model.specs.Change.{marked_dependencies, with_source_value}
use Rattle.session_model.specs.Standing.{HasSameMembers, Dependence, never_run, stale, alive, is_live, did_run, dependence_by, dependence_of, IsSameDependence, IsBehind, KeptReader, KeptSession, first_kept, kept_reader, IsRunning, StandsForState}
use Rattle.app_laws.specs.Orderly.{IsOrderly}
use Rattle.session_laws.specs.Sound.{IsSound}
use Rattle.session_laws.proofs.Proper.{orderly, covered}
use Rattle.session_laws.proofs.Consistent.{sound_consistent}
use Rattle.session_laws.proofs.Freshness.{reader_fresh}
use Rattle.session_laws.proofs.States.{get_mapped}
use Rattle.session_laws.proofs.Changing.{map_size, still_alive, marked_at, unchanged, changed_sound}
use Rattle.session_steps.specs.Keeping.{reached_by}
use Rattle.session_steps.specs.Acting.{marked_dependence, marked_kept, changed_kept, write_kept}
use Rattle.session_steps.specs.StandLaws.{WriteStands}
use Rattle.session_steps.proofs.Living.{sound, live_alive, live_reached}

-- ---- marks

-- a mark on what the state has is the mark on what is known of it
mark_by : (s : ℕ) (b c : Bool) (sources : List ℕ) → is_among s sources ≡ c
    → dependence_of (Some (if c then record { sources = sources; changed = true } else record { sources = sources; changed = b })) ≡ marked_dependence s (dependence_by b sources)
mark_by s true true sources h = refl
mark_by s true false sources h = refl
mark_by s false true sources h = ap (λ z. dependence_by z sources) (sym h)
mark_by s false false sources h = ap (λ z. dependence_by z sources) (sym h)

marked_is : (s : ℕ) (d : Option Dependencies) → dependence_of (marked_dependencies s d) ≡ marked_dependence s (dependence_of d)
marked_is s None = refl
marked_is s (Some d) = mark_by s d.changed (is_among s d.sources) d.sources refl

both_marked : (b c : Bool) (xs ys : List ℕ) → b ≡ c → HasSameMembers xs ys → IsSameDependence (dependence_by b xs) (dependence_by c ys)
both_marked true true xs ys q p = tt
both_marked false false xs ys q p = p
both_marked true false xs ys q p = cc
both_marked false true xs ys q p = cc

behind_marked : (b c : Bool) (xs ys : List ℕ) → b ≡ c → HasSameMembers xs ys → IsBehind (dependence_by b xs) (dependence_by c ys)
behind_marked true true xs ys q p = tt
behind_marked false false xs ys q p = p
behind_marked true false xs ys q p = cc
behind_marked false true xs ys q p = cc

mark_same : (s : ℕ) (d e : Dependence) → IsSameDependence d e → IsSameDependence (marked_dependence s d) (marked_dependence s e)
mark_same s never_run never_run p = tt
mark_same s stale stale p = tt
mark_same s (alive xs) (alive ys) p = both_marked (is_among s xs) (is_among s ys) xs ys (p s) p
mark_same s never_run stale p = absurd p
mark_same s never_run (alive ys) p = absurd p
mark_same s stale never_run p = absurd p
mark_same s stale (alive ys) p = absurd p
mark_same s (alive xs) never_run p = absurd p
mark_same s (alive xs) stale p = absurd p

stale_behind : (b : Bool) (xs : List ℕ) → IsBehind stale (dependence_by b xs)
stale_behind true xs = tt
stale_behind false xs = tt

mark_behind : (s : ℕ) (d e : Dependence) → IsBehind d e → IsBehind (marked_dependence s d) (marked_dependence s e)
mark_behind s never_run e p = tt
mark_behind s stale never_run p = absurd p
mark_behind s stale stale p = tt
mark_behind s stale (alive ys) p = stale_behind (is_among s ys) ys
mark_behind s (alive xs) (alive ys) p = behind_marked (is_among s xs) (is_among s ys) xs ys (p s) p
mark_behind s (alive xs) never_run p = absurd p
mark_behind s (alive xs) stale p = absurd p

-- who lives behind a mark lived before, and had reached nothing of it
pub record StaysLive (s : ℕ) (d : Dependence) : Type 0 where
  pub live : is_live d ≡ true
  pub apart : is_among s (reached_by d) ≡ false

lived : (s : ℕ) (d : Dependence) → is_live (marked_dependence s d) ≡ true → StaysLive s d
lived s never_run h = cc
lived s stale h = cc
lived s (alive xs) h = by (is_among s xs) refl h
  where
    by : (b : Bool) → is_among s xs ≡ b → is_live (dependence_by b xs) ≡ true → StaysLive s (alive xs)
    by true q k = absurd (false≢true k)
    by false q k = record { live = refl; apart = q }

mark_ran : (s : ℕ) (d : Dependence) → did_run (marked_dependence s d) ≡ did_run d
mark_ran s never_run = refl
mark_ran s stale = refl
mark_ran s (alive xs) = by (is_among s xs)
  where
    by : (b : Bool) → did_run (dependence_by b xs) ≡ true
    by true = refl
    by false = refl

-- ---- the write

pub kept_marked : (s n : ℕ) (x : SourceValue) (S : KeptSession) → kept_reader (changed_kept s x S) n ≡ marked_kept s (kept_reader S n)
kept_marked s n x S = get_mapped (marked_kept s) first_kept S.readers n

module _ (app : Shape) (orderly : IsOrderly app) (covered : (n : ℕ) → is_covered app n ≡ true) (S : KeptSession) (M : SessionState) (stands : StandsForState app S M) (s : ℕ) (x : SourceValue) where
  abbrev N : SessionState
  N = with_source_value s x M

  abbrev T : KeptSession
  T = changed_kept s x S

  before : IsSound app M
  before = sound app orderly S M stands

  after : IsSound app N
  after = changed_sound app orderly covered M before s x

  depends : (n : ℕ) → dependence_of (reader_state N n).dependencies ≡ marked_dependence s (dependence_of (reader_state M n).dependencies)
  depends n = ap (λ (r : ReaderState). dependence_of r.dependencies) (marked_at s n x M) ∙ marked_is s (reader_state M n).dependencies

  mine : (n : ℕ) → (kept_reader T n).dependence ≡ marked_dependence s (kept_reader S n).dependence
  mine n = ap (λ (r : KeptReader). r.dependence) (kept_marked s n x S)

  -- who lives behind the write gives what it gave
  gives : (n : ℕ) (i : Node) → reader app n ≡ Some i → is_evaluated i ≡ true → is_live (kept_reader T n).dependence ≡ true → (kept_reader T n).outcome ≡ fresh_outcome app N.values (isolated_of N) n
  gives n i is e live =
      let was : StaysLive s (kept_reader S n).dependence = lived s (kept_reader S n).dependence (ap is_live (sym (mine n)) ∙ live) in
      let alive_before : is_alive (reader_state M n) ≡ true = live_alive app orderly S M stands n was.live in
      let alive_after : is_alive (reader_state N n) ≡ true =
      ap is_alive (marked_at s n x M) ∙ still_alive s (reader_state M n) alive_before (sym (live_reached app orderly S M stands n was.live s) ∙ was.apart) in
      ap (λ (r : KeptReader). r.outcome) (kept_marked s n x S) ∙ stands.outcomes n i is e was.live
      ∙ ap (λ (y : Evaluation). y.outcome) (reader_fresh app orderly M before n i is e alive_before ∙ sym (unchanged app orderly covered M before s x n i is e alive_after) ∙ sym (reader_fresh app orderly N after n i is e alive_after))

  pub changed_stands : StandsForState app T N
  changed_stands = record {
    values = ap (λ v. slice_set v s x) stands.values;
    size = map_size (marked_kept s) S.readers ∙ stands.size;
    consistent = sound_consistent app orderly N after;
    dependences = λ n b. subst (λ d. IsSameDependence d (dependence_of (reader_state N n).dependencies)) (sym (mine n))
        (subst (IsSameDependence (marked_dependence s (kept_reader S n).dependence)) (sym (depends n)) (mark_same s (kept_reader S n).dependence (dependence_of (reader_state M n).dependencies) (stands.dependences n b)));
    bare_dependences = λ n b. subst (λ d. IsBehind d (dependence_of (reader_state N n).dependencies)) (sym (mine n))
        (subst (IsBehind (marked_dependence s (kept_reader S n).dependence)) (sym (depends n)) (mark_behind s (kept_reader S n).dependence (dependence_of (reader_state M n).dependencies) (stands.bare_dependences n b)));
    isolated = λ n b. ap (λ (r : KeptReader). r.isolated) (kept_marked s n x S) ∙ stands.isolated n b ∙ sym (ap (λ (r : ReaderState). r.isolated) (marked_at s n x M));
    outcomes = gives;
    running = λ n h.
        let old : IsRunning app S n = stands.running n h in
        record { observer = old.observer; ran = ap did_run (mine n) ∙ mark_ran s (kept_reader S n).dependence ∙ old.ran };
  }

  pub write_by : (b : Bool) → StandsForState app (if b then S else T) (if b then M else N)
  write_by true = stands
  write_by false = changed_stands

pub write_stands : WriteStands
write_stands app p S M stands s x =
    subst (λ v. StandsForState app (write_kept s x S) (if source_eq (value_at v s) x then M else with_source_value s x M)) stands.values
    (write_by app (orderly app p) (covered app p) S M stands s x (source_eq (value_at S.values s) x))

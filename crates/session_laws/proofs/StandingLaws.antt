-- The laws on sessions that stand for states.
use Rattle.std.proofs.Common.{◌≡◌, ◌<◌, ℕ, zero, suc, ◌+◌, Bool, true, false, List, [], ◌∷◌, length, Option, Some, None, refl, sym, ap, ◌∙◌, subst, arith}
use Rattle.std.specs.Prelude.{not, ◌&&◌, slice_get, unwrap_or, if◌then◌else◌}
use Rattle.std.proofs.lemmas.Bool.{false≢true}
use Rattle.app_tree.specs.Tree.{Node, Shape}
use Rattle.app_tree.specs.Numbering.{readers, reader}
use Rattle.app_tree.specs.Fresh.{fresh_outcome}
use Rattle.session_model.specs.declared.state.Dependencies.{Dependencies}
use Rattle.session_model.specs.declared.state.ReaderState.{ReaderState}
use Rattle.session_model.specs.State.{SessionState, first_reader, first_readers, first_state, isolated_of, reader_state, is_alive}
use Rattle.session_model.specs.Bodies.{bodies_counted}
use Rattle.session_model.specs.Alone.{state_after}
use Rattle.session_model.specs.Standing.{Dependence, never_run, stale, alive, is_live, dependence_by, dependence_of, KeptReader, first_kept, kept_reader, first_kept_readers, first_session, IsSameDependence, IsBehind, KeptOutput, first_output, first_outputs, fresh_answers, missing_below, kept_from, session_keeping_all, outputs_of}
use Rattle.session_laws.specs.StandingLaws.{JournalIsConsistent, FirstStands, KeepingAllStands, KeepingWhollyStands, NoneIsMissing}
use Rattle.app_laws.proofs.KnownLists.{get_in}
use Rattle.session_laws.proofs.Proper.{orderly, covered}
use Rattle.session_laws.proofs.Consistent.{sound_consistent}
use Rattle.session_laws.proofs.Journeys.{some_is, moved_on, get_some, journal_well}
use Rattle.session_laws.proofs.StepLaws.{first_is_consistent}

pub journal_is_consistent : JournalIsConsistent
journal_is_consistent app p journal = sound_consistent app (orderly app p) (state_after app journal) (journal_well app (orderly app p) (covered app p) journal).right.sound

-- ---- what is known to be depended on

pub same_itself : (d : Dependence) → IsSameDependence d d
same_itself never_run = tt
same_itself stale = tt
same_itself (alive sources) = λ s. refl

behind_itself : (d : Dependence) → IsBehind d d
behind_itself never_run = tt
behind_itself stale = tt
behind_itself (alive sources) = λ s. refl

-- it is alive where the state's reader is
live_by : (d : Option Dependencies) → (r : ReaderState) → r.dependencies ≡ d → is_live (dependence_of d) ≡ is_alive (record r { dependencies = d })
live_by None r h = refl
live_by (Some d) r h = marked d.changed
  where
    marked : (b : Bool) → is_live (dependence_by b d.sources) ≡ not b
    marked true = refl
    marked false = refl

pub live_is : (r : ReaderState) → is_live (dependence_of r.dependencies) ≡ is_alive r
live_is r = live_by r.dependencies r refl

-- ---- the session that keeps all

zero_front : (n : ℕ) → 0 + n ≡ n
zero_front n = omega arith

at_zero : (m : ℕ) → m ≡ m + 0
at_zero m = omega arith

-- what it keeps for a reader with this state
abbrev kept_of : Shape → SessionState → ℕ → ReaderState → KeptReader
kept_of app state n r = record { dependence = dependence_of r.dependencies; isolated = r.isolated; outcome = fresh_outcome app state.values (isolated_of state) n }

kept_there : (app : Shape) (state : SessionState) (m : ℕ) (rs : List ReaderState) (n : ℕ) (r : ReaderState) → slice_get rs n ≡ Some r → slice_get (kept_from app state m rs) n ≡ Some (kept_of app state (m + n) r)
kept_there app state m [] n r h = cc
kept_there app state m (q ∷ rs) zero r h = (λ j. Some (kept_of app state (at_zero m j) (some_is h j)))
kept_there app state m (q ∷ rs) (suc n) r h = kept_there app state (suc m) rs n r h ∙ ap (λ k. Some (kept_of app state k r)) (moved_on m n)

none_kept : (app : Shape) (state : SessionState) (m : ℕ) (rs : List ReaderState) (n : ℕ) → slice_get rs n ≡ None → slice_get (kept_from app state m rs) n ≡ None
none_kept app state m [] n h = refl
none_kept app state m (q ∷ rs) zero h = cc
none_kept app state m (q ∷ rs) (suc n) h = none_kept app state (suc m) rs n h

module _ (app : Shape) (state : SessionState) where
  -- what it has of a reader is what the state has of it
  record IsKept (n : ℕ) : Type 0 where
    dependence : (kept_reader (session_keeping_all app state) n).dependence ≡ dependence_of (reader_state state n).dependencies
    isolated : (kept_reader (session_keeping_all app state) n).isolated ≡ (reader_state state n).isolated

  kept_by : (n : ℕ) (o : Option ReaderState) → slice_get state.readers n ≡ o → IsKept n
  kept_by n None h = record {
    dependence = ap (λ x. (unwrap_or x first_kept).dependence) (none_kept app state 0 state.readers n h) ∙ sym (ap (λ x. dependence_of (unwrap_or x first_reader).dependencies) h);
    isolated = ap (λ x. (unwrap_or x first_kept).isolated) (none_kept app state 0 state.readers n h) ∙ sym (ap (λ x. (unwrap_or x first_reader).isolated) h);
  }
  kept_by n (Some r) h = record {
    dependence = ap (λ x. (unwrap_or x first_kept).dependence) (kept_there app state 0 state.readers n r h) ∙ sym (ap (λ x. dependence_of (unwrap_or x first_reader).dependencies) h);
    isolated = ap (λ x. (unwrap_or x first_kept).isolated) (kept_there app state 0 state.readers n r h) ∙ sym (ap (λ x. (unwrap_or x first_reader).isolated) h);
  }

  kept_is : (n : ℕ) → IsKept n
  kept_is n = kept_by n (slice_get state.readers n) refl

  kept_outcome : (n : ℕ) → n < length state.readers → (kept_reader (session_keeping_all app state) n).outcome ≡ fresh_outcome app state.values (isolated_of state) n
  kept_outcome n h =
      let r = get_some state.readers n h in
      ap (λ x. (unwrap_or x first_kept).outcome) (kept_there app state 0 state.readers n r.0 r.1) ∙ ap (fresh_outcome app state.values (isolated_of state)) (zero_front n)

  kept_size : (m : ℕ) (rs : List ReaderState) → length (kept_from app state m rs) ≡ length rs
  kept_size m [] = refl
  kept_size m (r ∷ rs) = ap suc (kept_size (suc m) rs)

pub keeping_all_stands : KeepingAllStands
keeping_all_stands app state consistent = record {
  values = refl;
  size = kept_size app state 0 state.readers ∙ consistent.size;
  consistent = consistent;
  dependences = λ n b. subst (λ d. IsSameDependence d (dependence_of (reader_state state n).dependencies)) (sym (kept_is app state n).dependence) (same_itself (dependence_of (reader_state state n).dependencies));
  bare_dependences = λ n b. subst (λ d. IsBehind d (dependence_of (reader_state state n).dependencies)) (sym (kept_is app state n).dependence) (behind_itself (dependence_of (reader_state state n).dependencies));
  isolated = λ n b. (kept_is app state n).isolated;
  outcomes = λ n i is e a. kept_outcome app state n (let inside = get_in (readers app) n i is in let size = consistent.size in omega (inside, size, arith));
  running = λ n h. cc;
}

-- ---- with what the flush looks after

output_size : (rs : List ReaderState) → length (outputs_of rs) ≡ length rs
output_size [] = refl
output_size (r ∷ rs) = ap suc (output_size rs)

outputs_are : (rs : List ReaderState) (n : ℕ) → unwrap_or (slice_get (outputs_of rs) n) first_output ≡ record { shown = (unwrap_or (slice_get rs n) first_reader).shown; last = (unwrap_or (slice_get rs n) first_reader).last }
outputs_are [] n = refl
outputs_are (r ∷ rs) zero = refl
outputs_are (r ∷ rs) (suc n) = outputs_are rs n

pub keeping_wholly_stands : KeepingWhollyStands
keeping_wholly_stands app state consistent = record {
  session = keeping_all_stands app state consistent;
  size = output_size state.readers ∙ consistent.size;
  boards = refl;
  shown = λ n. ap (λ (o : KeptOutput). o.shown) (outputs_are state.readers n);
  last = λ n. ap (λ (o : KeptOutput). o.last) (outputs_are state.readers n);
}

-- ---- the first session

first_kept_size : (is : List Node) → length (first_kept_readers is) ≡ length is
first_kept_size [] = refl
first_kept_size (i ∷ is) = ap suc (first_kept_size is)

first_kept_at : (is : List Node) (n : ℕ) → unwrap_or (slice_get (first_kept_readers is) n) first_kept ≡ first_kept
first_kept_at [] n = refl
first_kept_at (i ∷ is) zero = refl
first_kept_at (i ∷ is) (suc n) = first_kept_at is n

first_state_at : (is : List Node) (n : ℕ) → unwrap_or (slice_get (first_readers is) n) first_reader ≡ first_reader
first_state_at [] n = refl
first_state_at (i ∷ is) zero = refl
first_state_at (i ∷ is) (suc n) = first_state_at is n

first_output_size : (is : List Node) → length (first_outputs is) ≡ length is
first_output_size [] = refl
first_output_size (i ∷ is) = ap suc (first_output_size is)

first_output_at : (is : List Node) (n : ℕ) → unwrap_or (slice_get (first_outputs is) n) first_output ≡ first_output
first_output_at [] n = refl
first_output_at (i ∷ is) zero = refl
first_output_at (i ∷ is) (suc n) = first_output_at is n

pub first_stands : FirstStands
first_stands app p = record {
  session = record {
    values = refl;
    size = first_kept_size (readers app);
    consistent = first_is_consistent app p;
    dependences = λ n b. subst (λ (r : KeptReader). IsSameDependence r.dependence (dependence_of (reader_state (first_state app) n).dependencies)) (sym (kept n))
        (subst (λ (r : ReaderState). IsSameDependence never_run (dependence_of r.dependencies)) (sym (state n)) tt);
    bare_dependences = λ n b. subst (λ (r : KeptReader). IsBehind r.dependence (dependence_of (reader_state (first_state app) n).dependencies)) (sym (kept n)) tt;
    isolated = λ n b. ap (λ (r : KeptReader). r.isolated) (kept n) ∙ sym (ap (λ (r : ReaderState). r.isolated) (state n));
    outcomes = λ n i is e a. absurd (not_live n a);
    running = λ n h. cc;
  };
  size = first_output_size (readers app);
  boards = refl;
  shown = λ n. ap (λ (o : KeptOutput). o.shown) (first_output_at (readers app) n) ∙ sym (ap (λ (r : ReaderState). r.shown) (state n));
  last = λ n. ap (λ (o : KeptOutput). o.last) (first_output_at (readers app) n) ∙ sym (ap (λ (r : ReaderState). r.last) (state n));
}
  where
    kept : (n : ℕ) → kept_reader (first_session app) n ≡ first_kept
    kept n = first_kept_at (readers app) n

    state : (n : ℕ) → reader_state (first_state app) n ≡ first_reader
    state n = first_state_at (readers app) n

    not_live : (n : ℕ) → is_live (kept_reader (first_session app) n).dependence ≡ true → ⊥
    not_live n a = absurd (false≢true (sym (ap (λ (r : KeptReader). is_live r.dependence) (kept n)) ∙ a))

none_missing : (app : Shape) (state : SessionState) (n : ℕ) → missing_below app (session_keeping_all app state) state n ≡ 0
none_missing app state zero = refl
none_missing app state (suc n) =
    (λ j. none_missing app state n j + (if is_alive (reader_state state n) && not (same n j) then bodies_counted (reader app n) (fresh_answers app state n) else 0))
    ∙ ap (λ b. 0 + (if b then bodies_counted (reader app n) (fresh_answers app state n) else 0)) (never (is_alive (reader_state state n)))
  where
    never : (b : Bool) → (b && not b) ≡ false
    never true = refl
    never false = refl

    same : (n : ℕ) → is_live (kept_reader (session_keeping_all app state) n).dependence ≡ is_alive (reader_state state n)
    same n = ap is_live (kept_is app state n).dependence ∙ live_is (reader_state state n)

pub none_is_missing : NoneIsMissing
none_is_missing app state = none_missing app state (length (readers app))

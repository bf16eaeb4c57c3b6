-- What a session stands for, and how many readers are missing, is told by the values of the state, and by what its readers depend
-- on and keep of their isolated sites alone.
use Rattle.std.proofs.Common.{◌≡◌, ℕ, zero, suc, ◌+◌, length, refl, sym, ◌∙◌, subst}
use Rattle.std.specs.Prelude.{not, ◌&&◌, if◌then◌else◌}
use Rattle.app_tree.specs.Tree.{Shape}
use Rattle.app_tree.specs.Numbering.{readers, reader}
use Rattle.app_tree.specs.Fresh.{answer_to, known_expressions, kept_sites, fresh_outcome}
use Rattle.app_laws.specs.Proper.{IsProper}
use Rattle.session_model.specs.State.{SessionState, isolated_of, reader_state, is_alive}
use Rattle.session_model.specs.Bodies.{bodies_counted}
use Rattle.session_model.specs.Standing.{KeptSession, kept_reader, is_live, dependence_of, IsSameDependence, IsBehind, StandsForState, fresh_answers, missing_below, missing_readers}
use Rattle.session_laws.proofs.Consistent.{consistent_sound, sound_consistent}
use Rattle.session_laws.proofs.Proper.{orderly, covered}
use Rattle.session_laws.proofs.Right.{sound_alike}
use Rattle.session_laws.proofs.Staying.{Alike, alive_by}
use Rattle.session_steps.specs.Keeping.{IsAlike}
use Rattle.session_steps.proofs.Dependences.{same_live}

-- whatever else the flush looks after
pub record IsKeptAlike (M N : SessionState) : Type 0 where
  pub values : N.values ≡ M.values
  pub size : length N.readers ≡ length M.readers
  pub isolated : isolated_of N ≡ isolated_of M
  pub readers : (n : ℕ) → Alike (reader_state M n) (reader_state N n)

module _ (app : Shape) (M N : SessionState) (alike : IsKeptAlike M N) where
  pub stands_alike : IsProper app → (session : KeptSession) → StandsForState app session M → StandsForState app session N
  stands_alike proper session stands = record {
    values = stands.values ∙ sym alike.values;
    size = stands.size;
    consistent = sound_consistent app (orderly app proper) N
        (sound_alike app (orderly app proper) (covered app proper) M N alike.values alike.size (λ m i is e. alike.readers m) (consistent_sound app (orderly app proper) M stands.consistent));
    dependences = λ n b. subst (λ d. IsSameDependence (kept_reader session n).dependence (dependence_of d)) (sym (alike.readers n).dependencies) (stands.dependences n b);
    bare_dependences = λ n b. subst (λ d. IsBehind (kept_reader session n).dependence (dependence_of d)) (sym (alike.readers n).dependencies) (stands.bare_dependences n b);
    isolated = λ n b. stands.isolated n b ∙ sym (alike.readers n).isolated;
    outcomes = λ n i is e live. stands.outcomes n i is e live ∙ (λ z. fresh_outcome app (sym alike.values z) (sym alike.isolated z) n);
    running = stands.running;
  }

  missing_same : (session : KeptSession) (k : ℕ) → missing_below app session N k ≡ missing_below app session M k
  missing_same session zero = refl
  missing_same session (suc k) = (λ z.
      missing_same session k z
      + (if alive_by ((alike.readers k).dependencies z) && not (is_live (kept_reader session k).dependence) then
      bodies_counted (reader app k) (record {
        read = answer_to app (alike.values z) (known_expressions app (alike.values z) (kept_sites (alike.isolated z)));
        site = kept_sites (alike.isolated z) k;
      }) else 0))

  pub missing_alike : (session : KeptSession) → missing_readers app session N ≡ missing_readers app session M
  missing_alike session = missing_same session (length (readers app))

-- by the session, up to the order of sources
module _ (app : Shape) (session other : KeptSession) (alike : IsAlike session other) (state : SessionState) where
  lives_so : (k : ℕ) → is_live (kept_reader other k).dependence ≡ is_live (kept_reader session k).dependence
  lives_so k = sym (same_live (kept_reader session k).dependence (kept_reader other k).dependence (alike.readers k).dependence)

  missing_so : (k : ℕ) → missing_below app other state k ≡ missing_below app session state k
  missing_so zero = refl
  missing_so (suc k) = (λ z.
      missing_so k z
      + (if is_alive (reader_state state k) && not (lives_so k z) then bodies_counted (reader app k) (fresh_answers app state k) else 0))

  pub missing_in_any_order : missing_readers app other state ≡ missing_readers app session state
  missing_in_any_order = missing_so (length (readers app))

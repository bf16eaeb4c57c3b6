-- Each step of a session keeps consistency.
use Rattle.std.proofs.Common.{◌≡◌, ℕ, true, false, [], length, Some, sym, ap, ◌∙◌, subst}
use Rattle.app_tree.specs.Tree.{Node, Shape}
use Rattle.app_tree.specs.Numbering.{readers, reader, is_observer, is_evaluated}
use Rattle.app_tree.specs.Fresh.{is_expression_at}
use Rattle.session_model.specs.State.{SessionState, first_state, reader_state}
use Rattle.session_model.specs.Change.{change}
use Rattle.session_model.specs.Observing.{read_by_observer}
use Rattle.session_model.specs.Run.{visit_expression, run_reader}
use Rattle.session_model.specs.Standing.{IsConsistent}
use Rattle.app_laws.specs.Proper.{IsProper}
use Rattle.session_laws.specs.Sound.{IsSound}
use Rattle.session_laws.specs.StepLaws.{FirstIsConsistent, VisitKeepsConsistent, OutputKeepsConsistent, BeginKeepsConsistent, TermKeepsConsistent, WriteKeepsConsistent}
use Rattle.app_laws.proofs.KnownLists.{get_in}
use Rattle.session_laws.proofs.Proper.{orderly, covered}
use Rattle.session_laws.proofs.Consistent.{consistent_sound, sound_consistent}
use Rattle.session_laws.proofs.Journeys.{some_is}
use Rattle.session_laws.proofs.Running.{visits_good}
use Rattle.session_laws.proofs.Moving.{Visits}
use Rattle.session_laws.proofs.Marking.{any_output_sound}
use Rattle.session_laws.proofs.Right.{observer_alone, right_first, sound_observer, sound_change}
use Rattle.session_laws.proofs.Observed.{observed_sound}

module _ (app : Shape) (p : IsProper app) where
  sound_of : (state : SessionState) → IsConsistent app state → IsSound app state
  sound_of state consistent = consistent_sound app (orderly app p) state consistent

  again : (state : SessionState) → IsSound app state → IsConsistent app state
  again state sound = sound_consistent app (orderly app p) state sound

  -- the reader of an observer's number is nothing else
  alone : (n : ℕ) (i : Node) → reader app n ≡ Some i → is_observer i ≡ true → (j : Node) → reader app n ≡ Some j → is_evaluated j ≡ false
  alone n i is o j js = subst (λ k. is_evaluated k ≡ false) (some_is (sym is ∙ js)) (observer_alone i o)

pub first_is_consistent : FirstIsConsistent
first_is_consistent app p = again app p (first_state app) (right_first app (orderly app p) (covered app p)).sound

pub visit_keeps_consistent : VisitKeepsConsistent
visit_keeps_consistent app p state consistent m i is x =
    let v : Visits app (length (readers app)) m state (visit_expression app m state).state =
    visits_good app (orderly app p) (covered app p) (length (readers app)) m (get_in (readers app) m i is) (ap is_expression_at is ∙ x) state (sound_of app p state consistent) in
    record { consistent = again app p (visit_expression app m state).state v.sound; alive = v.alive }

pub output_keeps_consistent : OutputKeepsConsistent
output_keeps_consistent app p state consistent n i is o =
    again app p (run_reader app n state).state (any_output_sound app (orderly app p) (covered app p) n i is o state (sound_of app p state consistent))

pub begin_keeps_consistent : BeginKeepsConsistent
begin_keeps_consistent app p state consistent n i is o =
    again app p _ (sound_observer app (orderly app p) (covered app p) state n (record (reader_state state n) { dependencies = Some (record { sources = []; changed = false }) }) (alone app p n i is o) (sound_of app p state consistent))

pub term_keeps_consistent : TermKeepsConsistent
term_keeps_consistent app p state consistent n i is o isolated t k numbered low =
    again app p (read_by_observer app n isolated t state).state (observed_sound app (orderly app p) (covered app p) n (alone app p n i is o) isolated t k numbered low state (sound_of app p state consistent))

pub write_keeps_consistent : WriteKeepsConsistent
write_keeps_consistent app p state consistent s x = again app p (change s x state) (sound_change app (orderly app p) (covered app p) state s x (sound_of app p state consistent))

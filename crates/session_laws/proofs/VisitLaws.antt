-- What a visit leaves, in each consistent state.
use Rattle.app_tree.specs.Tree.{Shape}
use Rattle.session_model.specs.State.{SessionState}
use Rattle.session_model.specs.Standing.{IsConsistent}
use Rattle.app_laws.specs.Proper.{IsProper}
use Rattle.session_laws.specs.Sound.{IsSound}
use Rattle.session_laws.specs.VisitLaws.{VisitLeavesEach, VisitLeavesRest, VisitIsLeast, VisitAbsorbs, VisitAbsorbsAsked}
use Rattle.session_laws.proofs.Proper.{orderly, covered}
use Rattle.session_laws.proofs.Consistent.{consistent_sound}
use Rattle.session_laws.proofs.Absorbing.{leaves_each, leaves_rest, members_alone, absorbs, absorbs_asked}

module _ (app : Shape) (p : IsProper app) (state : SessionState) (consistent : IsConsistent app state) where
  sound : IsSound app state
  sound = consistent_sound app (orderly app p) state consistent

pub visit_leaves_each : VisitLeavesEach
visit_leaves_each app p state consistent = leaves_each app (orderly app p) (covered app p) state (sound app p state consistent)

pub visit_leaves_rest : VisitLeavesRest
visit_leaves_rest app p state consistent = leaves_rest app (orderly app p) (covered app p) state (sound app p state consistent)

pub visit_is_least : VisitIsLeast
visit_is_least app p state consistent = members_alone app (orderly app p) (covered app p) state (sound app p state consistent)

pub visit_absorbs : VisitAbsorbs
visit_absorbs app p state consistent = absorbs app (orderly app p) (covered app p) state (sound app p state consistent)

pub visit_absorbs_asked : VisitAbsorbsAsked
visit_absorbs_asked app p state consistent = absorbs_asked app (orderly app p) (covered app p) state (sound app p state consistent)

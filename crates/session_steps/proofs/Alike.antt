-- A session in which sources stand in another order, and one in which an observer's run has ended.
use Rattle.std.proofs.Common.{sym, ◌∙◌}
use Rattle.session_model.specs.State.{reader_state}
use Rattle.session_model.specs.Standing.{kept_reader, dependence_of, IsRunning}
use Rattle.session_steps.specs.StandLaws.{AlikeStands, FinishStands}
use Rattle.session_steps.proofs.Dependences.{same_before, behind_before, same_live, same_ran}

pub alike_stands : AlikeStands
alike_stands app S T M stands alike = record {
  values = sym alike.values ∙ stands.values;
  size = sym alike.size ∙ stands.size;
  consistent = stands.consistent;
  dependences = λ n b. same_before (kept_reader S n).dependence (kept_reader T n).dependence (dependence_of (reader_state M n).dependencies) (alike.readers n).dependence (stands.dependences n b);
  bare_dependences = λ n b. behind_before (kept_reader S n).dependence (kept_reader T n).dependence (dependence_of (reader_state M n).dependencies) (alike.readers n).dependence (stands.bare_dependences n b);
  isolated = λ n b. sym (alike.readers n).isolated ∙ stands.isolated n b;
  outcomes = λ n i is e live.
      sym (alike.readers n).outcome ∙ stands.outcomes n i is e (same_live (kept_reader S n).dependence (kept_reader T n).dependence (alike.readers n).dependence ∙ live);
  running = λ n h.
      let old : IsRunning app S n = stands.running n (alike.running ∙ h) in
      record { observer = old.observer; ran = sym (same_ran (kept_reader S n).dependence (kept_reader T n).dependence (alike.readers n).dependence) ∙ old.ran };
}

pub finish_stands : FinishStands
finish_stands app S M stands = record {
  values = stands.values;
  size = stands.size;
  consistent = stands.consistent;
  dependences = stands.dependences;
  bare_dependences = stands.bare_dependences;
  isolated = stands.isolated;
  outcomes = stands.outcomes;
  running = λ n h. cc;
}

use Rattle.std.proofs.Common.{◌<◌, length, refl, sym, ap, ◌∙◌, subst}
use Rattle.app_tree.specs.Held.{Held}
use Rattle.app_tree.specs.View.{shape_of}
use Rattle.app_tree.specs.Numbering.{readers}
use Rattle.session_model.specs.Standing.{KeptSession}
use Rattle.react_session.proofs.StoredRuns.{evaluated_in}
use Rattle.react_session.proofs.StaysPut.{output_evaluated}
use Rattle.react_session.proofs.StaysPut.{made_put}
use Rattle.react_session.proofs.session.Session.run_reader.Goals as goal

pub returns-in_err-run-clause-values : goal.returns-in_err-run-clause-values
returns-in_err-run-clause-values g c = (made_put _ _ _ _ _ _ _ c.run.result c.run.ensures.comes).values

pub returns-in_err-run-clause-running : goal.returns-in_err-run-clause-running
returns-in_err-run-clause-running g c = (made_put _ _ _ _ _ _ _ c.run.result c.run.ensures.comes).running

pub outcome_kept-requires : goal.outcome_kept-requires
outcome_kept-requires g c =
    subst (λ (h : Held). c.args.n < length (readers (shape_of h))) (sym c.run.ensures.app)
    (evaluated_in (readers (shape_of c.args.self.now.app)) c.args.n _ refl (output_evaluated _ c.requires.output))

pub returns-clause-values : goal.returns-clause-values
returns-clause-values g c = ap (λ (s : KeptSession). s.values) c.outcome_kept.ensures.session ∙ (made_put _ _ _ _ _ _ _ c.run.result c.run.ensures.comes).values

pub returns-clause-running : goal.returns-clause-running
returns-clause-running g c = ap (λ (s : KeptSession). s.running) c.outcome_kept.ensures.session ∙ (made_put _ _ _ _ _ _ _ c.run.result c.run.ensures.comes).running

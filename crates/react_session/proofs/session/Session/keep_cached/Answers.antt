use Rattle.std.proofs.Common.{◌<◌, length, refl, sym, ap, ◌∙◌, subst}
use Rattle.app_tree.specs.Held.{Held}
use Rattle.app_tree.specs.View.{shape_of}
use Rattle.app_tree.specs.Numbering.{readers}
use Rattle.session_steps.specs.Bringing.{IsLost}
use Rattle.react_session.specs.Keeping.{Keeping}
use Rattle.react_session.proofs.StoredRuns.{evaluated_in}
use Rattle.react_session.proofs.Made.{lost_nowhere}
use Rattle.react_session.proofs.session.Session.keep_cached.Goals as goal

pub last_step-requires : goal.last_step-requires
last_step-requires c =
    subst (λ (h : Held). c.args.n < length (readers (shape_of h))) (ap (λ (k : Keeping). k.app) (sym c.self.view_is) ∙ sym c.deref.ensures)
    (evaluated_in (readers (shape_of c.args.self.now.app)) c.args.n _ refl c.requires.evaluated)

pub returns-in-Err-clause-lost : goal.returns-in-Err-clause-lost
returns-in-Err-clause-lost c = subst (IsLost c.args.n c.args.self.now.session) (sym (c.lose.ensures.session)) (lost_nowhere c.args.n c.args.self.now.session)

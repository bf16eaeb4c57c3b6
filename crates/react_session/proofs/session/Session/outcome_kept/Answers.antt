use Rattle.std.proofs.Common.{◌<◌, length, sym, ap, ◌∙◌, subst}
use Rattle.app_tree.specs.View.{shape_of}
use Rattle.app_tree.specs.Numbering.{readers}
use Rattle.session_model.specs.Standing.{kept_reader}
use Rattle.react_session.specs.Keeping.{Keeping}
use Rattle.react_session.specs.declared.kept.Kept.{Kept}
use Rattle.react_session.proofs.ByNumber.{kept_read}
use Rattle.react_session.proofs.Seeing.{outcome_seen}
use Rattle.react_session.proofs.session.Session.outcome_kept.Goals as goal

pub returns-in-Ok-clause-outcome : goal.returns-in-Ok-clause-outcome
returns-in-Ok-clause-outcome c =
    let s = c.self.inside in
    let known : c.args.n < length (readers (shape_of s.app.value)) = subst (λ (k : Keeping). c.args.n < length (readers (shape_of k.app))) (sym c.self.view_is) c.requires in
    let within : c.args.n < length s.kept.items = subst (λ z. c.args.n < z) (sym c.self.invariant.each_kept) known in
    c.in-Ok.ensures
    ∙ ap (λ (k : Kept). k.outcome) (kept_read s.kept.items c.args.n c.index.result.now within c.index.ensures)
    ∙ sym (outcome_seen s.sources.values s.graph s.kept.items s.observer c.args.n (c.self.invariant.contexts ∙ sym c.self.invariant.each_kept))
    ∙ ap (λ (k : Keeping). (kept_reader k.session c.args.n).outcome) c.self.view_is

use Rattle.std.proofs.Common.{◌≡◌, ◌<◌, length, ap, sym, ◌∙◌, subst}
use Rattle.app_tree.specs.View.{shape_of}
use Rattle.app_tree.specs.Numbering.{readers}
use Rattle.session_model.specs.Standing.{did_run, kept_reader}
use Rattle.react_session.specs.Keeping.{Keeping}
use Rattle.react_session.specs.declared.kept.Kept.{Kept}
use Rattle.react_session.proofs.ByNumber.{kept_read}
use Rattle.react_session.proofs.Seeing.{ran_seen}
use Rattle.react_session.proofs.session.Session.ran.Goals as goal

pub returns : goal.returns
returns c =
    let s = c.self.inside in
    let h = c.self.invariant in
    let known : c.args.n < length (readers (shape_of s.app.value)) = subst (λ (k : Keeping). c.args.n < length (readers (shape_of k.app))) (sym c.self.view_is) c.requires in
    let within : c.args.n < length s.kept.items = subst (λ z. c.args.n < z) (sym h.each_kept) known in
    subst (λ (k : Keeping). c.index.result.now.ran ≡ did_run (kept_reader k.session c.args.n).dependence) c.self.view_is
    (ap (λ (k : Kept). k.ran) (kept_read s.kept.items c.args.n c.index.result.now within c.index.ensures)
    ∙ ran_seen s.sources.values s.graph s.kept.items s.observer c.args.n (h.contexts ∙ sym h.each_kept) (h.alive_ran c.args.n) (h.observer_ran c.args.n))

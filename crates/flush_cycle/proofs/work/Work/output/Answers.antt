use Rattle.std.proofs.Common.{◌≡◌, ◌<◌, ℕ, List, length, map, get_or, refl, sym, ap, ◌∙◌, subst}
use Rattle.app_tree.specs.Held.{Held}
use Rattle.app_tree.specs.Numbering.{readers}
use Rattle.app_tree.specs.View.{shape_of}
use Rattle.session_model.specs.Standing.{kept_output}
use Rattle.flush_cycle.specs.declared.output.OutputState.{OutputState}
use Rattle.flush_cycle.specs.inner.Roles.{role_of}
use Rattle.flush_cycle.specs.Working.{Working}
use Rattle.flush_cycle.proofs.OutputsKept.{output_within, output_kept}
use Rattle.flush_cycle.proofs.work.Work.output.Goals as goal

within_outputs : (outputs : List OutputState) (shown : List OutputState) (held : Held) (z : Working) (n : ℕ) → held ≡ z.app → shown ≡ outputs
    → map (λ (o : OutputState). o.role) outputs ≡ map role_of (readers (shape_of held)) → n < length (readers (shape_of z.app)) → n < length shown
within_outputs outputs shown held z n same is roles h =
    subst (λ (l : List OutputState). n < length l) (sym is)
    (output_within outputs (readers (shape_of held)) roles n (subst (λ (h : Held). n < length (readers (shape_of h))) (sym same) h))

pub bounds-outputs-n : goal.bounds-outputs-n
bounds-outputs-n c =
    let s = c.self.inside in
    within_outputs s.outputs.items c.as_slice-outputs.result.now s.app.value c.args.self.now c.args.n (ap (λ (z : Working). z.app) c.self.view_is) c.as_slice-outputs.ensures.value c.self.invariant.roles c.requires

pub returns : goal.returns
returns c =
    let s = c.self.inside in
    output_kept s.outputs.items c.args.n c.index-outputs-n.result
    (within_outputs s.outputs.items s.outputs.items s.app.value c.args.self.now c.args.n (ap (λ (z : Working). z.app) c.self.view_is) refl c.self.invariant.roles c.requires)
    (c.index-outputs-n.is ∙ ap (λ (l : List OutputState). get_or l c.args.n c.index-outputs-n.result) c.as_slice-outputs.ensures.value)
    ∙ ap (λ (z : Working). kept_output z.kept c.args.n) c.self.view_is

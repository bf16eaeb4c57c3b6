use Rattle.std.proofs.Common.{rules, ◌≡◌, ◌<◌, length, slice_get, Some, ap, sym, ◌∙◌, subst}
use Rattle.std.specs.Prelude.{not, ◌&&◌}
use Rattle.app_tree.specs.View.{shape_of}
use Rattle.app_tree.specs.Numbering.{readers}
use Rattle.session_steps.specs.Keeping.{lives}
use Rattle.flush_cycle.specs.Waits.{waits_in}
use Rattle.flush_cycle.specs.Working.{Working}
use Rattle.flush_cycle.proofs.ShownOutputs.{outputs_counted, got, wanted_by_output}
use Rattle.flush_cycle.proofs.work.Work.waits.Goals as goal

pub index-requires : goal.index-requires
index-requires c =
    let s = c.self.inside in
    let known : c.args.n < length (readers (shape_of s.app.value)) = subst (λ (w : Working). c.args.n < length (readers (shape_of w.app))) (sym c.self.view_is) c.requires in
    let size : length s.outputs.items ≡ length (readers (shape_of s.app.value)) = outputs_counted (shape_of s.app.value) s.outputs.items c.self.invariant.roles in
    let within : c.args.n < length s.outputs.items = subst (λ k. c.args.n < k) (sym size) known in
    search rules

pub returns-then-is_wanted : goal.returns-then-is_wanted
returns-then-is_wanted c =
    let s = c.self.inside in
    let known : c.args.n < length (readers (shape_of s.app.value)) = subst (λ (w : Working). c.args.n < length (readers (shape_of w.app))) (sym c.self.view_is) c.requires in
    let size : length s.outputs.items ≡ length (readers (shape_of s.app.value)) = outputs_counted (shape_of s.app.value) s.outputs.items c.self.invariant.roles in
    let within : c.args.n < length s.outputs.items = subst (λ k. c.args.n < k) (sym size) known in
    let o = c.index.result.now in
    let is : slice_get s.outputs.items c.args.n ≡ Some o = got s.outputs.items c.args.n o within c.index.ensures in
    let wanted = sym (wanted_by_output (shape_of s.app.value) s.outputs.items c.self.invariant.roles c.args.n o is) ∙ sym c.is_wanted.ensures ∙ c.if-is_wanted.true in
    subst (λ (w : Working). not c.alive.result ≡ waits_in (shape_of w.app) w.kept c.args.n) c.self.view_is
    (ap not c.alive.ensures ∙ sym (ap (λ b. b && not (lives s.session.session c.args.n)) wanted))

pub returns-else-is_wanted : goal.returns-else-is_wanted
returns-else-is_wanted c =
    let s = c.self.inside in
    let known : c.args.n < length (readers (shape_of s.app.value)) = subst (λ (w : Working). c.args.n < length (readers (shape_of w.app))) (sym c.self.view_is) c.requires in
    let size : length s.outputs.items ≡ length (readers (shape_of s.app.value)) = outputs_counted (shape_of s.app.value) s.outputs.items c.self.invariant.roles in
    let within : c.args.n < length s.outputs.items = subst (λ k. c.args.n < k) (sym size) known in
    let o = c.index.result.now in
    let is : slice_get s.outputs.items c.args.n ≡ Some o = got s.outputs.items c.args.n o within c.index.ensures in
    let wanted = sym (wanted_by_output (shape_of s.app.value) s.outputs.items c.self.invariant.roles c.args.n o is) ∙ sym c.is_wanted.ensures ∙ c.if-is_wanted.false in
    subst (λ (w : Working). c.is_wanted.result ≡ waits_in (shape_of w.app) w.kept c.args.n) c.self.view_is
    (c.if-is_wanted.false ∙ sym (ap (λ b. b && not (lives s.session.session c.args.n)) wanted))

use Rattle.std.proofs.Common.{ℕ, sym, ap, ◌∙◌}
use Rattle.std.specs.Prelude.{◌&&◌}
use Rattle.app_tree.specs.Fresh.{is_among}
use Rattle.session_model.specs.Standing.{KeptOutput}
use Rattle.flush_cycle.specs.Reports.{is_in_progress}
use Rattle.flush_cycle.proofs.work.Work.ran_on.Goals as goal

pub returns-then-is_in_progress : goal.returns-then-is_in_progress
returns-then-is_in_progress c =
    let n : ℕ = c.args.n in
    c.contains.ensures.value ∙ ap (is_among n) c.as_slice.ensures
    ∙ ap (λ b. b && is_among n c.args.ran.now) (sym (ap (λ (o : KeptOutput). is_in_progress o.last) (sym c.output.ensures) ∙ sym c.is_in_progress.ensures ∙ c.if-is_in_progress.true))

pub returns-else-is_in_progress : goal.returns-else-is_in_progress
returns-else-is_in_progress c =
    let n : ℕ = c.args.n in
    c.if-is_in_progress.false
    ∙ ap (λ b. b && is_among n c.args.ran.now) (sym (ap (λ (o : KeptOutput). is_in_progress o.last) (sym c.output.ensures) ∙ sym c.is_in_progress.ensures ∙ c.if-is_in_progress.false))

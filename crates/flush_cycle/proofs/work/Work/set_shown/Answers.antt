use Rattle.std.proofs.Common.{◌≡◌, length, ap, ◌∙◌, subst}
use Rattle.app_tree.specs.View.{shape_of}
use Rattle.app_tree.specs.Numbering.{readers}
use Rattle.pending_set.specs.Waiting.{with_waiting}
use Rattle.flush_cycle.specs.Waits.{waits_in}
use Rattle.flush_cycle.specs.Working.{Working}
use Rattle.flush_cycle.proofs.ShownOutputs.{shown_moved}
use Rattle.flush_cycle.proofs.work.Work.set_shown.Goals as goal

pub returns : goal.returns
returns c =
    let room : length c.args.self.now.pending.waits ≡ length (readers (shape_of c.args.self.now.app)) =
    subst (λ (w : Working). length w.pending.waits ≡ length (readers (shape_of w.app))) c.self.view_is c.self.invariant.waits in
    shown_moved c.args.self.now c.set_waiting.new.self c.args.n c.args.shown c.requires.known room c.requires.ready
    (c.set_waiting.ensures
    ∙ ap (λ b. record c.show.new.self { pending = with_waiting b c.args.n c.show.new.self.pending }) c.waits-waits.ensures
    ∙ ap (λ (w : Working). record w { pending = with_waiting (waits_in (shape_of w.app) w.kept c.args.n) c.args.n w.pending }) c.show.ensures)

use Rattle.std.proofs.Common.{Some, ◌∙◌, ap, sym}
use Rattle.std.specs.Prelude.{slice_get}
use Rattle.rx_value.specs.declared.source.SourceValue.TheVariants.{Plain}
use Rattle.flush_cycle.specs.Working.{Working}
use Rattle.flush_cycle.proofs.Composing.{does_frozen_already, does_frozen}
use Rattle.flush_cycle.proofs.work.Work.freeze.Goals as goal

pub returns-in_default : goal.returns-in_default
returns-in_default c =
    does_frozen_already c.args.source c.source.result.now c.args.self.now
    (ap (λ (w : Working). slice_get w.kept.session.values c.args.source) (sym c.self.view_is) ∙ c.source.ensures)
    c.in_default.not-Plain c.requires.ready

pub returns : goal.returns
returns c =
    does_frozen c.args.source c.in_ok-value.value c.args.self.now c.write.new.self
    (ap (λ (w : Working). slice_get w.kept.session.values c.args.source) (sym c.self.view_is) ∙ c.source.ensures
    ∙ ap Some (c.in-Plain.is ∙ ap Plain (sym c.in_ok-value.ensures)))
    c.write.ensures

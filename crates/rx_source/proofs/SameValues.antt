-- What it means that setting a source answers that it had an equal value.
use Rattle.std.proofs.Common.{◌≡◌, Bool, true, false, refl, ap, sym, ◌∙◌, ◌↔◌}
use Rattle.rx_value.specs.declared.source.SourceValue.{SourceValue}
use Rattle.rx_value.specs.Value.{source_eq}
use Rattle.rx_value.proofs.SameSources.{source_eq-Decides}
use Rattle.rx_source.specs.declared.sources.Change.{Change}
use Rattle.rx_source.specs.declared.sources.Change.TheVariants.{Same}
use Rattle.rx_source.specs.Changing.{change_of}

was_same : (b : Bool) → change_of b ≡ Same → b ≡ true
was_same true h = refl
was_same false h = cc

-- it does so exactly where the source had this value
pub same_where_equal : (answer : Change) (a b : SourceValue) → answer ≡ change_of (source_eq a b) → (answer ≡ Same) ↔ (a ≡ b)
same_where_equal answer a b is = (
  λ h. (source_eq-Decides a b).0 (was_same _ (sym is ∙ h)),
  λ h. is ∙ ap change_of ((source_eq-Decides a b).1 h),
)

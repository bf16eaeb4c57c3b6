-- The tests whether outcomes, tasks' views and sources' values are the same decide it.
use Rattle.std.proofs.Common.{◌≡◌, true, refl, ap, subst, Decides}
use Rattle.std.proofs.lemmas.Slice.Eq.{bytes_eq-Decides}
use Rattle.rx_value.specs.declared.outcome.Outcome.{Outcome}
use Rattle.rx_value.specs.declared.outcome.Outcome.TheVariants as o
use Rattle.rx_value.specs.declared.source.TaskView.{TaskView}
use Rattle.rx_value.specs.declared.source.TaskView.TheVariants as view
use Rattle.rx_value.specs.declared.source.SourceValue.{SourceValue}
use Rattle.rx_value.specs.declared.source.SourceValue.TheVariants as source
use Rattle.rx_value.specs.Value.{outcome_eq, view_eq, source_eq}
use Rattle.rx_value.specs.Keys.{same_value, value_eq-itself}

same_outcome : (a b : Outcome) → outcome_eq a b ≡ true → a ≡ b
same_outcome (o.Val a) (o.Val b) h = ap o.Val (same_value a b h)
same_outcome (o.Fail a) (o.Fail b) h = ap o.Fail ((bytes_eq-Decides a b).0 h)
same_outcome o.Stop o.Stop h = refl
same_outcome o.Cancel o.Cancel h = refl
same_outcome o.Running o.Running h = refl
same_outcome _ _ h = cc

outcome_eq-itself : (a : Outcome) → outcome_eq a a ≡ true
outcome_eq-itself (o.Val a) = value_eq-itself a
outcome_eq-itself (o.Fail a) = (bytes_eq-Decides a a).1 refl
outcome_eq-itself o.Stop = refl
outcome_eq-itself o.Cancel = refl
outcome_eq-itself o.Running = refl

pub outcome_eq-Decides : (a b : Outcome) → Decides (outcome_eq a b) (a ≡ b)
outcome_eq-Decides a b = (same_outcome a b, λ e. subst (λ (c : Outcome). outcome_eq a c ≡ true) e (outcome_eq-itself a))

same_view : (a b : TaskView) → view_eq a b ≡ true → a ≡ b
same_view view.Initial view.Initial h = refl
same_view view.Running view.Running h = refl
same_view (view.Success a) (view.Success b) h = ap view.Success (same_value a b h)
same_view (view.Error a) (view.Error b) h = ap view.Error (same_outcome a b h)
same_view _ _ h = cc

view_eq-itself : (a : TaskView) → view_eq a a ≡ true
view_eq-itself view.Initial = refl
view_eq-itself view.Running = refl
view_eq-itself (view.Success a) = value_eq-itself a
view_eq-itself (view.Error a) = outcome_eq-itself a

pub view_eq-Decides : (a b : TaskView) → Decides (view_eq a b) (a ≡ b)
view_eq-Decides a b = (same_view a b, λ e. subst (λ (c : TaskView). view_eq a c ≡ true) e (view_eq-itself a))

same_source : (a b : SourceValue) → source_eq a b ≡ true → a ≡ b
same_source (source.Plain a) (source.Plain b) h = ap source.Plain (same_value a b h)
same_source (source.Task a) (source.Task b) h = ap source.Task (same_view a b h)
same_source (source.Frozen a) (source.Frozen b) h = ap source.Frozen (same_value a b h)
same_source _ _ h = cc

pub source_eq-itself : (a : SourceValue) → source_eq a a ≡ true
source_eq-itself (source.Plain a) = value_eq-itself a
source_eq-itself (source.Task a) = view_eq-itself a
source_eq-itself (source.Frozen a) = value_eq-itself a

pub source_eq-Decides : (a b : SourceValue) → Decides (source_eq a b) (a ≡ b)
source_eq-Decides a b = (same_source a b, λ e. subst (λ (c : SourceValue). source_eq a c ≡ true) e (source_eq-itself a))

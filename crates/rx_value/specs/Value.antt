-- When two values, outcomes, keys or source values are the same: of one kind, with the same content.
use Rattle.std.specs.Prelude.{ℤ, Bool, true, false, not, ◌&&◌, ◌==◌, List, [], ◌∷◌, bytes_eq}
use Rattle.std.specs.Ordering.{int_eq}
use Rattle.rx_value.specs.declared.value.Value.{Value}
use Rattle.rx_value.specs.declared.value.Value.TheVariants as v
use Rattle.rx_value.specs.declared.key.Key.{Key}
use Rattle.rx_value.specs.declared.outcome.Outcome.{Outcome}
use Rattle.rx_value.specs.declared.outcome.Outcome.TheVariants as o
use Rattle.rx_value.specs.declared.source.TaskView.{TaskView}
use Rattle.rx_value.specs.declared.source.TaskView.TheVariants as task
use Rattle.rx_value.specs.declared.source.SourceValue.{SourceValue}
use Rattle.rx_value.specs.declared.source.SourceValue.TheVariants as source

abbrev pub bool_eq : Bool → Bool → Bool
bool_eq true b = b
bool_eq false b = not b

abbrev pub ints_eq : List ℤ → List ℤ → Bool
ints_eq [] [] = true
ints_eq (x ∷ xs) (y ∷ ys) = int_eq x y && ints_eq xs ys
ints_eq [] (y ∷ ys) = false
ints_eq (x ∷ xs) [] = false

abbrev pub value_eq : Value → Value → Bool
value_eq v.Null v.Null = true
value_eq (v.Bool a) (v.Bool b) = bool_eq a b
value_eq (v.Int a) (v.Int b) = int_eq a b
value_eq (v.Text a) (v.Text b) = bytes_eq a b
value_eq (v.Ints a) (v.Ints b) = ints_eq a b
value_eq _ _ = false

abbrev pub values_eq : List Value → List Value → Bool
values_eq [] [] = true
values_eq (v ∷ vs) (w ∷ ws) = value_eq v w && values_eq vs ws
values_eq [] (w ∷ ws) = false
values_eq (v ∷ vs) [] = false

abbrev pub key_eq : Key → Key → Bool
key_eq k l = (k.node == l.node) && values_eq k.parts l.parts

abbrev pub outcome_eq : Outcome → Outcome → Bool
outcome_eq (o.Val a) (o.Val b) = value_eq a b
outcome_eq (o.Fail a) (o.Fail b) = bytes_eq a b
outcome_eq o.Stop o.Stop = true
outcome_eq o.Cancel o.Cancel = true
outcome_eq o.Running o.Running = true
outcome_eq _ _ = false

abbrev pub view_eq : TaskView → TaskView → Bool
view_eq task.Initial task.Initial = true
view_eq task.Running task.Running = true
view_eq (task.Success a) (task.Success b) = value_eq a b
view_eq (task.Error a) (task.Error b) = outcome_eq a b
view_eq _ _ = false

abbrev pub source_eq : SourceValue → SourceValue → Bool
source_eq (source.Plain a) (source.Plain b) = value_eq a b
source_eq (source.Task a) (source.Task b) = view_eq a b
source_eq (source.Frozen a) (source.Frozen b) = value_eq a b
source_eq _ _ = false

-- Worked examples of what a text can give: names of parameters and variables, and texts.
use Rattle.std.specs.Prelude.{◌≡◌, true, false, pos, List, [], ◌∷◌, ℕ, codes}
use Rattle.rx_value.specs.declared.function.Fun.TheVariants as fun
use Rattle.rx_value.specs.declared.value.Value.TheVariants.{Null, Int, Text}
use Rattle.app_tree.specs.declared.draft_term.Name.{Name}
use Rattle.app_tree.specs.declared.term.Function.TheVariants as function
use Rattle.app_tree.specs.DraftTree.{DraftTree, constant, variable, fold, call, no_trees, tree, input, task, WrittenItem}
use Rattle.app_tree.specs.Fits.{constant_fits, whole_fits, item_fits}

abbrev pub spelled : List ℕ → Name
spelled bytes = record { text = bytes; place = 0 }

abbrev pub one : DraftTree
one = constant (Int (pos 1))

-- `fold(c(1), 1, ACCUMULATOR, ELEMENT, x)`
abbrev pub folded : List ℕ → List ℕ → DraftTree
folded accumulator element = fold 0 (call (function.Fun fun.C) (tree one no_trees)) one (spelled accumulator) (spelled element) (variable (spelled (codes "x")))

-- `task t (PARAMETER) { 1 }`
abbrev pub task_of : List ℕ → WrittenItem
task_of parameter = record { place = 0; name = spelled (codes "t"); form = task (spelled parameter ∷ []) one }

abbrev pub FoldFits : Type 0
FoldFits = whole_fits (folded (codes "total") (codes "x")) ≡ true

-- `sum` is reserved
abbrev pub ReservedVariable : Type 0
ReservedVariable = whole_fits (folded (codes "total") (codes "sum")) ≡ false

-- a name begins with a letter
abbrev pub DigitFirst : Type 0
DigitFirst = whole_fits (folded (codes "2nd") (codes "x")) ≡ false

abbrev pub NoLetter : Type 0
NoLetter = whole_fits (variable (spelled [])) ≡ false

abbrev pub ParameterFits : Type 0
ParameterFits = item_fits (task_of (codes "n_1")) ≡ true

abbrev pub ReservedParameter : Type 0
ReservedParameter = item_fits (task_of (codes "fold")) ≡ false

-- the names of items may be of any bytes
abbrev pub AnyItemName : Type 0
AnyItemName = item_fits (record { place = 0; name = spelled (codes "m-1"); form = input Null }) ≡ true

-- é, and the first of its two bytes alone
abbrev pub AccentFits : Type 0
AccentFits = constant_fits (Text (195 ∷ 169 ∷ [])) ≡ true

abbrev pub HalfAnAccent : Type 0
HalfAnAccent = constant_fits (Text (195 ∷ [])) ≡ false

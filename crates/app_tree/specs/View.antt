-- The data that the types of `src/` stand for.
use Rattle.std.specs.Prelude.{List, [], ◌∷◌, map}
use Rattle.rx_value.specs.declared.value.Value.TheVariants as v
use Rattle.app_tree.specs.Held.{Held}
use Rattle.app_tree.specs.Tree.{Tree, constant, group, get, variable, isolate, stop, require, fold, unary, binary, choice, call, Trees, no_trees, tree, Act, set, invoke, update, freeze, perform, branch, branch_else, Acts, no_acts, act, Shown, Node, input, value, task, reactive, event, text, plot, observe, on, Shape}
use Rattle.app_tree.specs.declared.term.Term.{Term}
use Rattle.app_tree.specs.declared.term.Term.TheOpen.{Term-F}
use Rattle.app_tree.specs.declared.term.Term.TheFolds.{fold-Term}
use Rattle.app_tree.specs.declared.statement.Statement.{Statement}
use Rattle.app_tree.specs.declared.statement.Statement.TheOpen.{Statement-F}
use Rattle.app_tree.specs.declared.statement.Statement.TheFolds.{fold-Statement}
use Rattle.app_tree.specs.declared.item.Output.{Output}
use Rattle.app_tree.specs.declared.item.Item.{Item}
use Rattle.app_tree.specs.declared.item.Item.TheVariants as item

abbrev pub trees_of : List Tree → Trees
trees_of [] = no_trees
trees_of (t ∷ more) = tree t (trees_of more)

-- one level of a term, with each term inside already seen as its data
abbrev pub term_step : Term-F Tree → Tree
term_step Term-F.Null = constant v.Null
term_step (Term-F.Bool b) = constant (v.Bool b)
term_step (Term-F.Int z) = constant (v.Int z)
term_step (Term-F.Text t) = constant (v.Text t)
term_step (Term-F.Group t) = group t
term_step (Term-F.Get r) = get r
term_step (Term-F.Variable n) = variable n
term_step (Term-F.Isolate site t) = isolate site t
term_step (Term-F.Stop t) = stop t
term_step (Term-F.Require t cancels) = require t cancels
term_step (Term-F.Fold list start accumulator element body) = fold list start accumulator element body
term_step (Term-F.Unary op t) = unary op t
term_step (Term-F.Binary op a b) = binary op a b
term_step (Term-F.If condition chosen otherwise) = choice condition chosen otherwise
term_step (Term-F.Call f ts) = call f (trees_of ts)

abbrev pub tree_of : Term → Tree
tree_of = fold-Term Tree term_step

abbrev pub trees_of_terms : List Term → Trees
trees_of_terms ts = trees_of (map tree_of ts)

abbrev pub acts_of : List Act → Acts
acts_of [] = no_acts
acts_of (a ∷ more) = act a (acts_of more)

-- one level of a statement
abbrev pub statement_step : Statement-F Act → Act
statement_step (Statement-F.Set s t) = set s (tree_of t)
statement_step (Statement-F.Invoke s ts) = invoke s (trees_of_terms ts)
statement_step (Statement-F.Update s t) = update s (tree_of t)
statement_step (Statement-F.Freeze s) = freeze s
statement_step (Statement-F.Do t) = perform (tree_of t)
statement_step (Statement-F.If t block) = branch (tree_of t) (acts_of block)
statement_step (Statement-F.IfElse t block other) = branch_else (tree_of t) (acts_of block) (acts_of other)

abbrev pub act_of : Statement → Act
act_of = fold-Statement Act statement_step

abbrev pub acts_of_block : List Statement → Acts
acts_of_block block = acts_of (map act_of block)

abbrev pub shown_of : Output → Shown
shown_of output = record { priority = output.priority; while_hidden = output.while_hidden; keys = trees_of_terms output.keys; body = tree_of output.body }

abbrev pub node_of : Item → Node
node_of (item.Input name start) = input name start
node_of (item.Value name start) = value name start
node_of (item.Task name parameters body) = task name parameters (tree_of body)
node_of (item.Reactive name keys body) = reactive name (trees_of_terms keys) (tree_of body)
node_of (item.Event name flags e body) = event name flags (tree_of e) (tree_of body)
node_of (item.Text name output) = text name (shown_of output)
node_of (item.Plot name output) = plot name (shown_of output)
node_of (item.Observe name priority block) = observe name priority (acts_of_block block)
node_of (item.On name priority flags e block) = on name priority flags (tree_of e) (acts_of_block block)

-- the app that an `App` stands for
abbrev pub shape_of : Held → Shape
shape_of held = record { budget = held.budget; items = map node_of held.items }

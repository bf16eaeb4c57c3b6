-- What the statements of a well-formed app's observers name: sources of its own, and tasks, each with as many arguments as it
-- has parameters.
use Rattle.std.specs.Prelude.{◌≡◌, ◌≤◌, ◌<◌, ⊤, ℕ, ◌+◌, ◌-◌, List, filter, length, Some, slice_get}
use Rattle.app_tree.specs.Tree.{Tree, Act, set, invoke, update, freeze, perform, branch, branch_else, Acts, no_acts, act, Node, task, observe, on, Shape}
use Rattle.app_tree.specs.Numbering.{is_input, is_value, is_task, reader, starting_values}
use Rattle.app_tree.specs.ObserverTerms.{term_count}
use Rattle.app_tree.specs.WellFormed.{IsWellFormed}

-- how many sources are inputs or values: the tasks follow
abbrev pub before_tasks : Shape → ℕ
before_tasks app = length (filter is_input app.items) + length (filter is_value app.items)

-- this is the source number of a task that takes so many arguments
pub record IsTaskSource (app : Shape) (s count : ℕ) : Type 0 where
  pub behind : before_tasks app ≤ s
  pub name : List ℕ
  pub parameters : List (List ℕ)
  pub body : Tree
  pub is : slice_get (filter is_task app.items) (s - before_tasks app) ≡ Some (task name parameters body)
  pub takes : count ≡ length parameters

abbrev mutual
  pub FitsAct : Shape → Act → Type 0
  FitsAct app (set s t) = s < length (starting_values app.items)
  FitsAct app (invoke s ts) = IsTaskSource app s (term_count ts)
  FitsAct app (update s t) = s < length (starting_values app.items)
  FitsAct app (freeze s) = s < length (starting_values app.items)
  FitsAct app (perform t) = ⊤
  FitsAct app (branch t block) = FitActs app block
  FitsAct app (branch_else t block other) = FitActs app block × FitActs app other

  pub FitActs : Shape → Acts → Type 0
  FitActs app no_acts = ⊤
  FitActs app (act a more) = FitsAct app a × FitActs app more

abbrev pub FitsNode : Shape → Node → Type 0
FitsNode app (observe name priority block) = FitActs app block
FitsNode app (on name priority flags e block) = FitActs app block
FitsNode app _ = ⊤

abbrev pub StatementsFit : Type 0
StatementsFit = (app : Shape) → IsWellFormed app → (n : ℕ) (i : Node) → reader app n ≡ Some i → FitsNode app i

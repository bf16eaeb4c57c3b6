-- An app as plain data, by the productions of its language. The definitions recurse on this data,
-- and not on the types of `src/`, whose values hold themselves behind boxes.
use Rattle.std.specs.Prelude.{ℕ, ℤ, Bool, List}
use Rattle.rx_value.specs.declared.value.Value.{Value}
use Rattle.rx_value.specs.declared.operator.UnOp.{UnOp}
use Rattle.app_tree.specs.declared.term.Read.{Read}
use Rattle.app_tree.specs.declared.term.Operator.{Operator}
use Rattle.app_tree.specs.declared.term.Function.{Function}
use Rattle.app_tree.specs.declared.item.Flags.{Flags}

-- a term; `fold` has its list, its start, the names of its two variables, and its body
mutual
  pub data Tree : Type 0 where
    constant : Value → Tree
    group : Tree → Tree
    get : Read → Tree
    variable : ℕ → Tree
    isolate : ℕ → Tree → Tree
    stop : Tree → Tree
    require : Tree → Bool → Tree
    fold : Tree → Tree → List ℕ → List ℕ → Tree → Tree
    unary : UnOp → Tree → Tree
    binary : Operator → Tree → Tree → Tree
    choice : Tree → Tree → Tree → Tree
    call : Function → Trees → Tree

  pub data Trees : Type 0 where
    no_trees : Trees
    tree : Tree → Trees → Trees

-- a statement, and a block of them
mutual
  pub data Act : Type 0 where
    set : ℕ → Tree → Act
    invoke : ℕ → Trees → Act
    update : ℕ → Tree → Act
    freeze : ℕ → Act
    perform : Tree → Act
    branch : Tree → Acts → Act
    branch_else : Tree → Acts → Acts → Act

  pub data Acts : Type 0 where
    no_acts : Acts
    act : Act → Acts → Acts

-- what `text` and `plot` have in common; without keys it is not cached
pub record Shown : Type 0 where
  pub priority : ℤ
  pub while_hidden : Bool
  pub keys : Trees
  pub body : Tree

-- an item, with its name first
pub data Node : Type 0 where
  input : List ℕ → Value → Node
  value : List ℕ → Value → Node
  task : List ℕ → List (List ℕ) → Tree → Node
  reactive : List ℕ → Trees → Tree → Node
  event : List ℕ → Flags → Tree → Tree → Node
  text : List ℕ → Shown → Node
  plot : List ℕ → Shown → Node
  observe : List ℕ → ℤ → Acts → Node
  on : List ℕ → ℤ → Flags → Tree → Acts → Node

pub record Shape : Type 0 where
  pub budget : ℕ
  pub items : List Node

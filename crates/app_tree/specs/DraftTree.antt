-- A draft as plain data, by the productions of the language: an app file as it is written, with names in place of
-- numbers, and with the places that refusals name.
use Rattle.std.specs.Prelude.{ℕ, ℤ, Bool, List}
use Rattle.rx_value.specs.declared.value.Value.{Value}
use Rattle.rx_value.specs.declared.operator.UnOp.{UnOp}
use Rattle.app_tree.specs.declared.term.Operator.{Operator}
use Rattle.app_tree.specs.declared.term.Function.{Function}
use Rattle.app_tree.specs.declared.item.Flags.{Flags}
use Rattle.app_tree.specs.declared.draft_term.Name.{Name}
use Rattle.app_tree.specs.declared.draft_term.ReadForm.{ReadForm}

-- a term; a read, `isolate` and `fold` have the place of their first token
mutual
  pub data DraftTree : Type 0 where
    constant : Value → DraftTree
    group : DraftTree → DraftTree
    read : ReadForm → ℕ → Name → DraftTree
    variable : Name → DraftTree
    isolate : ℕ → DraftTree → DraftTree
    stop : DraftTree → DraftTree
    require : DraftTree → Bool → DraftTree
    fold : ℕ → DraftTree → DraftTree → Name → Name → DraftTree → DraftTree
    unary : UnOp → DraftTree → DraftTree
    binary : Operator → DraftTree → DraftTree → DraftTree
    choice : DraftTree → DraftTree → DraftTree → DraftTree
    call : Function → DraftTrees → DraftTree

  pub data DraftTrees : Type 0 where
    no_trees : DraftTrees
    tree : DraftTree → DraftTrees → DraftTrees

-- what a write does
pub data DraftDeed : Type 0 where
  set : Name → DraftTree → DraftDeed
  invoke : Name → DraftTrees → DraftDeed
  update : Name → DraftTree → DraftDeed
  freeze : Name → DraftDeed

-- a write, with the place of its first word
pub record WrittenDeed : Type 0 where
  pub place : ℕ
  pub deed : DraftDeed

-- a statement, and a block of them
mutual
  pub data DraftAct : Type 0 where
    write : WrittenDeed → DraftAct
    perform : DraftTree → DraftAct
    branch : DraftTree → DraftActs → DraftAct
    branch_else : DraftTree → DraftActs → DraftActs → DraftAct

  pub data DraftActs : Type 0 where
    no_acts : DraftActs
    act : DraftAct → DraftActs → DraftActs

-- the inside of a body's braces
pub record WrittenBody : Type 0 where
  pub writes : List WrittenDeed
  pub term : DraftTree

-- what `text` and `plot` have in common
pub record WrittenOutput : Type 0 where
  pub priority : ℤ
  pub while_hidden : Bool
  pub keys : DraftTrees
  pub body : WrittenBody

-- what an item is, behind its name
pub data WrittenForm : Type 0 where
  input : Value → WrittenForm
  value : Value → WrittenForm
  task : List Name → DraftTree → WrittenForm
  reactive : DraftTrees → WrittenBody → WrittenForm
  event : Flags → DraftTree → WrittenBody → WrittenForm
  text : WrittenOutput → WrittenForm
  plot : WrittenOutput → WrittenForm
  observe : ℤ → DraftActs → WrittenForm
  on : ℤ → Flags → DraftTree → DraftActs → WrittenForm

-- an item, with the place of its first word
pub record WrittenItem : Type 0 where
  pub place : ℕ
  pub name : Name
  pub form : WrittenForm

pub record DraftShape : Type 0 where
  pub budget : ℕ
  pub items : List WrittenItem

-- Worked examples of cached readers: what keys cover, what a covered body comes to, and what keys come to.
use Rattle.std.specs.Prelude.{◌≡◌, true, false, pos, [], ◌∷◌, None, Ok, Err, codes}
use Rattle.rx_value.specs.declared.operator.BinOp.TheVariants as op
use Rattle.rx_value.specs.declared.value.Value.TheVariants.{Bool as Truth, Int, Text}
use Rattle.rx_value.specs.declared.outcome.Outcome.TheVariants.{Val, Fail}
use Rattle.app_tree.specs.declared.term.Operator.TheVariants.{Strict}
use Rattle.app_tree.specs.declared.term.Read.TheVariants as read
use Rattle.app_tree.specs.Tree.{Tree, Trees, no_trees, tree, get, constant, group, isolate, stop, binary, choice, input, reactive, text, Shape}
use Rattle.app_tree.specs.Evaluate.{Answers}
use Rattle.app_tree.specs.Keys.{keys_result}
use Rattle.app_tree.specs.Cover.{is_covered, keyed_outcome}

-- three inputs
abbrev pub a : Tree
a = get (read.Input 0)

abbrev pub b : Tree
b = get (read.Input 1)

abbrev pub d : Tree
d = get (read.Input 2)

-- reader 0, the sum of b and d
abbrev pub e : Tree
e = get (read.Expr 0)

-- an app of these and of an output with these keys and this body, which is reader 1
abbrev pub with_output : Trees → Tree → Shape
with_output keys body = record {
  budget = 1000;
  items =
      input (codes "a") (Truth true) ∷ input (codes "b") (Int (pos 1)) ∷ input (codes "d") (Int (pos 2))
      ∷ reactive (codes "e") no_trees (binary (Strict op.Add) b d)
      ∷ text (codes "o") (record { priority = pos 0; while_hidden = false; keys = keys; body = body }) ∷ [];
}

-- a part that isn't taken counts all the same
abbrev pub BothBranches : Type 0
BothBranches = is_covered (with_output (tree a (tree b no_trees)) (choice a b d)) 1 ≡ false

-- an expression that is a key
abbrev pub ByExpression : Type 0
ByExpression = is_covered (with_output (tree e no_trees) (binary (Strict op.Multiply) e (constant (Int (pos 2))))) 1 ≡ true

-- all that an expression reads is a key
abbrev pub ThroughExpression : Type 0
ThroughExpression = is_covered (with_output (tree b (tree d no_trees)) e) 1 ≡ true

-- what an expression reads is not covered by the expression
abbrev pub BehindExpression : Type 0
BehindExpression = is_covered (with_output (tree e no_trees) b) 1 ≡ false

abbrev pub IsolatedInBody : Type 0
IsolatedInBody = is_covered (with_output (tree b no_trees) (isolate 0 b)) 1 ≡ false

-- a key in brackets covers nothing
abbrev pub KeyInBrackets : Type 0
KeyInBrackets = is_covered (with_output (tree (group b) no_trees) b) 1 ≡ false

-- 3 and 4 in the places of b and d
abbrev pub OutcomeByKeys : Type 0
OutcomeByKeys = keyed_outcome (with_output (tree b (tree d no_trees)) e) 1 (Int (pos 3) ∷ Int (pos 4) ∷ []) ≡ Val (Int (pos 7))

-- ---- keys

-- each input is 2
abbrev pub all_two : Answers
all_two = record { read = λ r. Val (Int (pos 2)); site = λ site. None }

abbrev pub ValuesOfKeys : Type 0
ValuesOfKeys = keys_result (tree a (tree (constant (Int (pos 3))) no_trees)) all_two ≡ Ok (Int (pos 2) ∷ Int (pos 3) ∷ [])

-- the second key fails, and the third one isn't evaluated
abbrev pub FirstFailure : Type 0
FirstFailure = keys_result (tree a (tree (stop (constant (Text (codes "first")))) (tree (stop (constant (Text (codes "second")))) no_trees))) all_two ≡ Err (Fail (codes "first"))

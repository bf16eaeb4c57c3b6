-- Worked examples: what is met first in the body of a cached output.
use Rattle.std.specs.Prelude.{◌≡◌, true, false, pos, [], ◌∷◌, codes}
use Rattle.rx_value.specs.declared.operator.BinOp.TheVariants as op
use Rattle.rx_value.specs.declared.value.Value.TheVariants.{Bool as Truth, Int}
use Rattle.app_tree.specs.declared.term.Operator.TheVariants.{Strict}
use Rattle.app_tree.specs.declared.term.Read.TheVariants.{Input}
use Rattle.app_tree.specs.Tree.{Trees, no_trees, tree, constant, group, isolate, binary, choice, input, Node, reactive, event, text, Shape}
use Rattle.app_tree.specs.CoverExamples.{a, b, d, e, with_output}
use Rattle.key_cover.specs.declared.coverage.Coverage.TheVariants.{Covered, Missing, Isolated}
use Rattle.key_cover.specs.Met.{first_met}

-- `text o cache (input$a, input$b) { if (input$a) input$b else input$d }`
abbrev pub BranchNotTaken : Type 0
BranchNotTaken = first_met (with_output (tree a (tree b no_trees)) (choice a b d)) 1 ≡ Missing (Input 2)

-- `text o cache (e()) { e() * 2 }`
abbrev pub ByExpression : Type 0
ByExpression = first_met (with_output (tree e no_trees) (binary (Strict op.Multiply) e (constant (Int (pos 2))))) 1 ≡ Covered

-- `text o cache (input$b, input$d) { e() }`, where `e` is the sum of both
abbrev pub ThroughExpression : Type 0
ThroughExpression = first_met (with_output (tree b (tree d no_trees)) e) 1 ≡ Covered

-- `text o cache (input$b) { e() }`: the key covers a part of what the expression reads
abbrev pub PartOfExpression : Type 0
PartOfExpression = first_met (with_output (tree b no_trees) e) 1 ≡ Missing (Input 2)

-- `text o cache (e()) { input$b }`: a key that is an expression covers nothing that it reads
abbrev pub BehindExpression : Type 0
BehindExpression = first_met (with_output (tree e no_trees) b) 1 ≡ Missing (Input 1)

-- `text o cache (input$b) { isolate(input$b) }`
abbrev pub IsolatedInBody : Type 0
IsolatedInBody = first_met (with_output (tree b no_trees) (isolate 0 b)) 1 ≡ Isolated 0

-- `text o cache ((input$b)) { input$b }`: a key in brackets covers nothing
abbrev pub KeyInBrackets : Type 0
KeyInBrackets = first_met (with_output (tree (group b) no_trees) b) 1 ≡ Missing (Input 1)

-- ---- what stands in the place of an expression

-- reader 0 is this item, and reader 1 is `text o` with these keys and reader 0 as its body
abbrev pub over : Node → Trees → Shape
over expression keys = record {
  budget = 1000;
  items =
      input (codes "a") (Truth true) ∷ input (codes "b") (Int (pos 1)) ∷ input (codes "d") (Int (pos 2)) ∷ expression
      ∷ text (codes "o") (record { priority = pos 0; while_hidden = false; keys = keys; body = e }) ∷ [];
}

-- `reactive e cache (input$d) { input$b }`: the keys of an expression are read as its body is, and come first
abbrev pub KeysOfExpression : Type 0
KeysOfExpression = first_met (over (reactive (codes "e") (tree d no_trees) b) (tree a no_trees)) 1 ≡ Missing (Input 2)

abbrev pub WithKeysOfExpression : Type 0
WithKeysOfExpression = first_met (over (reactive (codes "e") (tree d no_trees) b) (tree d (tree b no_trees))) 1 ≡ Covered

-- `reactive e { isolate(input$b) }`
abbrev pub IsolatedInExpression : Type 0
IsolatedInExpression = first_met (over (reactive (codes "e") no_trees (isolate 0 b)) (tree b no_trees)) 1 ≡ Isolated 0

-- `event e (input$a) { input$b }`: the event term is met before the site behind it
abbrev pub event_of_a : Node
event_of_a = event (codes "e") (record { ignore_init = false; allow_null = false }) a b

abbrev pub EventTermFirst : Type 0
EventTermFirst = first_met (over event_of_a (tree b no_trees)) 1 ≡ Missing (Input 0)

abbrev pub EventIsSite : Type 0
EventIsSite = first_met (over event_of_a (tree a (tree b no_trees))) 1 ≡ Isolated 0

abbrev pub EventAsKey : Type 0
EventAsKey = first_met (over event_of_a (tree e no_trees)) 1 ≡ Covered

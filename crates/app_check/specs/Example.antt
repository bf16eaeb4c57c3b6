-- App files of worked examples.
use Rattle.std.specs.Prelude.{ℕ, zero, suc, pos, false, List, [], ◌∷◌, ◌++◌, codes}
use Rattle.std.specs.Fmt.{decimal}
use Rattle.rx_value.specs.declared.value.Value.TheVariants as v
use Rattle.rx_value.specs.declared.operator.BinOp.TheVariants as bin
use Rattle.app_tree.specs.declared.term.Read.TheVariants as read
use Rattle.app_tree.specs.declared.term.Operator.TheVariants as operator
use Rattle.app_tree.specs.Tree.{get, binary, no_trees, tree, input, value, reactive, text, Shape}

-- ---- a file that is taken, and the app that it stands for

abbrev pub sum_shown : List ℕ
sum_shown = codes "value v = 1;\ninput n = 2;\nreactive e { v() + input$n }\ntext o { e() }"

-- the input is source 0, since inputs come before values, and the value is source 1; the expression is reader 0
abbrev pub sum_shown_app : Shape
sum_shown_app = record {
  budget = 1000;
  items =
      value (codes "v") (v.Int (pos 1))
      ∷ input (codes "n") (v.Int (pos 2))
      ∷ reactive (codes "e") no_trees (binary (operator.Strict bin.Add) (get (read.Value 1)) (get (read.Input 0)))
      ∷ text (codes "o") (record { priority = pos 0; while_hidden = false; keys = no_trees; body = get (read.Expr 0) }) ∷ [];
}

-- ---- files that are refused before the checks

abbrev pub byte_of_no_token : List ℕ
byte_of_no_token = codes "input a @ 1;"

abbrev pub text_without_end : List ℕ
text_without_end = codes "input a = \"abc"

abbrev pub sign_left_out : List ℕ
sign_left_out = codes "input a 1;"

-- ---- files that a check refuses

abbrev pub name_declared_twice : List ℕ
name_declared_twice = codes "input a = 1;\ninput a = 2;"

abbrev pub variable_unbound : List ℕ
variable_unbound = codes "text o { x }"

abbrev pub argument_left_out : List ℕ
argument_left_out = codes "task t(x) { x }\nobserve w { invoke t(); }"

abbrev pub input_read_in_task : List ℕ
input_read_in_task = codes "input a = 1;\ntask t() { input$a }"

abbrev pub later_expression_read : List ℕ
later_expression_read = codes "reactive a { b() }\nreactive b { 1 }"

abbrev pub isolate_in_last_part : List ℕ
isolate_in_last_part = codes "text o { fold(c(1), 0, a, x, isolate(1)) }"

abbrev pub write_in_expression : List ℕ
write_in_expression = codes "value v = 0;\nreactive e { set v = 1; 2 }"

abbrev pub third_fold_inside : List ℕ
third_fold_inside = codes "text o { fold(c(), 0, a, x, fold(c(), 0, a, x, fold(c(), 0, a, x, a))) }"

-- so many inputs, each named by `n` and a number, from this number on
abbrev pub inputs : ℕ → ℕ → List ℕ
inputs zero number = []
inputs (suc count) number = codes "input n" ++ decimal number ++ codes "=1;" ++ inputs count (suc number)

-- from n100 to n600, each of 13 bytes
abbrev pub items_beyond_limit : List ℕ
items_beyond_limit = inputs 501 100

-- ---- files with cached readers

-- a part that isn't taken counts all the same
abbrev pub input_beside_keys : List ℕ
input_beside_keys = codes "input a = TRUE;\ninput b = 1;\ninput d = 2;\ntext o cache (input$a, input$b) { if (input$a) input$b else input$d }"

abbrev pub input_isolated_in_cached : List ℕ
input_isolated_in_cached = codes "input b = 1;\ntext o cache (input$b) { isolate(input$b) }"

-- the key is all that the expression reads
abbrev pub keys_of_expression : List ℕ
keys_of_expression = codes "input b = 1;\nreactive e { input$b }\ntext o cache (input$b) { e() }"

abbrev pub keys_of_expression_app : Shape
keys_of_expression_app = record {
  budget = 1000;
  items =
      input (codes "b") (v.Int (pos 1))
      ∷ reactive (codes "e") no_trees (get (read.Input 0))
      ∷ text (codes "o") (record { priority = pos 0; while_hidden = false; keys = tree (get (read.Input 0)) no_trees; body = get (read.Expr 0) }) ∷ [];
}

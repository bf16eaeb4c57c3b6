-- Apps of worked examples, with their canonical texts.
use Rattle.std.specs.Prelude.{ℕ, pos, negsuc, true, false, List, [], ◌∷◌, ◌++◌, codes, Option, Some, None, Result, Ok, Err}
use Rattle.rx_value.specs.declared.value.Value.TheVariants as v
use Rattle.rx_value.specs.declared.operator.BinOp.TheVariants as bin
use Rattle.rx_value.specs.declared.operator.UnOp.TheVariants as un
use Rattle.rx_value.specs.declared.function.Fun.TheVariants as fun
use Rattle.rx_value.specs.declared.plot.Plot.TheVariants as drawn
use Rattle.app_tokens.specs.declared.error.TokenError.{TokenError}
use Rattle.app_tokens.specs.Tokens.{Tokens}
use Rattle.app_tokens.specs.Scan.{tokens_of}
use Rattle.app_tree.specs.DraftTree.{DraftShape}
use Rattle.app_reader.specs.declared.error.ReadError.{ReadError}
use Rattle.app_reader.specs.Items.{read_at}
use Rattle.app_printer.specs.Canonical.{draft_text}
use Rattle.app_tree.specs.declared.term.Read.TheVariants as read
use Rattle.app_tree.specs.declared.term.Operator.{Operator}
use Rattle.app_tree.specs.declared.term.Operator.TheVariants as operator
use Rattle.app_tree.specs.declared.term.Function.TheVariants as function
use Rattle.app_tree.specs.Tree.{Tree, constant, group, get, variable, isolate, stop, require, fold, unary, binary, choice, call, Trees, no_trees, tree, set, invoke, update, freeze, perform, branch, branch_else, Acts, no_acts, act, input, value, task, reactive, event, text, plot, observe, on, Shape}

abbrev number : ℕ → Tree
number n = constant (v.Int (pos n))

-- lines, each with a line feed behind it
abbrev lines : List (List ℕ) → List ℕ
lines [] = []
lines (l ∷ ls) = l ++ 10 ∷ lines ls

-- ---- two items

abbrev pub small_app : Shape
small_app = record {
  budget = 1000;
  items =
      input (codes "a") (v.Int (pos 1))
      ∷ text (codes "o") (record {
        priority = pos 0;
        while_hidden = false;
        keys = no_trees;
        body = binary (operator.Strict bin.Add) (get (read.Input 0)) (number 1);
      }) ∷ [];
}

abbrev pub small_text : List ℕ
small_text = lines (codes "budget 1000;" ∷ codes "input a = 1;" ∷ codes "text o { input$a + 1 }" ∷ [])

-- an app file of the same app, in which a priority of 0 is written and blanks are left out
abbrev pub small_file : List ℕ
small_file = codes "input a=1; text o priority 0{input$a+1 }"

abbrev text_of : Result DraftShape ReadError → Option (List ℕ)
text_of (Ok draft) = Some (draft_text draft)
text_of (Err e) = None

abbrev text_of_tokens : Result Tokens TokenError → Option (List ℕ)
text_of_tokens (Ok tokens) = text_of (read_at tokens)
text_of_tokens (Err e) = None

-- the canonical text of what is read from a file
abbrev pub rewritten : List ℕ → Option (List ℕ)
rewritten file = text_of_tokens (tokens_of file)

-- ---- every form

abbrev one : Tree → Trees
one t = tree t no_trees

abbrev two : Tree → Tree → Trees
two a b = tree a (one b)

abbrev between : Operator → Tree → Tree → Tree
between = binary

-- 1 || 2 && 3 == 4 + 5 * -6
abbrev ranks : Tree
ranks =
    between operator.Or (number 1) (between operator.And (number 2) (between (operator.Strict bin.Equal) (number 3)
    (between (operator.Strict bin.Add) (number 4) (between (operator.Strict bin.Multiply) (number 5) (unary un.Negate (number 6))))))

-- (1 < 2) != !TRUE
abbrev tests : Tree
tests = between (operator.Strict bin.NotEqual) (group (between (operator.Strict bin.Less) (number 1) (number 2))) (unary un.Not (constant (v.Bool true)))

abbrev statements : Acts
statements =
    act (set 3 (number 1)) (act (invoke 5 (two (number 1) (number 2))) (act (invoke 6 no_trees) (act (update 0 (number 3)) (act (freeze 0)
    (act (perform (stop (constant (v.Text (codes "x"))))) (act (branch (constant (v.Bool true)) (act (perform (number 1)) no_acts))
    (act (branch_else (constant (v.Bool false)) no_acts (act (perform (number 2)) no_acts)) no_acts)))))))

abbrev pub whole_app : Shape
whole_app = record {
  budget = 7;
  items =
      input (codes "i") (v.Int (negsuc 4))
      ∷ input (codes "t") (v.Text (34 ∷ 92 ∷ 10 ∷ 195 ∷ 164 ∷ []))
      ∷ input (codes "n") v.Null
      ∷ value (codes "v") (v.Ints (pos 1 ∷ negsuc 1 ∷ []))
      ∷ value (codes "z") (v.Ints [])
      ∷ task (codes "job") (codes "x" ∷ codes "y" ∷ []) (between (operator.Strict bin.Subtract) (variable 0) (variable 1))
      ∷ task (codes "none") [] (constant v.Null)
      ∷ reactive (codes "e") no_trees (choice tests (get (read.Value 3)) (get (read.Status 5)))
      ∷ reactive (codes "k") (two (get (read.Input 0)) (get (read.Expr 0)))
      (fold (get (read.Value 4)) (number 0) (codes "a") (codes "b") (call (function.Fun fun.Seq) (two (variable 0) (variable 1))))
      ∷ event (codes "g") (record { ignore_init = true; allow_null = true }) (get (read.Input 2)) (isolate 0 ranks)
      ∷ event (codes "h") (record { ignore_init = false; allow_null = false }) (get (read.Input 2)) (require (get (read.Result 6)) false)
      ∷ text (codes "o") (record {
        priority = negsuc 2;
        while_hidden = true;
        keys = one (get (read.Expr 1));
        body = require (get (read.Expr 1)) true;
      })
      ∷ plot (codes "p") (record {
        priority = pos 0;
        while_hidden = false;
        keys = no_trees;
        body = call (function.Plot drawn.Bars) (tree (get (read.Width 5)) (tree (get (read.Height 4)) (two (constant (v.Text [])) (call (function.Fun fun.C) no_trees))));
      })
      ∷ observe (codes "w") (pos 0) no_acts
      ∷ observe (codes "s") (pos 2) statements
      ∷ on (codes "q") (pos 1) (record { ignore_init = true; allow_null = false }) (get (read.Input 0)) no_acts ∷ [];
}

abbrev pub whole_text : List ℕ
whole_text = lines (
    codes "budget 7;"
    ∷ codes "input i = -5;"
    ∷ (codes "input t = \"\\\"\\\\\\n" ++ 195 ∷ 164 ∷ codes "\";")
    ∷ codes "input n = NULL;"
    ∷ codes "value v = c(1, -2);"
    ∷ codes "value z = c();"
    ∷ codes "task job (x, y) { x - y }"
    ∷ codes "task none () { NULL }"
    ∷ codes "reactive e { if ((1 < 2) != !TRUE) v() else status(job) }"
    ∷ codes "reactive k cache (input$i, e()) { fold(z(), 0, a, b, seq(a, b)) }"
    ∷ codes "event g ignoreInit allowNull (input$n) { isolate(1 || 2 && 3 == 4 + 5 * -6) }"
    ∷ codes "event h (input$n) { req(result(none)) }"
    ∷ codes "text o priority -3 whileHidden cache (k()) { req(k(), cancelOutput) }"
    ∷ codes "plot p { bars(width(p), height(o), \"\", c()) }"
    ∷ codes "observe w { }"
    ∷ codes "observe s priority 2 { set v = 1; invoke job(1, 2); invoke none(); update i = 3; freeze i; do stop(\"x\"); if (TRUE) { do 1; } if (FALSE) { } else { do 2; } }"
    ∷ codes "on q priority 1 ignoreInit (input$i) { }" ∷ []
    )

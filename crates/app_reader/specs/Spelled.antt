-- Worked examples of drafts, their tokens and their spellings.
use Rattle.std.specs.Prelude.{ℕ, zero, suc, List, [], ◌∷◌, codes, pos, negsuc, true, false}
use Rattle.rx_value.specs.declared.value.Value.TheVariants as v
use Rattle.rx_value.specs.declared.operator.BinOp.TheVariants as bin
use Rattle.rx_value.specs.declared.operator.UnOp.TheVariants as un
use Rattle.app_tokens.specs.declared.token.Token.{Token}
use Rattle.app_tokens.specs.declared.token.Kind.{Kind}
use Rattle.app_tokens.specs.declared.token.Kind.TheVariants as kind
use Rattle.app_tokens.specs.declared.word.Word.TheVariants as word
use Rattle.app_tokens.specs.declared.symbol.Symbol.TheVariants as symbol
use Rattle.app_tokens.specs.Tokens.{Tokens}
use Rattle.app_tree.specs.declared.term.Operator.TheVariants as operator
use Rattle.app_tree.specs.declared.draft_term.Name.{Name}
use Rattle.app_tree.specs.declared.draft_term.ReadForm.TheVariants as form
use Rattle.app_tree.specs.DraftTree.{DraftTree, constant, read, variable, isolate, stop, require, unary, binary, choice, no_trees, tree, set, write, perform, branch_else, no_acts, act, input, value, event, text, plot, observe, DraftShape}
use Rattle.app_reader.specs.Spelling.{Wanted, of_kind, at_place, named, called}

abbrev pub cut : Kind → ℕ → List ℕ → Token
cut kind place spelling = record { kind = kind; place = place; spelling = spelling }

abbrev pub written_name : List ℕ → ℕ → Name
written_name bytes place = record { text = bytes; place = place }

abbrev pub number : ℕ → DraftTree
number n = constant (v.Int (pos n))

-- ---- budget 5; value v = c(1, -2); text t priority -1 whileHidden cache (v()) { 1 + v() * 2 }
abbrev pub cached_text_tokens : Tokens
cached_text_tokens = record {
  tokens =
      cut (kind.Word word.Budget) 0 (codes "budget")
      ∷ cut (kind.Number 5) 7 (codes "5")
      ∷ cut (kind.Symbol symbol.Semicolon) 8 (codes ";")
      ∷ cut (kind.Word word.Value) 10 (codes "value")
      ∷ cut (kind.Name) 16 (codes "v")
      ∷ cut (kind.Symbol symbol.Assign) 18 (codes "=")
      ∷ cut (kind.Word word.C) 20 (codes "c")
      ∷ cut (kind.Symbol symbol.Open) 21 (codes "(")
      ∷ cut (kind.Number 1) 22 (codes "1")
      ∷ cut (kind.Symbol symbol.Comma) 23 (codes ",")
      ∷ cut (kind.Symbol symbol.Minus) 25 (codes "-")
      ∷ cut (kind.Number 2) 26 (codes "2")
      ∷ cut (kind.Symbol symbol.Close) 27 (codes ")")
      ∷ cut (kind.Symbol symbol.Semicolon) 28 (codes ";")
      ∷ cut (kind.Word word.Text) 30 (codes "text")
      ∷ cut (kind.Name) 35 (codes "t")
      ∷ cut (kind.Word word.Priority) 37 (codes "priority")
      ∷ cut (kind.Symbol symbol.Minus) 46 (codes "-")
      ∷ cut (kind.Number 1) 47 (codes "1")
      ∷ cut (kind.Word word.WhileHidden) 49 (codes "whileHidden")
      ∷ cut (kind.Word word.Cache) 61 (codes "cache")
      ∷ cut (kind.Symbol symbol.Open) 67 (codes "(")
      ∷ cut (kind.Name) 68 (codes "v")
      ∷ cut (kind.Symbol symbol.Open) 69 (codes "(")
      ∷ cut (kind.Symbol symbol.Close) 70 (codes ")")
      ∷ cut (kind.Symbol symbol.Close) 71 (codes ")")
      ∷ cut (kind.Symbol symbol.OpenBrace) 73 (codes "{")
      ∷ cut (kind.Number 1) 75 (codes "1")
      ∷ cut (kind.Symbol symbol.Plus) 77 (codes "+")
      ∷ cut (kind.Name) 79 (codes "v")
      ∷ cut (kind.Symbol symbol.Open) 80 (codes "(")
      ∷ cut (kind.Symbol symbol.Close) 81 (codes ")")
      ∷ cut (kind.Symbol symbol.Star) 83 (codes "*")
      ∷ cut (kind.Number 2) 85 (codes "2")
      ∷ cut (kind.Symbol symbol.CloseBrace) 87 (codes "}") ∷ [];
  end = 88;
}

abbrev pub cached_text : DraftShape
cached_text = record {
  budget = 5;
  items =
      record { place = 10; name = written_name (codes "v") 16; form = value (v.Ints (pos 1 ∷ negsuc 1 ∷ [])) }
      ∷ record {
        place = 30;
        name = written_name (codes "t") 35;
        form = text (record {
          priority = negsuc 0;
          while_hidden = true;
          keys = tree (read form.Named 68 (written_name (codes "v") 68)) no_trees;
          body = record {
            writes = [];
            term = binary (operator.Strict bin.Add) (number 1) (binary (operator.Strict bin.Multiply) (read form.Named 79 (written_name (codes "v") 79)) (number 2));
          };
        });
      } ∷ [];
}

abbrev pub cached_text_spelling : List Wanted
cached_text_spelling =
    of_kind (kind.Word word.Budget)
    ∷ of_kind (kind.Number 5)
    ∷ of_kind (kind.Symbol symbol.Semicolon)
    ∷ at_place (kind.Word word.Value) 10
    ∷ named (written_name (codes "v") 16)
    ∷ of_kind (kind.Symbol symbol.Assign)
    ∷ of_kind (kind.Word word.C)
    ∷ of_kind (kind.Symbol symbol.Open)
    ∷ of_kind (kind.Number 1)
    ∷ of_kind (kind.Symbol symbol.Comma)
    ∷ of_kind (kind.Symbol symbol.Minus)
    ∷ of_kind (kind.Number 2)
    ∷ of_kind (kind.Symbol symbol.Close)
    ∷ of_kind (kind.Symbol symbol.Semicolon)
    ∷ at_place (kind.Word word.Text) 30
    ∷ named (written_name (codes "t") 35)
    ∷ of_kind (kind.Word word.Priority)
    ∷ of_kind (kind.Symbol symbol.Minus)
    ∷ of_kind (kind.Number 1)
    ∷ of_kind (kind.Word word.WhileHidden)
    ∷ of_kind (kind.Word word.Cache)
    ∷ of_kind (kind.Symbol symbol.Open)
    ∷ called 68 (written_name (codes "v") 68)
    ∷ of_kind (kind.Symbol symbol.Open)
    ∷ of_kind (kind.Symbol symbol.Close)
    ∷ of_kind (kind.Symbol symbol.Close)
    ∷ of_kind (kind.Symbol symbol.OpenBrace)
    ∷ of_kind (kind.Number 1)
    ∷ of_kind (kind.Symbol symbol.Plus)
    ∷ called 79 (written_name (codes "v") 79)
    ∷ of_kind (kind.Symbol symbol.Open)
    ∷ of_kind (kind.Symbol symbol.Close)
    ∷ of_kind (kind.Symbol symbol.Star)
    ∷ of_kind (kind.Number 2)
    ∷ of_kind (kind.Symbol symbol.CloseBrace) ∷ []

-- ---- event e ignoreInit (input$a) { isolate(x) } observe o { if (TRUE) { set v = !NULL; } else { do req(1, cancelOutput); } }
abbrev pub statements_tokens : Tokens
statements_tokens = record {
  tokens =
      cut (kind.Word word.Event) 0 (codes "event")
      ∷ cut (kind.Name) 6 (codes "e")
      ∷ cut (kind.Word word.IgnoreInit) 8 (codes "ignoreInit")
      ∷ cut (kind.Symbol symbol.Open) 19 (codes "(")
      ∷ cut (kind.Word word.Input) 20 (codes "input")
      ∷ cut (kind.Symbol symbol.Dollar) 25 (codes "$")
      ∷ cut (kind.Name) 26 (codes "a")
      ∷ cut (kind.Symbol symbol.Close) 27 (codes ")")
      ∷ cut (kind.Symbol symbol.OpenBrace) 29 (codes "{")
      ∷ cut (kind.Word word.Isolate) 31 (codes "isolate")
      ∷ cut (kind.Symbol symbol.Open) 38 (codes "(")
      ∷ cut (kind.Name) 39 (codes "x")
      ∷ cut (kind.Symbol symbol.Close) 40 (codes ")")
      ∷ cut (kind.Symbol symbol.CloseBrace) 42 (codes "}")
      ∷ cut (kind.Word word.Observe) 44 (codes "observe")
      ∷ cut (kind.Name) 52 (codes "o")
      ∷ cut (kind.Symbol symbol.OpenBrace) 54 (codes "{")
      ∷ cut (kind.Word word.If) 56 (codes "if")
      ∷ cut (kind.Symbol symbol.Open) 59 (codes "(")
      ∷ cut (kind.Word word.True) 60 (codes "TRUE")
      ∷ cut (kind.Symbol symbol.Close) 64 (codes ")")
      ∷ cut (kind.Symbol symbol.OpenBrace) 66 (codes "{")
      ∷ cut (kind.Word word.Set) 68 (codes "set")
      ∷ cut (kind.Name) 72 (codes "v")
      ∷ cut (kind.Symbol symbol.Assign) 74 (codes "=")
      ∷ cut (kind.Symbol symbol.Not) 76 (codes "!")
      ∷ cut (kind.Word word.Null) 77 (codes "NULL")
      ∷ cut (kind.Symbol symbol.Semicolon) 81 (codes ";")
      ∷ cut (kind.Symbol symbol.CloseBrace) 83 (codes "}")
      ∷ cut (kind.Word word.Else) 85 (codes "else")
      ∷ cut (kind.Symbol symbol.OpenBrace) 90 (codes "{")
      ∷ cut (kind.Word word.Do) 92 (codes "do")
      ∷ cut (kind.Word word.Req) 95 (codes "req")
      ∷ cut (kind.Symbol symbol.Open) 98 (codes "(")
      ∷ cut (kind.Number 1) 99 (codes "1")
      ∷ cut (kind.Symbol symbol.Comma) 100 (codes ",")
      ∷ cut (kind.Word word.CancelOutput) 102 (codes "cancelOutput")
      ∷ cut (kind.Symbol symbol.Close) 114 (codes ")")
      ∷ cut (kind.Symbol symbol.Semicolon) 115 (codes ";")
      ∷ cut (kind.Symbol symbol.CloseBrace) 117 (codes "}")
      ∷ cut (kind.Symbol symbol.CloseBrace) 119 (codes "}") ∷ [];
  end = 120;
}

abbrev pub statements : DraftShape
statements = record {
  budget = 1000;
  items =
      record {
        place = 0;
        name = written_name (codes "e") 6;
        form = event (record { ignore_init = true; allow_null = false }) (read form.Input 20 (written_name (codes "a") 26))
            (record { writes = []; term = isolate 31 (variable (written_name (codes "x") 39)) });
      }
      ∷ record {
        place = 44;
        name = written_name (codes "o") 52;
        form = observe (pos 0) (act (branch_else (constant (v.Bool true))
            (act (write (record { place = 68; deed = set (written_name (codes "v") 72) (unary un.Not (constant v.Null)) })) no_acts)
            (act (perform (require (number 1) true)) no_acts)) no_acts);
      } ∷ [];
}

-- ---- input a = -0; plot p priority 0 { if (FALSE) "x" else stop("y") }
abbrev pub zeros_tokens : Tokens
zeros_tokens = record {
  tokens =
      cut (kind.Word word.Input) 0 (codes "input")
      ∷ cut (kind.Name) 6 (codes "a")
      ∷ cut (kind.Symbol symbol.Assign) 8 (codes "=")
      ∷ cut (kind.Symbol symbol.Minus) 10 (codes "-")
      ∷ cut (kind.Number 0) 11 (codes "0")
      ∷ cut (kind.Symbol symbol.Semicolon) 12 (codes ";")
      ∷ cut (kind.Word word.Plot) 14 (codes "plot")
      ∷ cut (kind.Name) 19 (codes "p")
      ∷ cut (kind.Word word.Priority) 21 (codes "priority")
      ∷ cut (kind.Number 0) 30 (codes "0")
      ∷ cut (kind.Symbol symbol.OpenBrace) 32 (codes "{")
      ∷ cut (kind.Word word.If) 34 (codes "if")
      ∷ cut (kind.Symbol symbol.Open) 37 (codes "(")
      ∷ cut (kind.Word word.False) 38 (codes "FALSE")
      ∷ cut (kind.Symbol symbol.Close) 43 (codes ")")
      ∷ cut (kind.Text (codes "x")) 45 (codes "\"x\"")
      ∷ cut (kind.Word word.Else) 49 (codes "else")
      ∷ cut (kind.Word word.Stop) 54 (codes "stop")
      ∷ cut (kind.Symbol symbol.Open) 58 (codes "(")
      ∷ cut (kind.Text (codes "y")) 59 (codes "\"y\"")
      ∷ cut (kind.Symbol symbol.Close) 62 (codes ")")
      ∷ cut (kind.Symbol symbol.CloseBrace) 64 (codes "}") ∷ [];
  end = 65;
}

abbrev pub zeros : DraftShape
zeros = record {
  budget = 1000;
  items =
      record { place = 0; name = written_name (codes "a") 6; form = input (v.Int (pos 0)) }
      ∷ record {
        place = 14;
        name = written_name (codes "p") 19;
        form = plot (record {
          priority = pos 0;
          while_hidden = false;
          keys = no_trees;
          body = record { writes = []; term = choice (constant (v.Bool false)) (constant (v.Text (codes "x"))) (stop (constant (v.Text (codes "y")))) };
        });
      } ∷ [];
}

-- the canonical spelling writes the budget, and leaves out the sign of zero and the priority
abbrev pub zeros_spelling : List Wanted
zeros_spelling =
    of_kind (kind.Word word.Budget)
    ∷ of_kind (kind.Number 1000)
    ∷ of_kind (kind.Symbol symbol.Semicolon)
    ∷ at_place (kind.Word word.Input) 0
    ∷ named (written_name (codes "a") 6)
    ∷ of_kind (kind.Symbol symbol.Assign)
    ∷ of_kind (kind.Number 0)
    ∷ of_kind (kind.Symbol symbol.Semicolon)
    ∷ at_place (kind.Word word.Plot) 14
    ∷ named (written_name (codes "p") 19)
    ∷ of_kind (kind.Symbol symbol.OpenBrace)
    ∷ of_kind (kind.Word word.If)
    ∷ of_kind (kind.Symbol symbol.Open)
    ∷ of_kind (kind.Word word.False)
    ∷ of_kind (kind.Symbol symbol.Close)
    ∷ of_kind (kind.Text (codes "x"))
    ∷ of_kind (kind.Word word.Else)
    ∷ of_kind (kind.Word word.Stop)
    ∷ of_kind (kind.Symbol symbol.Open)
    ∷ of_kind (kind.Text (codes "y"))
    ∷ of_kind (kind.Symbol symbol.Close)
    ∷ of_kind (kind.Symbol symbol.CloseBrace) ∷ []

-- ---- terms that need parentheses, or are too large

-- (1 + 2) * 3 without its parentheses
abbrev pub sum_times : DraftTree
sum_times = binary (operator.Strict bin.Multiply) (binary (operator.Strict bin.Add) (number 1) (number 2)) (number 3)

-- 1 < 2 < 3
abbrev pub compared_twice : DraftTree
compared_twice = binary (operator.Strict bin.Less) (binary (operator.Strict bin.Less) (number 1) (number 2)) (number 3)

-- 1 - (2 - 3) without its parentheses
abbrev pub to_the_right : DraftTree
to_the_right = binary (operator.Strict bin.Subtract) (number 1) (binary (operator.Strict bin.Subtract) (number 2) (number 3))

-- 1 + 1 + .. + 1 with so many operators
abbrev pub sum_of_ones : ℕ → DraftTree
sum_of_ones zero = number 1
sum_of_ones (suc n) = binary (operator.Strict bin.Add) (sum_of_ones n) (number 1)

-- !!..TRUE with so many signs
abbrev pub signs : ℕ → DraftTree
signs zero = constant (v.Bool true)
signs (suc n) = unary un.Not (signs n)

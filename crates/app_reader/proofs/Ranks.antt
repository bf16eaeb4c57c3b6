-- Operators, signs and words, by what stands for them.
use Rattle.std.proofs.Common.{◌≡◌, ℕ, zero, suc, Option, Some, None, refl, sym, ap, ◌∙◌, arith}
use Rattle.rx_value.specs.declared.operator.BinOp.TheVariants as bin
use Rattle.rx_value.specs.declared.operator.UnOp.{UnOp}
use Rattle.rx_value.specs.declared.operator.UnOp.TheVariants as un
use Rattle.rx_value.specs.declared.function.Fun.TheVariants as fun
use Rattle.rx_value.specs.declared.plot.Plot.TheVariants as drawn
use Rattle.app_tokens.specs.declared.word.Word.{Word}
use Rattle.app_tokens.specs.declared.word.Word.TheVariants as word
use Rattle.app_tokens.specs.declared.symbol.Symbol.{Symbol}
use Rattle.app_tokens.specs.declared.symbol.Symbol.TheVariants as symbol
use Rattle.app_tree.specs.declared.term.Operator.{Operator}
use Rattle.app_tree.specs.declared.term.Operator.TheVariants as operator
use Rattle.app_tree.specs.declared.term.Function.{Function}
use Rattle.app_tree.specs.declared.term.Function.TheVariants as function
use Rattle.app_tree.specs.declared.draft_term.ReadForm.{ReadForm}
use Rattle.app_tree.specs.declared.draft_term.ReadForm.TheVariants as form
use Rattle.app_tree.specs.DraftTree.{DraftTree, constant, group, read, variable, isolate, stop, require, fold, unary, binary, choice, call}
use Rattle.app_tree.specs.Fits.{rank_of, hold_of, operators}
use Rattle.app_reader.specs.declared.operators.Rank.{Rank}
use Rattle.app_reader.specs.declared.operators.Rank.TheVariants as rank
use Rattle.app_reader.specs.Words.{product_operator, sum_operator, comparison_operator, and_operator, or_operator, operator_of, sign_of, function_of}
use Rattle.app_reader.specs.Terms.{operator_in, sign_in}
use Rattle.app_reader.specs.Spelling.{operator_symbol, sign_symbol, function_word}

-- the number of a rank
abbrev pub code : Rank → ℕ
code rank.Product = 5
code rank.Sum = 4
code rank.Comparison = 3
code rank.And = 2
code rank.Or = 1

-- an operator of this rank, which is this symbol
pub record IsOf (k : ℕ) (x : Symbol) (o : Operator) : Type 0 where
  pub ranks : rank_of o ≡ k
  pub is_written : operator_symbol o ≡ x

is_of : (k : ℕ) (x : Symbol) (p o : Operator) → rank_of p ≡ k → operator_symbol p ≡ x → Some p ≡ Some o → IsOf k x o
is_of k x p o r w e = let is : p ≡ o = cc in record { ranks = ap rank_of (sym is) ∙ r; is_written = ap operator_symbol (sym is) ∙ w }

product_is : (x : Symbol) (o : Operator) → product_operator x ≡ Some o → IsOf 5 x o
product_is symbol.Star o e = is_of 5 symbol.Star (operator.Strict bin.Multiply) o refl refl e
product_is symbol.Quotient o e = is_of 5 symbol.Quotient (operator.Strict bin.Divide) o refl refl e
product_is symbol.Remainder o e = is_of 5 symbol.Remainder (operator.Strict bin.Modulo) o refl refl e
product_is _ o e = absurd cc

sum_is : (x : Symbol) (o : Operator) → sum_operator x ≡ Some o → IsOf 4 x o
sum_is symbol.Plus o e = is_of 4 symbol.Plus (operator.Strict bin.Add) o refl refl e
sum_is symbol.Minus o e = is_of 4 symbol.Minus (operator.Strict bin.Subtract) o refl refl e
sum_is _ o e = absurd cc

comparison_is : (x : Symbol) (o : Operator) → comparison_operator x ≡ Some o → IsOf 3 x o
comparison_is symbol.Equal o e = is_of 3 symbol.Equal (operator.Strict bin.Equal) o refl refl e
comparison_is symbol.NotEqual o e = is_of 3 symbol.NotEqual (operator.Strict bin.NotEqual) o refl refl e
comparison_is symbol.Less o e = is_of 3 symbol.Less (operator.Strict bin.Less) o refl refl e
comparison_is symbol.AtMost o e = is_of 3 symbol.AtMost (operator.Strict bin.LessOrEqual) o refl refl e
comparison_is symbol.Greater o e = is_of 3 symbol.Greater (operator.Strict bin.Greater) o refl refl e
comparison_is symbol.AtLeast o e = is_of 3 symbol.AtLeast (operator.Strict bin.GreaterOrEqual) o refl refl e
comparison_is _ o e = absurd cc

and_is : (x : Symbol) (o : Operator) → and_operator x ≡ Some o → IsOf 2 x o
and_is symbol.And o e = is_of 2 symbol.And operator.And o refl refl e
and_is _ o e = absurd cc

or_is : (x : Symbol) (o : Operator) → or_operator x ≡ Some o → IsOf 1 x o
or_is symbol.Or o e = is_of 1 symbol.Or operator.Or o refl refl e
or_is _ o e = absurd cc

pub operator_of-is : (r : Rank) (x : Symbol) (o : Operator) → operator_of r x ≡ Some o → IsOf (code r) x o
operator_of-is rank.Product x o e = product_is x o e
operator_of-is rank.Sum x o e = sum_is x o e
operator_of-is rank.Comparison x o e = comparison_is x o e
operator_of-is rank.And x o e = and_is x o e
operator_of-is rank.Or x o e = or_is x o e

-- the operator that stands next is its symbol
pub operator_stands : (r : Rank) (next : Option Symbol) (o : Operator) → operator_in r next ≡ Some o → (next ≡ Some (operator_symbol o)) × (rank_of o ≡ code r)
operator_stands r None o e = absurd cc
operator_stands r (Some x) o e = let is = operator_of-is r x o e in (ap Some (sym is.is_written), is.ranks)

sign_of-is : (x : Symbol) (op : UnOp) → sign_of x ≡ Some op → sign_symbol op ≡ x
sign_of-is symbol.Minus op e = let is : un.Negate ≡ op = cc in ap sign_symbol (sym is)
sign_of-is symbol.Not op e = let is : un.Not ≡ op = cc in ap sign_symbol (sym is)
sign_of-is _ op e = absurd cc

pub sign_stands : (next : Option Symbol) (op : UnOp) → sign_in next ≡ Some op → next ≡ Some (sign_symbol op)
sign_stands None op e = absurd cc
sign_stands (Some x) op e = ap Some (sym (sign_of-is x op e))

-- the functions and their words
pub function_of-is : (w : Word) (f : Function) → function_of w ≡ Some f → function_word f ≡ w
function_of-is word.C f e = let is : function.Fun fun.C ≡ f = cc in ap function_word (sym is)
function_of-is word.Paste0 f e = let is : function.Fun fun.Paste0 ≡ f = cc in ap function_word (sym is)
function_of-is word.Length f e = let is : function.Fun fun.Length ≡ f = cc in ap function_word (sym is)
function_of-is word.Nchar f e = let is : function.Fun fun.Nchar ≡ f = cc in ap function_word (sym is)
function_of-is word.Item f e = let is : function.Fun fun.Item ≡ f = cc in ap function_word (sym is)
function_of-is word.Sum f e = let is : function.Fun fun.Sum ≡ f = cc in ap function_word (sym is)
function_of-is word.Min f e = let is : function.Fun fun.Min ≡ f = cc in ap function_word (sym is)
function_of-is word.Max f e = let is : function.Fun fun.Max ≡ f = cc in ap function_word (sym is)
function_of-is word.Seq f e = let is : function.Fun fun.Seq ≡ f = cc in ap function_word (sym is)
function_of-is word.IsNull f e = let is : function.Fun fun.IsNull ≡ f = cc in ap function_word (sym is)
function_of-is word.AsInt f e = let is : function.Fun fun.AsInt ≡ f = cc in ap function_word (sym is)
function_of-is word.Bars f e = let is : function.Plot drawn.Bars ≡ f = cc in ap function_word (sym is)
function_of-is word.Lines f e = let is : function.Plot drawn.Lines ≡ f = cc in ap function_word (sym is)
function_of-is word.Points f e = let is : function.Plot drawn.Points ≡ f = cc in ap function_word (sym is)
function_of-is _ f e = absurd cc

-- the reads that are a word and a name in brackets
abbrev pub form_word_of : ReadForm → Word
form_word_of form.Status = word.Status
form_word_of form.Result = word.Result
form_word_of form.Width = word.Width
form_word_of form.Height = word.Height
form_word_of form.Input = word.Input
form_word_of form.Named = word.Input

-- a term that holds together most closely has no operator outside of brackets
rank_below : (op : Operator) → rank_of op ≡ 6 → zero ≡ suc zero
rank_below operator.Or e = absurd (omega arith)
rank_below operator.And e = absurd (omega arith)
rank_below (operator.Strict bin.Add) e = absurd (omega arith)
rank_below (operator.Strict bin.Subtract) e = absurd (omega arith)
rank_below (operator.Strict bin.Multiply) e = absurd (omega arith)
rank_below (operator.Strict bin.Divide) e = absurd (omega arith)
rank_below (operator.Strict bin.Modulo) e = absurd (omega arith)
rank_below (operator.Strict _) e = absurd (omega arith)

pub no_operators : (t : DraftTree) → hold_of t ≡ 6 → operators t ≡ 0
no_operators (constant k) e = refl
no_operators (group t) e = refl
no_operators (read form place n) e = refl
no_operators (variable n) e = refl
no_operators (isolate place t) e = refl
no_operators (stop t) e = refl
no_operators (require t cancels) e = refl
no_operators (fold place a b c d f) e = refl
no_operators (unary op t) e = refl
no_operators (binary op a b) e = let no : zero ≡ suc zero = rank_below op e in absurd (omega arith)
no_operators (choice a b c) e = refl
no_operators (call f ts) e = refl

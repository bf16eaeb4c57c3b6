-- What words and symbols stand for in terms.
use Rattle.std.specs.Prelude.{Option, Some, None}
use Rattle.rx_value.specs.declared.operator.BinOp.TheVariants as bin
use Rattle.rx_value.specs.declared.operator.UnOp.{UnOp}
use Rattle.rx_value.specs.declared.operator.UnOp.TheVariants as un
use Rattle.rx_value.specs.declared.function.Fun.TheVariants as fun
use Rattle.rx_value.specs.declared.plot.Plot.TheVariants as plot
use Rattle.app_tokens.specs.declared.word.Word.{Word}
use Rattle.app_tokens.specs.declared.word.Word.TheVariants as word
use Rattle.app_tokens.specs.declared.symbol.Symbol.{Symbol}
use Rattle.app_tokens.specs.declared.symbol.Symbol.TheVariants as symbol
use Rattle.app_tree.specs.declared.term.Operator.{Operator}
use Rattle.app_tree.specs.declared.term.Operator.TheVariants as operator
use Rattle.app_tree.specs.declared.term.Function.{Function}
use Rattle.app_tree.specs.declared.term.Function.TheVariants as function
use Rattle.app_tree.specs.declared.draft_term.ReadForm.{ReadForm}
use Rattle.app_tree.specs.declared.draft_term.ReadForm.TheVariants as form
use Rattle.app_reader.specs.declared.operators.Rank.{Rank}
use Rattle.app_reader.specs.declared.operators.Rank.TheVariants as rank

-- the operators of each rank; an operator of a rank that stands earlier here binds closer
abbrev pub product_operator : Symbol → Option Operator
product_operator symbol.Star = Some (operator.Strict bin.Multiply)
product_operator symbol.Quotient = Some (operator.Strict bin.Divide)
product_operator symbol.Remainder = Some (operator.Strict bin.Modulo)
product_operator _ = None

abbrev pub sum_operator : Symbol → Option Operator
sum_operator symbol.Plus = Some (operator.Strict bin.Add)
sum_operator symbol.Minus = Some (operator.Strict bin.Subtract)
sum_operator _ = None

abbrev pub comparison_operator : Symbol → Option Operator
comparison_operator symbol.Equal = Some (operator.Strict bin.Equal)
comparison_operator symbol.NotEqual = Some (operator.Strict bin.NotEqual)
comparison_operator symbol.Less = Some (operator.Strict bin.Less)
comparison_operator symbol.AtMost = Some (operator.Strict bin.LessOrEqual)
comparison_operator symbol.Greater = Some (operator.Strict bin.Greater)
comparison_operator symbol.AtLeast = Some (operator.Strict bin.GreaterOrEqual)
comparison_operator _ = None

abbrev pub and_operator : Symbol → Option Operator
and_operator symbol.And = Some operator.And
and_operator _ = None

abbrev pub or_operator : Symbol → Option Operator
or_operator symbol.Or = Some operator.Or
or_operator _ = None

abbrev pub operator_of : Rank → Symbol → Option Operator
operator_of rank.Product = product_operator
operator_of rank.Sum = sum_operator
operator_of rank.Comparison = comparison_operator
operator_of rank.And = and_operator
operator_of rank.Or = or_operator

-- the signs before an operand
abbrev pub sign_of : Symbol → Option UnOp
sign_of symbol.Minus = Some un.Negate
sign_of symbol.Not = Some un.Not
sign_of _ = None

-- the functions that are called by a word
abbrev pub function_of : Word → Option Function
function_of word.C = Some (function.Fun fun.C)
function_of word.Paste0 = Some (function.Fun fun.Paste0)
function_of word.Length = Some (function.Fun fun.Length)
function_of word.Nchar = Some (function.Fun fun.Nchar)
function_of word.Item = Some (function.Fun fun.Item)
function_of word.Sum = Some (function.Fun fun.Sum)
function_of word.Min = Some (function.Fun fun.Min)
function_of word.Max = Some (function.Fun fun.Max)
function_of word.Seq = Some (function.Fun fun.Seq)
function_of word.IsNull = Some (function.Fun fun.IsNull)
function_of word.AsInt = Some (function.Fun fun.AsInt)
function_of word.Bars = Some (function.Plot plot.Bars)
function_of word.Lines = Some (function.Plot plot.Lines)
function_of word.Points = Some (function.Plot plot.Points)
function_of _ = None

-- the reads that are a word and a name in brackets
abbrev pub read_form_of : Word → Option ReadForm
read_form_of word.Status = Some form.Status
read_form_of word.Result = Some form.Result
read_form_of word.Width = Some form.Width
read_form_of word.Height = Some form.Height
read_form_of _ = None

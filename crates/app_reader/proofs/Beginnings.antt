-- What begins a term: which tokens may be the first of its spelling.
use Rattle.std.proofs.Common.{◌≡◌, pos, negsuc, Bool, true, false, ◌||◌, Some, refl, ◌∙◌}
use Rattle.rx_value.specs.declared.value.Value.TheVariants as v
use Rattle.rx_value.specs.declared.operator.UnOp.TheVariants as un
use Rattle.rx_value.specs.declared.function.Fun.TheVariants as fun
use Rattle.rx_value.specs.declared.plot.Plot.TheVariants as drawn
use Rattle.app_tokens.specs.declared.token.Kind.{Kind}
use Rattle.app_tokens.specs.declared.token.Kind.TheVariants as kind
use Rattle.app_tokens.specs.declared.word.Word.{Word}
use Rattle.app_tokens.specs.declared.word.Word.TheVariants as word
use Rattle.app_tokens.specs.declared.symbol.Symbol.{Symbol}
use Rattle.app_tokens.specs.declared.symbol.Symbol.TheVariants as symbol
use Rattle.app_tokens.specs.Kind.{is_word, is_symbol}
use Rattle.app_tree.specs.declared.term.Function.{Function}
use Rattle.app_tree.specs.declared.term.Function.TheVariants as function
use Rattle.app_tree.specs.declared.draft_term.ReadForm.TheVariants as form
use Rattle.app_tree.specs.DraftTree.{DraftTree, constant, group, read, variable, isolate, stop, require, fold, unary, binary, choice, call}
use Rattle.app_reader.specs.Words.{function_of}
use Rattle.app_reader.specs.Spelling.{Wording, a_symbol, operator_symbol, sign_symbol, function_word, literal_kind, spell_term}
use Rattle.app_reader.proofs.Again.{may_begin}

-- the kind of a term's first token
abbrev pub first_of : DraftTree → Kind
first_of (constant k) = literal_kind k
first_of (group t) = kind.Symbol symbol.Open
first_of (read form.Input place n) = kind.Word word.Input
first_of (read form.Named place n) = kind.Name
first_of (read form.Status place n) = kind.Word word.Status
first_of (read form.Result place n) = kind.Word word.Result
first_of (read form.Width place n) = kind.Word word.Width
first_of (read form.Height place n) = kind.Word word.Height
first_of (variable n) = kind.Name
first_of (isolate place t) = kind.Word word.Isolate
first_of (stop t) = kind.Word word.Stop
first_of (require t cancels) = kind.Word word.Req
first_of (fold place a b m n c) = kind.Word word.Fold
first_of (unary op t) = kind.Symbol (sign_symbol op)
first_of (binary o a b) = first_of a
first_of (choice a b c) = kind.Word word.If
first_of (call f ts) = kind.Word (function_word f)

pub begins_as : (test : Kind → Bool) (t : DraftTree) (rest : Wording) → may_begin test (spell_term t rest) ≡ test (first_of t)
begins_as test (constant k) rest = refl
begins_as test (group t) rest = refl
begins_as test (read form.Input place n) rest = refl
begins_as test (read form.Named place n) rest = refl
begins_as test (read form.Status place n) rest = refl
begins_as test (read form.Result place n) rest = refl
begins_as test (read form.Width place n) rest = refl
begins_as test (read form.Height place n) rest = refl
begins_as test (variable n) rest = refl
begins_as test (isolate place t) rest = refl
begins_as test (stop t) rest = refl
begins_as test (require t cancels) rest = refl
begins_as test (fold place a b m n c) rest = refl
begins_as test (unary op t) rest = refl
begins_as test (binary o a b) rest = begins_as test a (a_symbol (operator_symbol o) (spell_term b rest))
begins_as test (choice a b c) rest = refl
begins_as test (call f ts) rest = refl

-- what a term can begin with, as a test
abbrev pub is_term_word : Word → Bool
is_term_word word.Input = true
is_term_word word.If = true
is_term_word word.True = true
is_term_word word.False = true
is_term_word word.Null = true
is_term_word word.C = true
is_term_word word.Isolate = true
is_term_word word.Req = true
is_term_word word.Stop = true
is_term_word word.Fold = true
is_term_word word.Result = true
is_term_word word.Status = true
is_term_word word.Width = true
is_term_word word.Height = true
is_term_word word.Paste0 = true
is_term_word word.Length = true
is_term_word word.Nchar = true
is_term_word word.Item = true
is_term_word word.Sum = true
is_term_word word.Min = true
is_term_word word.Max = true
is_term_word word.Seq = true
is_term_word word.IsNull = true
is_term_word word.AsInt = true
is_term_word word.Bars = true
is_term_word word.Lines = true
is_term_word word.Points = true
is_term_word _ = false

abbrev pub begins_term : Kind → Bool
begins_term (kind.Word w) = is_term_word w
begins_term (kind.Symbol x) = is_symbol symbol.Open (kind.Symbol x) || is_symbol symbol.Minus (kind.Symbol x) || is_symbol symbol.Not (kind.Symbol x)
begins_term kind.Name = true
begins_term (kind.Number n) = true
begins_term (kind.Text t) = true

function_begins : (f : Function) → is_term_word (function_word f) ≡ true
function_begins (function.Fun fun.C) = refl
function_begins (function.Fun fun.Paste0) = refl
function_begins (function.Fun fun.Length) = refl
function_begins (function.Fun fun.Nchar) = refl
function_begins (function.Fun fun.Item) = refl
function_begins (function.Fun fun.Sum) = refl
function_begins (function.Fun fun.Min) = refl
function_begins (function.Fun fun.Max) = refl
function_begins (function.Fun fun.Seq) = refl
function_begins (function.Fun fun.IsNull) = refl
function_begins (function.Fun fun.AsInt) = refl
function_begins (function.Plot drawn.Bars) = refl
function_begins (function.Plot drawn.Lines) = refl
function_begins (function.Plot drawn.Points) = refl

first_begins : (t : DraftTree) → begins_term (first_of t) ≡ true
first_begins (constant v.Null) = refl
first_begins (constant (v.Bool true)) = refl
first_begins (constant (v.Bool false)) = refl
first_begins (constant (v.Int (pos n))) = refl
first_begins (constant (v.Int (negsuc n))) = refl
first_begins (constant (v.Text bytes)) = refl
first_begins (constant (v.Ints zs)) = refl
first_begins (group t) = refl
first_begins (read form.Input place n) = refl
first_begins (read form.Named place n) = refl
first_begins (read form.Status place n) = refl
first_begins (read form.Result place n) = refl
first_begins (read form.Width place n) = refl
first_begins (read form.Height place n) = refl
first_begins (variable n) = refl
first_begins (isolate place t) = refl
first_begins (stop t) = refl
first_begins (require t cancels) = refl
first_begins (fold place a b m n c) = refl
first_begins (unary un.Negate t) = refl
first_begins (unary un.Not t) = refl
first_begins (binary o a b) = first_begins a
first_begins (choice a b c) = refl
first_begins (call f ts) = function_begins f

-- a term doesn't begin with what none begins with
pub begins_no : (test : Kind → Bool) → ((k : Kind) → begins_term k ≡ true → test k ≡ false) → (t : DraftTree) (rest : Wording) → may_begin test (spell_term t rest) ≡ false
begins_no test fails t rest = begins_as test t rest ∙ fails (first_of t) (first_begins t)

open_no_close : (x : Symbol) → begins_term (kind.Symbol x) ≡ true → is_symbol symbol.Close (kind.Symbol x) ≡ false
open_no_close symbol.Close e = absurd cc
open_no_close _ e = refl

pub not_close : (t : DraftTree) (rest : Wording) → may_begin (is_symbol symbol.Close) (spell_term t rest) ≡ false
not_close t rest = begins_no (is_symbol symbol.Close) fails t rest
  where
    fails : (k : Kind) → begins_term k ≡ true → is_symbol symbol.Close k ≡ false
    fails (kind.Symbol x) e = open_no_close x e
    fails (kind.Word w) e = refl
    fails kind.Name e = refl
    fails (kind.Number n) e = refl
    fails (kind.Text t) e = refl

pub function_not_if : (f : Function) → is_word word.If (kind.Word (function_word f)) ≡ false
function_not_if (function.Fun fun.C) = refl
function_not_if (function.Fun fun.Paste0) = refl
function_not_if (function.Fun fun.Length) = refl
function_not_if (function.Fun fun.Nchar) = refl
function_not_if (function.Fun fun.Item) = refl
function_not_if (function.Fun fun.Sum) = refl
function_not_if (function.Fun fun.Min) = refl
function_not_if (function.Fun fun.Max) = refl
function_not_if (function.Fun fun.Seq) = refl
function_not_if (function.Fun fun.IsNull) = refl
function_not_if (function.Fun fun.AsInt) = refl
function_not_if (function.Plot drawn.Bars) = refl
function_not_if (function.Plot drawn.Lines) = refl
function_not_if (function.Plot drawn.Points) = refl

pub function_back : (f : Function) → function_of (function_word f) ≡ Some f
function_back (function.Fun fun.C) = refl
function_back (function.Fun fun.Paste0) = refl
function_back (function.Fun fun.Length) = refl
function_back (function.Fun fun.Nchar) = refl
function_back (function.Fun fun.Item) = refl
function_back (function.Fun fun.Sum) = refl
function_back (function.Fun fun.Min) = refl
function_back (function.Fun fun.Max) = refl
function_back (function.Fun fun.Seq) = refl
function_back (function.Fun fun.IsNull) = refl
function_back (function.Fun fun.AsInt) = refl
function_back (function.Plot drawn.Bars) = refl
function_back (function.Plot drawn.Lines) = refl
function_back (function.Plot drawn.Points) = refl

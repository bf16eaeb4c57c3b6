-- The canonical text of an app: the one text in which it is printed.
--
-- The first line is the budget, and each item has a line of its own. Between tokens stands at most one space, and each
-- name, number and text is written in one way. A draft is written with every pair of brackets that it has and no other.
use Rattle.std.specs.Prelude.{ℕ, zero, suc, ℤ, pos, negsuc, Bool, true, false, List, [], ◌∷◌, ◌++◌, codes, nat_eq, if◌then◌else◌}
use Rattle.std.specs.Str.{byte}
use Rattle.std.specs.Fmt.{decimal, signed_decimal}
use Rattle.rx_value.specs.declared.value.Value.{Value}
use Rattle.rx_value.specs.declared.value.Value.TheVariants as v
use Rattle.rx_value.specs.declared.operator.BinOp.{BinOp}
use Rattle.rx_value.specs.declared.operator.BinOp.TheVariants as bin
use Rattle.rx_value.specs.declared.operator.UnOp.{UnOp}
use Rattle.rx_value.specs.declared.operator.UnOp.TheVariants as un
use Rattle.rx_value.specs.declared.function.Fun.{Fun}
use Rattle.rx_value.specs.declared.function.Fun.TheVariants as fun
use Rattle.rx_value.specs.declared.plot.Plot.{Plot}
use Rattle.rx_value.specs.declared.plot.Plot.TheVariants as drawn
use Rattle.app_tree.specs.declared.item.Flags.{Flags}
use Rattle.app_tree.specs.declared.term.Operator.{Operator}
use Rattle.app_tree.specs.declared.term.Operator.TheVariants as operator
use Rattle.app_tree.specs.declared.term.Function.{Function}
use Rattle.app_tree.specs.declared.term.Function.TheVariants as function
use Rattle.app_tree.specs.declared.draft_term.Name.{Name}
use Rattle.app_tree.specs.Tree.{Shape}
use Rattle.app_tree.specs.DraftTree.{DraftTree, constant, group, read, variable, isolate, stop, require, fold, unary, binary, choice, call, DraftTrees, no_trees, tree, DraftDeed, set, invoke, update, freeze, WrittenDeed, DraftAct, write, perform, branch, branch_else, DraftActs, no_acts, act, WrittenBody, WrittenOutput, WrittenForm, input, value, task, reactive, event, text, plot, observe, on, WrittenItem, DraftShape}
use Rattle.app_tree.specs.Named.{named}
use Rattle.read_text.specs.Spelling.{read_text}

-- ---- words and symbols

abbrev pub strict_text : BinOp → List ℕ
strict_text bin.Add = codes "+"
strict_text bin.Subtract = codes "-"
strict_text bin.Multiply = codes "*"
strict_text bin.Divide = codes "%/%"
strict_text bin.Modulo = codes "%%"
strict_text bin.Equal = codes "=="
strict_text bin.NotEqual = codes "!="
strict_text bin.Less = codes "<"
strict_text bin.LessOrEqual = codes "<="
strict_text bin.Greater = codes ">"
strict_text bin.GreaterOrEqual = codes ">="

abbrev pub operator_text : Operator → List ℕ
operator_text operator.Or = codes "||"
operator_text operator.And = codes "&&"
operator_text (operator.Strict op) = strict_text op

abbrev pub sign_text : UnOp → List ℕ
sign_text un.Negate = codes "-"
sign_text un.Not = codes "!"

abbrev pub fun_text : Fun → List ℕ
fun_text fun.C = codes "c"
fun_text fun.Paste0 = codes "paste0"
fun_text fun.Length = codes "length"
fun_text fun.Nchar = codes "nchar"
fun_text fun.Item = codes "item"
fun_text fun.Sum = codes "sum"
fun_text fun.Min = codes "min"
fun_text fun.Max = codes "max"
fun_text fun.Seq = codes "seq"
fun_text fun.IsNull = codes "is_null"
fun_text fun.AsInt = codes "as_int"

abbrev pub plot_text : Plot → List ℕ
plot_text drawn.Bars = codes "bars"
plot_text drawn.Lines = codes "lines"
plot_text drawn.Points = codes "points"

abbrev pub function_text : Function → List ℕ
function_text (function.Fun f) = fun_text f
function_text (function.Plot p) = plot_text p

-- ---- numbers, texts and constants

-- a quote, a backslash and a line feed are written as pairs, and all else as it is
abbrev pub escaped_byte : ℕ → List ℕ
escaped_byte b =
    if nat_eq b (byte "\"") then codes "\\\"" else (if nat_eq b (byte "\\") then codes "\\\\" else (if nat_eq b 10 then codes "\\n" else b ∷ []))

abbrev pub escaped : List ℕ → List ℕ
escaped [] = []
escaped (b ∷ bs) = escaped_byte b ++ escaped bs

abbrev pub quoted : List ℕ → List ℕ
quoted bytes = codes "\"" ++ escaped bytes ++ codes "\""

abbrev pub more_numbers : List ℤ → List ℕ
more_numbers [] = []
more_numbers (z ∷ zs) = codes ", " ++ signed_decimal z ++ more_numbers zs

abbrev pub numbers_text : List ℤ → List ℕ
numbers_text [] = []
numbers_text (z ∷ zs) = signed_decimal z ++ more_numbers zs

abbrev pub truth_text : Bool → List ℕ
truth_text true = codes "TRUE"
truth_text false = codes "FALSE"

abbrev pub constant_text : Value → List ℕ
constant_text v.Null = codes "NULL"
constant_text (v.Bool truth) = truth_text truth
constant_text (v.Int z) = signed_decimal z
constant_text (v.Text bytes) = quoted bytes
constant_text (v.Ints zs) = codes "c(" ++ numbers_text zs ++ codes ")"

-- ---- terms

abbrev pub cancels_text : Bool → List ℕ
cancels_text true = codes ", cancelOutput"
cancels_text false = []

abbrev mutual
  pub term_text : DraftTree → List ℕ
  term_text (constant k) = constant_text k
  term_text (group t) = codes "(" ++ term_text t ++ codes ")"
  term_text (read form place name) = read_text form name.text
  term_text (variable name) = name.text
  term_text (isolate place t) = codes "isolate(" ++ term_text t ++ codes ")"
  term_text (stop t) = codes "stop(" ++ term_text t ++ codes ")"
  term_text (require t cancels) = codes "req(" ++ term_text t ++ cancels_text cancels ++ codes ")"
  term_text (fold place list start accumulator element body) =
      codes "fold(" ++ term_text list ++ codes ", " ++ term_text start ++ codes ", " ++ accumulator.text ++ codes ", "
      ++ element.text ++ codes ", " ++ term_text body ++ codes ")"
  term_text (unary op t) = sign_text op ++ term_text t
  term_text (binary op left right) = term_text left ++ codes " " ++ operator_text op ++ codes " " ++ term_text right
  term_text (choice condition chosen otherwise) =
      codes "if (" ++ term_text condition ++ codes ") " ++ term_text chosen ++ codes " else " ++ term_text otherwise
  term_text (call f ts) = function_text f ++ codes "(" ++ terms_text ts ++ codes ")"

  pub terms_text : DraftTrees → List ℕ
  terms_text no_trees = []
  terms_text (tree t ts) = term_text t ++ more_terms ts

  pub more_terms : DraftTrees → List ℕ
  more_terms no_trees = []
  more_terms (tree t ts) = codes ", " ++ term_text t ++ more_terms ts

-- ---- statements

abbrev pub assigned_text : Name → DraftTree → List ℕ
assigned_text name t = name.text ++ codes " = " ++ term_text t ++ codes ";"

abbrev pub deed_text : DraftDeed → List ℕ
deed_text (set name t) = codes "set " ++ assigned_text name t
deed_text (invoke name ts) = codes "invoke " ++ name.text ++ codes "(" ++ terms_text ts ++ codes ");"
deed_text (update name t) = codes "update " ++ assigned_text name t
deed_text (freeze name) = codes "freeze " ++ name.text ++ codes ";"

abbrev pub braced : List ℕ → List ℕ
braced inside = codes "{ " ++ inside ++ codes "}"

-- a block has a space behind each statement
abbrev mutual
  pub act_text : DraftAct → List ℕ
  act_text (write w) = deed_text w.deed
  act_text (perform t) = codes "do " ++ term_text t ++ codes ";"
  act_text (branch t block) = codes "if (" ++ term_text t ++ codes ") " ++ braced (acts_text block)
  act_text (branch_else t block other) =
      codes "if (" ++ term_text t ++ codes ") " ++ braced (acts_text block) ++ codes " else " ++ braced (acts_text other)

  pub acts_text : DraftActs → List ℕ
  acts_text no_acts = []
  acts_text (act a more) = act_text a ++ codes " " ++ acts_text more

abbrev pub writes_text : List WrittenDeed → List ℕ
writes_text [] = []
writes_text (w ∷ ws) = deed_text w.deed ++ codes " " ++ writes_text ws

abbrev pub body_text : WrittenBody → List ℕ
body_text body = codes "{ " ++ writes_text body.writes ++ term_text body.term ++ codes " }"

-- ---- items

abbrev pub if_written : Bool → List ℕ → List ℕ
if_written true words = words
if_written false words = []

abbrev pub flags_text : Flags → List ℕ
flags_text flags = if_written flags.ignore_init (codes " ignoreInit") ++ if_written flags.allow_null (codes " allowNull")

-- a priority of 0 is not written
abbrev pub priority_text : ℤ → List ℕ
priority_text (pos zero) = []
priority_text (pos (suc n)) = codes " priority " ++ signed_decimal (pos (suc n))
priority_text (negsuc n) = codes " priority " ++ signed_decimal (negsuc n)

-- an item without keys is not cached
abbrev pub keys_text : DraftTrees → List ℕ
keys_text no_trees = []
keys_text (tree t ts) = codes " cache (" ++ terms_text (tree t ts) ++ codes ")"

abbrev pub more_names : List Name → List ℕ
more_names [] = []
more_names (n ∷ ns) = codes ", " ++ n.text ++ more_names ns

abbrev pub names_text : List Name → List ℕ
names_text [] = []
names_text (n ∷ ns) = n.text ++ more_names ns

abbrev pub start_text : Value → List ℕ
start_text start = codes " = " ++ constant_text start ++ codes ";"

abbrev pub output_text : WrittenOutput → List ℕ
output_text output =
    priority_text output.priority ++ if_written output.while_hidden (codes " whileHidden") ++ keys_text output.keys
    ++ codes " " ++ body_text output.body

abbrev pub form_word : WrittenForm → List ℕ
form_word (input start) = codes "input "
form_word (value start) = codes "value "
form_word (task parameters body) = codes "task "
form_word (reactive keys body) = codes "reactive "
form_word (event flags e body) = codes "event "
form_word (text output) = codes "text "
form_word (plot output) = codes "plot "
form_word (observe priority block) = codes "observe "
form_word (on priority flags e block) = codes "on "

-- what stands behind the name of an item
abbrev pub form_text : WrittenForm → List ℕ
form_text (input start) = start_text start
form_text (value start) = start_text start
form_text (task parameters body) = codes " (" ++ names_text parameters ++ codes ") { " ++ term_text body ++ codes " }"
form_text (reactive keys body) = keys_text keys ++ codes " " ++ body_text body
form_text (event flags e body) = flags_text flags ++ codes " (" ++ term_text e ++ codes ") " ++ body_text body
form_text (text output) = output_text output
form_text (plot output) = output_text output
form_text (observe priority block) = priority_text priority ++ codes " " ++ braced (acts_text block)
form_text (on priority flags e block) =
    priority_text priority ++ flags_text flags ++ codes " (" ++ term_text e ++ codes ") " ++ braced (acts_text block)

abbrev pub item_text : WrittenItem → List ℕ
item_text item = form_word item.form ++ item.name.text ++ form_text item.form

-- each with a line feed behind it
abbrev pub items_text : List WrittenItem → List ℕ
items_text [] = []
items_text (item ∷ items) = item_text item ++ 10 ∷ items_text items

-- the canonical text of a draft
abbrev pub draft_text : DraftShape → List ℕ
draft_text draft = codes "budget " ++ decimal draft.budget ++ codes ";" ++ 10 ∷ items_text draft.items

-- the canonical text of an app is that of the draft in which it is written
abbrev pub canonical_text : Shape → List ℕ
canonical_text app = draft_text (named app)

-- Which drafts a text can give, but for the spelling of item names: the limits of an app, how the names of parameters and
-- variables are spelled, and where a term has to stand in parentheses.
--
-- Places are not looked at here, nor the names of items, where they are declared and where they are used. A draft that fits
-- may still be refused by the checks of names.
use Rattle.std.specs.Prelude.{ℕ, zero, suc, ◌+◌, ℤ, pos, negsuc, Bool, true, false, ◌&&◌, ◌||◌, List, length, Option, Some, nat_eq, nat_le, nat_lt}
use Rattle.std.specs.List.{list_all}
use Rattle.std.specs.Str.{is_utf8}
use Rattle.rx_value.specs.declared.limits.TheConstants.{TEXT_LIMIT, LIST_LIMIT, GREATEST_NUMBER}
use Rattle.rx_value.specs.declared.value.Value.{Value}
use Rattle.rx_value.specs.declared.value.Value.TheVariants as v
use Rattle.rx_value.specs.declared.operator.BinOp.{BinOp}
use Rattle.rx_value.specs.declared.operator.BinOp.TheVariants as bin
use Rattle.rx_value.specs.Functions.{argument_count, is_count}
use Rattle.rx_value.specs.Names.{is_name}
use Rattle.app_tree.specs.declared.limits.TheConstants.{LEVEL_LIMIT, OPERATOR_LIMIT, BUDGET_LIMIT}
use Rattle.app_tree.specs.declared.term.Operator.{Operator}
use Rattle.app_tree.specs.declared.term.Operator.TheVariants as operator
use Rattle.app_tree.specs.declared.term.Function.{Function}
use Rattle.app_tree.specs.declared.term.Function.TheVariants as function
use Rattle.app_tree.specs.declared.draft_term.Name.{Name}
use Rattle.app_tree.specs.DraftTree.{DraftTree, constant, group, read, variable, isolate, stop, require, fold, unary, binary, choice, call, DraftTrees, no_trees, tree, DraftDeed, set, invoke, update, freeze, WrittenDeed, DraftAct, write, perform, branch, branch_else, DraftActs, no_acts, act, WrittenBody, WrittenOutput, WrittenForm, input, value, task, reactive, event, text, plot, observe, on, WrittenItem, DraftShape}

-- ---- numbers and texts

-- no number is written that is greater than the greatest one
abbrev pub is_natural : ℕ → Bool
is_natural n = nat_le n GREATEST_NUMBER

-- with a sign a number goes from minus the greatest one to the greatest one
abbrev pub is_number : ℤ → Bool
is_number (pos n) = is_natural n
is_number (negsuc n) = is_natural (suc n)

-- a text can hold every byte from 32 on, and line feeds
abbrev pub is_text_byte : ℕ → Bool
is_text_byte b = nat_le 32 b || nat_eq b 10

-- at most as many of these bytes as a text may have, which are UTF-8
abbrev pub is_text : List ℕ → Bool
is_text bytes = nat_le (length bytes) TEXT_LIMIT && list_all is_text_byte bytes && is_utf8 bytes

-- at most as many numbers as a list may have
abbrev pub are_numbers : List ℤ → Bool
are_numbers numbers = nat_le (length numbers) LIST_LIMIT && list_all is_number numbers

-- what an input or a value may start with
abbrev pub constant_fits : Value → Bool
constant_fits v.Null = true
constant_fits (v.Bool truth) = true
constant_fits (v.Int number) = is_number number
constant_fits (v.Text bytes) = is_text bytes
constant_fits (v.Ints numbers) = are_numbers numbers

-- a constant in a term: a number has no sign there, since the sign is a term of its own; and a list is a call of `c`
abbrev pub literal_fits : Value → Bool
literal_fits v.Null = true
literal_fits (v.Bool truth) = true
literal_fits (v.Int (pos n)) = is_natural n
literal_fits (v.Int (negsuc n)) = false
literal_fits (v.Text bytes) = is_text bytes
literal_fits (v.Ints numbers) = false

-- ---- names of parameters and variables

abbrev pub name_fits : Name → Bool
name_fits n = is_name n.text

-- ---- how closely terms hold together

abbrev pub comparison : ℕ
comparison = 3

-- the rank of an operator: one of higher rank binds closer
abbrev pub strict_rank : BinOp → ℕ
strict_rank bin.Add = 4
strict_rank bin.Subtract = 4
strict_rank bin.Multiply = 5
strict_rank bin.Divide = 5
strict_rank bin.Modulo = 5
strict_rank _ = comparison

abbrev pub rank_of : Operator → ℕ
rank_of operator.Or = 1
rank_of operator.And = 2
rank_of (operator.Strict op) = strict_rank op

-- how closely a term holds together: an `if` term as loosely as can be, operands as their operator says, all else most closely
abbrev pub hold_of : DraftTree → ℕ
hold_of (choice condition chosen otherwise) = 0
hold_of (binary op left right) = rank_of op
hold_of _ = 6

-- a left operand holds as closely as its operator at least, so that chains go to the left; but at a comparison it holds
-- more closely, so that none is compared again
abbrev pub left_of : ℕ → ℕ
left_of rank = if_comparison (nat_eq rank comparison) rank
  where
    if_comparison : Bool → ℕ → ℕ
    if_comparison true rank = suc rank
    if_comparison false rank = rank

-- the two operands may stand beside the operator without parentheses: the right one holds more closely than it
abbrev pub are_operands : Operator → DraftTree → DraftTree → Bool
are_operands op left right = nat_le (left_of (rank_of op)) (hold_of left) && nat_lt (rank_of op) (hold_of right)

-- what a sign stands before: neither an `if` term nor a chain
abbrev pub is_signed : DraftTree → Bool
is_signed t = nat_eq (hold_of t) 6

-- the operators of a term outside of its brackets; the parts of an `if` term count for themselves
abbrev pub operators : DraftTree → ℕ
operators (binary op left right) = operators left + operators right + 1
operators _ = 0

-- ---- terms

-- how many arguments a function takes, or any number
abbrev pub arguments_of : Function → Option ℕ
arguments_of (function.Fun f) = argument_count f
arguments_of (function.Plot p) = Some 4

abbrev pub count : DraftTrees → ℕ
count no_trees = 0
count (tree t ts) = suc (count ts)

-- a part that is one level deeper, where so many levels are left: there has to be one more
abbrev pub deeper : ℕ → (ℕ → Bool) → Bool
deeper zero fits = false
deeper (suc levels) fits = fits levels

-- a part that is one level deeper and a term of its own, which has no more operators than it may
abbrev pub whole_in : DraftTree → ℕ → (ℕ → Bool) → Bool
whole_in t zero fits = false
whole_in t (suc levels) fits = nat_le (operators t) OPERATOR_LIMIT && fits levels

-- a term below whose own level there are so many levels: what stands in its brackets, the parts of an `if` term and the
-- operand of a sign are one level deeper, while operands share the level of their operator
abbrev mutual
  pub term_fits : DraftTree → ℕ → Bool
  term_fits (constant k) levels = literal_fits k
  term_fits (group t) levels = whole_in t levels (λ below. term_fits t below)
  term_fits (read form place name) levels = true
  term_fits (variable name) levels = name_fits name
  term_fits (isolate place t) levels = whole_in t levels (λ below. term_fits t below)
  term_fits (stop t) levels = whole_in t levels (λ below. term_fits t below)
  term_fits (require t cancels) levels = whole_in t levels (λ below. term_fits t below)
  term_fits (fold place list start accumulator element body) levels =
      whole_in list levels (λ below. term_fits list below)
      && whole_in start levels (λ below. term_fits start below)
      && name_fits accumulator && name_fits element
      && whole_in body levels (λ below. term_fits body below)
  term_fits (unary op t) levels = is_signed t && deeper levels (λ below. term_fits t below)
  term_fits (binary op left right) levels = are_operands op left right && term_fits left levels && term_fits right levels
  term_fits (choice condition chosen otherwise) levels =
      whole_in condition levels (λ below. term_fits condition below)
      && whole_in chosen levels (λ below. term_fits chosen below)
      && whole_in otherwise levels (λ below. term_fits otherwise below)
  term_fits (call f ts) levels = is_count (arguments_of f) (count ts) && terms_fit ts levels

  pub terms_fit : DraftTrees → ℕ → Bool
  terms_fit no_trees levels = true
  terms_fit (tree t ts) levels = whole_in t levels (λ below. term_fits t below) && terms_fit ts levels

-- a term that stands by itself, in a statement, a key, a body, an event or a task: all levels, of which it is the first
abbrev pub whole_fits : DraftTree → Bool
whole_fits t = whole_in t LEVEL_LIMIT (term_fits t)

-- the same of each of a list
abbrev pub all_fit : DraftTrees → Bool
all_fit ts = terms_fit ts LEVEL_LIMIT

-- ---- statements

abbrev pub deed_fits : DraftDeed → Bool
deed_fits (set name t) = whole_fits t
deed_fits (invoke name ts) = all_fit ts
deed_fits (update name t) = whole_fits t
deed_fits (freeze name) = true

abbrev pub write_fits : WrittenDeed → Bool
write_fits w = deed_fits w.deed

-- a block below which there are so many levels: the blocks of an `if` statement are one level deeper
abbrev mutual
  pub act_fits : DraftAct → ℕ → Bool
  act_fits (write w) levels = write_fits w
  act_fits (perform t) levels = whole_fits t
  act_fits (branch t block) levels = whole_fits t && deeper levels (λ below. acts_fit block below)
  act_fits (branch_else t block other) levels =
      whole_fits t && deeper levels (λ below. acts_fit block below) && deeper levels (λ below. acts_fit other below)

  pub acts_fit : DraftActs → ℕ → Bool
  acts_fit no_acts levels = true
  acts_fit (act a more) levels = act_fits a levels && acts_fit more levels

-- the block of an item, which is the first of its levels
abbrev pub block_fits : DraftActs → Bool
block_fits block = deeper LEVEL_LIMIT (λ below. acts_fit block below)

abbrev pub body_fits : WrittenBody → Bool
body_fits body = list_all write_fits body.writes && whole_fits body.term

-- ---- items

abbrev pub output_fits : WrittenOutput → Bool
output_fits output = is_number output.priority && all_fit output.keys && body_fits output.body

abbrev pub form_fits : WrittenForm → Bool
form_fits (input start) = constant_fits start
form_fits (value start) = constant_fits start
form_fits (task parameters body) = list_all name_fits parameters && whole_fits body
form_fits (reactive keys body) = all_fit keys && body_fits body
form_fits (event flags e body) = whole_fits e && body_fits body
form_fits (text output) = output_fits output
form_fits (plot output) = output_fits output
form_fits (observe priority block) = is_number priority && block_fits block
form_fits (on priority flags e block) = is_number priority && whole_fits e && block_fits block

abbrev pub item_fits : WrittenItem → Bool
item_fits item = form_fits item.form

-- a flush may make one run at least
abbrev pub is_budget : ℕ → Bool
is_budget n = nat_le 1 n && nat_le n BUDGET_LIMIT

-- a text can give this draft, but for the spelling of item names
abbrev pub fits : DraftShape → Bool
fits draft = is_budget draft.budget && list_all item_fits draft.items

-- The grammar of terms.
--
-- A term may have so many levels. What stands in the brackets of a term, a part of an `if` term and the operand of a
-- sign are one level deeper than it. Each production takes what reads a term one level deeper.
use Rattle.std.specs.Prelude.{ℕ, zero, suc, pos, Bool, true, false, List, [], ◌∷◌, ◌++◌, length, Option, Some, None, Result, Ok, nat_lt}
use Rattle.rx_value.specs.declared.value.Value.{Value}
use Rattle.rx_value.specs.declared.value.Value.TheVariants as v
use Rattle.rx_value.specs.declared.operator.UnOp.{UnOp}
use Rattle.app_tokens.specs.declared.word.Word.{Word}
use Rattle.app_tokens.specs.declared.word.Word.TheVariants as word
use Rattle.app_tokens.specs.declared.symbol.Symbol.{Symbol}
use Rattle.app_tokens.specs.declared.symbol.Symbol.TheVariants as symbol
use Rattle.app_tokens.specs.Tokens.{Tokens}
use Rattle.app_tree.specs.declared.limits.TheConstants.{LEVEL_LIMIT, OPERATOR_LIMIT}
use Rattle.app_tree.specs.declared.term.Operator.{Operator}
use Rattle.app_tree.specs.declared.term.Function.{Function}
use Rattle.app_tree.specs.declared.draft_term.Name.{Name}
use Rattle.app_tree.specs.declared.draft_term.ReadForm.{ReadForm}
use Rattle.app_tree.specs.declared.draft_term.ReadForm.TheVariants as form
use Rattle.app_tree.specs.DraftTree.{DraftTree, constant, group, read, variable, isolate, stop, require, fold, unary, binary, choice, call}
use Rattle.app_tree.specs.DraftView.{draft_trees}
use Rattle.app_tree.specs.Fits.{arguments_of}
use Rattle.app_reader.specs.declared.error.ReadError.{ReadError}
use Rattle.app_reader.specs.declared.operators.Rank.{Rank}
use Rattle.app_reader.specs.declared.operators.Rank.TheVariants as rank
use Rattle.rx_value.specs.Results.{◌>>=◌, choose}
use Rattle.app_reader.specs.State.{Reads, choose_some, place_of, skip, is_word_next, is_symbol_next, is_name_next, is_text_next, next_word, next_symbol, unexpected, too_deep, word_at, symbol_at, name_at, number_at, text_at, while_next}
use Rattle.app_reader.specs.Words.{operator_of, sign_of, function_of, read_form_of}

-- ---- names and constants

-- NAME "(" ")" | NAME: the one with brackets exactly where "(" follows
unfoldable pub named_at : Reads DraftTree
named_at s = do
  n ← name_at s
  choose (is_symbol_next symbol.Open n.1) (λ t. symbol_at symbol.Close (skip t) >>= λ close. Ok (read form.Named n.0.place n.0, close.1)) (λ t. Ok (variable n.0, t)) n.1

-- "input" "$" NAME
unfoldable pub input_at : Reads DraftTree
input_at s = do
  dollar ← symbol_at symbol.Dollar (skip s)
  n ← name_at dollar.1
  Ok (read form.Input (place_of s) n.0, n.1)

-- "result" "(" NAME ")", and so with `status`, `width` and `height`
unfoldable pub read_at : ReadForm → Reads DraftTree
read_at form s = do
  opening ← symbol_at symbol.Open (skip s)
  n ← name_at opening.1
  close ← symbol_at symbol.Close n.1
  Ok (read form (place_of s) n.0, close.1)

-- "TRUE" | "FALSE" | "NULL": a truth, or none
unfoldable pub truth_at : Reads (Option Bool)
truth_at s =
    choose (is_word_next word.True s) (λ t. word_at word.True t >>= λ w. Ok (Some true, w.1))
    (choose (is_word_next word.False s) (λ t. word_at word.False t >>= λ w. Ok (Some false, w.1))
    (λ t. word_at word.Null t >>= λ null. Ok (None, null.1))) s

abbrev pub truth_value : Option Bool → Value
truth_value None = v.Null
truth_value (Some truth) = v.Bool truth

unfoldable pub word_constant_at : Reads Value
word_constant_at s = truth_at s >>= λ t. Ok (truth_value t.0, t.1)

unfoldable pub word_term_at : Reads DraftTree
word_term_at s = truth_at s >>= λ t. Ok (constant (truth_value t.0), t.1)

-- TEXT | INT
unfoldable pub literal_at : Reads DraftTree
literal_at s =
    choose (is_text_next s) (λ t. text_at t >>= λ text. Ok (constant (v.Text text.0), text.1))
    (λ t. number_at t >>= λ n. Ok (constant (v.Int (pos n.0)), n.1)) s

-- ---- brackets

-- "(" term ")"
unfoldable pub bracketed_at : Reads DraftTree → Reads DraftTree
bracketed_at term s = do
  opening ← symbol_at symbol.Open s
  inner ← term opening.1
  close ← symbol_at symbol.Close inner.1
  Ok (inner.0, close.1)

unfoldable pub group_at : Reads DraftTree → Reads DraftTree
group_at term s = bracketed_at term s >>= λ t. Ok (group t.0, t.1)

-- "isolate" "(" term ")"
unfoldable pub isolate_at : Reads DraftTree → Reads DraftTree
isolate_at term s = bracketed_at term (skip s) >>= λ t. Ok (isolate (place_of s) t.0, t.1)

-- "stop" "(" term ")"
unfoldable pub stop_at : Reads DraftTree → Reads DraftTree
stop_at term s = bracketed_at term (skip s) >>= λ t. Ok (stop t.0, t.1)

-- [ "," "cancelOutput" ]
unfoldable pub cancels_at : Reads Bool
cancels_at s =
    choose (is_symbol_next symbol.Comma s) (λ t. word_at word.CancelOutput (skip t) >>= λ w. Ok (true, w.1)) (λ t. Ok (false, t)) s

-- "req" "(" term [ "," "cancelOutput" ] ")"
unfoldable pub require_at : Reads DraftTree → Reads DraftTree
require_at term s = do
  opening ← symbol_at symbol.Open (skip s)
  inner ← term opening.1
  cancels ← cancels_at inner.1
  close ← symbol_at symbol.Close cancels.1
  Ok (require inner.0 cancels.0, close.1)

-- term ","
unfoldable pub part_at : Reads DraftTree → Reads DraftTree
part_at term s = do
  t ← term s
  comma ← symbol_at symbol.Comma t.1
  Ok (t.0, comma.1)

-- NAME ","
unfoldable pub inner_name_at : Reads Name
inner_name_at s = do
  n ← name_at s
  comma ← symbol_at symbol.Comma n.1
  Ok (n.0, comma.1)

-- term ")"
unfoldable pub last_part_at : Reads DraftTree → Reads DraftTree
last_part_at term s = do
  t ← term s
  close ← symbol_at symbol.Close t.1
  Ok (t.0, close.1)

-- "(" term "," term ","
unfoldable pub fold_start_at : Reads DraftTree → Reads (DraftTree × DraftTree)
fold_start_at term s = do
  opening ← symbol_at symbol.Open s
  list ← part_at term opening.1
  start ← part_at term list.1
  Ok ((list.0, start.0), start.1)

-- NAME "," NAME ","
unfoldable pub inner_names_at : Reads (Name × Name)
inner_names_at s = do
  accumulator ← inner_name_at s
  element ← inner_name_at accumulator.1
  Ok ((accumulator.0, element.0), element.1)

-- "fold" "(" term "," term "," NAME "," NAME "," term ")"
unfoldable pub fold_at : Reads DraftTree → Reads DraftTree
fold_at term s = do
  start ← fold_start_at term (skip s)
  names ← inner_names_at start.1
  body ← last_part_at term names.1
  Ok (fold (place_of s) start.0.0 start.0.1 names.0.0 names.0.1 body.0, body.1)

-- ---- calls

-- "," term, behind the terms so far
unfoldable pub further_at : Reads DraftTree → List DraftTree × Tokens → Result (List DraftTree × Tokens) ReadError
further_at term b = do
  comma ← symbol_at symbol.Comma b.1
  t ← term comma.1
  Ok (b.0 ++ t.0 ∷ [], t.1)

-- term { "," term }
unfoldable pub listed_at : Reads DraftTree → Reads (List DraftTree)
listed_at term s = do
  first ← term s
  while_next (λ b. b.1) (λ b. is_symbol_next symbol.Comma b.1) (further_at term) (first.0 ∷ [], first.1)

-- so many terms, with "," between them
unfoldable pub counted_at : Reads DraftTree → ℕ → Reads (List DraftTree)
counted_at term count s = do
  first ← term s
  while_next (λ b. b.1) (λ b. nat_lt (length b.0) count) (further_at term) (first.0 ∷ [], first.1)

-- [ term { "," term } ] before ")"
unfoldable pub optional_at : Reads DraftTree → Reads (List DraftTree)
optional_at term s = choose (is_symbol_next symbol.Close s) (λ t. Ok ([], t)) (listed_at term) s

-- as many arguments as there have to be, or any number
abbrev pub arguments_at : Reads DraftTree → Option ℕ → Reads (List DraftTree)
arguments_at term (Some count) = counted_at term count
arguments_at term None = optional_at term

-- FUN "(" arguments ")"
unfoldable pub call_at : Reads DraftTree → Function → Reads DraftTree
call_at term f s = do
  opening ← symbol_at symbol.Open (skip s)
  all ← arguments_at term (arguments_of f) opening.1
  close ← symbol_at symbol.Close all.1
  Ok (call f (draft_trees all.0), close.1)

-- ---- atoms and signs

-- what begins with a reserved word that is no function and no read of a name in brackets
unfoldable pub special_at : Reads DraftTree → Reads DraftTree
special_at term s =
    choose (is_word_next word.Input s) input_at
    (choose (is_word_next word.Isolate s) (isolate_at term)
    (choose (is_word_next word.Stop s) (stop_at term)
    (choose (is_word_next word.Req s) (require_at term)
    (choose (is_word_next word.Fold s) (fold_at term)
    word_term_at)))) s

-- what begins with this reserved word
unfoldable pub worded_at : Reads DraftTree → Word → Reads DraftTree
worded_at term w = choose_some (function_of w) (call_at term) (choose_some (read_form_of w) read_at (special_at term))

unfoldable pub atom_at : Reads DraftTree → Reads DraftTree
atom_at term s =
    choose (is_symbol_next symbol.Open s) (group_at term)
    (choose (is_name_next s) named_at
    (choose_some (next_word s) (worded_at term) literal_at)) s

-- the sign that stands next
abbrev pub sign_in : Option Symbol → Option UnOp
sign_in None = None
sign_in (Some x) = sign_of x

abbrev pub next_sign : Tokens → Option UnOp
next_sign s = sign_in (next_symbol s)

-- ( "-" | "!" ) unary | atom
unfoldable pub unary_in : Reads DraftTree → Reads DraftTree → Reads DraftTree
unary_in term operand s = choose_some (next_sign s) (λ op t. operand (skip t) >>= λ u. Ok (unary op u.0, u.1)) (atom_at term) s

-- ---- operators

-- how many operators the term may still have, and what is left
abbrev pub Counted : Type 0
Counted = ℕ × Tokens

-- what reads an operand of an operator
abbrev pub Operand : Type 0
Operand = Counted → Result (DraftTree × Counted) ReadError

abbrev pub operator_in : Rank → Option Symbol → Option Operator
operator_in r None = None
operator_in r (Some x) = operator_of r x

-- the operator of this rank that stands next
abbrev pub next_operator : Rank → Tokens → Option Operator
next_operator r s = operator_in r (next_symbol s)

abbrev pub is_some : {A : Type 0} → Option A → Bool
is_some None = false
is_some (Some x) = true

abbrev pub is_operator_next : Rank → Tokens → Bool
is_operator_next r s = is_some (next_operator r s)

-- an operator is taken where the term may have one more
abbrev pub operator_and_rest : ℕ → Operator → Tokens → Result (Operator × Counted) ReadError
operator_and_rest zero o s = too_deep s
operator_and_rest (suc n) o s = Ok (o, (n, skip s))

unfoldable pub operator_at : Rank → Counted → Result (Operator × Counted) ReadError
operator_at r c = choose_some (next_operator r c.1) (operator_and_rest c.0) unexpected c.1

-- an operator and its right operand, behind what stands to the left of them
unfoldable pub right_at : Rank → Operand → DraftTree × Counted → Result (DraftTree × Counted) ReadError
right_at r operand b = do
  o ← operator_at r b.1
  right ← operand o.1
  Ok (binary o.0 b.0 right.0, right.1)

-- operand { operator operand }, to the left
unfoldable pub chain_at : Rank → Operand → Operand
chain_at r operand c = do
  first ← operand c
  while_next (λ b. b.1.1) (λ b. is_operator_next r b.1.1) (right_at r operand) first

-- operand [ operator operand ]
unfoldable pub once_at : Rank → Operand → Operand
once_at r operand c = do
  first ← operand c
  choose (is_operator_next r first.1.1) (right_at r operand) (λ b. Ok b) first

-- a unary has no operator of the term's own
abbrev pub unary_operand : Reads DraftTree → Operand
unary_operand below c = below c.1 >>= λ t. Ok (t.0, (c.0, t.1))

abbrev pub product_at : Reads DraftTree → Operand
product_at below = chain_at rank.Product (unary_operand below)

abbrev pub sum_at : Reads DraftTree → Operand
sum_at below = chain_at rank.Sum (product_at below)

abbrev pub comparison_at : Reads DraftTree → Operand
comparison_at below = once_at rank.Comparison (sum_at below)

abbrev pub and_at : Reads DraftTree → Operand
and_at below = chain_at rank.And (comparison_at below)

abbrev pub or_at : Reads DraftTree → Operand
or_at below = chain_at rank.Or (and_at below)

-- what stands between the operators of this rank
abbrev pub operand_at : Reads DraftTree → Rank → Operand
operand_at below rank.Product = unary_operand below
operand_at below rank.Sum = product_at below
operand_at below rank.Comparison = sum_at below
operand_at below rank.And = comparison_at below
operand_at below rank.Or = and_at below

-- operands with operators of this rank between them
abbrev pub level_at : Reads DraftTree → Rank → Operand
level_at below rank.Product = product_at below
level_at below rank.Sum = sum_at below
level_at below rank.Comparison = comparison_at below
level_at below rank.And = and_at below
level_at below rank.Or = or_at below

-- ---- whole terms

-- a term of operators, of which it may have no more than the limit
unfoldable pub operation_at : Reads DraftTree → Reads DraftTree
operation_at below s = or_at below (OPERATOR_LIMIT, s) >>= λ t. Ok (t.0, t.1.1)

-- term "else" term
unfoldable pub ways_at : Reads DraftTree → Reads (DraftTree × DraftTree)
ways_at term s = do
  chosen ← term s
  other ← word_at word.Else chosen.1
  last ← term other.1
  Ok ((chosen.0, last.0), last.1)

-- "if" "(" term ")" term "else" term
unfoldable pub choice_at : Reads DraftTree → Reads DraftTree
choice_at term s = do
  condition ← bracketed_at term (skip s)
  ways ← ways_at term condition.1
  Ok (choice condition.0 ways.0.0 ways.0.1, ways.1)

unfoldable pub term_in : Reads DraftTree → Reads DraftTree → Reads DraftTree
term_in term operand s = choose (is_word_next word.If s) (choice_at term) (operation_at (unary_in term operand)) s

-- a term, and the operand of a sign, with so many levels
unfoldable mutual
  pub term_at : ℕ → Reads DraftTree
  term_at zero s = too_deep s
  term_at (suc n) s = term_in (term_at n) (unary_at n) s

  pub unary_at : ℕ → Reads DraftTree
  unary_at zero s = too_deep s
  unary_at (suc n) s = unary_in (term_at n) (unary_at n) s

-- the whole term of a body, a key, an event, a task or a statement
abbrev pub whole_term_at : Reads DraftTree
whole_term_at = term_at LEVEL_LIMIT

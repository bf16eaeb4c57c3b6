use Rattle.std.proofs.Common.{ℕ, ◌*◌, ◌+◌, ◌<◌, length}
use Rattle.std.specs.Prelude.{nat_lt}
use Rattle.app_tokens.specs.declared.symbol.Symbol.TheVariants as symbol
use Rattle.app_tree.specs.DraftView.{draft_tree_of}
use Rattle.app_reader.specs.declared.operators.Rank.{Rank}
use Rattle.app_reader.specs.declared.operators.Rank.TheVariants as rank
use Rattle.app_reader.specs.State.{is_symbol_next}
use Rattle.app_reader.specs.Terms.{term_at, unary_at, unary_in, is_operator_next, operand_at, right_at, chain_at, further_at, listed_at, counted_at}
use Rattle.app_reader.specs.inner.View.{trees_of}
use Rattle.app_reader.specs.inner.Loop.{Leads}
use Rattle.app_reader.proofs.terms.+term.Given as goal

-- how many functions stand between a level and the next
abbrev of_rank : Rank → ℕ
of_rank rank.Product = 0
of_rank rank.Sum = 1
of_rank rank.Comparison = 2
of_rank rank.And = 3
of_rank rank.Or = 4

abbrev pub decreases-inner : goal.decreases-inner
decreases-inner l = l.levels * 50 + 1

abbrev pub decreases-term : goal.decreases-term
decreases-term l = l.levels * 50

abbrev pub decreases-unary : goal.decreases-unary
decreases-unary l = l.levels * 50

abbrev pub decreases-term_inside : goal.decreases-term_inside
decreases-term_inside l = l.below * 50 + 49

abbrev pub decreases-choice : goal.decreases-choice
decreases-choice l = l.below * 50 + 4

abbrev pub decreases-ways : goal.decreases-ways
decreases-ways l = l.below * 50 + 2

abbrev pub decreases-operation : goal.decreases-operation
decreases-operation l = l.below * 50 + 48

abbrev pub decreases-level : goal.decreases-level
decreases-level l = l.below * 50 + 14 + of_rank l.rank * 6

abbrev pub decreases-chain : goal.decreases-chain
decreases-chain l = l.below * 50 + 13 + of_rank l.rank * 6

abbrev pub decreases-once : goal.decreases-once
decreases-once l = l.below * 50 + 13 + of_rank l.rank * 6

abbrev pub decreases-right : goal.decreases-right
decreases-right l = l.below * 50 + 12 + of_rank l.rank * 6

abbrev pub decreases-inner_operand : goal.decreases-inner_operand
decreases-inner_operand l = l.below * 50 + 11 + of_rank l.rank * 6

abbrev pub decreases-operand : goal.decreases-operand
decreases-operand l = l.below * 50 + 10 + of_rank l.rank * 6

abbrev pub decreases-unary_inside : goal.decreases-unary_inside
decreases-unary_inside l = l.below * 50 + 9

abbrev pub decreases-atom : goal.decreases-atom
decreases-atom l = l.below * 50 + 8

abbrev pub decreases-worded : goal.decreases-worded
decreases-worded l = l.below * 50 + 7

abbrev pub decreases-special : goal.decreases-special
decreases-special l = l.below * 50 + 6

abbrev pub decreases-bracketed : goal.decreases-bracketed
decreases-bracketed l = l.below * 50 + 2

abbrev pub decreases-group : goal.decreases-group
decreases-group l = l.below * 50 + 3

abbrev pub decreases-isolate : goal.decreases-isolate
decreases-isolate l = l.below * 50 + 3

abbrev pub decreases-stop : goal.decreases-stop
decreases-stop l = l.below * 50 + 3

abbrev pub decreases-require : goal.decreases-require
decreases-require l = l.below * 50 + 3

abbrev pub decreases-fold_start : goal.decreases-fold_start
decreases-fold_start l = l.below * 50 + 3

abbrev pub decreases-fold : goal.decreases-fold
decreases-fold l = l.below * 50 + 4

abbrev pub decreases-part : goal.decreases-part
decreases-part l = l.below * 50 + 2

abbrev pub decreases-last_part : goal.decreases-last_part
decreases-last_part l = l.below * 50 + 2

abbrev pub decreases-call : goal.decreases-call
decreases-call l = l.below * 50 + 6

abbrev pub decreases-arguments : goal.decreases-arguments
decreases-arguments l = l.below * 50 + 5

abbrev pub decreases-optional : goal.decreases-optional
decreases-optional l = l.below * 50 + 4

abbrev pub decreases-counted : goal.decreases-counted
decreases-counted l = l.below * 50 + 3

abbrev pub decreases-listed : goal.decreases-listed
decreases-listed l = l.below * 50 + 3

abbrev pub decreases-further : goal.decreases-further
decreases-further l = l.below * 50 + 2

abbrev pub decreases-chain-chain : goal.decreases-chain-chain
decreases-chain-chain l = length l.reader.tokens

abbrev pub invariant-chain-chain : goal.invariant-chain-chain
invariant-chain-chain l = record {
  leads : Leads (λ b. b.1.1) (λ b. is_operator_next l.rank b.1.1) (right_at l.rank (operand_at (unary_in (term_at l.below) (unary_at l.below)) l.rank)) (draft_tree_of l.left, (l.room, l.reader))
      (chain_at l.rank (operand_at (unary_in (term_at l.below) (unary_at l.below)) l.rank) (l.fn.room, l.fn.reader));
  shorter : length l.reader.tokens < length l.fn.reader.tokens;
}

abbrev pub decreases-listed-terms : goal.decreases-listed-terms
decreases-listed-terms l = length l.reader.tokens

abbrev pub invariant-listed-terms : goal.invariant-listed-terms
invariant-listed-terms l = record {
  leads : Leads (λ b. b.1) (λ b. is_symbol_next symbol.Comma b.1) (further_at (term_at l.below)) (trees_of l.terms, l.reader) (listed_at (term_at l.below) l.fn.reader);
  shorter : length l.reader.tokens < length l.fn.reader.tokens;
}

abbrev pub decreases-counted-terms : goal.decreases-counted-terms
decreases-counted-terms l = length l.reader.tokens

abbrev pub invariant-counted-terms : goal.invariant-counted-terms
invariant-counted-terms l = record {
  leads : Leads (λ b. b.1) (λ b. nat_lt (length b.0) l.count) (further_at (term_at l.below)) (trees_of l.terms, l.reader) (counted_at (term_at l.below) l.count l.fn.reader);
  shorter : length l.reader.tokens < length l.fn.reader.tokens;
}

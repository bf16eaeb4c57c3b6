use Rattle.std.proofs.Common.{◌*◌, ◌+◌, ◌≤◌, length}
use Rattle.app_reader.specs.Statements.{is_statement_next, further_statement_at, statements_at, block_at}
use Rattle.app_reader.specs.inner.View.{acts_of}
use Rattle.app_reader.specs.inner.Loop.{Leads}
use Rattle.app_reader.proofs.statements.+block.Given as goal

abbrev pub decreases-block : goal.decreases-block
decreases-block l = l.levels * 10

abbrev pub decreases-block_inside : goal.decreases-block_inside
decreases-block_inside l = l.below * 10 + 5

abbrev pub decreases-statements : goal.decreases-statements
decreases-statements l = l.below * 10 + 4

abbrev pub decreases-further_statement : goal.decreases-further_statement
decreases-further_statement l = l.below * 10 + 3

abbrev pub decreases-statement : goal.decreases-statement
decreases-statement l = l.below * 10 + 2

abbrev pub decreases-branch : goal.decreases-branch
decreases-branch l = l.below * 10 + 1

abbrev pub decreases-statements-statements : goal.decreases-statements-statements
decreases-statements-statements l = length l.reader.tokens

abbrev pub invariant-statements-statements : goal.invariant-statements-statements
invariant-statements-statements l = record {
  leads : Leads (λ b. b.1) (λ b. is_statement_next b.1) (further_statement_at (block_at l.below)) (acts_of l.statements, l.reader) (statements_at (block_at l.below) l.fn.reader);
  shorter : length l.reader.tokens ≤ length l.fn.reader.tokens;
}

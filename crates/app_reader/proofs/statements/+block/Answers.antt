use Rattle.std.proofs.Common.{arith}
use Rattle.std.proofs.lemmas.Result.{err_from_is_err_and}
use Rattle.app_reader.proofs.Loops.{goes_on, fails_in, ends_at}
use Rattle.app_reader.proofs.statements.+block.Goals as goal

pub statements-statements-preserved : goal.statements-statements-preserved
statements-statements-preserved t c = record {
  leads = goes_on c.is_statement_next.result c.statements.invariant.leads c.is_statement_next.ensures c.statements-test.true c.in_ok-further_statement.ensures.reads c.in_ok-further_statement.ensures.shorter;
  shorter = omega (arith, c.statements.invariant.shorter, c.in_ok-further_statement.ensures.shorter);
}

pub statements-returns-in_err-further_statement-clause-reads : goal.statements-returns-in_err-further_statement-clause-reads
statements-returns-in_err-further_statement-clause-reads t c =
    let p = err_from_is_err_and c.from_residual.result c.from_residual.ensures.1 in
    rw (p.1, p.2) (fails_in c.in_err-further_statement.field-0.0 c.is_statement_next.result c.statements.invariant.leads c.is_statement_next.ensures c.statements-test.true c.in_err-further_statement.ensures.reads)

pub statements-returns-clause-reads : goal.statements-returns-clause-reads
statements-returns-clause-reads t c = ends_at c.is_statement_next.result c.statements.invariant.leads c.is_statement_next.ensures c.statements-test.false

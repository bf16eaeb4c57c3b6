use Rattle.std.proofs.Common.{arith}
use Rattle.std.proofs.lemmas.Result.{err_from_is_err_and}
use Rattle.app_reader.proofs.Loops.{goes_on, fails_in, ends_at}
use Rattle.app_reader.proofs.statements.writes.Goals as goal

pub writes-preserved : goal.writes-preserved
writes-preserved c = record {
  leads = goes_on c.is_write_next.result c.writes.invariant.leads c.is_write_next.ensures c.writes-test.true c.in_ok-further_write.ensures.reads c.in_ok-further_write.ensures.shorter;
  shorter = omega (arith, c.writes.invariant.shorter, c.in_ok-further_write.ensures.shorter);
}

pub returns-in_err-further_write-clause-reads : goal.returns-in_err-further_write-clause-reads
returns-in_err-further_write-clause-reads c =
    let p = err_from_is_err_and c.from_residual.result c.from_residual.ensures.1 in
    rw (p.1, p.2) (fails_in c.in_err-further_write.field-0.0 c.is_write_next.result c.writes.invariant.leads c.is_write_next.ensures c.writes-test.true c.in_err-further_write.ensures.reads)

pub returns-clause-reads : goal.returns-clause-reads
returns-clause-reads c = ends_at c.is_write_next.result c.writes.invariant.leads c.is_write_next.ensures c.writes-test.false

use Rattle.std.proofs.Common.{arith}
use Rattle.std.proofs.lemmas.Result.{err_from_is_err_and}
use Rattle.app_reader.proofs.Loops.{goes_on, fails_in, ends_at}
use Rattle.app_reader.proofs.items.names.Goals as goal

pub names-preserved : goal.names-preserved
names-preserved c = record {
  leads = goes_on c.is_symbol.result c.names.invariant.leads c.is_symbol.ensures c.names-test.true c.in_ok-further_name.ensures.reads c.in_ok-further_name.ensures.shorter;
  shorter = omega (arith, c.names.invariant.shorter, c.in_ok-further_name.ensures.shorter);
}

pub returns-in_err-further_name-clause-reads : goal.returns-in_err-further_name-clause-reads
returns-in_err-further_name-clause-reads c =
    let p = err_from_is_err_and c.from_residual-in_err-further_name.result c.from_residual-in_err-further_name.ensures.1 in
    rw (p.1, p.2) (fails_in c.in_err-further_name.field-0.0 c.is_symbol.result c.names.invariant.leads c.is_symbol.ensures c.names-test.true c.in_err-further_name.ensures.reads)

pub returns-clause-reads : goal.returns-clause-reads
returns-clause-reads c = ends_at c.is_symbol.result c.names.invariant.leads c.is_symbol.ensures c.names-test.false

use Rattle.std.proofs.Common.{arith}
use Rattle.std.proofs.lemmas.Result.{err_from_is_err_and}
use Rattle.app_reader.proofs.Loops.{goes_on, fails_in, ends_at}
use Rattle.app_reader.proofs.constants.numbers.Goals as goal

pub numbers-preserved : goal.numbers-preserved
numbers-preserved c = record {
  leads = goes_on c.is_symbol.result c.numbers.invariant.leads c.is_symbol.ensures c.numbers-test.true c.in_ok-further_number.ensures.reads c.in_ok-further_number.ensures.shorter;
  shorter = omega (arith, c.numbers.invariant.shorter, c.in_ok-further_number.ensures.shorter);
}

pub returns-in_err-further_number-clause-reads : goal.returns-in_err-further_number-clause-reads
returns-in_err-further_number-clause-reads c =
    let p = err_from_is_err_and c.from_residual-in_err-further_number.result c.from_residual-in_err-further_number.ensures.1 in
    rw (p.1, p.2) (fails_in c.in_err-further_number.field-0.0 c.is_symbol.result c.numbers.invariant.leads c.is_symbol.ensures c.numbers-test.true c.in_err-further_number.ensures.reads)

pub returns-clause-reads : goal.returns-clause-reads
returns-clause-reads c = ends_at c.is_symbol.result c.numbers.invariant.leads c.is_symbol.ensures c.numbers-test.false

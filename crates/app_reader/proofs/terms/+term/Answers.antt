use Rattle.std.proofs.Common.{arith}
use Rattle.std.proofs.lemmas.Result.{err_from_is_err_and}
use Rattle.app_reader.proofs.Loops.{goes_on, fails_in, ends_at}
use Rattle.app_reader.proofs.terms.+term.Goals as goal

pub chain-chain-preserved : goal.chain-chain-preserved
chain-chain-preserved t c = record {
  leads = goes_on c.is_operator_next.result c.chain.invariant.leads c.is_operator_next.ensures c.chain-test.true c.in_ok-left-2.ensures.reads c.in_ok-left-2.ensures.shorter;
  shorter = omega (arith, c.chain.invariant.shorter, c.in_ok-left-2.ensures.shorter);
}

pub chain-returns-in_err-left-2-clause-reads : goal.chain-returns-in_err-left-2-clause-reads
chain-returns-in_err-left-2-clause-reads t c =
    let p = err_from_is_err_and c.from_residual-in_err-left-2.result c.from_residual-in_err-left-2.ensures.1 in
    rw (p.1, p.2) (fails_in c.in_err-left-2.field-0.0 c.is_operator_next.result c.chain.invariant.leads c.is_operator_next.ensures c.chain-test.true c.in_err-left-2.ensures.reads)

pub chain-returns-clause-reads : goal.chain-returns-clause-reads
chain-returns-clause-reads t c = ends_at c.is_operator_next.result c.chain.invariant.leads c.is_operator_next.ensures c.chain-test.false

pub listed-terms-preserved : goal.listed-terms-preserved
listed-terms-preserved t c = record {
  leads = goes_on c.is_symbol.result c.terms.invariant.leads c.is_symbol.ensures c.terms-test.true c.in_ok-further.ensures.reads c.in_ok-further.ensures.shorter;
  shorter = omega (arith, c.terms.invariant.shorter, c.in_ok-further.ensures.shorter);
}

pub listed-returns-in_err-further-clause-reads : goal.listed-returns-in_err-further-clause-reads
listed-returns-in_err-further-clause-reads t c =
    let p = err_from_is_err_and c.from_residual-in_err-further.result c.from_residual-in_err-further.ensures.1 in
    rw (p.1, p.2) (fails_in c.in_err-further.field-0.0 c.is_symbol.result c.terms.invariant.leads c.is_symbol.ensures c.terms-test.true c.in_err-further.ensures.reads)

pub listed-returns-clause-reads : goal.listed-returns-clause-reads
listed-returns-clause-reads t c = ends_at c.is_symbol.result c.terms.invariant.leads c.is_symbol.ensures c.terms-test.false

pub counted-terms-preserved : goal.counted-terms-preserved
counted-terms-preserved t c = record {
  leads = goes_on c.is_fewer.result c.terms.invariant.leads c.is_fewer.ensures c.terms-test.true c.in_ok-further.ensures.reads c.in_ok-further.ensures.shorter;
  shorter = omega (arith, c.terms.invariant.shorter, c.in_ok-further.ensures.shorter);
}

pub counted-returns-in_err-further-clause-reads : goal.counted-returns-in_err-further-clause-reads
counted-returns-in_err-further-clause-reads t c =
    let p = err_from_is_err_and c.from_residual-in_err-further.result c.from_residual-in_err-further.ensures.1 in
    rw (p.1, p.2) (fails_in c.in_err-further.field-0.0 c.is_fewer.result c.terms.invariant.leads c.is_fewer.ensures c.terms-test.true c.in_err-further.ensures.reads)

pub counted-returns-clause-reads : goal.counted-returns-clause-reads
counted-returns-clause-reads t c = ends_at c.is_fewer.result c.terms.invariant.leads c.is_fewer.ensures c.terms-test.false

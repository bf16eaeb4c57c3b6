use Rattle.std.proofs.lemmas.Result.{err_from_is_err_and}
use Rattle.app_reader.proofs.Loops.{goes_on, fails_in, ends_at}
use Rattle.app_reader.proofs.items.items.Goals as goal

pub items-preserved : goal.items-preserved
items-preserved c = goes_on c.is_more.result c.items.invariant c.is_more.ensures c.items-test.true c.in_ok-further_item.ensures.reads c.in_ok-further_item.ensures.shorter

pub returns-in_err-further_item : goal.returns-in_err-further_item
returns-in_err-further_item c =
    let p = err_from_is_err_and c.from_residual.result c.from_residual.ensures.1 in
    rw (p.1, p.2) (fails_in c.in_err-further_item.field-0.0 c.is_more.result c.items.invariant c.is_more.ensures c.items-test.true c.in_err-further_item.ensures.reads)

pub returns : goal.returns
returns c = ends_at c.is_more.result c.items.invariant c.is_more.ensures c.items-test.false

use Rattle.std.proofs.Common.{ap, ◌∙◌}
use Rattle.app_check.proofs.Made.{acts_made_step, acts_made_end}
use Rattle.app_check.proofs.item_resolve.+statement.Goals as goal

pub block-statements-preserved : goal.block-statements-preserved
block-statements-preserved t c = record {
  made = acts_made_step c.statements.made c.push.new.self c.in_ok-statement.field-0 c.statements.resolver c.statement.new.resolver c.args.written.now c.statements.inner-index c.inner-item.result _ c.statements-test.true c.inner-item.is c.in_ok-statement.ensures c.in_ok-push.ensures.ok c.statements.invariant.made;
  outside = ap (λ p. p.1.scope) c.in_ok-statement.ensures ∙ c.statements.invariant.outside;
}

pub block-returns : goal.block-returns
block-returns t c = acts_made_end c.statements.made c.statements.resolver c.args.written.now c.statements.inner-index _ c.statements-test.false c.statements.invariant.made

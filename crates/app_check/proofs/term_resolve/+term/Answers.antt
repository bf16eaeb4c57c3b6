use Rattle.std.proofs.Common.{◌≡◌, ◌+◌, ◌*◌, arith}
use Rattle.app_tree.specs.DraftView.{draft_trees_of}
use Rattle.app_check.proofs.Made.{terms_made_step, terms_made_end}
use Rattle.app_check.proofs.Sizes.{trees_size, tree_size-item}
use Rattle.app_check.proofs.term_resolve.+term.Goals as goal

pub terms-term-requires : goal.terms-term-requires
terms-term-requires t c =
    let whole : trees_size (draft_trees_of c.args.written.now) * 4 + 1 ≡ t = c.decreases in
    let part = tree_size-item c.args.written.now c.terms.inner-index c.inner-item.result c.terms-test.true c.inner-item.is in
    (omega (arith, whole, part), tt)

pub terms-terms-preserved : goal.terms-terms-preserved
terms-terms-preserved t c = terms_made_step c.terms.made c.push.new.self c.in_ok-term.field-0 c.terms.resolver c.term.new.resolver c.args.written.now c.terms.inner-index c.inner-item.result _ c.terms-test.true c.inner-item.is c.in_ok-term.ensures c.in_ok-push.ensures.ok c.terms.invariant

pub terms-returns : goal.terms-returns
terms-returns t c = terms_made_end c.terms.made c.terms.resolver c.args.written.now c.terms.inner-index _ c.terms-test.false c.terms.invariant

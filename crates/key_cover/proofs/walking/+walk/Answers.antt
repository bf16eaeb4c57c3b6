use Rattle.std.proofs.Common.{◌≡◌, ◌+◌, ◌*◌, sym, arith}
use Rattle.app_tree.specs.View.{tree_of, trees_of_terms}
use Rattle.key_cover.specs.inner.Walks.{app_of, keys_of, before}
use Rattle.key_cover.proofs.Covering.{walked_read, missing_read, site_met}
use Rattle.key_cover.proofs.Sizes.{trees_size, tree_size-item, size_below, size_below-before}
use Rattle.key_cover.proofs.walking.+walk.Goals as goal

pub all-term-requires : goal.all-term-requires
all-term-requires t c =
    let whole : (size_below (app_of c.args.walk.now) c.args.below + trees_size (trees_of_terms c.args.terms.now)) * 4 + 1 ≡ t = c.decreases in
    let part = tree_size-item c.args.terms.now c.terms.inner-index c.inner-item.result c.terms-test.true c.inner-item.is in
    (omega (arith, whole, part), (c.requires.within, c.terms.invariant.marked))

pub read-once-requires : goal.read-once-requires
read-once-requires t c =
    let whole : size_below (app_of c.args.walk.now) c.args.below * 4 + 3 ≡ t = c.decreases in
    let part = size_below-before (app_of c.args.walk.now) c.args.below c.in-Expr.number (omega arith) in
    let within = c.requires.within in
    (omega (arith, whole, part), (omega (arith, within), c.requires.marked))

pub read-returns-then-number-below-clause-met : goal.read-returns-then-number-below-clause-met
read-returns-then-number-below-clause-met t c =
    walked_read (app_of c.args.walk.now) (keys_of c.args.walk.now) c.args.below c.in-Expr.number c.args.what c.once.result c.in-Expr.is (sym (c.if-is_key.ensures {u = tt})) (omega arith) c.once.ensures.met

pub read-returns-else-number-below-clause-met : goal.read-returns-else-number-below-clause-met
read-returns-else-number-below-clause-met t c =
    missing_read (app_of c.args.walk.now) (keys_of c.args.walk.now) c.args.below c.in-Expr.number c.args.what c.in-Expr.is (sym (c.if-is_key.ensures {u = tt})) (omega arith)

pub site_behind-returns-in-Covered-clause-met : goal.site_behind-returns-in-Covered-clause-met
site_behind-returns-in-Covered-clause-met t c =
    site_met (keys_of c.args.walk.now) (before c.args.walk.now c.args.number) (tree_of c.args.event.now) c.in-Covered.ensures.met

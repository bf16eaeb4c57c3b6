use Rattle.std.proofs.Common.{◌≡◌, ◌+◌, ◌*◌, rules, arith}
use Rattle.app_tree.specs.declared.draft_term.DraftTerm.TheFolds.{the_lemmas}
use Rattle.app_tree.specs.DraftTree as draft
use Rattle.app_tree.specs.DraftView.{draft_tree_of, draft_trees_of}
use Rattle.app_check.specs.inner.Spots.{spot_of}
use Rattle.app_check.proofs.Sizes.{trees_size, tree_size-item}
use Rattle.app_check.proofs.Walked.{terms_step, walked_fold}
use Rattle.app_check.proofs.term_faults.+term.Goals as goal

pub terms-term-best-requires : goal.terms-term-best-requires
terms-term-best-requires t c =
    let whole : trees_size (draft_trees_of c.args.written.now) * 2 + 1 ≡ t = c.decreases in
    let part = tree_size-item c.args.written.now c.terms.inner-index c.inner-item.result c.terms-test.true c.inner-item.is in
    (omega (arith, whole, part), tt)

pub terms-terms-preserved : goal.terms-terms-preserved
terms-terms-preserved t c = terms_step c.terms.best c.term-best.result (spot_of c.args.spot.now) c.args.written.now c.terms.inner-index c.inner-item.result _ c.terms-test.true c.inner-item.is c.term-best.ensures c.terms.invariant

pub term-returns-in-Fold : goal.term-returns-in-Fold
term-returns-in-Fold t c =
    let f = c.in-Fold in
    let is : draft_tree_of c.args.written.now ≡ draft.fold f.place (draft_tree_of f.list) (draft_tree_of f.start) f.accumulator f.element (draft_tree_of f.body) = search (rules, the_lemmas) in
    walked_fold (spot_of c.args.spot.now) c.args.best c.fold-best.result c.term-best.result c.term-best-in-Fold.result c.last_part.result (draft_tree_of c.args.written.now) f.place f.list f.start f.body c.get-in-Fold.result.now c.get-in-Fold-2.result.now c.get-in-Fold-3.result.now f.accumulator f.element is
    c.fold-best.ensures c.get-in-Fold.ensures c.term-best.ensures c.get-in-Fold-2.ensures c.term-best-in-Fold.ensures c.get-in-Fold-3.ensures c.last_part.ensures

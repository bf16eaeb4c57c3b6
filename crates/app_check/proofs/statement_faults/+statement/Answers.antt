use Rattle.std.proofs.Common.{◌≡◌, rules}
use Rattle.app_tree.specs.declared.draft_item.DraftStatement.TheFolds.{the_lemmas}
use Rattle.app_tree.specs.DraftTree as draft
use Rattle.app_tree.specs.DraftView.{draft_tree_of, draft_act_of, draft_acts_of}
use Rattle.app_check.specs.inner.Spots.{spot_of}
use Rattle.app_check.proofs.Walked.{acts_step, walked_branch, walked_branches}
use Rattle.app_check.proofs.statement_faults.+statement.Goals as goal

pub block-statements-preserved : goal.block-statements-preserved
block-statements-preserved t c = acts_step c.statements.best c.statement-best.result (spot_of c.args.spot.now) c.args.written.now c.statements.inner-index c.inner-item.result _ c.statements-test.true c.inner-item.is c.statement-best.ensures c.statements.invariant

pub statement-returns-in-If : goal.statement-returns-in-If
statement-returns-in-If t c =
    let i = c.in-If in
    let is : draft_act_of c.args.written.now ≡ draft.branch (draft_tree_of i.condition) (draft_acts_of i.chosen) = search (rules, the_lemmas) in
    walked_branch (spot_of c.args.spot.now) c.args.best c.term-best.result c.block.result (draft_act_of c.args.written.now) i.condition i.chosen c.as_slice.result.now is
    c.term-best.ensures c.as_slice.ensures c.block.ensures

pub statement-returns-in-IfElse : goal.statement-returns-in-IfElse
statement-returns-in-IfElse t c =
    let i = c.in-IfElse in
    let is : draft_act_of c.args.written.now ≡ draft.branch_else (draft_tree_of i.condition) (draft_acts_of i.chosen) (draft_acts_of i.otherwise) = search (rules, the_lemmas) in
    walked_branches (spot_of c.args.spot.now) c.args.best c.term-best-in-IfElse.result c.block-best.result c.block-in-IfElse.result (draft_act_of c.args.written.now) i.condition i.chosen i.otherwise c.as_slice-in-IfElse.result.now c.as_slice-in-IfElse-2.result.now is
    c.term-best-in-IfElse.ensures c.as_slice-in-IfElse.ensures c.block-best.ensures c.as_slice-in-IfElse-2.ensures c.block-in-IfElse.ensures

use Rattle.std.proofs.Common.{◌≡◌, ◌<◌, suc, ◌+◌, ◌∙◌, sym, ap, subst, arith, rules, drop}
use Rattle.std.specs.Prelude.{Result}
use Rattle.std.proofs.lemmas.List.{drop_all}
use Rattle.std.proofs.lemmas.Result.{err_from_is_err_and}
use Rattle.rx_value.specs.declared.memory.Memory.{Memory}
use Rattle.rx_value.specs.declared.value.Value.TheVariants as v
use Rattle.rx_value.specs.declared.outcome.Outcome.{Outcome}
use Rattle.rx_value.specs.declared.outcome.Outcome.TheVariants.{Val}
use Rattle.app_tree.specs.declared.statement.Statement.TheFolds.{the_lemmas}
use Rattle.app_tree.specs.Tree as tree
use Rattle.app_tree.specs.View.{shape_of, tree_of, act_of, acts_of_block}
use Rattle.app_tree.specs.ObserverTerms.{terms_in_acts}
use Rattle.session_model.specs.Observing as observing
use Rattle.term_eval.proofs.Walking.{at_front}
use Rattle.flush_cycle.specs.inner.Acting.{Acts}
use Rattle.flush_cycle.proofs.Composing.{fails_unless}
use Rattle.flush_cycle.proofs.StatementParts.{parts_alone, parts_both}
use Rattle.flush_cycle.proofs.Weights.{act_weight, acts_weight, item_lighter, alone_lighter, both_lighter}
use Rattle.flush_cycle.proofs.RunBlocks.{statement_left, block_later, block_failure, block_lost, block_ended, branch_first, branch_second, block_may_run, act_alone}
use Rattle.flush_cycle.proofs.work.Work.+statement.Goals as goal

-- ---- the branches

pub branch-run_block-requires : goal.branch-run_block-requires
branch-run_block-requires g t c κs within =
    let weighs : suc (acts_weight (acts_of_block c.args.block.now) + acts_weight (acts_of_block c.args.other.now)) ≡ t = c.decreases in
    let falls : acts_weight (acts_of_block c.args.block.now) < t = omega (weighs, arith) in (
      falls,
      (
        within.0,
        (
          within.1.0,
          (
            within.1.1,
            block_may_run g.A.Asker.follows g.A.Asker.out g.A.Asker.app g.met.A.Asker.same_app c.args.observer.number 1
                (observing.run_statement (shape_of c.args.self.now.app) c.args.observer.number c.args.observer.isolated (tree.perform (tree_of c.args.condition.now)))
                c.args.self.now c.term.new.self c.args.asker.now c.term.new.asker c.args.steps.now c.term.new.steps c.in_ok-failure.failure c.in_ok-failure.ensures
                c.requires.ask (acts_of_block c.args.block.now) c.requires.block,
          ),
        ),
      ),
    )

pub branch-returns-in-Val-Bool-true : goal.branch-returns-in-Val-Bool-true
branch-returns-in-Val-Bool-true g t c =
    let i = c.in-Val-Bool-true in
    branch_first g.A.Asker.follows g.A.Asker.out g.met.A.Asker.stays g.met.A.Asker.chains c.args.observer.number c.args.observer.isolated
    (tree_of c.args.condition.now) (acts_of_block c.args.block.now) (acts_of_block c.args.other.now) c.args.self.now c.args.asker.now c.args.steps.now
    c.term.new.self c.term.new.asker c.term.new.steps c.in_ok-failure.failure c.in_ok-failure.ensures
    (i.is ∙ ap Val (i.field-0-is ∙ ap v.Bool i.field-0-0-test)) c.run_block.new.self c.run_block.new.asker c.run_block.new.steps c.run_block.result c.run_block.ensures

pub branch-run_block-requires-in-Val-Bool-false : goal.branch-run_block-requires-in-Val-Bool-false
branch-run_block-requires-in-Val-Bool-false g t c κs within =
    let weighs : suc (acts_weight (acts_of_block c.args.block.now) + acts_weight (acts_of_block c.args.other.now)) ≡ t = c.decreases in
    let falls : acts_weight (acts_of_block c.args.other.now) < t = omega (weighs, arith) in (
      falls,
      (
        within.0,
        (
          within.1.0,
          (
            within.1.1,
            block_may_run g.A.Asker.follows g.A.Asker.out g.A.Asker.app g.met.A.Asker.same_app c.args.observer.number 1
                (observing.run_statement (shape_of c.args.self.now.app) c.args.observer.number c.args.observer.isolated (tree.perform (tree_of c.args.condition.now)))
                c.args.self.now c.term.new.self c.args.asker.now c.term.new.asker c.args.steps.now c.term.new.steps c.in_ok-failure.failure c.in_ok-failure.ensures
                c.requires.ask (acts_of_block c.args.other.now) c.requires.other,
          ),
        ),
      ),
    )

pub branch-returns-in-Val-Bool-false : goal.branch-returns-in-Val-Bool-false
branch-returns-in-Val-Bool-false g t c =
    let i = c.in-Val-Bool-false in
    let r = c.run_block-in-Val-Bool-false in
    branch_second g.A.Asker.follows g.A.Asker.out g.met.A.Asker.stays g.met.A.Asker.chains c.args.observer.number c.args.observer.isolated
    (tree_of c.args.condition.now) (acts_of_block c.args.block.now) (acts_of_block c.args.other.now) c.args.self.now c.args.asker.now c.args.steps.now
    c.term.new.self c.term.new.asker c.term.new.steps c.in_ok-failure.failure c.in_ok-failure.ensures
    (i.is ∙ ap Val (i.field-0-is ∙ ap v.Bool i.field-0-0-test)) r.new.self r.new.asker r.new.steps r.result r.ensures

-- ---- a block

pub run_block-run_statement-requires : goal.run_block-run_statement-requires
run_block-run_statement-requires g t c κs within =
    let front : acts_of_block (drop c.loop-statement.statement-index c.args.block.now) ≡ tree.act (act_of c.statement-item.result) (acts_of_block (drop (c.loop-statement.statement-index + 1) c.args.block.now)) = ap acts_of_block (at_front c.args.block.now c.loop-statement.statement-index c.statement-item.result c.loop-statement-test.true c.statement-item.is) in
    let weighs : acts_weight (acts_of_block c.args.block.now) ≡ t = c.decreases in
    let falls : act_weight (act_of c.statement-item.result) < t = item_lighter c.args.block.now c.loop-statement.statement-index (act_of c.statement-item.result) (acts_of_block (drop (c.loop-statement.statement-index + 1) c.args.block.now)) front t weighs in (
      falls,
      (
        within.0,
        (
          within.1.0,
          (
            within.1.1,
            (
              c.loop-statement.invariant.asks,
              (
                c.loop-statement.invariant.may,
                statement_left g.A.Asker.follows g.A.Asker.out g.A.Asker.app g.met.A.Asker.stays g.met.A.Asker.chains g.met.A.Asker.same_app
                    c.args.observer.number c.args.observer.isolated (acts_of_block c.args.block.now)
                    c.args.self.now c.args.asker.now c.args.steps.now
                    (act_of c.statement-item.result) (acts_of_block (drop (c.loop-statement.statement-index + 1) c.args.block.now))
                    (acts_of_block (drop c.loop-statement.statement-index c.args.block.now))
                    (ap acts_of_block (at_front c.args.block.now c.loop-statement.statement-index c.statement-item.result c.loop-statement-test.true c.statement-item.is))
                    c.loop-statement.self c.loop-statement.asker c.loop-statement.steps c.loop-statement.invariant,
              ),
            ),
          ),
        ),
      ),
    )

pub run_block-returns-in_err-failure : goal.run_block-returns-in_err-failure
run_block-returns-in_err-failure g t c =
    let p = err_from_is_err_and c.from_residual.result c.from_residual.ensures.1 in
    subst (λ (r : Result Outcome Memory). Acts g.A.Asker.follows g.A.Asker.out c.args.observer.number (terms_in_acts (acts_of_block c.args.block.now))
    (observing.run_block (shape_of c.args.self.now.app) c.args.observer.number c.args.observer.isolated (acts_of_block c.args.block.now))
    c.args.self.now c.run_statement.new.self c.args.asker.now c.run_statement.new.asker c.args.steps.now c.run_statement.new.steps r)
    (sym p.1)
    (block_lost g.A.Asker.follows g.A.Asker.out g.A.Asker.app g.met.A.Asker.stays g.met.A.Asker.chains g.met.A.Asker.same_app
    c.args.observer.number c.args.observer.isolated (acts_of_block c.args.block.now)
    c.args.self.now c.args.asker.now c.args.steps.now
    (act_of c.statement-item.result) (acts_of_block (drop (c.loop-statement.statement-index + 1) c.args.block.now))
    (acts_of_block (drop c.loop-statement.statement-index c.args.block.now))
    (ap acts_of_block (at_front c.args.block.now c.loop-statement.statement-index c.statement-item.result c.loop-statement-test.true c.statement-item.is))
    c.loop-statement.self c.loop-statement.asker c.loop-statement.steps c.loop-statement.invariant
    c.run_statement.new.self c.run_statement.new.asker c.run_statement.new.steps c.in_err-failure.field-0.0 p.0 c.in_err-failure.ensures)

pub run_block-returns-in_default : goal.run_block-returns-in_default
run_block-returns-in_default g t c =
    block_failure g.A.Asker.follows g.A.Asker.out g.A.Asker.app g.met.A.Asker.stays g.met.A.Asker.chains g.met.A.Asker.same_app
    c.args.observer.number c.args.observer.isolated (acts_of_block c.args.block.now)
    c.args.self.now c.args.asker.now c.args.steps.now
    (act_of c.statement-item.result) (acts_of_block (drop (c.loop-statement.statement-index + 1) c.args.block.now))
    (acts_of_block (drop c.loop-statement.statement-index c.args.block.now))
    (ap acts_of_block (at_front c.args.block.now c.loop-statement.statement-index c.statement-item.result c.loop-statement-test.true c.statement-item.is))
    c.loop-statement.self c.loop-statement.asker c.loop-statement.steps c.loop-statement.invariant
    c.run_statement.new.self c.run_statement.new.asker c.run_statement.new.steps c.in_ok-failure.failure (fails_unless c.in_ok-failure.failure c.in_default.not-Val) c.in_ok-failure.ensures

pub run_block-loop-statement-preserved : goal.run_block-loop-statement-preserved
run_block-loop-statement-preserved g t c =
    block_later g.A.Asker.follows g.A.Asker.out g.A.Asker.app g.met.A.Asker.stays g.met.A.Asker.chains g.met.A.Asker.same_app
    c.args.observer.number c.args.observer.isolated (acts_of_block c.args.block.now)
    c.args.self.now c.args.asker.now c.args.steps.now
    (act_of c.statement-item.result) (acts_of_block (drop (c.loop-statement.statement-index + 1) c.args.block.now))
    (acts_of_block (drop c.loop-statement.statement-index c.args.block.now))
    (ap acts_of_block (at_front c.args.block.now c.loop-statement.statement-index c.statement-item.result c.loop-statement-test.true c.statement-item.is))
    c.loop-statement.self c.loop-statement.asker c.loop-statement.steps c.loop-statement.invariant
    c.run_statement.new.self c.run_statement.new.asker c.run_statement.new.steps c.in_ok-failure.failure c.in-Val.field-0 c.in-Val.is c.in_ok-failure.ensures

pub run_block-returns : goal.run_block-returns
run_block-returns g t c =
    block_ended g.A.Asker.follows g.A.Asker.out g.A.Asker.app g.met.A.Asker.stays g.met.A.Asker.chains g.met.A.Asker.same_app
    c.args.observer.number c.args.observer.isolated (acts_of_block c.args.block.now)
    c.args.self.now c.args.asker.now c.args.steps.now
    (acts_of_block (drop c.loop-statement.statement-index c.args.block.now))
    (ap acts_of_block (drop_all c.loop-statement.statement-index c.args.block.now c.loop-statement-test.false))
    c.loop-statement.self c.loop-statement.asker c.loop-statement.steps c.loop-statement.invariant

-- ---- a statement

pub run_statement-branch-self-requires : goal.run_statement-branch-self-requires
run_statement-branch-self-requires g t c κs within =
    let i = c.in-If in
    let is : act_of c.args.statement.now ≡ tree.branch (tree_of i.condition) (acts_of_block i.block) = search (rules, the_lemmas) in
    let same : acts_of_block c.as_slice-in-If.result.now ≡ acts_of_block i.block = ap acts_of_block c.as_slice-in-If.ensures in
    let weighs : act_weight (act_of c.args.statement.now) ≡ t = c.decreases in
    let falls : suc (acts_weight (acts_of_block c.as_slice-in-If.result.now) + acts_weight tree.no_acts) < t =
    alone_lighter (act_of c.args.statement.now) (tree_of i.condition) (acts_of_block i.block) (acts_of_block c.as_slice-in-If.result.now) is same t weighs in (
      falls,
      (
        within.0,
        (
          within.1.0,
          (
            within.1.1,
            (
              c.requires.ask,
              (
                c.requires.act,
                parts_alone (shape_of c.args.self.now.app) (act_of c.args.statement.now) (tree_of i.condition) (acts_of_block i.block) (acts_of_block c.as_slice-in-If.result.now) is same c.requires.statement,
              ),
            ),
          ),
        ),
      ),
    )

pub run_statement-branch-self-requires-in-IfElse :
    goal.run_statement-branch-self-requires-in-IfElse
run_statement-branch-self-requires-in-IfElse g t c κs within =
    let i = c.in-IfElse in
    let is : act_of c.args.statement.now ≡ tree.branch_else (tree_of i.condition) (acts_of_block i.block) (acts_of_block i.other) = search (rules, the_lemmas) in
    let same : acts_of_block c.as_slice-block.result.now ≡ acts_of_block i.block = ap acts_of_block c.as_slice-block.ensures in
    let alike : acts_of_block c.as_slice-other.result.now ≡ acts_of_block i.other = ap acts_of_block c.as_slice-other.ensures in
    let weighs : act_weight (act_of c.args.statement.now) ≡ t = c.decreases in
    let falls : suc (acts_weight (acts_of_block c.as_slice-block.result.now) + acts_weight (acts_of_block c.as_slice-other.result.now)) < t =
    both_lighter (act_of c.args.statement.now) (tree_of i.condition) (acts_of_block i.block) (acts_of_block i.other) (acts_of_block c.as_slice-block.result.now) (acts_of_block c.as_slice-other.result.now) is same alike t weighs in (
      falls,
      (
        within.0,
        (
          within.1.0,
          (
            within.1.1,
            (
              c.requires.ask,
              (
                c.requires.act,
                parts_both (shape_of c.args.self.now.app) (act_of c.args.statement.now) (tree_of i.condition) (acts_of_block i.block) (acts_of_block i.other) (acts_of_block c.as_slice-block.result.now) (acts_of_block c.as_slice-other.result.now) is same alike c.requires.statement,
              ),
            ),
          ),
        ),
      ),
    )

pub run_statement-returns-in-If : goal.run_statement-returns-in-If
run_statement-returns-in-If g t c =
    let i = c.in-If in
    let is : act_of c.args.statement.now ≡ tree.branch (tree_of i.condition) (acts_of_block i.block) = search (rules, the_lemmas) in
    act_alone g.A.Asker.follows g.A.Asker.out g.met.A.Asker.stays g.met.A.Asker.chains c.args.observer.number c.args.observer.isolated
    (tree_of i.condition) (acts_of_block c.as_slice-in-If.result.now) tree.no_acts c.args.self.now c.args.asker.now c.args.steps.now
    (act_of c.args.statement.now) (acts_of_block i.block) is (ap acts_of_block c.as_slice-in-If.ensures)
    c.branch-self.new.self c.branch-self.new.asker c.branch-self.new.steps c.branch-self.result c.branch-self.ensures

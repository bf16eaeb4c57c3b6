use Rattle.std.proofs.Common.{arith}
use Rattle.app_tree.proofs.SortLaws.{declared_within}
use Rattle.app_tree.proofs.app.App.declared.Goals as goal

pub returns-clause-most : goal.returns-clause-most
returns-clause-most c =
    let most = declared_within c.few_items-items.result.now in
    let few = c.few_items-items.ensures.few in
    let inputs = c.count_of-inputs.ensures.value in
    let values = c.count_of-values.ensures.value in
    let tasks = c.count_of-tasks.ensures.value in
    omega (most, few, inputs, values, tasks, arith)

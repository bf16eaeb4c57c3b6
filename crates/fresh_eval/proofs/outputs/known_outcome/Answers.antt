use Rattle.std.proofs.Common.{◌≡◌, true, subst}
use Rattle.std.specs.Prelude.{IfOk}
use Rattle.rx_value.specs.declared.outcome.Outcome.{Outcome}
use Rattle.app_tree.specs.View.{node_of, shape_of}
use Rattle.app_tree.specs.Numbering.{is_expression}
use Rattle.fresh_eval.proofs.Firsts.{expression_known}
use Rattle.fresh_eval.proofs.outputs.known_outcome.Goals as goal

pub returns-then-is_expression : goal.returns-then-is_expression
returns-then-is_expression c =
    let node = node_of c.reader.result.now in
    let expression : is_expression node ≡ true = cc in
    subst (λ (z : Outcome). IfOk c.reader_outcome.result (λ outcome. outcome ≡ z))
    (expression_known (shape_of c.args.app.now) c.args.sources.now c.args.known.now c.args.n node c.requires.numbers c.requires.known c.reader.ensures expression)
    c.reader_outcome.ensures

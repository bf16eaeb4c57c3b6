use Rattle.std.proofs.Common.{◌≡◌, subst}
use Rattle.std.specs.Prelude.{IfOk}
use Rattle.rx_value.specs.declared.outcome.Outcome.{Outcome}
use Rattle.app_tree.specs.Fresh.{known_expressions, first_sites}
use Rattle.app_tree.specs.View.{shape_of}
use Rattle.fresh_eval.proofs.Firsts.{reader_is}
use Rattle.fresh_eval.proofs.outputs.output_outcome.Goals as goal

pub returns : goal.returns
returns c =
    let app = shape_of c.args.app.now in
    let sources = c.args.sources.now in
    subst (λ (z : Outcome). IfOk c.reader_outcome.result (λ outcome. outcome ≡ z))
    (reader_is app sources c.args.known.now (known_expressions app sources.values (first_sites app)) c.args.n c.requires.numbers c.requires.known)
    c.reader_outcome.ensures

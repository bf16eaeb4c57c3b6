use Rattle.std.proofs.Common.{[], refl, ap, List}
use Rattle.rx_value.specs.declared.value.Value.{Value}
use Rattle.app_tree.specs.View.{tree_of}
use Rattle.app_tree.specs.Evaluate.{evaluate, then_with}
use Rattle.app_tree.specs.Fresh.{event_body}
use Rattle.app_tree.specs.Wanted.{completed}
use Rattle.term_eval.proofs.Walking.{goes_by}
use Rattle.term_eval.proofs.body.event_value.Goals as goal

pub returns : goal.returns
returns g c =
    let A = completed (g.R.Reader.answers c.args.reader.now) in
    let h = c.in_ok-value.ensures in
    goes_by g.R.Reader.answers g.R.Reader.noted g.met.R.Reader.chains
    (then_with (evaluate (tree_of c.args.event.now) A []) (event_body c.args.flags (tree_of c.args.event.now) (tree_of c.args.body.now) A))
    (evaluate (tree_of c.args.event.now) A []) (evaluate (tree_of c.args.event.now) A c.args.variables.now)
    (event_body c.args.flags (tree_of c.args.event.now) (tree_of c.args.body.now) A)
    (event_body c.args.flags (tree_of c.args.event.now) (tree_of c.args.body.now) (completed (g.R.Reader.answers c.value_of.new.reader)) c.in_ok-value.value) c.in_ok-value.value
    (record { reader = c.args.reader.now; variables = c.args.variables.now })
    (record { reader = c.value_of.new.reader; variables = c.value_of.new.variables })
    (record { reader = c.event_body.new.reader; variables = c.event_body.new.variables }) c.event_body.result
    refl (ap (λ (z : List Value). evaluate (tree_of c.args.event.now) A z) c.requires) h
    (λ j. event_body c.args.flags (tree_of c.args.event.now) (tree_of c.args.body.now) (completed (h.keeps j)) c.in_ok-value.value)
    c.event_body.ensures

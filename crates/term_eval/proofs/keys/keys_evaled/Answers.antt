use Rattle.std.proofs.Common.{sym, subst}
use Rattle.app_tree.specs.View.{trees_of_terms}
use Rattle.term_eval.specs.declared.keys.Keyed.{Keyed}
use Rattle.term_eval.specs.KeysTold.{EvalsKeys}
use Rattle.term_eval.proofs.KeyValues.{keys_keep, keys_tell}
use Rattle.term_eval.proofs.keys.keys_evaled.Goals as goal

pub returns : goal.returns
returns g c = record {
  keeps = keys_keep g.R.Reader.answers g.R.Reader.noted g.met.R.Reader.stays (trees_of_terms c.args.keys.now) (record { reader = c.args.reader.now; variables = c.new-variables.result })
      (record { reader = c.values_of-got.new.reader; variables = c.values_of-got.new.variables }) c.values_of-got.result c.values_of-got.ensures;
  gives = subst (λ (z : Keyed). EvalsKeys g.R.Reader.answers g.R.Reader.noted c.args.node (trees_of_terms c.args.keys.now) c.args.reader.now c.values_of-got.new.reader z) (sym c.keyed_of.ensures)
      (keys_tell g.R.Reader.answers g.R.Reader.noted g.met.R.Reader.stays c.args.node (trees_of_terms c.args.keys.now) c.args.reader.now c.new-variables.result
      (record { reader = c.values_of-got.new.reader; variables = c.values_of-got.new.variables }) c.values_of-got.result c.new-variables.ensures c.values_of-got.ensures);
}

use Rattle.app_tree.specs.Resolve.{text_of_name}
use Rattle.app_check.specs.inner.ByName.{by_name}
use Rattle.app_check.specs.inner.Bound.{refused_names}
use Rattle.app_check.proofs.Placed.{next_place, repeated_step}
use Rattle.app_check.proofs.parameters.Parameters.new.Goals as goal

pub loop-place-preserved : goal.loop-place-preserved
loop-place-preserved c = record {
  places = λ name. next_place text_of_name c.args.names.now c.loop-place.place c.index-names-place.result name (by_name c.loop-place.places name) (by_name c.set_place.new.places name) c.loop-place-test.true c.index-names-place.is (c.loop-place.invariant.places name) (c.in_ok-had.ensures.set name);
  repeated = repeated_step c.args.names.now c.loop-place.place c.index-names-place.result (refused_names c.loop-place.repeated.items) (refused_names c.keep_if.new.repeated.items) c.in_ok-had.had (by_name c.loop-place.places c.index-names-place.result.text) _ c.loop-place-test.true c.index-names-place.is (c.loop-place.invariant.places c.index-names-place.result.text) c.in_ok-had.ensures.had c.in_ok-keep_if.ensures c.loop-place.invariant.repeated;
}

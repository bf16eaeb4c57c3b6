use Rattle.std.proofs.Common.{◌+◌, ◌∙◌, sym, ap, subst, map, length, Some, ◌≤◌, arith}
use Rattle.std.proofs.lemmas.List.{length-map}
use Rattle.app_tree.specs.View.{node_of}
use Rattle.app_tree.specs.Numbering.{name_of}
use Rattle.taken_cycle.specs.inner.Passed.{IsPassed}
use Rattle.taken_cycle.proofs.Building.{output_is, no_reader, built_at}
use Rattle.taken_cycle.proofs.Passing.{node_at, passed_all, passed_other, passed_output}
use Rattle.taken_cycle.proofs.waiting.next_waiting.Goals as goal
use Rattle.taken_cycle.proofs.waiting.next_waiting.Goals.{in-Some+else-waits_at, in_default}

pub loop-place-preserved : goal.loop-place-preserved
loop-place-preserved c =
    let items = map node_of c.args.items.now in
    let place = c.loop-place.place in
    let number = c.loop-place.number in
    let i = node_of c.index-items-place.result in
    let at = node_at c.args.items.now place c.index-items-place.result c.loop-place-test.true c.index-items-place.is in
    elim c.match-input_of_output.branch [
      | in-Some+else-waits_at w ↦ subst (IsPassed items c.args.readers.now (place + 1)) (sym w.number-is)
          (passed_output items c.args.readers.now place number (name_of i) w.in-Some.source c.loop-place.invariant (at ∙ ap Some (output_is i w.in-Some.source (sym c.input_of_output.ensures ∙ w.in-Some.is))) (sym w.waits_at.ensures ∙ w.if-waits_at.false))
      | in_default w ↦ subst (IsPassed items c.args.readers.now (place + 1)) (sym w.number-is)
          (passed_other items c.args.readers.now place number i c.loop-place.invariant at (no_reader i (built_at items place i c.requires.built at) (sym c.input_of_output.ensures ∙ w.in_default.is)))
    ]

pub returns-clause-none : goal.returns-clause-none
returns-clause-none c =
    let items = map node_of c.args.items.now in
    let all : length items ≤ c.loop-place.place = omega (arith, length-map c.args.items.now node_of, c.loop-place-test.false) in
    passed_all items c.args.readers.now c.loop-place.place c.loop-place.number c.loop-place.invariant all

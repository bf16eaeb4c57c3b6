use Rattle.std.proofs.Common.{◌∙◌, ap, ap₂, sym, map, filter, ◌++◌, ◌∷◌, [], ◌<◌, arith}
use Rattle.app_tree.specs.View.{node_of, shape_of}
use Rattle.app_tree.specs.Numbering.{is_reader}
use Rattle.session_model.specs.Flush.{waiting_from}
use Rattle.taken_cycle.proofs.Going.{going_first, all_done, all_spent, next_is, one_more, waits_within, passed_of_slices, waits_of_slices, going_with}
use Rattle.taken_cycle.proofs.flushing.flush.Goals as goal

pub loop-waiting-init : goal.loop-waiting-init
loop-waiting-init c = going_first (shape_of c.args.app.now) c.args.values.now c.args.readers.now.items c.budget-left.result c.new-outputs.result c.budget-left.ensures c.new-outputs.ensures

pub returns : goal.returns
returns c =
    let readers = c.loop-waiting.readers.items in
    let same_items = ap (map node_of) (c.as_slice-items.ensures ∙ c.items.ensures.items) in
    let none = sym (ap₂ (λ is rs. waiting_from 0 (filter is_reader is) rs) same_items c.as_slice.ensures.value) ∙ c.in_default.ensures.none in
    all_done (shape_of c.args.app.now) c.args.values.now c.args.readers.now.items readers c.loop-waiting.left c.loop-waiting.outputs c.loop-waiting.place c.loop-waiting.number c.loop-waiting.invariant none

pub returns-then-left-eq0 : goal.returns-then-left-eq0
returns-then-left-eq0 c =
    let app = shape_of c.args.app.now in
    let readers = c.loop-waiting.readers.items in
    let w = c.in-Some.waiting in
    let same_items = ap (map node_of) (c.as_slice-items.ensures ∙ c.items.ensures.items) in
    let passed = passed_of_slices app.items _ readers _ w.place w.number same_items c.as_slice.ensures.value c.in-Some.ensures.passed in
    let waits = waits_of_slices app.items _ readers _ w.place w.number w.name.now w.source same_items c.as_slice.ensures.value c.in-Some.ensures.waits in
    all_spent app c.args.values.now c.args.readers.now.items readers c.loop-waiting.left c.loop-waiting.outputs c.loop-waiting.place c.loop-waiting.number w.number c.loop-waiting.invariant c.if-left-eq0.true
    (next_is app c.args.values.now readers w.place w.number w.name.now w.source c.requires passed waits)

pub run_waiting-requires : goal.run_waiting-requires
run_waiting-requires c =
    let app = shape_of c.args.app.now in
    let readers = c.loop-waiting.readers.items in
    let w = c.in-Some.waiting in
    let same_items = ap (map node_of) (c.as_slice-items.ensures ∙ c.items.ensures.items) in
    let waits = waits_of_slices app.items _ readers _ w.place w.number w.name.now w.source same_items c.as_slice.ensures.value c.in-Some.ensures.waits in
    waits_within readers w.number waits.waits

pub loop-waiting-preserved : goal.loop-waiting-preserved
loop-waiting-preserved c =
    let app = shape_of c.args.app.now in
    let values = c.args.values.now in
    let readers = c.loop-waiting.readers.items in
    let w = c.in-Some.waiting in
    let same_items = ap (map node_of) (c.as_slice-items.ensures ∙ c.items.ensures.items) in
    let passed = passed_of_slices app.items _ readers _ w.place w.number same_items c.as_slice.ensures.value c.in-Some.ensures.passed in
    let waits = waits_of_slices app.items _ readers _ w.place w.number w.name.now w.source same_items c.as_slice.ensures.value c.in-Some.ensures.waits in
    let some : 0 < c.loop-waiting.left = omega (arith, c.if-left-eq0.false) in
    let more = one_more app values c.args.readers.now.items readers c.loop-waiting.left c.loop-waiting.outputs c.loop-waiting.place c.loop-waiting.number w.name.now w.source c.requires c.loop-waiting.invariant some w.place w.number passed waits in
    going_with app values c.args.readers.now.items _ c.run_waiting.new.readers.items _ _ c.push.new.self w.place w.number c.in_ok-output.ensures.ran (c.in_ok-push.ensures.ok ∙ ap (λ o. c.loop-waiting.outputs ++ o ∷ []) c.in_ok-output.ensures.output) more

use Rattle.std.proofs.Common.{◌∙◌, sym, ◌<◌, true, false, arith}
use Rattle.taken_cycle.proofs.Counted.{before_reader, before_other}
use Rattle.taken_cycle.proofs.sizes.outputs_before.Goals as goal
use Rattle.taken_cycle.proofs.sizes.outputs_before.Goals.{then-is_reader+else-left-eq0, else-is_reader, then-is_output, else-is_output}

pub loop-item-preserved : goal.loop-item-preserved
loop-item-preserved c =
    let left = c.loop-item.left in let count = c.loop-item.count in let at = c.loop-item.item-index in
    let left' = c.if-is_reader.left in let count' = c.if-is_output.count in let x = c.item-item.result in
    elim c.if-is_reader.branch [
      | then-is_reader+else-left-eq0 w ↦
          let some : 0 < left = omega (arith, w.if-left-eq0.false) in
          let reads = sym c.is_reader.ensures ∙ w.if-is_reader.true in
          elim c.if-is_output.branch [
            | then-is_output v ↦ before_reader c.args.items.now c.args.reader left count at x c.loop-item.invariant c.loop-item-test.true c.item-item.is left' count' true reads some w.left-is (sym c.is_output.ensures ∙ v.if-is_output.true) v.count-is
            | else-is_output v ↦ before_reader c.args.items.now c.args.reader left count at x c.loop-item.invariant c.loop-item-test.true c.item-item.is left' count' false reads some w.left-is (sym c.is_output.ensures ∙ v.if-is_output.false) v.count-is
          ]
      | else-is_reader w ↦
          let other = sym c.is_reader.ensures ∙ w.if-is_reader.false in
          elim c.if-is_output.branch [
            | then-is_output v ↦ before_other c.args.items.now c.args.reader left count at x c.loop-item.invariant c.loop-item-test.true c.item-item.is left' count' true other w.left-is (sym c.is_output.ensures ∙ v.if-is_output.true) v.count-is
            | else-is_output v ↦ before_other c.args.items.now c.args.reader left count at x c.loop-item.invariant c.loop-item-test.true c.item-item.is left' count' false other w.left-is (sym c.is_output.ensures ∙ v.if-is_output.false) v.count-is
          ]
    ]

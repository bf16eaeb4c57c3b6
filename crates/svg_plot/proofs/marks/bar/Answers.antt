use Rattle.std.proofs.Common.{◌<◌, arith}
use Rattle.svg_plot.specs.inner.Seen.{seen_frame}
use Rattle.svg_plot.proofs.Scale.{edge_of-grows}
use Rattle.svg_plot.proofs.marks.bar.Goals as goal

pub overflow_sub-right : goal.overflow_sub-right
overflow_sub-right c =
    let some : 0 < c.args.frame.now.count = omega arith in
    omega (arith, edge_of-grows (seen_frame c.args.frame.now) c.args.place some, c.edge-left.ensures, c.edge-right.ensures)

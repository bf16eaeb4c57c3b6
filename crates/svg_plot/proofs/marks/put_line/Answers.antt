use Rattle.std.proofs.Common.{codes}
use Rattle.std.proofs.lemmas.Int.{to_z-of_z}
use mir.Syntax.{w64}
use Rattle.rx_value.specs.Plot.{point, spaced_from}
use Rattle.svg_plot.specs.inner.Seen.{seen_frame}
use Rattle.svg_plot.proofs.Stopped.{Writes-fourth}
use Rattle.svg_plot.proofs.marks.put_line.Goals as goal

pub returns : goal.returns
returns c =
    let f = seen_frame c.args.frame.now in
    let pointed = rw (to_z-of_z w64 c.args.first c.ranges.first) at c.in_ok-put_point.ensures in
    Writes-fourth c.args.text.now (codes "<polyline points=\"") (point f 0 c.args.first) (spaced_from f 1 c.args.later.now) (codes "\" fill=\"none\" stroke=\"black\"/>") c.put.new.text c.put_point.new.text c.put_later.new.text
    c.put-2.new.text c.put-2.result c.in_ok-put.ensures.written pointed c.in_ok-put_later.ensures c.put-2.ensures.written

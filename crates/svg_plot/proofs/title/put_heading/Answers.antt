use Rattle.std.proofs.Common.{codes}
use Rattle.std.specs.List.{flat_map}
use Rattle.std.specs.Str.{chars}
use Rattle.rx_value.specs.Plot.{xml_escaped}
use Rattle.svg_plot.proofs.Stopped.{Writes-third}
use Rattle.svg_plot.proofs.title.put_heading.Goals as goal

pub returns : goal.returns
returns c =
    Writes-third c.args.text.now (codes "<text x=\"10\" y=\"20\">") (flat_map xml_escaped (chars c.args.title.now)) (codes "</text>") c.put.new.text c.put_all_escaped.new.text
    c.put-2.new.text c.put-2.result c.in_ok-put.ensures.written c.in_ok-put_all_escaped.ensures c.put-2.ensures.written

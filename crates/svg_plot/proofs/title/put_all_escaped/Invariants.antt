use Rattle.std.proofs.Common.{◌≡◌, ◌++◌, length, drop}
use Rattle.std.specs.List.{flat_map}
use Rattle.std.specs.Str.{chars}
use Rattle.rx_value.specs.Plot.{xml_escaped}
use Rattle.svg_plot.proofs.title.put_all_escaped.Given as goal

-- what was written and what is to come are the whole
abbrev pub invariant-loop-character : goal.invariant-loop-character
invariant-loop-character l =
    l.text ++ flat_map xml_escaped (drop (length l.yielded) (chars l.title))
    ≡ l.fn.text ++ flat_map xml_escaped (chars l.title)

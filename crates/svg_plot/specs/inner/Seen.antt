-- What a frame of the code is among the definitions.
use Rattle.rx_value.specs.Plot.{Frame}
use Rattle.svg_plot.specs.declared.frame.Frame.{Frame as PlotFrame}

abbrev pub seen_frame : PlotFrame → Frame
seen_frame f = record { width = f.width; height = f.height; count = f.count; low = f.low; high = f.high }

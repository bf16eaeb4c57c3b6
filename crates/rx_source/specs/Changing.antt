-- What setting a source answers.
use Rattle.std.specs.Prelude.{Bool, true, false}
use Rattle.rx_source.specs.declared.sources.Change.{Change}
use Rattle.rx_source.specs.declared.sources.Change.TheVariants.{Changed, Same}

-- by whether the source had an equal value
abbrev pub change_of : Bool → Change
change_of true = Same
change_of false = Changed

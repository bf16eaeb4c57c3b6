-- What contracts see of a session's sources.
use Rattle.app_tree.specs.Numbering.{SourceNumbers}
use Rattle.app_tree.specs.Current.{CurrentValues}

-- where the sizes of the outputs stand, and the values by source number
pub record NumberedValues : Type 0 where
  pub numbers : SourceNumbers
  pub values : CurrentValues

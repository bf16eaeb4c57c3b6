-- That an app has few sources.
use Rattle.std.specs.Prelude.{ℕ, ◌≤◌}
use Rattle.app_tree.specs.declared.limits.TheConstants.{ITEM_LIMIT}
use Rattle.app_tree.specs.Numbering.{SourceNumbers, outputs_before}

-- no more sources are no sizes, and no more outputs stand before a reader, than an app may have items
pub record HasFew (numbers : SourceNumbers) : Type 0 where
  pub declared : numbers.declared ≤ ITEM_LIMIT
  pub outputs : numbers.outputs ≤ ITEM_LIMIT
  pub before : (n : ℕ) → outputs_before numbers n ≤ ITEM_LIMIT

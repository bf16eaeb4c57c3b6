-- Reader numbers with room.
use Rattle.std.specs.Prelude.{ℕ, List}

-- the numbers in their order, and how many find room without taking memory
pub record MarkedReaders : Type 0 where
  pub list : List ℕ
  pub room : ℕ

-- What a take from a source may answer.
use Rattle.std.specs.Prelude.{◌≡◌, ℕ, ◌<◌, ◌≤◌, List, length, take, Option, ⊤}
use Rattle.std.specs.Io.KnownBytes.{prepend_known, IsAtEnd}
use Rattle.rx_ports.specs.Faults.{Rose}
use Rattle.rx_ports.specs.declared.source.Take.{Take}
use Rattle.rx_ports.specs.declared.source.Take.TheVariants as taken

-- some bytes, which are the front of the buffer, were taken from the front of what was left
pub record GivesBytes (old new : Option (List ℕ)) (buf : List ℕ) (count : ℕ) : Type 0 where
  pub some : 0 < count
  pub fits : count ≤ length buf
  pub front : old ≡ prepend_known (take count buf) new

-- nothing was left, and nothing was taken
pub record GivesEnd (old new : Option (List ℕ)) : Type 0 where
  pub stays : new ≡ old
  pub ended : IsAtEnd new

-- what a take does to the bytes that are left, where they are told, by its answer
abbrev pub TakeGives : Option (List ℕ) → Option (List ℕ) → List ℕ → Take → Type 0
TakeGives old new buf (taken.Bytes count) = GivesBytes old new buf count
TakeGives old new buf taken.End = GivesEnd old new
TakeGives old new buf taken.Failed = new ≡ old

-- at Failed the count of faults rose
abbrev pub TakeFaults : ℕ → ℕ → Take → Type 0
TakeFaults before now taken.Failed = Rose before now
TakeFaults before now _ = ⊤

-- The Leaves of an asker that are out.
use Rattle.std.specs.Prelude.{◌≡◌, ℕ, List, [], ◌∷◌, Option, Some, None, if◌then◌else◌}
use Rattle.rx_value.specs.declared.key.Key.{Key}
use Rattle.rx_value.specs.Value.{key_eq}

-- the key of a Leave, and the Leave's number, by which the asker that made it knows it again
pub record Lent : Type 0 where
  pub key : Key
  pub number : ℕ

-- the number of the Leave that is out for a key, or None where none is
abbrev pub number_out : Key → List Lent → Option ℕ
number_out key [] = None
number_out key (lent ∷ more) = if key_eq key lent.key then Some lent.number else number_out key more

-- no Leave is out for the key
abbrev pub IsFree : Key → List Lent → Type 0
IsFree key out = number_out key out ≡ None

-- the Leave that is out for the key is the one of this number
abbrev pub IsOut : Lent → List Lent → Type 0
IsOut lent out = number_out lent.key out ≡ Some lent.number

-- those that are out, but for that of the key
abbrev pub without : Key → List Lent → List Lent
without key [] = []
without key (lent ∷ more) = if key_eq key lent.key then more else lent ∷ without key more

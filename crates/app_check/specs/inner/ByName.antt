-- What a map whose keys are names gives for a name.
use Rattle.std.specs.Prelude.{◌≡◌, ℕ, List, Option, Some, bytes_eq, if◌then◌else◌}
use Rattle.std.specs.Borrow.{Bor}
use Rattle.std.specs.Ordering.{nat_cmp}
use Rattle.std.specs.Cmp.Lexicographic.{slice_cmp}
use Rattle.std.specs.BTreeMap.{BTreeMap, get_by}

abbrev pub by_name : {X : Type 0} → BTreeMap (Bor (List ℕ)) X → List ℕ → Option X
by_name m name = get_by (λ k. slice_cmp nat_cmp name k.now) m

-- in the new map this name has this, and each other name what it has in the old map
abbrev pub SetsName : {X : Type 0} → BTreeMap (Bor (List ℕ)) X → BTreeMap (Bor (List ℕ)) X → List ℕ → X → Type 0
SetsName old new name x = (sought : List ℕ) → by_name new sought ≡ (if bytes_eq sought name then Some x else by_name old sought)

-- Which readers a write leaves no longer alive, in words of the session alone.
use Rattle.std.specs.Prelude.{ℕ, suc, Bool, false, List, [], ◌∷◌, if◌then◌else◌}
use Rattle.rx_value.specs.declared.source.SourceValue.{SourceValue}
use Rattle.rx_value.specs.Value.{source_eq}
use Rattle.app_tree.specs.Current.{value_at}
use Rattle.app_tree.specs.Fresh.{is_among}
use Rattle.session_model.specs.Standing.{Dependence, alive, KeptReader, KeptSession}

-- one that is alive, and has reached source s
abbrev pub is_marked_by : ℕ → Dependence → Bool
is_marked_by s (alive sources) = is_among s sources
is_marked_by s _ = false

-- their numbers, rising, where the first reader's number is n
abbrev pub marked_among : ℕ → ℕ → List KeptReader → List ℕ
marked_among s n [] = []
marked_among s n (r ∷ more) = if is_marked_by s r.dependence then n ∷ marked_among s (suc n) more else marked_among s (suc n) more

abbrev pub marked_in_kept : ℕ → KeptSession → List ℕ
marked_in_kept s session = marked_among s 0 session.readers

-- setting a source to the value that it has marks none
abbrev pub marked_by_write : ℕ → SourceValue → KeptSession → List ℕ
marked_by_write s x session = if source_eq (value_at session.values s) x then [] else marked_in_kept s session

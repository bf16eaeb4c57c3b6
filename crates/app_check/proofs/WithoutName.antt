-- What is known of a declaration that is found without its name.
use Rattle.std.proofs.Common.{◌≡◌, ℕ, Option, Some, None, refl}
use Rattle.std.specs.Prelude.{is_none}
use Rattle.app_tree.specs.Declarations.{Declared}
use Rattle.app_tree.specs.Faults.{Spot, is_forward, is_other_count}
use Rattle.app_check.specs.inner.Tables.{without_name, has_other_count}
use Rattle.app_check.specs.inner.Spots.{is_declared_forward}

pub is_none_without_name : (found : Option (ℕ × Declared)) → is_none (without_name found) ≡ is_none found
is_none_without_name None = refl
is_none_without_name (Some d) = refl

pub is_declared_forward_without_name : (spot : Spot) (found : Option (ℕ × Declared)) → is_declared_forward spot (without_name found) ≡ is_forward spot found
is_declared_forward_without_name spot None = refl
is_declared_forward_without_name spot (Some d) = refl

pub has_other_count_without_name : (count : ℕ) (found : Option (ℕ × Declared)) → has_other_count count (without_name found) ≡ is_other_count count found
has_other_count_without_name count None = refl
has_other_count_without_name count (Some d) = refl

-- What an item declares, and declarations that are found.
use Rattle.std.specs.Prelude.{ℕ, Bool, false, not, nat_eq, nat_lt, Option, Some, None}
use Rattle.app_tree.specs.Declarations.{Declared}
use Rattle.app_check.specs.declared.table.Declaration.{Declaration}
use Rattle.app_check.specs.declared.table.Entry.{Entry}

abbrev pub declared_of : Entry → Declared
declared_of e = record { name = e.name.now; sort = e.sort; parameters = e.parameters }

-- a declaration that was found, without its name
abbrev pub without_name : Option (ℕ × Declared) → Option Declaration
without_name None = None
without_name (Some found) = Some (record { item = found.0; sort = found.1.sort; parameters = found.1.parameters })

-- the task that was found has another number of parameters
abbrev pub has_other_count : ℕ → Option Declaration → Bool
has_other_count count (Some found) = not (nat_eq found.parameters count)
has_other_count count None = false

-- a declaration was found, at an earlier place than this one
abbrev pub is_declared_before : ℕ → Option Declaration → Bool
is_declared_before place (Some found) = nat_lt found.item place
is_declared_before place None = false

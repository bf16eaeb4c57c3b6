-- The first declarations of names, by the sorts among which they are sought.
use Rattle.std.specs.Prelude.{◌≡◌, ℕ, ◌&&◌, List, map, Option, Some, None, bytes_eq, if◌then◌else◌}
use Rattle.std.specs.Borrow.{Bor}
use Rattle.std.specs.BTreeMap.{BTreeMap}
use Rattle.app_tree.specs.Declarations.{declaration}
use Rattle.app_tree.specs.declared.sorts.Sorts.{Sorts}
use Rattle.app_tree.specs.declared.sorts.Sorts.TheVariants as sorts
use Rattle.app_check.specs.declared.table.Declaration.{Declaration}
use Rattle.app_check.specs.declared.table.Entry.{Entry}
use Rattle.app_check.specs.declared.index.Index.{Index}
use Rattle.app_tree.specs.Sorts.{sorts_of}
use Rattle.app_check.specs.inner.Tables.{declared_of, without_name}
use Rattle.app_check.specs.inner.ByName.{by_name}

-- those among these sorts
abbrev pub first_of : Index → Sorts → BTreeMap (Bor (List ℕ)) Declaration
first_of index sorts.Inputs = index.inputs
first_of index sorts.Values = index.values
first_of index sorts.Tasks = index.tasks
first_of index sorts.Named = index.named
first_of index sorts.Outputs = index.outputs
first_of index sorts.Readers = index.readers
first_of index sorts.Any = index.any

-- the entry at this place, as a declaration that is found
abbrev pub declaration_of : ℕ → Entry → Declaration
declaration_of item e = record { item = item; sort = e.sort; parameters = e.parameters }

-- the same, where it is of this name and of a sort that is sought
abbrev pub declaration_at : Sorts → ℕ → Entry → List ℕ → Option Declaration
declaration_at sought item e name =
    if sorts_of sought e.sort && bytes_eq name e.name.now then Some (declaration_of item e) else None

-- a map has the first declaration of each name among these sorts
abbrev pub HasFirst : BTreeMap (Bor (List ℕ)) Declaration → Sorts → List Entry → Type 0
HasFirst first sought entries = (name : List ℕ) → by_name first name ≡ without_name (declaration (sorts_of sought) name (map declared_of entries))

-- the maps have the first declarations among these entries
abbrev pub IsIndex : Index → List Entry → Type 0
IsIndex index entries = (sought : Sorts) → HasFirst (first_of index sought) sought entries

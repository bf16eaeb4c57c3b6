-- The apps that are run today: inputs that start at a number, and outputs that show an input as text, without a
-- priority and a cache.
use Rattle.std.specs.Prelude.{◌≡◌, ℕ, suc, pos, Bool, true, false, not, ◌&&◌, List, [], ◌∷◌, Option, Some, None, is_some, if◌then◌else◌}
use Rattle.std.specs.Ordering.{int_eq}
use Rattle.rx_value.specs.declared.value.Value.{Value}
use Rattle.rx_value.specs.declared.value.Value.TheVariants.{Int}
use Rattle.app_tree.specs.declared.term.Read.TheVariants.{Input}
use Rattle.app_tree.specs.Tree.{Tree, get, Trees, no_trees, tree, Shown, Node, input, text, Shape}

abbrev pub is_uncached : Trees → Bool
is_uncached no_trees = true
is_uncached (tree key more) = false

abbrev pub is_plain : Shown → Bool
is_plain shown = int_eq shown.priority (pos 0) && not shown.while_hidden && is_uncached shown.keys

-- the input that a term reads which reads one and does nothing else
abbrev pub input_read : Tree → Option ℕ
input_read (get (Input s)) = Some s
input_read _ = None

-- the source number of the input that an output of this form shows
abbrev pub shown_input : Shown → Option ℕ
shown_input shown = if is_plain shown then input_read shown.body else None

abbrev pub is_number : Value → Bool
is_number (Int z) = true
is_number _ = false

abbrev pub is_built : Node → Bool
is_built (input name start) = is_number start
is_built (text name shown) = is_some (shown_input shown)
is_built _ = false

-- the place of the first item of another form, where the first of these items has place n
abbrev pub unbuilt_from : ℕ → List Node → Option ℕ
unbuilt_from n [] = None
unbuilt_from n (i ∷ more) = if is_built i then unbuilt_from (suc n) more else Some n

abbrev pub first_unbuilt : List Node → Option ℕ
first_unbuilt items = unbuilt_from 0 items

abbrev pub IsBuilt : Shape → Type 0
IsBuilt app = first_unbuilt app.items ≡ None

-- an output of this form
abbrev pub plain_shown : ℕ → Shown
plain_shown s = record { priority = pos 0; while_hidden = false; keys = no_trees; body = get (Input s) }

-- the input that an item shows, if it is an output
abbrev pub input_of_output : Node → Option ℕ
input_of_output (text name shown) = shown_input shown
input_of_output _ = None

-- How many terms there are.
use Rattle.std.proofs.Common.{◌≡◌, ℕ, ◌≤◌, Bor, List, [], ◌∷◌, length, map, take, suc, refl, sym, ap, arith}
use Rattle.std.proofs.lemmas.List.{take-map, length-take, length-map}
use Rattle.app_tree.specs.declared.draft_item.DraftItem.{DraftItem}
use Rattle.app_tree.specs.Declarations.{declarations, declared_by}
use Rattle.app_check.specs.declared.table.Entry.{Entry}
use Rattle.app_check.specs.inner.Tables.{declared_of}
use Rattle.app_tree.specs.declared.draft_term.DraftTerm.{DraftTerm}
use Rattle.app_tree.specs.DraftView.{draft_trees_of, written_item}
use Rattle.app_tree.specs.Faults.{tree_count}

pub tree_count_of : (ts : List DraftTerm) → tree_count (draft_trees_of ts) ≡ length ts
tree_count_of [] = refl
tree_count_of (t ∷ ts) = ap suc (tree_count_of ts)

pub counted_within : (n : ℕ) (items : List DraftItem) → length (take n items) ≤ length (declarations (map written_item items))
counted_within n items = omega (arith, length-take n items, length-map items written_item, length-map (map written_item items) declared_by)

pub items_taken : (n : ℕ) (items : List DraftItem) → map written_item (take n items) ≡ take n (map written_item items)
items_taken n items = sym (take-map written_item n items)

pub entries_taken : (item : ℕ) (entries : List Entry) → map declared_of (take item entries) ≡ take item (map declared_of entries)
entries_taken item entries = sym (take-map declared_of item entries)

pub names_kept : (n : ℕ) (names : List (Bor (List ℕ))) → map (λ name. name.now) (take n names) ≡ take n (map (λ name. name.now) names)
names_kept n names = sym (take-map (λ (name : Bor (List ℕ)). name.now) n names)

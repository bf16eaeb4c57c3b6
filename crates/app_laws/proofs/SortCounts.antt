-- What is counted by sorts among the items that a draft stands for, in the words of its declarations.
use Rattle.std.proofs.Common.{◌≡◌, ◌<◌, ℕ, zero, suc, ◌+◌, Bool, true, false, List, [], ◌∷◌, map, take, filter, length, Some, slice_get, refl, ap, ◌∙◌, subst, arith}
use Rattle.std.proofs.lemmas.List.{take_all}
use Rattle.std.specs.Prelude.{if◌then◌else◌}
use Rattle.app_tree.specs.declared.item.Sort.{Sort}
use Rattle.app_tree.specs.declared.draft_term.Name.{Name}
use Rattle.app_tree.specs.Tree.{Node}
use Rattle.app_tree.specs.Numbering.{is_input, is_value, is_task, is_output, is_reader, output_count}
use Rattle.app_tree.specs.DraftTree as draft
use Rattle.app_tree.specs.DraftTree.{WrittenForm, WrittenItem}
use Rattle.app_tree.specs.Declarations.{Declared, is_input_sort, is_value_sort, is_task_sort, is_output_sort, is_reader_sort, declarations, declared_by, sort_of_form, count_of}
use Rattle.app_tree.specs.Resolve.{resolved_form, resolved_item}

-- ---- the sort of an item

pub record SortsKept (i : Node) (s : Sort) : Type 0 where
  pub inputs : is_input i ≡ is_input_sort s
  pub values : is_value i ≡ is_value_sort s
  pub tasks : is_task i ≡ is_task_sort s
  pub outputs : is_output i ≡ is_output_sort s
  pub readers : is_reader i ≡ is_reader_sort s

pub sorts_kept : (table : List Declared) (name : List ℕ) (f : WrittenForm) → SortsKept (resolved_form table name f) (sort_of_form f)
sorts_kept table name (draft.input start) = record { inputs = refl; values = refl; tasks = refl; outputs = refl; readers = refl }
sorts_kept table name (draft.value start) = record { inputs = refl; values = refl; tasks = refl; outputs = refl; readers = refl }
sorts_kept table name (draft.task parameters body) = record { inputs = refl; values = refl; tasks = refl; outputs = refl; readers = refl }
sorts_kept table name (draft.reactive keys body) = record { inputs = refl; values = refl; tasks = refl; outputs = refl; readers = refl }
sorts_kept table name (draft.event flags e body) = record { inputs = refl; values = refl; tasks = refl; outputs = refl; readers = refl }
sorts_kept table name (draft.text shown) = record { inputs = refl; values = refl; tasks = refl; outputs = refl; readers = refl }
sorts_kept table name (draft.plot shown) = record { inputs = refl; values = refl; tasks = refl; outputs = refl; readers = refl }
sorts_kept table name (draft.observe priority block) = record { inputs = refl; values = refl; tasks = refl; outputs = refl; readers = refl }
sorts_kept table name (draft.on priority flags e block) = record { inputs = refl; values = refl; tasks = refl; outputs = refl; readers = refl }

-- ---- how many there are

longer : {A B : Type 0} (b : Bool) (x : A) (y : B) (xs : List A) (ys : List B) → length xs ≡ length ys → length (if b then x ∷ xs else xs) ≡ length (if b then y ∷ ys else ys)
longer true x y xs ys e = ap suc e
longer false x y xs ys e = e

pub count_kept : (kind : Node → Bool) (counted : Sort → Bool) (table : List Declared) → ((name : List ℕ) (f : WrittenForm) → kind (resolved_form table name f) ≡ counted (sort_of_form f))
    → (items : List WrittenItem) → length (filter kind (map (resolved_item table) items)) ≡ count_of counted (declarations items)
count_kept kind counted table same [] = refl
count_kept kind counted table same (w ∷ more) =
    rw (same w.name.text w.form) (
    longer (counted (sort_of_form w.form)) (resolved_item table w) (declared_by w) (filter kind (map (resolved_item table) more)) (filter (λ e. counted e.sort) (declarations more))
    (count_kept kind counted table same more)
    )

-- the outputs that are declared before a place are those among the readers that are declared before it
pub outputs_kept : (table : List Declared) (items : List WrittenItem) (j : ℕ)
    → output_count (take (count_of is_reader_sort (take j (declarations items))) (filter is_reader (map (resolved_item table) items))) ≡ count_of is_output_sort (take j (declarations items))
outputs_kept table [] zero = refl
outputs_kept table [] (suc j) = refl
outputs_kept table (w ∷ more) zero = refl
outputs_kept table (w ∷ more) (suc j) = by_form w.place w.name w.form (outputs_kept table more j)
  where
    by_form : (place : ℕ) (name : Name) (f : WrittenForm)
        → output_count (take (count_of is_reader_sort (take j (declarations more))) (filter is_reader (map (resolved_item table) more))) ≡ count_of is_output_sort (take j (declarations more))
        → let all : List WrittenItem = record { place = place; name = name; form = f } ∷ more in
        output_count (take (count_of is_reader_sort (take (suc j) (declarations all))) (filter is_reader (map (resolved_item table) all))) ≡ count_of is_output_sort (take (suc j) (declarations all))
    by_form place name (draft.input start) rest = rest
    by_form place name (draft.value start) rest = rest
    by_form place name (draft.task parameters body) rest = rest
    by_form place name (draft.reactive keys body) rest = rest
    by_form place name (draft.event flags e body) rest = rest
    by_form place name (draft.text shown) rest = ap suc rest
    by_form place name (draft.plot shown) rest = ap suc rest
    by_form place name (draft.observe priority block) rest = rest
    by_form place name (draft.on priority flags e block) rest = rest

-- ---- how many stand before a place

-- fewer are counted before an earlier place, where one that counts stands
pub counted_before : (counted : Sort → Bool) (table : List Declared) (j k : ℕ) (e : Declared) → slice_get table j ≡ Some e → counted e.sort ≡ true → j < k
    → count_of counted (take j table) < count_of counted (take k table)
counted_before counted [] j k e stands is before = absurd cc
counted_before counted (c ∷ more) j zero e stands is before = absurd (omega (arith, before))
counted_before counted (c ∷ more) zero (suc k) e stands is before =
    let same : c ≡ e = cc in
    let counts : counted c.sort ≡ true = ap (λ (o : Declared). counted o.sort) same ∙ is in
    rw counts (omega arith)
counted_before counted (c ∷ more) (suc j) (suc k) e stands is before =
    decide (counted c.sort) refl (counted_before counted more j k e stands is (omega (arith, before)))
  where
    decide : (b : Bool) → b ≡ counted c.sort → count_of counted (take j more) < count_of counted (take k more)
        → count_of counted (take (suc j) (c ∷ more)) < count_of counted (take (suc k) (c ∷ more))
    decide true b rest = rw (← b) (omega (arith, rest))
    decide false b rest = rw (← b) rest

-- and fewer than there are
pub counted_within : (counted : Sort → Bool) (table : List Declared) (j : ℕ) (e : Declared) → slice_get table j ≡ Some e → counted e.sort ≡ true → count_of counted (take j table) < count_of counted table
counted_within counted table j e stands is =
    let behind = suc (j + length table) in
    subst (λ (those : List Declared). count_of counted (take j table) < count_of counted those) (take_all behind table (omega arith))
    (counted_before counted table j behind e stands is (omega arith))

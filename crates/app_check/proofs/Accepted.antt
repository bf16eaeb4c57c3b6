-- What is known where no check fails.
use Rattle.std.proofs.Common.{◌≡◌, ℕ, suc, ◌+◌, ◌≤◌, ◌≢◌, Bool, true, false, cond, List, [], ◌∷◌, ◌++◌, length, take, map, Some, None, refl, sym, ◌∙◌, ap, arith}
use Rattle.std.proofs.lemmas.List.{length-take, length-map}
use Rattle.app_tree.specs.declared.refusal.Refusal.{Refusal}
use Rattle.app_tree.specs.declared.limits.TheConstants.{ITEM_LIMIT}
use Rattle.app_tree.specs.Tree.{Node, Shape}
use Rattle.app_tree.specs.Resolve.{resolved, resolved_item}
use Rattle.app_tree.specs.DraftTree.{WrittenItem, DraftShape}
use Rattle.app_tree.specs.Declarations.{Declared, declared_by, declarations}
use Rattle.app_tree.specs.Faults.{item_too_many, second_item, form_faults, item_faults, items_faults, faults, precedes, first_with}

found_stays : (best : Refusal) (xs : List Refusal) → first_with (Some best) xs ≡ None → ⊥
found_stays best [] e = cc
found_stays best (r ∷ xs) e = decide (precedes r best) (λ x. found_stays x xs) e
  where
    decide : (b : Bool) → ((x : Refusal) → first_with (Some x) xs ≡ None → ⊥) → first_with (cond b (Some r) (Some best)) xs ≡ None → ⊥
    decide true rest e = rest r e
    decide false rest e = rest best e

-- none is found exactly where there is none
pub none_found : (xs : List Refusal) → first_with None xs ≡ None → xs ≡ []
none_found [] e = refl
none_found (r ∷ xs) e = absurd (found_stays r xs e)

none_in_front : {A : Type 0} (xs ys : List A) → xs ++ ys ≡ [] → xs ≡ []
none_in_front [] ys e = refl
none_in_front (x ∷ xs) ys e = absurd cc

none_behind : {A : Type 0} (xs ys : List A) → xs ++ ys ≡ [] → ys ≡ []
none_behind [] ys e = e
none_behind (x ∷ xs) ys e = absurd cc

not_too_many : (k : ℕ) (i : WrittenItem) → item_too_many k i ≡ [] → k ≢ ITEM_LIMIT
not_too_many k i e at = absurd (fails (ap (λ n. item_too_many n i) (sym at) ∙ e))
  where
    fails : item_too_many ITEM_LIMIT i ≡ [] → ⊥
    fails e = cc

pub items_within : (table : List Declared) (k : ℕ) (items : List WrittenItem) → k ≤ ITEM_LIMIT → items_faults table k items ≡ [] → k + length items ≤ ITEM_LIMIT
items_within table k [] small e = omega arith
items_within table k (i ∷ more) small e =
    let here = none_in_front (item_faults table k i) (items_faults table (suc k) more) e in
    let front = none_in_front (item_too_many k i ++ second_item table k i) (form_faults table k i.form) here in
    let other = not_too_many k i (none_in_front (item_too_many k i) (second_item table k i) front) in
    let rest = items_within table (suc k) more (omega (arith, other)) (none_behind (item_faults table k i) (items_faults table (suc k) more) e) in
    omega (arith, rest)

pub table_within : (table : List Declared) (items : List WrittenItem) → table ≡ declarations items → first_with None (items_faults table 0 (take (suc ITEM_LIMIT) items)) ≡ None → length table ≤ ITEM_LIMIT
table_within table items is e =
    let within = items_within table 0 (take (suc ITEM_LIMIT) items) (omega arith) (none_found (items_faults table 0 (take (suc ITEM_LIMIT) items)) e) in
    omega (arith, within, length-take (suc ITEM_LIMIT) items, ap length is, length-map items declared_by)

pub draft_passes : (d : DraftShape) (table : List Declared) (items : List WrittenItem) → items ≡ d.items → table ≡ declarations items → first_with None (items_faults table 0 (take (suc ITEM_LIMIT) items)) ≡ None → faults d ≡ []
draft_passes d table items same is e =
    ap (λ all. items_faults (declarations all) 0 (take (suc ITEM_LIMIT) all)) (sym same)
    ∙ ap (λ t. items_faults t 0 (take (suc ITEM_LIMIT) items)) (sym is)
    ∙ none_found (items_faults table 0 (take (suc ITEM_LIMIT) items)) e

pub draft_stands : (d : DraftShape) (table : List Declared) (items : List WrittenItem) (budget : ℕ) (nodes : List Node) → items ≡ d.items → table ≡ declarations items → budget ≡ d.budget → nodes ≡ map (resolved_item table) items
    → resolved d ≡ record { budget = budget; items = nodes }
draft_stands d table items budget nodes same is budget_is made =
    let shape : List Node → Shape = λ ns. record { budget = d.budget; items = ns } in
    let with_budget : ℕ → Shape = λ n. record { budget = n; items = nodes } in
    ap (λ all. shape (map (resolved_item (declarations all)) all)) (sym same)
    ∙ ap (λ t. shape (map (resolved_item t) items)) (sym is)
    ∙ ap shape (sym made)
    ∙ ap with_budget (sym budget_is)

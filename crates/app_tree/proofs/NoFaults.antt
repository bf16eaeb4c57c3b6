-- What it means that a draft passes the checks, part by part.
use Rattle.std.proofs.Common.{◌≡◌, ◌≢◌, ℕ, suc, zero, ◌+◌, ◌≤◌, Bool, true, false, List, [], ◌∷◌, ◌++◌, length, take, refl, sym, ap, ◌∙◌, arith, zero-add, subst}
use Rattle.std.proofs.lemmas.List.{take_all}
use Rattle.app_tree.specs.declared.limits.TheConstants.{ITEM_LIMIT}
use Rattle.app_tree.specs.declared.refusal.Refusal.{Refusal}
use Rattle.app_tree.specs.DraftTree.{WrittenItem, DraftShape}
use Rattle.app_tree.specs.Declarations.{Declared, declarations}
use Rattle.app_tree.specs.Faults.{where_fails, item_too_many, second_item, form_faults, item_faults, items_faults, faults}

-- a list of parts is empty where each part is
pub nothing_left : (rs ss : List Refusal) → rs ++ ss ≡ [] → rs ≡ []
nothing_left [] ss e = refl
nothing_left (r ∷ rs) ss e = absurd cc

pub nothing_right : (rs ss : List Refusal) → rs ++ ss ≡ [] → ss ≡ []
nothing_right [] ss e = e
nothing_right (r ∷ rs) ss e = absurd cc

pub holds_not : (b : Bool) (r : Refusal) → where_fails b r ≡ [] → b ≡ false
holds_not true r e = absurd cc
holds_not false r e = refl

-- ---- few items

pub not_too_many : (k : ℕ) (i : WrittenItem) → item_too_many k i ≡ [] → k ≢ ITEM_LIMIT
not_too_many k i e at = absurd (fails (ap (λ n. item_too_many n i) (sym at) ∙ e))
  where
    fails : item_too_many ITEM_LIMIT i ≡ [] → ⊥
    fails e = cc

-- of items of which the first stands at place k, and of which so many are looked at that one too many would be seen
pub items_within : (table : List Declared) (k m : ℕ) (items : List WrittenItem) → k ≤ ITEM_LIMIT → suc ITEM_LIMIT ≤ k + m → items_faults table k (take m items) ≡ [] → k + length items ≤ ITEM_LIMIT
items_within table k m [] small seen e = omega (small, arith)
items_within table k zero (i ∷ more) small seen e = absurd (omega (small, seen, arith))
items_within table k (suc m) (i ∷ more) small seen e =
    let here = nothing_left (item_faults table k i) (items_faults table (suc k) (take m more)) e in
    let front = nothing_left (item_too_many k i ++ second_item table k i) (form_faults table k i.form) here in
    let other = not_too_many k i (nothing_left (item_too_many k i) (second_item table k i) front) in
    let rest = items_within table (suc k) m more (omega (arith, small, other)) (omega (arith, seen)) (nothing_right (item_faults table k i) (items_faults table (suc k) (take m more)) e) in
    omega (arith, rest)

pub draft_within : (d : DraftShape) → faults d ≡ [] → length d.items ≤ ITEM_LIMIT
draft_within d none = subst (λ n. n ≤ ITEM_LIMIT) (zero-add (length d.items)) (items_within (declarations d.items) 0 (suc ITEM_LIMIT) d.items (omega arith) (omega arith) none)

-- so all of them were looked at
pub all_pass : (d : DraftShape) → faults d ≡ [] → items_faults (declarations d.items) 0 d.items ≡ []
all_pass d none = subst (λ (items : List WrittenItem). items_faults (declarations d.items) 0 items ≡ []) (take_all (suc ITEM_LIMIT) d.items (let few = draft_within d none in omega (few, arith))) none

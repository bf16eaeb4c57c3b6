-- Small facts on keys and marks.
use Rattle.std.proofs.Common.{◌≡◌, ◌≢◌, ℕ, zero, suc, ◌+◌, ◌<◌, ◌≤◌, Bool, true, false, List, [], ◌∷◌, length, get_or, drop, Some, slice_get, refl, sym, ap, ◌∙◌, subst, add-one, drop-cons}
use Rattle.std.specs.Prelude.{◌==◌, ◌||◌, replicate}
use Rattle.app_tree.specs.declared.term.Read.{Read}
use Rattle.app_tree.specs.declared.term.Term.{Term}
use Rattle.app_tree.specs.Tree.{Tree, constant, group, get, variable, isolate, stop, require, fold, unary, binary, choice, call, Trees, no_trees, tree, Shape}
use Rattle.app_tree.specs.Numbering.{readers}
use Rattle.app_tree.specs.View.{tree_of, trees_of_terms}
use Rattle.app_tree.specs.Cover.{read_eq, is_key, with_keys}
use Rattle.key_cover.specs.declared.coverage.Coverage.{Coverage}
use Rattle.key_cover.specs.Met.{met_in, met_below, met_by}
use Rattle.key_cover.specs.inner.Walked.{HasWalked}

-- what is left of a list, from a place on
left_at : (xs : List Term) (i : ℕ) (x : Term) → i < length xs → x ≡ get_or xs i x → drop i xs ≡ x ∷ drop (i + 1) xs
left_at xs i x within is = rw add-one (drop-cons xs i x within ∙ ap (λ y. y ∷ drop (suc i) xs) (sym is))

-- ---- keys

first_key : (t : Tree) (more : Trees) (r : Read) → is_key (tree t more) r ≡ (is_key (tree t no_trees) r || is_key more r)
first_key (get k) more r = by (read_eq k r) (is_key more r)
  where
    by : (a b : Bool) → (a || b) ≡ ((a || false) || b)
    by true b = refl
    by false b = refl
first_key (constant x) more r = refl
first_key (group t) more r = refl
first_key (variable n) more r = refl
first_key (isolate s t) more r = refl
first_key (stop t) more r = refl
first_key (require t c) more r = refl
first_key (fold a b c d e) more r = refl
first_key (unary op t) more r = refl
first_key (binary op a b) more r = refl
first_key (choice a b c) more r = refl
first_key (call f ts) more r = refl

-- a key is left to be looked at, which is this read or isn't
left_keys : (keys : List Term) (i : ℕ) (key : Term) (r : Read) (total b : Bool) → i < length keys → key ≡ get_or keys i key → b ≡ is_key (tree (tree_of key) no_trees) r
    → is_key (trees_of_terms (drop i keys)) r ≡ total → (b || is_key (trees_of_terms (drop (i + 1) keys)) r) ≡ total
left_keys keys i key r total b within is here whole =
    ap (λ x. x || is_key (trees_of_terms (drop (i + 1) keys)) r) here
    ∙ sym (first_key (tree_of key) (trees_of_terms (drop (i + 1) keys)) r)
    ∙ ap (λ left. is_key (trees_of_terms left) r) (sym (left_at keys i key within is))
    ∙ whole

pub keys_after : (keys : List Term) (i : ℕ) (key : Term) (r : Read) (total b : Bool) → i < length keys → key ≡ get_or keys i key → b ≡ is_key (tree (tree_of key) no_trees) r → b ≡ false
    → is_key (trees_of_terms (drop i keys)) r ≡ total → is_key (trees_of_terms (drop (i + 1) keys)) r ≡ total
keys_after keys i key r total b within is here other whole =
    sym (ap (λ x. x || is_key (trees_of_terms (drop (i + 1) keys)) r) other) ∙ left_keys keys i key r total b within is here whole

pub key_found : (keys : List Term) (i : ℕ) (key : Term) (r : Read) (total b : Bool) → i < length keys → key ≡ get_or keys i key → b ≡ is_key (tree (tree_of key) no_trees) r → b ≡ true
    → is_key (trees_of_terms (drop i keys)) r ≡ total → true ≡ total
key_found keys i key r total b within is here found whole =
    sym (ap (λ x. x || is_key (trees_of_terms (drop (i + 1) keys)) r) found) ∙ left_keys keys i key r total b within is here whole

-- ---- marks

none_marked : (n m : ℕ) → slice_get (replicate n false) m ≢ Some true
none_marked zero m h = cc
none_marked (suc n) zero h = cc
none_marked (suc n) (suc m) h = none_marked n m h

-- a walk begins without marks
pub unmarked : (app : Shape) (keys : Trees) (n : ℕ) → length (readers app) ≤ n → HasWalked app keys (replicate n false)
unmarked app keys n few = record {
  each = subst (λ k. length (readers app) ≤ k) (sym (size n)) few;
  nothing_met = λ m h. absurd (none_marked n m h);
}
  where
    size : (n : ℕ) → length (replicate n false) ≡ n
    size zero = refl
    size (suc n) = ap suc (size n)

pub none_of_some : (keys : List Term) → keys ≡ [] → false ≡ (length keys == 0) → ⊥
none_of_some keys none some = absurd (by (some ∙ ap (λ (k : List Term). length k == 0) none))
  where
    by : false ≡ true → ⊥
    by h = cc

-- a reader with keys is cached
pub cached_met : (app : Shape) (keys : List Term) (body : Tree) (met : Coverage) → keys ≢ [] → met ≡ met_in (trees_of_terms keys) (met_below app (trees_of_terms keys) (length (readers app))) body
    → met ≡ met_by app (with_keys (trees_of_terms keys) body)
cached_met app [] body met some h = absurd (some refl)
cached_met app (key ∷ more) body met some h = h

-- The first of several lists of refusals, and small facts on names.
use Rattle.std.proofs.Common.{◌≡◌, ℕ, suc, Bool, true, false, not, ◌&&◌, ◌||◌, cond, List, [], ◌∷◌, ◌++◌, map, take, Option, Some, None, refl, sym, ◌∙◌, ap}
use Rattle.std.specs.Prelude.{is_none, bytes_eq}
use Rattle.std.proofs.lemmas.List.{take-map}
use Rattle.app_tree.specs.declared.refusal.Refusal.{Refusal}
use Rattle.app_tree.specs.Resolve.{innermost_from, innermost}
use Rattle.app_tree.specs.Faults.{earlier, first_with, is_named_among, declared_name}
use Rattle.app_check.specs.declared.table.Entry.{Entry}
use Rattle.app_check.specs.inner.Tables.{declared_of}

pub first_with_append : (best : Option Refusal) (xs ys : List Refusal) → first_with best (xs ++ ys) ≡ first_with (first_with best xs) ys
first_with_append best [] ys = refl
first_with_append best (r ∷ xs) ys = first_with_append (earlier best r) xs ys

pub names_taken : (n : ℕ) (entries : List Entry) → map declared_name (map declared_of (take n entries)) ≡ map declared_name (take n (map declared_of entries))
names_taken n entries = ap (map declared_name) (sym (take-map declared_of n entries))

pub is_named_among_append : (name : List ℕ) (xs ys : List (List ℕ)) → is_named_among name (xs ++ ys) ≡ (is_named_among name xs || is_named_among name ys)
is_named_among_append name [] ys = refl
is_named_among_append name (x ∷ xs) ys = rw (is_named_among_append name xs ys) (assoc (bytes_eq name x) (is_named_among name xs) (is_named_among name ys))
  where
    assoc : (a b c : Bool) → (a || (b || c)) ≡ ((a || b) || c)
    assoc true b c = refl
    assoc false b c = refl

-- a name is no variable exactly where it is none of their names
unbound_from : (n : ℕ) (best : Option ℕ) (name : List ℕ) (scope : List (List ℕ)) → is_none (innermost_from n best name scope) ≡ (is_none best && not (is_named_among name scope))
unbound_from n best name [] = all (is_none best)
  where
    all : (b : Bool) → b ≡ (b && true)
    all true = refl
    all false = refl
unbound_from n best name (x ∷ scope) = decide (bytes_eq name x) (λ b. unbound_from (suc n) b name scope)
  where
    none : (b : Bool) → false ≡ (b && false)
    none true = refl
    none false = refl

    decide : (b : Bool) → ((c : Option ℕ) → is_none (innermost_from (suc n) c name scope) ≡ (is_none c && not (is_named_among name scope)))
        → is_none (innermost_from (suc n) (cond b (Some n) best) name scope) ≡ (is_none best && not (b || is_named_among name scope))
    decide true rest = rest (Some n) ∙ none (is_none best)
    decide false rest = rest best

pub unbound : (name : List ℕ) (scope : List (List ℕ)) → is_none (innermost name scope) ≡ not (is_named_among name scope)
unbound name scope = unbound_from 0 None name scope

pub bound_outside : (name : List ℕ) (outer : List (List ℕ)) (x y : List ℕ) (scope : List (List ℕ)) (o : Bool) → scope ≡ outer ++ x ∷ y ∷ [] → o ≡ is_named_among name outer → o ≡ true → o ≡ is_named_among name scope
bound_outside name outer x y scope o is outside holds =
    rw (is, is_named_among_append name outer (x ∷ y ∷ []), ← outside, holds) refl

pub bound_here : (name : List ℕ) (outer : List (List ℕ)) (x y : List ℕ) (scope : List (List ℕ)) (o h : Bool) → scope ≡ outer ++ x ∷ y ∷ [] → o ≡ is_named_among name outer → o ≡ false → h ≡ is_named_among name (x ∷ y ∷ []) → h ≡ is_named_among name scope
bound_here name outer x y scope o h is outside fails here =
    rw (is, is_named_among_append name outer (x ∷ y ∷ []), ← outside, fails) here

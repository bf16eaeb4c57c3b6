-- What the cache's calls do to the list of entries, and to its weight.
use Rattle.std.proofs.Common.{◌≡◌, ℕ, suc, ◌+◌, ◌-◌, ◌<◌, ◌≤◌, Bool, true, false, List, [], ◌∷◌, Option, Some, None, length, take, get_or, sum_by, refl, sym, ap, subst, ◌∙◌, option_map, MatchOption, nat_le, ◌&&◌, arith}
use Rattle.std.specs.Map.{lookup, lookup_entry, remove_entry}
use Rattle.std.specs.Option.{option_map_or}
use Rattle.std.proofs.lemmas.List.{take_all}
use Rattle.std.proofs.lemmas.List.Sums.{sum_by_more, sum_by-cons}
use Rattle.std.proofs.lemmas.Option.{get_or_from_slice_get, slice_get-get_or, slice_get_within}
use Rattle.rx_value.specs.declared.key.Key.{Key}
use Rattle.rx_value.specs.declared.outcome.Outcome.{Outcome}
use Rattle.rx_value.specs.Value.{key_eq}
use Rattle.rx_value.specs.Keys.{same_key}
use Rattle.rx_value.specs.Weight.{entry_weight}
use Rattle.lru.specs.LruCache.{LruCache, put_entries, promoted, last_entry}
use Rattle.lru.proofs.Pairs.{lookup-lookup_entry}
use Rattle.lru.proofs.CallerLemmas.{Contains-lookup_entry}
use Rattle.cache_book.specs.declared.limits.CacheLimits.{CacheLimits}
use Rattle.cache_book.specs.Machine.{total_weight, are_within, entries_after_use, without_last}

no_entry : {K V : Type 0} (o : Option (K × V)) → option_map (λ e. e.1) o ≡ None → o ≡ None
no_entry None h = refl
no_entry (Some e) h = cc

-- a new key goes in front
pub put_new : (c : LruCache Key Outcome) (k : Key) (o : Outcome) → lookup (key_eq k) c.entries ≡ None → length c.entries ≤ c.cap - 1
    → put_entries key_eq c k o ≡ (k, o) ∷ c.entries
put_new c k o none room =
    let gone : lookup_entry (key_eq k) c.entries ≡ None = no_entry _ (lookup-lookup_entry (key_eq k) c.entries ∙ none) in
    rw (gone, take_all (c.cap - 1) c.entries room) refl

-- an entry that is used stands in front
promoted_entry : (k : Key) (es : List (Key × Outcome)) (o : Option (Key × Outcome)) → lookup_entry (key_eq k) es ≡ o
    → MatchOption (option_map (λ e. e.1) o) (promoted (key_eq k) es ≡ es) (λ v. promoted (key_eq k) es ≡ entries_after_use k v es)
promoted_entry k es None h = rw h refl
promoted_entry k es (Some e) h =
    let same : k ≡ e.0 = same_key k e.0 (Contains-lookup_entry (key_eq k) es e h).1 in
    rw h (ap (λ (j : Key). (j, e.1) ∷ remove_entry (key_eq k) es) (sym same))

pub promoted_used : (k : Key) (es : List (Key × Outcome))
    → MatchOption (lookup (key_eq k) es) (promoted (key_eq k) es ≡ es) (λ v. promoted (key_eq k) es ≡ entries_after_use k v es)
promoted_used k es =
    let P : Option Outcome → Type 0 = λ v. MatchOption v (promoted (key_eq k) es ≡ es) (λ v. promoted (key_eq k) es ≡ entries_after_use k v es) in
    subst P (lookup-lookup_entry (key_eq k) es) (promoted_entry k es (lookup_entry (key_eq k) es) refl)

module _ {K V : Type 0} (f : K × V → ℕ) (test : K → Bool) where
  sum_removed : (es : List (K × V)) (e : K × V) → lookup_entry test es ≡ Some e → sum_by f (e ∷ remove_entry test es) ≡ sum_by f es
  sum_removed [] e h = cc
  sum_removed (g ∷ es) e h = (elim (test g.0) as (λ y. test g.0 ≡ y → sum_by f (e ∷ remove_entry test (g ∷ es)) ≡ sum_by f (g ∷ es)) [
    | true ↦ λ t. let h' = rw t at h in let same : g ≡ e = cc in rw t (ap (λ (x : K × V). sum_by f (x ∷ es)) (sym same))
    | false ↦ λ t. let on = sum_removed es e (rw t at h) in let a = sum_by-cons f e (remove_entry test es) in
        let b = sum_by-cons f g (remove_entry test es) in let d = sum_by-cons f e (g ∷ remove_entry test es) in let q = sum_by-cons f g es in
        rw t (omega (arith, on, a, b, d, q))
  ]) refl

  length_removed : (es : List (K × V)) (e : K × V) → lookup_entry test es ≡ Some e → length (e ∷ remove_entry test es) ≡ length es
  length_removed [] e h = cc
  length_removed (g ∷ es) e h = (elim (test g.0) as (λ y. test g.0 ≡ y → length (e ∷ remove_entry test (g ∷ es)) ≡ length (g ∷ es)) [
    | true ↦ λ t. rw t refl
    | false ↦ λ t. rw t (ap suc (length_removed es e (rw t at h)))
  ]) refl

  length_promoted_at : (es : List (K × V)) (o : Option (K × V)) → lookup_entry test es ≡ o
      → length (option_map_or (λ e. e ∷ remove_entry test es) o es) ≡ length es
  length_promoted_at es None h = refl
  length_promoted_at es (Some e) h = length_removed es e h

  pub length_promoted : (es : List (K × V)) → length (promoted test es) ≡ length es
  length_promoted es = length_promoted_at es (lookup_entry test es) refl

  sum_promoted_at : (es : List (K × V)) (o : Option (K × V)) → lookup_entry test es ≡ o
      → sum_by f (option_map_or (λ e. e ∷ remove_entry test es) o es) ≡ sum_by f es
  sum_promoted_at es None h = refl
  sum_promoted_at es (Some e) h = sum_removed es e h

  pub sum_promoted : (es : List (K × V)) → sum_by f (promoted test es) ≡ sum_by f es
  sum_promoted es = sum_promoted_at es (lookup_entry test es) refl

-- a use leaves the weight
pub weight_promoted : (test : Key → Bool) (es : List (Key × Outcome)) → total_weight (promoted test es) ≡ total_weight es
weight_promoted test es = sum_promoted (λ (e : Key × Outcome). entry_weight e.0 e.1) test es

pub weight_put : (k : Key) (o : Outcome) (es : List (Key × Outcome)) → total_weight ((k, o) ∷ es) ≡ entry_weight k o + total_weight es
weight_put k o es = sum_by-cons (λ (e : Key × Outcome). entry_weight e.0 e.1) (k, o) es

-- the last entry's weight is what its going takes off
pub weight_last : (es : List (Key × Outcome)) (e : Key × Outcome) → last_entry es ≡ Some e
    → total_weight es ≡ total_weight (without_last 1 es) + entry_weight e.0 e.1
weight_last es e h =
    let below : length es - 1 < length es = slice_get_within es (length es - 1) e h in
    let n : length es - 1 + 1 ≡ length es = omega arith in
    let all : take (length es - 1 + 1) es ≡ es = take_all (length es - 1 + 1) es (omega arith) in
    let last : get_or es (length es - 1) e ≡ e = get_or_from_slice_get es (length es - 1) e e h in
    let more = sum_by_more (λ (f : Key × Outcome). entry_weight f.0 f.1) es (length es - 1) e below in
    sym (ap total_weight all) ∙ more ∙ ap (λ (f : Key × Outcome). total_weight (without_last 1 es) + entry_weight f.0 f.1) last

-- a list that isn't empty has a last entry
pub last_there : (es : List (Key × Outcome)) → 0 < length es → last_entry es ≡ None → ⊥
last_there [] h n = omega arith
last_there (e ∷ es) h n =
    let is = slice_get-get_or (e ∷ es) (length (e ∷ es) - 1) e (omega arith) in cc

-- after a use as many entries are kept, of the same weight
pub are_within-entries_after_use : (limits : CacheLimits) (k : Key) (es : List (Key × Outcome)) (o : Outcome) → lookup (key_eq k) es ≡ Some o
    → are_within limits (entries_after_use k o es) ≡ are_within limits es
are_within-entries_after_use limits k es o h =
    let P : Option Outcome → Type 0 = λ v. MatchOption v (promoted (key_eq k) es ≡ es) (λ v. promoted (key_eq k) es ≡ entries_after_use k v es) in
    let is : promoted (key_eq k) es ≡ entries_after_use k o es = subst P h (promoted_used k es) in
    let n : length (entries_after_use k o es) ≡ length es = sym (ap length is) ∙ length_promoted {V = Outcome} (λ _. 0) (key_eq k) es in
    let w : total_weight (entries_after_use k o es) ≡ total_weight es = sym (ap total_weight is) ∙ weight_promoted (key_eq k) es in
    λ i. nat_le (n i) limits.entries && nat_le (w i) limits.bytes

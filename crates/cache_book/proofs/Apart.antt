-- No key that is in flight is kept, whatever call is answered.
use Rattle.std.proofs.Common.{◌≡◌, ℕ, zero, suc, ◌-◌, Bool, true, false, cond, ◌⊎◌, inl, inr, List, [], ◌∷◌, ◌++◌, Some, None, length, take, refl, sym, subst, ◌∙◌, true≢false}
use Rattle.std.specs.Map.{lookup, remove_entry}
use Rattle.rx_value.specs.declared.key.Key.{Key}
use Rattle.rx_value.specs.declared.outcome.Outcome.{Outcome}
use Rattle.rx_value.specs.Value.{key_eq}
use Rattle.rx_value.specs.Keys.{same_key, key_eq-itself}
use Rattle.cache_book.specs.Machine.{entries_after_use, without_last}
use Rattle.cache_book.specs.Answers.{AreApart}

module _ {K V : Type 0} (test : K → Bool) where
  pub absent_removed : (other : K → Bool) (es : List (K × V)) → lookup test es ≡ None → lookup test (remove_entry other es) ≡ None
  absent_removed other [] h = refl
  absent_removed other (e ∷ es) h = (elim (test e.0) as (λ y. test e.0 ≡ y → lookup test (remove_entry other (e ∷ es)) ≡ None) [
    | true ↦ λ t. let h' = rw t at h in cc
    | false ↦ λ t. let rest = rw t at h in (elim (other e.0) as (λ y. other e.0 ≡ y → lookup test (remove_entry other (e ∷ es)) ≡ None) [
      | true ↦ λ u. rw u rest
      | false ↦ λ u. rw (u, t) (absent_removed other es rest)
    ]) refl
  ]) refl

  pub absent_taken : (n : ℕ) (es : List (K × V)) → lookup test es ≡ None → lookup test (take n es) ≡ None
  absent_taken zero es h = refl
  absent_taken (suc n) [] h = refl
  absent_taken (suc n) (e ∷ es) h = (elim (test e.0) as (λ y. test e.0 ≡ y → lookup test (take (suc n) (e ∷ es)) ≡ None) [
    | true ↦ λ t. let h' = rw t at h in cc
    | false ↦ λ t. rw t (absent_taken n es (rw t at h))
  ]) refl

  pub in_appended : (es : List (K × V)) (k : K) (v w : V) → lookup test (es ++ (k, v) ∷ []) ≡ Some w → (lookup test es ≡ Some w) ⊎ (test k ≡ true)
  in_appended [] k v w h = (elim (test k) as (λ y. test k ≡ y → (lookup test [] ≡ Some w) ⊎ (test k ≡ true)) [
    | true ↦ λ t. inr t
    | false ↦ λ t. let h' = rw t at h in cc
  ]) refl
  in_appended (e ∷ es) k v w h = (elim (test e.0) as (λ y. test e.0 ≡ y → (lookup test (e ∷ es) ≡ Some w) ⊎ (test k ≡ true)) [
    | true ↦ λ t. inl (rw t (rw t at h))
    | false ↦ λ t. rw t (in_appended es k v w (rw t at h))
  ]) refl

pub apart_used : (fl : List (Key × ℕ)) (es : List (Key × Outcome)) (k : Key) (o : Outcome) → lookup (key_eq k) es ≡ Some o → AreApart fl es → AreApart fl (entries_after_use k o es)
apart_used fl es k o h a = record {
  apart = λ q p flies. (elim (key_eq q k) as (λ y. key_eq q k ≡ y → lookup (key_eq q) (entries_after_use k o es) ≡ None) [
    | true ↦ λ t. let none : lookup (key_eq k) es ≡ None = subst (λ (j : Key). lookup (key_eq j) es ≡ None) (same_key q k t) (a.apart q p flies) in cc
    | false ↦ λ t. rw t (absent_removed (key_eq q) (key_eq k) es (a.apart q p flies))
  ]) refl;
}

pub apart_taken_off : (fl : List (Key × ℕ)) (es : List (Key × Outcome)) (k : Key) (p : ℕ) → lookup (key_eq k) es ≡ None → AreApart fl es → AreApart (fl ++ (k, p) ∷ []) es
apart_taken_off fl es k p none a = record {
  apart = λ q r flies. elim (in_appended (key_eq q) fl k p r flies) [
    | inl h ↦ a.apart q r h
    | inr t ↦ subst (λ (j : Key). lookup (key_eq j) es ≡ None) (sym (same_key q k t)) none
  ];
}

-- gone has what fl has but at k
abbrev pub HasLanded : Key → List (Key × ℕ) → List (Key × ℕ) → Type 0
HasLanded k fl gone = (q : Key) → lookup (key_eq q) gone ≡ cond (key_eq k q) None (lookup (key_eq q) fl)

still : (k : Key) (fl gone : List (Key × ℕ)) → HasLanded k fl gone → (q : Key) (p : ℕ) → lookup (key_eq q) gone ≡ Some p → (lookup (key_eq q) fl ≡ Some p) × (key_eq k q ≡ false)
still k fl gone u q p h = (elim (key_eq k q) as (λ y. key_eq k q ≡ y → (lookup (key_eq q) fl ≡ Some p) × (key_eq k q ≡ false)) [
  | true ↦ λ t. let e = rw t at (u q) in cc
  | false ↦ λ t. let e = rw t at (u q) in (sym e ∙ h, t)
]) refl

pub apart_landed : (fl gone : List (Key × ℕ)) (es : List (Key × Outcome)) (k : Key) → HasLanded k fl gone → AreApart fl es → AreApart gone es
apart_landed fl gone es k u a = record { apart = λ q p h. a.apart q p (still k fl gone u q p h).0 }

other_way : (q k : Key) → key_eq k q ≡ false → key_eq q k ≡ false
other_way q k h = (elim (key_eq q k) as (λ y. key_eq q k ≡ y → key_eq q k ≡ false) [
  | true ↦ λ t. let same : key_eq k q ≡ true = subst (λ (j : Key). key_eq k j ≡ true) (sym (same_key q k t)) (key_eq-itself k) in absurd (true≢false (sym same ∙ h))
  | false ↦ λ t. t
]) refl

pub apart_stored : (fl gone : List (Key × ℕ)) (es : List (Key × Outcome)) (k : Key) (o : Outcome) (d : ℕ) → HasLanded k fl gone → AreApart fl es
    → AreApart gone ((k, o) ∷ without_last d es)
apart_stored fl gone es k o d u a = record {
  apart = λ q p h.
      let s = still k fl gone u q p h in
      rw (other_way q k s.1) (absent_taken (key_eq q) (length es - d) es (a.apart q p s.0));
}

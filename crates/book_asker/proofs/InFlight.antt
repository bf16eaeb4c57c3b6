-- The Leaves that are out, as the keys in flight change.
use Rattle.std.proofs.Common.{◌≡◌, ℕ, true, false, cond, List, [], ◌∷◌, ◌++◌, Some, None, refl, ap, map}
use Rattle.std.specs.Map.{lookup, remove_entry}
use Rattle.rx_value.specs.declared.key.Key.{Key}
use Rattle.rx_value.specs.Value.{key_eq}
use Rattle.rx_value.specs.Keys.{key_eq-itself}
use Rattle.term_eval.specs.Lent.{number_out, without}
use Rattle.book_asker.specs.Leaves.{lent_of}

pub number_out-leaves : (k : Key) (fl : List (Key × ℕ)) → number_out k (map lent_of fl) ≡ lookup (key_eq k) fl
number_out-leaves k [] = refl
number_out-leaves k (e ∷ fl) = ap (λ rest. cond (key_eq k e.0) (Some e.1) rest) (number_out-leaves k fl)

pub without-leaves : (k : Key) (fl : List (Key × ℕ)) → without k (map lent_of fl) ≡ map lent_of (remove_entry (key_eq k) fl)
without-leaves k [] = refl
without-leaves k (e ∷ fl) = (elim (key_eq k e.0) as (λ y. cond y (map lent_of fl) (lent_of e ∷ without k (map lent_of fl)) ≡ map lent_of (cond y fl (e ∷ remove_entry (key_eq k) fl))) [
  | true ↦ refl
  | false ↦ ap (λ rest. lent_of e ∷ rest) (without-leaves k fl)
])

pub leaves-append : (fl : List (Key × ℕ)) (e : Key × ℕ) → map lent_of (fl ++ e ∷ []) ≡ map lent_of fl ++ lent_of e ∷ []
leaves-append [] e = refl
leaves-append (x ∷ fl) e = ap (λ rest. lent_of x ∷ rest) (leaves-append fl e)

pub found_appended : (k : Key) (p : ℕ) (fl : List (Key × ℕ)) → lookup (key_eq k) fl ≡ None → lookup (key_eq k) (fl ++ (k, p) ∷ []) ≡ Some p
found_appended k p [] none = rw (key_eq-itself k) refl
found_appended k p (e ∷ fl) none = (elim (key_eq k e.0) as (λ y. key_eq k e.0 ≡ y → lookup (key_eq k) (e ∷ fl ++ (k, p) ∷ []) ≡ Some p) [
  | true ↦ λ t. let none' = rw t at none in cc
  | false ↦ λ t. rw t (found_appended k p fl (rw t at none))
]) refl

pub removed_appended : (k : Key) (p : ℕ) (fl : List (Key × ℕ)) → lookup (key_eq k) fl ≡ None → remove_entry (key_eq k) (fl ++ (k, p) ∷ []) ≡ fl
removed_appended k p [] none = rw (key_eq-itself k) refl
removed_appended k p (e ∷ fl) none = (elim (key_eq k e.0) as (λ y. key_eq k e.0 ≡ y → remove_entry (key_eq k) (e ∷ fl ++ (k, p) ∷ []) ≡ e ∷ fl) [
  | true ↦ λ t. let none' = rw t at none in cc
  | false ↦ λ t. rw t (ap (λ rest. e ∷ rest) (removed_appended k p fl (rw t at none)))
]) refl

pub none_in_flight : (fl : List (Key × ℕ)) → map lent_of fl ≡ [] → fl ≡ []
none_in_flight [] none = refl
none_in_flight (e ∷ fl) none = cc

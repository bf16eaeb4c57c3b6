-- Lists of reader numbers: no number twice, each below a bound.
use Rattle.std.proofs.Common.{◌≡◌, ◌≢◌, inl, inr, ◌<◌, ◌≤◌, ℕ, zero, suc, Bool, true, false, List, [], ◌∷◌, ◌++◌, length, refl, sym, ap, ◌∙◌, subst, arith}
use Rattle.std.specs.Prelude.{◌||◌, nat_eq, replicate}
use Rattle.std.specs.List.{IsDistinct, list_any}
use Rattle.std.proofs.lemmas.Bool.{false≢true}
use Rattle.std.proofs.lemmas.Bool.Decides.{eqb_tells}
use Rattle.std.proofs.lemmas.Map.Steps.{length-le_from_distinct_below}
use Rattle.app_tree.specs.Trace.{Every}

-- ---- two answers

pub never : (b : Bool) → (b ≡ true → ⊥) → b ≡ false
never true h = absurd (h refl)
never false h = refl

-- ---- no number twice

pub distinct_none : IsDistinct nat_eq []
unfolding IsDistinct
distinct_none = tt

pub distinct_one : (n : ℕ) → IsDistinct nat_eq (n ∷ [])
unfolding IsDistinct
distinct_one n = (tt, tt)

eq_apart : (m n : ℕ) → m ≢ n → nat_eq m n ≡ false
eq_apart m n h = elim (eqb_tells m n) [ inl p ↦ absurd (h p.1) | inr p ↦ p.0 ]

eq_self : (n : ℕ) → nat_eq n n ≡ true
eq_self n = elim (eqb_tells n n) [ inl p ↦ p.0 | inr p ↦ absurd (p.1 refl) ]

-- of two lists, where what holds of each member of the one parts it from those of the other
module _ (P Q : ℕ → Type 0) (apart : (x y : ℕ) → P x → Q y → x ≢ y) where
  first_apart : (x : ℕ) (xs ys : List ℕ) → P x → IsDistinct nat_eq (x ∷ xs) → Every Q ys → IsDistinct nat_eq (xs ++ ys) → IsDistinct nat_eq (x ∷ (xs ++ ys))
  unfolding IsDistinct
  first_apart x [] ys p d q rest = (none ys q, rest)
    where
      none : (zs : List ℕ) → Every Q zs → Every (λ y. nat_eq x y ≡ false) zs
      none [] q = tt
      none (z ∷ zs) q = (eq_apart x z (apart x z p q.0), none zs q.1)
  first_apart x (y ∷ xs) ys p d q rest = ((d.0.0, (first_apart x xs ys p (d.0.1, d.1.1) q rest.1).0), rest)

  pub distinct_join : (xs ys : List ℕ) → IsDistinct nat_eq xs → IsDistinct nat_eq ys → Every P xs → Every Q ys → IsDistinct nat_eq (xs ++ ys)
  unfolding IsDistinct
  distinct_join [] ys d e p q = e
  distinct_join (x ∷ xs) ys d e p q = first_apart x xs ys p.0 d q (distinct_join xs ys d.1 e p.1 q)

-- what holds of each member
pub member_has : (P : ℕ → Type 0) (xs : List ℕ) (n : ℕ) → list_any (nat_eq n) xs ≡ true → Every P xs → P n
member_has P [] n h p = absurd (false≢true h)
member_has P (x ∷ xs) n h p = elim (eqb_tells n x) [
  | inl q ↦ subst P (sym q.1) p.0
  | inr q ↦ member_has P xs n (sym (ap (λ b. b || list_any (nat_eq n) xs) q.0) ∙ h) p.1
]

pub no_more : (xs : List ℕ) (n : ℕ) → IsDistinct nat_eq xs → Every (λ x. x < n) xs → length xs ≤ n
no_more xs n d h = length-le_from_distinct_below xs n d (λ q m. member_has (λ x. x < n) xs q m h)

-- a number that stands once or not at all
pub at_most_once : (P : List ℕ → Type 0) (n c : ℕ) → c ≤ 1 → P [] → P (n ∷ []) → P (replicate c n)
at_most_once P n zero h none one = none
at_most_once P n (suc zero) h none one = one
at_most_once P n (suc (suc c)) h none one = absurd (omega (h, arith))

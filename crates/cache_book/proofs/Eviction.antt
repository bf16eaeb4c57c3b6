-- Entries go from the back until the rest fit.
use Rattle.std.proofs.Common.{◌≡◌, ℕ, zero, suc, ◌-◌, ◌<◌, ◌≤◌, Bool, true, false, List, ◌∷◌, length, refl, sym, ap, subst, ◌∙◌, arith}
use Rattle.rx_value.specs.declared.key.Key.{Key}
use Rattle.rx_value.specs.declared.outcome.Outcome.{Outcome}
use Rattle.cache_book.specs.declared.limits.CacheLimits.{CacheLimits}
use Rattle.cache_book.specs.declared.answer.Filled.TheVariants.{Stored}
use Rattle.cache_book.specs.Machine.{are_within, without_last, least, evicted_count}
use Rattle.cache_book.specs.Answers.{IsLeastFit, Stores}

-- after d entries went from the back of es
pub record IsOnTheWay (limits : CacheLimits) (es : List (Key × Outcome)) (d : ℕ) (now : List (Key × Outcome)) : Type 0 where
  pub below : d < length es
  pub rest : now ≡ without_last d es
  pub tight : (i : ℕ) → i < d → are_within limits (without_last i es) ≡ false

-- the first number that passes is the least
pub least_is : (test : ℕ → Bool) (n d : ℕ) → d ≤ n → ((i : ℕ) → i < d → test i ≡ false) → test d ≡ true → least test n ≡ d
least_is test zero d le low at = omega arith
least_is test (suc n) zero le low at = rw at refl
least_is test (suc n) (suc d) le low at =
    rw (low 0 (omega arith)) (ap suc (least_is (λ i. test (suc i)) n d (omega arith) (λ i h. low (suc i) (omega arith)) at))

pub without_last-cons : (e : Key × Outcome) (es : List (Key × Outcome)) (d : ℕ) → d ≤ length es → without_last d (e ∷ es) ≡ e ∷ without_last d es
without_last-cons e es d le = let n : length (e ∷ es) - d ≡ suc (length es - d) = omega arith in rw n refl

pub evicted_count-is : (limits : CacheLimits) (e : Key × Outcome) (es : List (Key × Outcome)) (d : ℕ) → IsLeastFit limits (e ∷ es) d → evicted_count limits e es ≡ d
evicted_count-is limits e es d l =
    let le : d ≤ length es = omega (arith, l.below) in
    least_is (λ i. are_within limits (e ∷ without_last i es)) (length es) d le
    (λ i h. ap (are_within limits) (sym (without_last-cons e es i (omega arith))) ∙ l.tight i h)
    (ap (are_within limits) (sym (without_last-cons e es d le)) ∙ l.fit)

-- what is kept after a put and an eviction
pub stores : (limits : CacheLimits) (e : Key × Outcome) (es : List (Key × Outcome)) (d : ℕ) (all after : List (Key × Outcome))
    → all ≡ e ∷ es → IsLeastFit limits all d → after ≡ without_last d all → Stores limits e es (Stored d) after
stores limits e es d all after is least gone =
    let l : IsLeastFit limits (e ∷ es) d = subst (λ (m : List (Key × Outcome)). IsLeastFit limits m d) is least in
    let rest : after ≡ without_last d (e ∷ es) = gone ∙ ap (without_last d) is in
    let le : d ≤ length es = omega (arith, l.below) in
    (sym (evicted_count-is limits e es d l), rest ∙ without_last-cons e es d le, ap (are_within limits) rest ∙ l.fit)

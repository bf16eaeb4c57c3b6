-- A loop that reads goes through `while_next`.
use Rattle.std.proofs.Common.{◌≡◌, ℕ, zero, suc, ◌<◌, Bool, true, false, length, Result, Ok, refl, sym, ap, subst, ◌∙◌, arith}
use Rattle.app_tokens.specs.Tokens.{Tokens}
use Rattle.app_reader.specs.declared.error.ReadError.{ReadError}
use Rattle.app_reader.specs.declared.error.ReadError.TheVariants as error
use Rattle.rx_value.specs.Results.{◌>>=◌, choose, RefusesOrMemory}
use Rattle.app_reader.specs.State.{turns_of, while_next, refusal}
use Rattle.app_reader.specs.inner.Loop.{Leads}

turn : {B : Type 0} (n : ℕ) (test : B → Bool) (step : B → Result B ReadError) (b : B) → test b ≡ true → turns_of (suc n) test step b ≡ (step b >>= λ d. turns_of n test step d)
unfolding turns_of
turn n test step b e = ap (λ t. choose t (λ c. step c >>= λ d. turns_of n test step d) (λ c. Ok c) b) e

refuses_on : {A B : Type 0} (r : Result A ReadError) (f : A → Result B ReadError) (e : ReadError) → RefusesOrMemory refusal e r → RefusesOrMemory refusal e (r >>= f)
refuses_on r f error.Memory h = tt
refuses_on r f (error.Unexpected p) h = ap (λ r. r >>= f) h
refuses_on r f (error.TooDeep p) h = ap (λ r. r >>= f) h

-- the loop as it begins
pub begins : {B : Type 0} (left : B → Tokens) (test : B → Bool) (step : B → Result B ReadError) (b : B) → Leads left test step b (while_next left test step b)
begins left test step b = record { turns = suc (length (left b).tokens); enough = omega arith; gives = refl }

-- a step that takes a token, where the code's test holds
pub goes_on : {B : Type 0} {left : B → Tokens} {test : B → Bool} {step : B → Result B ReadError} {b c : B} {total : Result B ReadError} (tested : Bool)
    → Leads left test step b total → tested ≡ test b → tested ≡ true → step b ≡ Ok c → length (left c).tokens < length (left b).tokens → Leads left test step c total
goes_on {left = left} {test = test} {step = step} {b = b} {c = c} {total = total} tested h is holds steps shorter = more h.turns h.enough h.gives
  where
    more : (n : ℕ) → length (left b).tokens < n → turns_of n test step b ≡ total → Leads left test step c total
    more zero enough gives = absurd (omega arith)
    more (suc n) enough gives = record { turns = n; enough = omega arith; gives = sym (turn n test step b (sym is ∙ holds) ∙ ap (λ r. r >>= λ d. turns_of n test step d) steps) ∙ gives }

-- a step that fails
pub fails_in : {B : Type 0} {left : B → Tokens} {test : B → Bool} {step : B → Result B ReadError} {b : B} {total : Result B ReadError} (e : ReadError) (tested : Bool)
    → Leads left test step b total → tested ≡ test b → tested ≡ true → RefusesOrMemory refusal e (step b) → RefusesOrMemory refusal e total
fails_in {left = left} {test = test} {step = step} {b = b} {total = total} e tested h is holds fails = more h.turns h.enough h.gives
  where
    more : (n : ℕ) → length (left b).tokens < n → turns_of n test step b ≡ total → RefusesOrMemory refusal e total
    more zero enough gives = absurd (omega arith)
    more (suc n) enough gives = subst (λ r. RefusesOrMemory refusal e r) (sym (turn n test step b (sym is ∙ holds)) ∙ gives) (refuses_on (step b) (λ d. turns_of n test step d) e fails)

-- the loop as it ends
pub ends_at : {B : Type 0} {left : B → Tokens} {test : B → Bool} {step : B → Result B ReadError} {b : B} {total : Result B ReadError} (tested : Bool)
    → Leads left test step b total → tested ≡ test b → tested ≡ false → total ≡ Ok b
unfolding turns_of
ends_at {left = left} {test = test} {step = step} {b = b} {total = total} tested h is holds = more h.turns h.gives
  where
    more : (n : ℕ) → turns_of n test step b ≡ total → total ≡ Ok b
    more zero gives = sym gives
    more (suc n) gives = sym gives ∙ ap (λ t. choose t (λ c. step c >>= λ d. turns_of n test step d) (λ c. Ok c) b) (sym is ∙ holds)

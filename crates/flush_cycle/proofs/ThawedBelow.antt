-- The frozen inputs thaw, one source after another.
use Rattle.std.proofs.Common.{◌≡◌, ◌≢◌, ℕ, zero, suc, ◌+◌, Bool, true, false, cond, List, [], ◌∷◌, length, Some, slice_get, unwrap_or, refl, sym, ap, ◌∙◌, arith}
use Rattle.rx_value.specs.Value.{source_eq}
use Rattle.rx_value.proofs.SameSources.{source_eq-itself}
use Rattle.rx_value.specs.declared.value.Value.{Value}
use Rattle.rx_value.specs.declared.value.Value.TheVariants.{Null}
use Rattle.rx_value.specs.declared.source.SourceValue.{SourceValue}
use Rattle.rx_value.specs.declared.source.SourceValue.TheVariants.{Plain, Frozen, Task}
use Rattle.app_tree.specs.Tree.{Shape}
use Rattle.app_tree.specs.Current.{value_at}
use Rattle.session_laws.proofs.States.{set_there}
use Rattle.session_model.specs.State.{SessionState}
use Rattle.session_model.specs.Change.{change, with_source_value, thawed_value, thaw_from, thaw}
use Rattle.session_model.specs.Standing.{KeptFlush, StandsWholly}
use Rattle.flush_cycle.specs.inner.Applying.{thawed_at}

-- each source below a number thaws, in rising number
abbrev pub thawed_below : ℕ → SessionState → SessionState
thawed_below zero state = state
thawed_below (suc n) state = thawed_at n (thawed_below n state)

-- a change leaves every other source
change_apart : (b : Bool) (s m : ℕ) (x : SourceValue) (state : SessionState) → m ≢ s
    → value_at (cond b state (with_source_value s x state)).values m ≡ value_at state.values m
change_apart true s m x state apart = refl
change_apart false s m x state apart = ap (λ o. unwrap_or o (Plain Null)) (set_there state.values s m x apart)

-- a source that is set to the value that it has stays as it is
change_same : (state : SessionState) (s : ℕ) (x : SourceValue) → value_at state.values s ≡ x → change s x state ≡ state
change_same state s x is = ap (λ b. cond b state (with_source_value s x state)) (ap (λ v. source_eq v x) is ∙ source_eq-itself x)

abbrev IsIn : SessionState → ℕ → List SourceValue → Type 0
IsIn state s xs = (j : ℕ) (x : SourceValue) → slice_get xs j ≡ Some x → value_at state.values (s + j) ≡ x

thaw_behind : (xs : List SourceValue) (s : ℕ) (state : SessionState) → IsIn (thawed_below s state) s xs
    → thaw_from s xs (thawed_below s state) ≡ thawed_below (s + length xs) state
thaw_behind [] s state are = let here : s ≡ s + 0 = omega arith in ap (λ n. thawed_below n state) here
thaw_behind (x ∷ xs) s state are =
    let at : value_at (thawed_below s state).values s ≡ x = ap (value_at (thawed_below s state).values) (let e : s ≡ s + 0 = omega arith in e) ∙ are 0 x refl in
    let step : change s (thawed_value x) (thawed_below s state) ≡ thawed_below (suc s) state = ap (λ v. change s (thawed_value v) (thawed_below s state)) (sym at) in
    let further : IsIn (thawed_below (suc s) state) (suc s) xs = λ j y is.
    change_apart (source_eq (value_at (thawed_below s state).values s) (thawed_value (value_at (thawed_below s state).values s))) s (suc s + j)
    (thawed_value (value_at (thawed_below s state).values s)) (thawed_below s state) (λ e. absurd (omega (e, arith)))
    ∙ ap (value_at (thawed_below s state).values) (let e : suc s + j ≡ s + suc j = omega arith in e)
    ∙ are (suc j) y is in
    let count : suc s + length xs ≡ s + suc (length xs) = omega arith in
    ap (thaw_from (suc s) xs) step
    ∙ thaw_behind xs (suc s) state further
    ∙ ap (λ n. thawed_below n state) count

pub thaw_is : (state : SessionState) (count : ℕ) → count ≡ length state.values → thawed_below count state ≡ thaw state
thaw_is state count whole =
    ap (λ n. thawed_below n state) (whole ∙ (let e : length state.values ≡ 0 + length state.values = omega arith in e))
    ∙ sym (thaw_behind state.values 0 state (λ j x is. ap (value_at state.values) (let e : 0 + j ≡ j = omega arith in e) ∙ ap (λ o. unwrap_or o (Plain Null)) is))

-- ---- one source

pub not_frozen : (x : SourceValue) → ((v : Value) → x ≢ Frozen v) → thawed_value x ≡ x
not_frozen (Plain v) other = refl
not_frozen (Frozen v) other = absurd (other v refl)
not_frozen (Task seen) other = refl

-- a source that isn't frozen stays
pub thaws_nothing : (app : Shape) (kept : KeptFlush) (state : SessionState) → StandsWholly app kept state → (s : ℕ) (x : SourceValue)
    → slice_get kept.session.values s ≡ Some x → thawed_value x ≡ x → state ≡ thawed_at s state
thaws_nothing app kept state stands s x has thawed =
    let at : value_at state.values s ≡ x = ap (λ vs. value_at vs s) (sym stands.session.values) ∙ ap (λ o. unwrap_or o (Plain Null)) has in
    sym (change_same state s (thawed_value (value_at state.values s)) (at ∙ sym thawed ∙ ap thawed_value (sym at)))

-- and a frozen one is set to what it held
pub thaws_frozen : (app : Shape) (kept : KeptFlush) (state : SessionState) → StandsWholly app kept state → (s : ℕ) (x : Value)
    → slice_get kept.session.values s ≡ Some (Frozen x) → change s (Plain x) state ≡ thawed_at s state
thaws_frozen app kept state stands s x has =
    let at : value_at state.values s ≡ Frozen x = ap (λ vs. value_at vs s) (sym stands.session.values) ∙ ap (λ o. unwrap_or o (Plain Null)) has in
    ap (λ v. change s (thawed_value v) state) (sym at)

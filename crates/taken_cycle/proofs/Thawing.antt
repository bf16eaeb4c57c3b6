-- Nothing is frozen, and nothing freezes.
use Rattle.std.proofs.Common.{◌≡◌, ℕ, zero, suc, ◌+◌, Bool, true, false, List, [], ◌∷◌, ◌++◌, map, filter, Some, refl, sym, ap, subst, ◌∙◌, arith}
use Rattle.std.specs.Prelude.{cond, slice_get, slice_set, unwrap_or}
use Rattle.rx_value.specs.Value.{source_eq}
use Rattle.rx_value.proofs.SameSources.{source_eq-itself}
use Rattle.rx_value.specs.declared.value.Value.{Value}
use Rattle.rx_value.specs.declared.value.Value.TheVariants.{Null}
use Rattle.rx_value.specs.declared.source.SourceValue.{SourceValue}
use Rattle.rx_value.specs.declared.source.SourceValue.TheVariants.{Plain}
use Rattle.app_tree.specs.Tree.{Node, input, value, task, reactive, event, text, plot, observe, on}
use Rattle.app_tree.specs.Numbering.{is_output, declared_value, declared_sources, unknown_sizes, starting_values}
use Rattle.app_tree.specs.Current.{value_at}
use Rattle.session_model.specs.State.{SessionState}
use Rattle.session_model.specs.Change.{change, with_source_value, thawed_value, thaw_from, thaw}
use Rattle.session_model.specs.declared.state.ReaderState.{ReaderState}
use Rattle.taken_cycle.specs.State.{state_of, IsThawed, AreThawed}

-- ---- no source thaws

-- a source that is set to the value that it has stays as it is
change_same : (state : SessionState) (s : ℕ) (x : SourceValue) → value_at state.values s ≡ x → change s x state ≡ state
change_same state s x h = ap (λ b. cond b state (with_source_value s x state)) (ap (λ v. source_eq v x) h ∙ source_eq-itself x)

abbrev IsIn : SessionState → ℕ → List SourceValue → Type 0
IsIn state s xs = (j : ℕ) (x : SourceValue) → slice_get xs j ≡ Some x → value_at state.values (s + j) ≡ x

thaw_nothing : (xs : List SourceValue) (s : ℕ) (state : SessionState) → AreThawed xs → IsIn state s xs → thaw_from s xs state ≡ state
thaw_nothing [] s state h at = refl
thaw_nothing (x ∷ xs) s state h at =
    let here : value_at state.values s ≡ thawed_value x = ap (value_at state.values) (let e : s ≡ s + 0 = omega arith in e) ∙ at 0 x refl ∙ sym h.0 in
    ap (thaw_from (suc s) xs) (change_same state s (thawed_value x) here)
    ∙ thaw_nothing xs (suc s) state h.1 (λ j y p. ap (value_at state.values) (let e : suc s + j ≡ s + suc j = omega arith in e) ∙ at (suc j) y p)

pub thaw_same : (state : SessionState) → AreThawed state.values → thaw state ≡ state
thaw_same state h = thaw_nothing state.values 0 state h (λ j x p. ap (value_at state.values) (let e : 0 + j ≡ j = omega arith in e) ∙ ap (λ o. unwrap_or o (Plain Null)) p)

-- ---- what keeps it so

every_set : (xs : List SourceValue) (s : ℕ) (x : SourceValue) → AreThawed xs → IsThawed x → AreThawed (slice_set xs s x)
every_set [] s x h p = h
every_set (y ∷ xs) zero x h p = (p, h.1)
every_set (y ∷ xs) (suc s) x h p = (h.0, every_set xs s x h.1 p)

change_thawed : (b : Bool) (s : ℕ) (x : SourceValue) (state : SessionState) → AreThawed state.values → IsThawed x → AreThawed (cond b state (with_source_value s x state)).values
change_thawed true s x state h p = h
change_thawed false s x state h p = every_set state.values s x h p

-- a source is set to a value
pub set_thawed : (s : ℕ) (x : Value) (values values' : List SourceValue) (readers readers' : List ReaderState) → AreThawed values
    → state_of values' readers' ≡ change s (Plain x) (state_of values readers) → AreThawed values'
set_thawed s x values values' readers readers' h e =
    subst AreThawed (sym (ap (λ (state : SessionState). state.values) e)) (change_thawed (source_eq (value_at values s) (Plain x)) s (Plain x) (state_of values readers) h refl)

-- ---- a session starts so

both_thawed : (xs ys : List SourceValue) → AreThawed xs → AreThawed ys → AreThawed (xs ++ ys)
both_thawed [] ys h k = k
both_thawed (x ∷ xs) ys h k = (h.0, both_thawed xs ys h.1 k)

declared_thawed : (i : Node) → IsThawed (declared_value i)
declared_thawed (input name start) = refl
declared_thawed (text name shown) = refl
declared_thawed (value name start) = refl
declared_thawed (task name parameters body) = refl
declared_thawed (reactive name keys body) = refl
declared_thawed (event name flags e body) = refl
declared_thawed (plot name shown) = refl
declared_thawed (observe name priority block) = refl
declared_thawed (on name priority flags e block) = refl

all_declared : (items : List Node) → AreThawed (map declared_value items)
all_declared [] = tt
all_declared (i ∷ items) = (declared_thawed i, all_declared items)

all_plain : (items : List Node) → AreThawed (map (λ (i : Node). Plain Null) items)
all_plain [] = tt
all_plain (i ∷ items) = (refl, all_plain items)

pub starting_thawed : (items : List Node) → AreThawed (starting_values items)
starting_thawed items =
    both_thawed (map declared_value (declared_sources items) ++ unknown_sizes items) (unknown_sizes items)
    (both_thawed (map declared_value (declared_sources items)) (unknown_sizes items) (all_declared (declared_sources items)) (all_plain (filter is_output items)))
    (all_plain (filter is_output items))

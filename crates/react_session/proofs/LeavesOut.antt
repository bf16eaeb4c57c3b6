-- The Leaves that are out while a reader is made alive.
use Rattle.std.proofs.Common.{◌≡◌, ◌≤◌, ℕ, suc, Bool, true, false, List, [], ◌∷◌, ◌++◌, Some, None, refl, sym, ap, ◌∙◌, subst, arith}
use Rattle.std.specs.Prelude.{if◌then◌else◌}
use Rattle.rx_value.specs.declared.key.Key.{Key}
use Rattle.rx_value.specs.declared.outcome.Outcome.{Outcome}
use Rattle.rx_value.specs.Value.{key_eq}
use Rattle.rx_value.specs.Keys.{same_key}
use Rattle.app_tree.specs.Tree.{Shape}
use Rattle.app_tree.specs.Numbering.{reader}
use Rattle.app_tree.specs.Cover.{keyed_outcome}
use Rattle.app_tree.specs.Trace.{Every}
use Rattle.app_laws.proofs.WhatIsAsked.{every_map, both_of}
use Rattle.session_model.specs.Standing.{KeptSession}
use Rattle.session_steps.specs.Keeping.{shown_outcome}
use Rattle.term_eval.specs.Claims.{key_outcome}
use Rattle.term_eval.specs.Bodies.{IsCached}
use Rattle.term_eval.specs.Lent.{Lent, number_out, IsFree}
use Rattle.react_session.specs.declared.attempt.Notes.{Notes}
use Rattle.react_session.specs.declared.attempt.KeysTried.TheVariants as keys
use Rattle.react_session.specs.inner.Making.{bound_at, IsFrom, MayMake, MayRun, IsReady}
use Rattle.react_session.specs.inner.Tries.{TriesKeys}
use Rattle.react_session.proofs.Ended.{Ended, hit_ended}

-- where all that is out is of readers above n, none is out for a key of n
pub free_above : (app : Shape) (n : ℕ) (key : Key) (out : List Lent) → key.node ≡ n → Every (IsFrom app (suc (bound_at app n))) out → IsFree key out
free_above app n key [] e h = refl
free_above app n key (lent ∷ out) e h = by (key_eq key lent.key) refl (free_above app n key out e h.1)
  where
    by : (same : Bool) → key_eq key lent.key ≡ same → number_out key out ≡ None → (if same then Some lent.number else number_out key out) ≡ None
    by true same rest =
        let level : bound_at app lent.key.node ≡ bound_at app n = ap (λ (k : Key). bound_at app k.node) (sym (same_key key lent.key same)) ∙ ap (bound_at app) e in
        let above = h.0 in
        absurd (omega (level, above, arith))
    by false same rest = rest

-- a Leave of n that went out behind them is not below n
pub may_claimed : (app asked asked' : Shape) (whole : Bool) (n : ℕ) (lent : Lent) (out out' : List Lent) → asked' ≡ asked → lent.key.node ≡ n → out' ≡ out ++ lent ∷ []
    → MayMake app whole asked (suc (bound_at app n)) out → MayMake app whole asked' (bound_at app n) out'
may_claimed app asked asked' whole n lent out out' same node behind may =
    let here : bound_at app n ≤ bound_at app lent.key.node = subst (λ (k : ℕ). bound_at app n ≤ bound_at app k) (sym node) (omega arith) in
    record {
      found = may.found;
      of_app = same ∙ may.of_app;
      above = subst (Every (IsFrom app (bound_at app n))) (sym behind)
          (both_of (IsFrom app (bound_at app n)) out (lent ∷ []) (every_map (IsFrom app (suc (bound_at app n))) (IsFrom app (bound_at app n)) (λ l h. omega (h, arith)) out may.above) (here, tt));
    }

-- a hit may be kept
pub hit_now : (app : Shape) (n : ℕ) (s : KeptSession) → IsReady app s → MayRun app n s → IsCached (reader app n) → (key : Key) (noted : Notes) → TriesKeys app s n (keys.Key key noted)
    → (asked : Shape) (x : Outcome) → asked ≡ app → x ≡ key_outcome asked key → Ended app n s 0 noted.reached noted.isolated (shown_outcome (reader app n) x)
hit_now app n s ready run cached key noted keyed asked x of_app is =
    let same : x ≡ keyed_outcome app n key.parts = is ∙ (λ j. keyed_outcome (of_app j) (keyed.1 j) key.parts) in
    subst (λ z. Ended app n s 0 noted.reached noted.isolated (shown_outcome (reader app n) z)) (sym same) (hit_ended app n s ready run cached key noted keyed)

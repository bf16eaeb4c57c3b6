-- Those that a write marks wait from then on, where a flush runs them; and who waits at first.
use Rattle.std.proofs.Common.{◌≡◌, inl, inr, ◌<◌, ◌≤◌, ℕ, zero, suc, ◌+◌, Bool, true, false, List, [], ◌∷◌, length, map, drop, get_or, replicate, ℤ, Some, refl, sym, ap, ◌∙◌, subst, arith, get_or-set_same, get_or-set_other}
use Rattle.std.specs.Prelude.{not, ◌&&◌, ◌||◌, ◌==◌, slice_get, unwrap_or, if◌then◌else◌}
use Rattle.std.proofs.lemmas.List.{length-map, length-replicate}
use Rattle.std.proofs.lemmas.Bool.Decides.{eqb_tells}
use Rattle.rx_value.specs.declared.source.SourceValue.{SourceValue}
use Rattle.app_tree.specs.Tree.{Node, input, value, task, reactive, event, text, plot, observe, on, Shape}
use Rattle.app_tree.specs.Numbering.{readers, reader}
use Rattle.app_tree.specs.Fresh.{is_among}
use Rattle.pending_set.specs.Waiting.{Waiting, waits_at, with_waiting, none_waiting}
use Rattle.session_model.specs.Flush.{priority_of}
use Rattle.session_model.specs.Standing.{KeptSession, KeptFlush, is_live, first_kept, first_kept_readers, first_output, first_outputs, kept_output, first_kept_flush}
use Rattle.session_laws.proofs.States.{set_size}
use Rattle.session_steps.specs.Keeping.{lives, IsAlike}
use Rattle.session_steps.specs.Acting.{write_kept}
use Rattle.react_session.specs.Marking.{marked_by_write}
use Rattle.flush_cycle.specs.declared.output.Role.TheVariants.{Never}
use Rattle.flush_cycle.specs.declared.output.OutputState.{OutputState}
use Rattle.flush_cycle.specs.Waits.{is_wanted_at}
use Rattle.flush_cycle.specs.inner.Roles.{shown_role, role_of, is_run_in, output_seen}
use Rattle.flush_cycle.specs.Working.{KnowsWaiting}
use Rattle.flush_cycle.specs.inner.Marking.{no_output, runs_at, AddsMarked}
use Rattle.flush_cycle.proofs.Deriving.{write_lives}

or_none : (b : Bool) → (b || false) ≡ b
or_none true = refl
or_none false = refl

-- ---- a number that is made to wait

set_waits : (n m : ℕ) (w : Waiting) → n < length w.waits → waits_at (with_waiting true n w) m ≡ (waits_at w m || (n == m))
set_waits n m w within = elim (eqb_tells n m) [
  | inl q ↦
      subst (λ k. waits_at (with_waiting true n w) k ≡ true) q.1 (get_or-set_same w.waits n true false within)
      ∙ or_true (waits_at w m) ∙ ap (λ b. waits_at w m || b) (sym q.0)
  | inr q ↦
      get_or-set_other w.waits n m true false (λ e. q.1 (sym e))
      ∙ sym (or_none (waits_at w m)) ∙ ap (λ b. waits_at w m || b) (sym q.0)
]
  where
    or_true : (b : Bool) → true ≡ (b || true)
    or_true true = refl
    or_true false = refl

-- where that is to be
abbrev pub with_if : Bool → ℕ → Waiting → Waiting
with_if b n w = if b then with_waiting true n w else w

if_waits : (b : Bool) (n m : ℕ) (w : Waiting) → n < length w.waits → waits_at (with_if b n w) m ≡ (waits_at w m || ((n == m) && b))
if_waits true n m w within = set_waits n m w within ∙ ap (λ x. waits_at w m || x) (sym (and_true (n == m)))
  where
    and_true : (x : Bool) → (x && true) ≡ x
    and_true true = refl
    and_true false = refl
if_waits false n m w within = sym (or_none (waits_at w m)) ∙ ap (λ x. waits_at w m || x) (sym (and_false (n == m)))
  where
    and_false : (x : Bool) → (x && false) ≡ false
    and_false true = refl
    and_false false = refl

if_priorities : (b : Bool) (n : ℕ) (w : Waiting) → (with_if b n w).priorities ≡ w.priorities
if_priorities true n w = refl
if_priorities false n w = refl

if_size : (b : Bool) (n : ℕ) (w : Waiting) → length (with_if b n w).waits ≡ length w.waits
if_size true n w = set_size w.waits n true
if_size false n w = refl

-- ---- the marked ones, one after another

pub record Adding (outputs : List OutputState) (rest marked : List ℕ) (old now : Waiting) : Type 0 where
  pub priorities : now.priorities ≡ old.priorities
  pub size : length now.waits ≡ length old.waits
  pub known : (n : ℕ) → is_among n rest ≡ true → n < length outputs
  pub waits : (n : ℕ) → (waits_at now n || (is_among n rest && runs_at outputs n)) ≡ (waits_at old n || (is_among n marked && runs_at outputs n))

pub first_known : (outputs : List OutputState) (n : ℕ) (rest marked : List ℕ) (old now : Waiting)
    → Adding outputs (n ∷ rest) marked old now → n < length outputs
first_known outputs n rest marked old now a = a.known n (elim (eqb_tells n n) [
  | inl q ↦ ap (λ b. b || is_among n rest) q.0
  | inr q ↦ absurd (q.1 refl)
])

-- what was read there is what stands there
pub read_at : (outputs : List OutputState) (n : ℕ) (o : OutputState) → n < length outputs → o ≡ get_or outputs n o → o ≡ get_or outputs n no_output
read_at [] n o within is = absurd (omega (within, arith))
read_at (p ∷ outputs) zero o within is = is
read_at (p ∷ outputs) (suc n) o within is = read_at outputs n o (omega (within, arith)) is

one_more : (w e r x : Bool) → ((w || (e && x)) || (r && x)) ≡ (w || ((e || r) && x))
one_more true e r x = refl
one_more false false r x = refl
one_more false true r true = refl
one_more false true true false = refl
one_more false true false false = refl

pub one_added : (outputs : List OutputState) (n : ℕ) (rest marked : List ℕ) (old now : Waiting) → length outputs ≤ length old.waits
    → Adding outputs (n ∷ rest) marked old now → Adding outputs rest marked old (with_if (runs_at outputs n) n now)
one_added outputs n rest marked old now room a = record {
  priorities = if_priorities (runs_at outputs n) n now ∙ a.priorities;
  size = if_size (runs_at outputs n) n now ∙ a.size;
  known = λ m h. a.known m (or_right (n == m) (is_among m rest) h);
  waits = λ m.
      ap (λ b. b || (is_among m rest && runs_at outputs m)) (if_waits (runs_at outputs n) n m now within ∙ ap (λ b. waits_at now m || b) (same m))
      ∙ one_more (waits_at now m) (n == m) (is_among m rest) (runs_at outputs m) ∙ a.waits m;
}
  where
    within : n < length now.waits
    within = let k = first_known outputs n rest marked old now a in let s = a.size in omega (k, s, room, arith)

    or_right : (b d : Bool) → d ≡ true → (b || d) ≡ true
    or_right true d h = refl
    or_right false d h = h

    same : (m : ℕ) → ((n == m) && runs_at outputs n) ≡ ((n == m) && runs_at outputs m)
    same m = elim (eqb_tells n m) [
      | inl q ↦ ap (λ k. (n == m) && runs_at outputs k) q.1
      | inr q ↦ ap (λ b. b && runs_at outputs n) q.0 ∙ ap (λ b. b && runs_at outputs m) (sym q.0)
    ]

pub all_added : (outputs : List OutputState) (marked : List ℕ) (old now : Waiting) → Adding outputs [] marked old now
    → AddsMarked outputs marked old now
all_added outputs marked old now a = record {
  priorities = a.priorities;
  size = a.size;
  waits = λ n. sym (or_none (waits_at now n)) ∙ a.waits n;
}

-- ---- by the roles of the readers

pub role_runs : (i : Node) (shown : Bool) → is_run_in (role_of i) shown ≡ is_wanted_at (Some i) shown
role_runs (input name start) shown = refl
role_runs (value name start) shown = refl
role_runs (task name parameters body) shown = refl
role_runs (reactive name keys body) shown = refl
role_runs (event name flags e body) shown = refl
role_runs (text name output) shown = by output.while_hidden
  where
    by : (b : Bool) → is_run_in (shown_role b) shown ≡ (b || shown)
    by true = refl
    by false = refl
role_runs (plot name output) shown = by output.while_hidden
  where
    by : (b : Bool) → is_run_in (shown_role b) shown ≡ (b || shown)
    by true = refl
    by false = refl
role_runs (observe name priority block) shown = refl
role_runs (on name priority flags e block) shown = refl

pub runs_wanted : (is : List Node) (outputs : List OutputState) → map (λ o. o.role) outputs ≡ map role_of is → (n : ℕ)
    → runs_at outputs n ≡ is_wanted_at (slice_get is n) (unwrap_or (slice_get (map output_seen outputs) n) first_output).shown
runs_wanted [] [] roles n = refl
runs_wanted (i ∷ is) [] roles n = absurd (let e = ap length roles in omega (e, arith))
runs_wanted [] (o ∷ outputs) roles n = absurd (let e = ap length roles in omega (e, arith))
runs_wanted (i ∷ is) (o ∷ outputs) roles zero =
    ap (λ r. is_run_in r o.shown) (ap (λ l. get_or l zero Never) roles) ∙ role_runs i o.shown
runs_wanted (i ∷ is) (o ∷ outputs) roles (suc n) = runs_wanted is outputs (ap (λ l. drop (suc zero) l) roles) n

-- ---- after a write

waits_then : (w l a : Bool) → ((w && not l) || (a && w)) ≡ (w && not (l && not a))
waits_then true true true = refl
waits_then true true false = refl
waits_then true false a = refl
waits_then false l true = refl
waits_then false l false = refl

pub knows_write : (app : Shape) (kept : KeptFlush) (after : KeptSession) (s : ℕ) (x : SourceValue) (outputs : List OutputState)
    (old new : Waiting) → kept.outputs ≡ map output_seen outputs → map (λ o. o.role) outputs ≡ map role_of (readers app)
    → IsAlike (write_kept s x kept.session) after → KnowsWaiting app kept old
    → AddsMarked outputs (marked_by_write s x kept.session) old new → KnowsWaiting app (record kept { session = after }) new
knows_write app kept after s x outputs old new seen roles alike knows adds n within =
    let wanted : Bool = is_wanted_at (reader app n) (kept_output kept n).shown in
    let live : Bool = lives kept.session n in
    let among : Bool = is_among n (marked_by_write s x kept.session) in
    let runs : runs_at outputs n ≡ wanted =
    runs_wanted (readers app) outputs roles n
    ∙ ap (λ os. is_wanted_at (reader app n) (unwrap_or (slice_get os n) first_output).shown) (sym seen) in
    adds.waits n ∙ ap (λ b. b || (among && runs_at outputs n)) (knows n within) ∙ ap (λ b. (wanted && not live) || (among && b)) runs
    ∙ waits_then wanted live among ∙ ap (λ b. wanted && not b) (sym (write_lives s x kept.session after alike n))

-- ---- at first

pub record FirstWaiting (app : Shape) (count : ℕ) (w : Waiting) : Type 0 where
  pub priorities : w.priorities ≡ map priority_of (readers app)
  pub size : length w.waits ≡ length (readers app)
  pub done : (n : ℕ) → n < count → waits_at w n ≡ is_wanted_at (reader app n) false
  pub rest : (n : ℕ) → count ≤ n → waits_at w n ≡ false

pub one_first : (app : Shape) (count : ℕ) (i : Node) (w : Waiting) → reader app count ≡ Some i → count < length (readers app)
    → FirstWaiting app count w → FirstWaiting app (count + 1) (with_if (is_run_in (role_of i) false) count w)
one_first app count i w is within f = record {
  priorities = if_priorities b count w ∙ f.priorities;
  size = if_size b count w ∙ f.size;
  done = done;
  rest = λ n h. waits n ∙ ap (λ x. x || ((count == n) && b)) (f.rest n (omega (h, arith)))
      ∙ ap (λ x. x && b) (apart n (λ e. omega (h, e, arith)));
}
  where
    b : Bool
    b = is_run_in (role_of i) false

    waits : (n : ℕ) → waits_at (with_if b count w) n ≡ (waits_at w n || ((count == n) && b))
    waits n = if_waits b count n w (let s = f.size in omega (s, within, arith))

    apart : (n : ℕ) → (count ≡ n → ⊥) → (count == n) ≡ false
    apart n d = elim (eqb_tells count n) [ inl q ↦ absurd (d q.1) | inr q ↦ q.0 ]

    done : (n : ℕ) → n < count + 1 → waits_at (with_if b count w) n ≡ is_wanted_at (reader app n) false
    done n h = elim (eqb_tells count n) [
      | inl q ↦
          let e = q.1 in
          waits n ∙ ap (λ x. x || ((count == n) && b)) (f.rest n (omega (e, arith))) ∙ ap (λ x. x && b) q.0
          ∙ role_runs i false ∙ ap (λ o. is_wanted_at o false) (sym is) ∙ ap (λ k. is_wanted_at (reader app k) false) e
      | inr q ↦
          let d = q.1 in
          waits n ∙ ap (λ x. waits_at w n || (x && b)) q.0 ∙ or_none (waits_at w n) ∙ f.done n (omega (h, d, arith))
    ]

not_shown : (is : List Node) (n : ℕ) → (unwrap_or (slice_get (first_outputs is) n) first_output).shown ≡ false
not_shown [] n = refl
not_shown (i ∷ is) zero = refl
not_shown (i ∷ is) (suc n) = not_shown is n

not_live : (is : List Node) (n : ℕ) → is_live (unwrap_or (slice_get (first_kept_readers is) n) first_kept).dependence ≡ false
not_live [] n = refl
not_live (i ∷ is) zero = refl
not_live (i ∷ is) (suc n) = not_live is n

pub knows_first : (app : Shape) (count : ℕ) (w : Waiting) → length (readers app) ≤ count → FirstWaiting app count w
    → KnowsWaiting app (first_kept_flush app) w
knows_first app count w all f n within =
    f.done n (omega (within, all, arith)) ∙ and_true (is_wanted_at (reader app n) false)
    ∙ ap (λ b. is_wanted_at (reader app n) b && true) (sym (not_shown (readers app) n))
    ∙ ap (λ b. is_wanted_at (reader app n) (kept_output (first_kept_flush app) n).shown && not b) (sym (not_live (readers app) n))
  where
    and_true : (b : Bool) → b ≡ (b && true)
    and_true true = refl
    and_true false = refl

-- nobody waits before the first is looked at
pub none_first : (app : Shape) (priorities : List ℤ) (w : Waiting) → priorities ≡ map priority_of (readers app) → w ≡ none_waiting priorities
    → FirstWaiting app zero w
none_first app priorities w are is = record {
  priorities = ap (λ (v : Waiting). v.priorities) is ∙ are;
  size = ap (λ (v : Waiting). length v.waits) is ∙ length-replicate (length priorities) false ∙ ap length are ∙ length-map (readers app) priority_of;
  done = λ n h. absurd (omega (h, arith));
  rest = λ n h. ap (λ (v : Waiting). waits_at v n) is ∙ none (length priorities) n;
}
  where
    none : (k n : ℕ) → get_or (replicate k false) n false ≡ false
    none zero n = refl
    none (suc k) zero = refl
    none (suc k) (suc n) = none k n

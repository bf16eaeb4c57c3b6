-- An output is shown or hidden: what is kept of it, and who waits then.
use Rattle.std.proofs.Common.{◌≡◌, ◌<◌, inl, inr, ℕ, zero, suc, Bool, true, false, List, [], ◌∷◌, map, length, Option, Some, None, slice_get, slice_set, get_or, unwrap_or, refl, sym, ap, ◌∙◌, subst, arith}
use Rattle.std.specs.Prelude.{not, ◌&&◌, ◌||◌}
use Rattle.std.proofs.lemmas.Bool.Decides.{eqb_tells}
use Rattle.std.proofs.lemmas.List.{get_or-set_same, get_or-set_other, length-map}
use Rattle.app_tree.specs.View.{shape_of}
use Rattle.app_tree.specs.Tree.{Node, input, value, task, reactive, event, text, plot, observe, on, Shape}
use Rattle.app_tree.specs.Numbering.{readers, reader}
use Rattle.pending_set.specs.Waiting.{Waiting, waits_at, with_waiting}
use Rattle.session_model.specs.declared.state.ReaderState.{ReaderState}
use Rattle.session_model.specs.State.{SessionState, first_reader, reader_state}
use Rattle.session_model.specs.Apply.{with_shown}
use Rattle.session_model.specs.Standing.{KeptOutput, KeptFlush, first_output, kept_output, StandsWholly}
use Rattle.session_laws.proofs.States.{set_here, set_there, set_size}
use Rattle.session_laws.proofs.Journeys.{some_is}
use Rattle.session_steps.specs.Keeping.{lives}
use Rattle.flush_cycle.specs.Waits.{is_wanted_at, waits_in}
use Rattle.flush_cycle.specs.declared.output.OutputState.{OutputState}
use Rattle.flush_cycle.specs.inner.Roles.{shown_role, role_of, is_run_in, output_seen}
use Rattle.flush_cycle.specs.inner.Acting.{Follows, Moved}
use Rattle.flush_cycle.specs.inner.Applying.{kept_shown}
use Rattle.flush_cycle.specs.Working.{Working, IsReady, KnowsWaiting}
use Rattle.flush_cycle.proofs.BesideStates.{IsBeside, stands_beside, missing_beside, looks_same, maps_same}

-- ---- the role of a reader

run_in_shown : (b shown : Bool) → is_run_in (shown_role b) shown ≡ (b || shown)
run_in_shown true shown = refl
run_in_shown false shown = refl

-- whether a flush runs it is the same by its role and by its item
pub wanted_by_role : (i : Node) (shown : Bool) → is_run_in (role_of i) shown ≡ is_wanted_at (Some i) shown
wanted_by_role (text name output) shown = run_in_shown output.while_hidden shown
wanted_by_role (plot name output) shown = run_in_shown output.while_hidden shown
wanted_by_role (observe name priority block) shown = refl
wanted_by_role (on name priority flags e block) shown = refl
wanted_by_role (input name start) shown = refl
wanted_by_role (value name start) shown = refl
wanted_by_role (task name parameters body) shown = refl
wanted_by_role (reactive name keys body) shown = refl
wanted_by_role (event name flags e body) shown = refl

map_get : {A B : Type 0} (f : A → B) (xs : List A) (n : ℕ) (x : A) → slice_get xs n ≡ Some x → slice_get (map f xs) n ≡ Some (f x)
map_get f [] n x is = absurd cc
map_get f (y ∷ xs) zero x is = ap (λ z. Some (f z)) (some_is is)
map_get f (y ∷ xs) (suc n) x is = map_get f xs n x is

map_set : {A B : Type 0} (f : A → B) (xs : List A) (n : ℕ) (x : A) → map f (slice_set xs n x) ≡ slice_set (map f xs) n (f x)
map_set f [] n x = refl
map_set f (y ∷ xs) zero x = refl
map_set f (y ∷ xs) (suc n) x = ap (λ l. f y ∷ l) (map_set f xs n x)

map_none : {A B : Type 0} (f : A → B) (xs : List A) (n : ℕ) → slice_get xs n ≡ None → slice_get (map f xs) n ≡ None
map_none f [] n is = refl
map_none f (y ∷ xs) zero is = absurd cc
map_none f (y ∷ xs) (suc n) is = map_none f xs n is

-- what is kept of an output says whether a flush runs it
pub wanted_by_output : (app : Shape) (outputs : List OutputState) → map (λ o. o.role) outputs ≡ map role_of (readers app)
    → (n : ℕ) (o : OutputState) → slice_get outputs n ≡ Some o
    → is_run_in o.role o.shown ≡ is_wanted_at (reader app n) (unwrap_or (slice_get (map output_seen outputs) n) first_output).shown
wanted_by_output app outputs roles n o is =
    by (reader app n) refl ∙ sym (ap (λ k. is_wanted_at (reader app n) (unwrap_or k first_output).shown) (map_get output_seen outputs n o is))
  where
    role : slice_get (map role_of (readers app)) n ≡ Some o.role
    role = ap (λ l. slice_get l n) (sym roles) ∙ map_get (λ (o : OutputState). o.role) outputs n o is

    by : (r : Option Node) → reader app n ≡ r → is_run_in o.role o.shown ≡ is_wanted_at r o.shown
    by None at = let none : slice_get (map role_of (readers app)) n ≡ None = map_none role_of (readers app) n at in let both : None ≡ Some o.role = sym none ∙ role in absurd cc
    by (Some i) at =
        let same : role_of i ≡ o.role = some_is (sym (map_get role_of (readers app) n i at) ∙ role) in
        ap (λ r. is_run_in r o.shown) (sym same) ∙ wanted_by_role i o.shown

pub outputs_counted : (app : Shape) (outputs : List OutputState) → map (λ o. o.role) outputs ≡ map role_of (readers app) → length outputs ≡ length (readers app)
outputs_counted app outputs roles = sym (length-map outputs (λ (o : OutputState). o.role)) ∙ ap length roles ∙ length-map (readers app) role_of

pub got : {A : Type 0} (xs : List A) (n : ℕ) (x : A) → n < length xs → x ≡ get_or xs n x → slice_get xs n ≡ Some x
got [] n x inside is = absurd (omega (inside, arith))
got (y ∷ xs) zero x inside is = ap Some (sym is)
got (y ∷ xs) (suc n) x inside is = got xs n x (omega (inside, arith)) is

-- the roles stay
pub roles_stay : (outputs : List OutputState) (n : ℕ) (o set : OutputState) → slice_get outputs n ≡ Some o → set.role ≡ o.role
    → map (λ o. o.role) (slice_set outputs n set) ≡ map (λ o. o.role) outputs
roles_stay outputs n o set is same = maps_same (λ (o : OutputState). o.role) o outputs n set (same ∙ ap (λ k. (unwrap_or k o).role) (sym is))

-- what contracts see of it
pub outputs_seen : (outputs : List OutputState) (n : ℕ) (o set : OutputState) (shown : Bool) → slice_get outputs n ≡ Some o
    → output_seen set ≡ record { shown = shown; last = o.last }
    → map output_seen (slice_set outputs n set) ≡ slice_set (map output_seen outputs) n (record (unwrap_or (slice_get (map output_seen outputs) n) first_output) { shown = shown })
outputs_seen outputs n o set shown is seen =
    map_set output_seen outputs n set
    ∙ ap (slice_set (map output_seen outputs) n) (seen ∙ ap (λ k. record (unwrap_or k first_output) { shown = shown }) (sym (map_get output_seen outputs n o is)))

-- ---- the state

shown_beside : (n : ℕ) (shown : Bool) (state : SessionState) → IsBeside state (with_shown n shown state)
shown_beside n shown state = record {
  values = refl;
  isolated = maps_same (λ (r : ReaderState). r.isolated) first_reader state.readers n set refl;
  size = set_size state.readers n set;
  dependencies = λ m. looks_same (λ (r : ReaderState). r.dependencies) first_reader state.readers n m set refl;
  sites = λ m. looks_same (λ (r : ReaderState). r.isolated) first_reader state.readers n m set refl;
}
  where
    set : ReaderState
    set = record (reader_state state n) { shown = shown }

-- a place of two lists is set to what looks the same
both_set : {A B C : Type 0} (f : A → C) (g : B → C) (a : A) (b : B) (xs : List A) (ys : List B) (n m : ℕ) (x : A) (y : B)
    → n < length xs → n < length ys → f x ≡ g y
    → f (unwrap_or (slice_get xs m) a) ≡ g (unwrap_or (slice_get ys m) b)
    → f (unwrap_or (slice_get (slice_set xs n x) m) a) ≡ g (unwrap_or (slice_get (slice_set ys n y) m) b)
both_set f g a b xs ys n m x y inside within same others = elim (eqb_tells m n) [
  | inl p ↦ subst (λ k. f (unwrap_or (slice_get (slice_set xs n x) k) a) ≡ g (unwrap_or (slice_get (slice_set ys n y) k) b)) (sym p.1)
      (ap (λ o. f (unwrap_or o a)) (set_here xs n x inside) ∙ same ∙ sym (ap (λ o. g (unwrap_or o b)) (set_here ys n y within)))
  | inr p ↦ ap (λ o. f (unwrap_or o a)) (set_there xs n m x p.1) ∙ others ∙ sym (ap (λ o. g (unwrap_or o b)) (set_there ys n m y p.1))
]

pub shown_follows : (app : Shape) (kept : KeptFlush) (n : ℕ) (shown : Bool) → n < length (readers app) → (state : SessionState)
    → StandsWholly app kept state → Follows app kept (kept_shown n shown kept) state (with_shown n shown state)
shown_follows app kept n shown known state stands = record {
  stands = record {
    session = stands_beside app state (with_shown n shown state) (shown_beside n shown state) kept.session stands.session;
    size = set_size kept.outputs n (record (kept_output kept n) { shown = shown }) ∙ stands.size;
    boards = stands.boards;
    shown = λ m. both_set (λ (o : KeptOutput). o.shown) (λ (r : ReaderState). r.shown) first_output first_reader kept.outputs state.readers n m
        (record (kept_output kept n) { shown = shown }) (record (reader_state state n) { shown = shown }) inside within refl (stands.shown m);
    last = λ m. looks_same (λ (o : KeptOutput). o.last) first_output kept.outputs n m (record (kept_output kept n) { shown = shown }) refl
        ∙ stands.last m
        ∙ sym (looks_same (λ (r : ReaderState). r.last) first_reader state.readers n m (record (reader_state state n) { shown = shown }) refl);
  };
  missing = let same = missing_beside app state (with_shown n shown state) (shown_beside n shown state) kept.session in omega (same, arith);
}
  where
    inside : n < length kept.outputs
    inside = let size = stands.size in omega (size, known, arith)

    within : n < length state.readers
    within = let size = stands.session.consistent.size in omega (size, known, arith)

-- ---- who waits

-- what the set of those that wait knows of every other reader stays right
pub shown_waiting : (app : Shape) (kept : KeptFlush) (pending : Waiting) (n : ℕ) (shown : Bool) → n < length (readers app)
    → length pending.waits ≡ length (readers app) → KnowsWaiting app kept pending
    → KnowsWaiting app (kept_shown n shown kept) (with_waiting (waits_in app (kept_shown n shown kept) n) n pending)
shown_waiting app kept pending n shown known room knows m within = elim (eqb_tells m n) [
  | inl p ↦ subst (λ k. waits_at (with_waiting waits n pending) k ≡ waits_in app (kept_shown n shown kept) k) (sym p.1)
      (get_or-set_same pending.waits n waits false (let r = room in omega (known, r, arith)))
  | inr p ↦ get_or-set_other pending.waits n m waits false p.1
      ∙ knows m within
      ∙ sym (ap (λ o. is_wanted_at (reader app m) (unwrap_or o first_output).shown && not (lives kept.session m))
      (set_there kept.outputs n m (record (kept_output kept n) { shown = shown }) p.1))
]
  where
    waits : Bool
    waits = waits_in app (kept_shown n shown kept) n

-- ---- the whole step

pub shown_moved : (old new : Working) (n : ℕ) (shown : Bool) → n < length (readers (shape_of old.app))
    → length old.pending.waits ≡ length (readers (shape_of old.app)) → IsReady old
    → new ≡ record old {
      kept = kept_shown n shown old.kept;
      pending = with_waiting (waits_in (shape_of old.app) (kept_shown n shown old.kept) n) n old.pending;
    }
    → Moved (with_shown n shown) old new
shown_moved old new n shown known room ready is = subst (Moved (with_shown n shown) old) (sym is) (record {
  app = refl;
  moves = shown_follows (shape_of old.app) old.kept n shown known;
  ready = record { whole = ready.whole; waiting = shown_waiting (shape_of old.app) old.kept old.pending n shown known room ready.waiting };
  running = refl;
  boards = refl;
  jobs = refl;
  made = refl;
})

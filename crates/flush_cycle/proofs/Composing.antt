-- What a run's statements come to, one step after another, in each state that the session stood for.
use Rattle.std.proofs.Common.{◌≡◌, ◌≤◌, ℕ, suc, ◌+◌, ◌*◌, Bool, List, [], ◌∷◌, ◌++◌, length, Some, Ok, Err, refl, sym, ap, ◌∙◌, subst, arith}
use Rattle.std.specs.Prelude.{Result, OnOk, slice_get, unwrap_or, if◌then◌else◌}
use Rattle.std.proofs.lemmas.List.{append-nil, append_assoc}
use Rattle.std.proofs.lemmas.Nat.{mul-le}
use Rattle.rx_value.specs.declared.memory.Memory.{Memory}
use Rattle.rx_value.specs.declared.value.Value.{Value}
use Rattle.rx_value.specs.declared.value.Value.TheVariants as v
use Rattle.rx_value.specs.declared.outcome.Outcome.{Outcome}
use Rattle.rx_value.specs.declared.outcome.Outcome.TheVariants.{Val, Fail, Stop, Cancel, Running}
use Rattle.rx_value.specs.declared.source.SourceValue.{SourceValue}
use Rattle.rx_value.specs.declared.source.SourceValue.TheVariants.{Plain, Frozen, Task}
use Rattle.rx_value.specs.Value.{source_eq}
use Rattle.rx_value.proofs.SameSources.{source_eq-itself}
use Rattle.shiny_json.specs.declared.message.Pair.{Pair}
use Rattle.app_tree.specs.Tree.{Tree, perform, Shape}
use Rattle.app_tree.specs.Numbering.{readers, reader}
use Rattle.app_tree.specs.View.{shape_of}
use Rattle.app_tree.specs.Current.{value_at}
use Rattle.term_eval.specs.Lent.{Lent}
use Rattle.session_model.specs.State.{SessionState}
use Rattle.session_model.specs.Change.{change, frozen_value, with_source_value}
use Rattle.session_model.specs.Reading.{TermResult}
use Rattle.session_model.specs.Flush.{is_observer_at}
use Rattle.session_model.specs.Observing.{StatementsResult, bare_result, done_result, then_result, then_statements_by, then_statements, result_of_term, with_value_by, with_value, read_by_observer, run_statement}
use Rattle.session_model.specs.Standing.{KeptFlush, StandsWholly, missing_readers}
use Rattle.flush_cycle.specs.Flushing.{Stepped}
use Rattle.flush_cycle.specs.declared.report.Made.{Made}
use Rattle.flush_cycle.specs.Working.{Working, IsReady}
use Rattle.flush_cycle.specs.inner.Acting.{MayAsk, MayAct, Follows, Moved, with_told, Observed, ObservesIn, Observes, IsWithin, Does, Acts}
use Rattle.flush_cycle.proofs.StartedMore.{queues_none, queues_joined}

-- ---- one way to go on

abbrev pub joined_by : StatementsResult → Outcome → (Value → SessionState → StatementsResult) → StatementsResult
joined_by a (Val x) next = then_result a (next x a.state)
joined_by a _ next = a

-- goes on with a value, or ends at a failure
abbrev pub joined : StatementsResult → (Value → SessionState → StatementsResult) → StatementsResult
joined a next = joined_by a a.outcome next

-- it is a step and then, with its value, another one
abbrev pub IsJoined : (SessionState → StatementsResult) → (Value → SessionState → StatementsResult)
    → (SessionState → StatementsResult) → Type 0
IsJoined first next whole = (state : SessionState) → whole state ≡ joined (first state) next

value_joined_by : (e : TermResult) (o : Outcome) (next : Value → SessionState → StatementsResult)
    → with_value_by e o next ≡ joined_by (result_of_term e) o next
value_joined_by e (Val x) next = refl
value_joined_by e (Fail t) next = refl
value_joined_by e Stop next = refl
value_joined_by e Cancel next = refl
value_joined_by e Running next = refl

pub value_joined : (e : TermResult) (next : Value → SessionState → StatementsResult)
    → with_value e next ≡ joined (result_of_term e) next
value_joined e next = value_joined_by e e.outcome next

statements_joined_by : (a : StatementsResult) (o : Outcome) (next : SessionState → StatementsResult)
    → then_statements_by a o next ≡ joined_by a o (λ x. next)
statements_joined_by a (Val x) next = refl
statements_joined_by a (Fail t) next = refl
statements_joined_by a Stop next = refl
statements_joined_by a Cancel next = refl
statements_joined_by a Running next = refl

pub statements_joined : (a : StatementsResult) (next : SessionState → StatementsResult)
    → then_statements a next ≡ joined a (λ x. next)
statements_joined a next = statements_joined_by a a.outcome next

-- what isn't a value
abbrev pub IsFailure : Outcome → Type 0
IsFailure (Val x) = ⊥
IsFailure _ = Unit {0}

pub fails_unless : (o : Outcome) → ((x : Value) → o ≡ Val x → ⊥) → IsFailure o
fails_unless (Val x) other = other x refl
fails_unless (Fail t) other = tt
fails_unless Stop other = tt
fails_unless Cancel other = tt
fails_unless Running other = tt

joined_failure_by : (a : StatementsResult) (o : Outcome) (next : Value → SessionState → StatementsResult) → IsFailure o
    → joined_by a o next ≡ a
joined_failure_by a (Val x) next h = absurd h
joined_failure_by a (Fail t) next h = refl
joined_failure_by a Stop next h = refl
joined_failure_by a Cancel next h = refl
joined_failure_by a Running next h = refl

joined_value_by : (a : StatementsResult) (o : Outcome) (x : Value) (next : Value → SessionState → StatementsResult) → Val x ≡ o
    → joined_by a o next ≡ then_result a (next x a.state)
joined_value_by a o x next is = subst (λ p. joined_by a p next ≡ then_result a (next x a.state)) is refl

-- the bodies of the rest only add
bodies_by : (a : StatementsResult) (o : Outcome) (next : Value → SessionState → StatementsResult)
    → a.bodies ≤ (joined_by a o next).bodies
bodies_by a (Val x) next = omega arith
bodies_by a (Fail t) next = omega arith
bodies_by a Stop next = omega arith
bodies_by a Cancel next = omega arith
bodies_by a Running next = omega arith

-- ---- in one state

stepped_joined : (app : Shape) (old mid new : KeptFlush) (before between after : ℕ) (state next last : SessionState) (first second : ℕ)
    → Stepped app old mid before between state next first → Stepped app mid new between after next last second
    → Stepped app old new before after state last (first + second)
stepped_joined app old mid new before between after state next last first second a b =
    let p = a.bound in let q = b.bound in record { stands = b.stands; bound = omega (p, q, arith) }

told_twice : (made : Made) (first second : List Pair) → with_told second (with_told first made) ≡ with_told (first ++ second) made
told_twice made first second =
    ap (λ messages. record { runs = made.runs; batch = record { outputs = made.batch.outputs; messages = messages } })
    (append_assoc made.batch.messages first second)

pub told_nothing : (made : Made) → made ≡ with_told [] made
told_nothing made =
    ap (λ messages. record { runs = made.runs; batch = record { outputs = made.batch.outputs; messages = messages } })
    (sym (append-nil made.batch.messages))

module _ (app : Shape) (old mid new : Working) (before between after : ℕ) where
  observes_then : (state : SessionState) (a b : StatementsResult) (o : Outcome) (result : Result Outcome Memory)
      → Observed app old mid before between state a o → ObservesIn app mid new between after a.state b result
      → ObservesIn app old new before after state (then_result a b) result
  observes_then state a b o (Ok last) first second = record {
    stepped = stepped_joined app old.kept mid.kept new.kept before between after state a.state b.state a.bodies b.bodies first.stepped second.stepped;
    comes = second.comes;
    told = second.told ∙ ap (with_told b.messages) first.told ∙ told_twice old.made a.messages b.messages;
  }
  observes_then state a b o (Err e) first second = let p = first.stepped.bound in omega (p, second, arith)

  pub observes_on : (first whole : SessionState → StatementsResult) (next : Value → SessionState → StatementsResult)
      → IsJoined first next whole → (x : Value) (result : Result Outcome Memory)
      → Observes app old mid before between first (Ok (Val x)) → Observes app mid new between after (next x) result
      → Observes app old new before after whole result
  observes_on first whole next is x result a b state stands =
      let at : Observed app old mid before between state (first state) (Val x) = a state stands in
      let joined_is : whole state ≡ then_result (first state) (next x (first state).state) = is state ∙ joined_value_by (first state) (first state).outcome x next at.comes in
      subst (λ r. ObservesIn app old new before after state r result) (sym joined_is)
      (observes_then state (first state) (next x (first state).state) (Val x) result at (b (first state).state at.stepped.stands))

module _ (app : Shape) (old new : Working) (before after : ℕ) (first whole : SessionState → StatementsResult)
    (next : Value → SessionState → StatementsResult) (is : IsJoined first next whole) where
  pub observes_failure : (o : Outcome) → IsFailure o → Observes app old new before after first (Ok o)
      → Observes app old new before after whole (Ok o)
  observes_failure o failed a state stands =
      let at : Observed app old new before after state (first state) o = a state stands in
      let joined_is : whole state ≡ first state = is state ∙ joined_failure_by (first state) (first state).outcome next (subst IsFailure at.comes failed) in
      subst (λ r. Observed app old new before after state r o) (sym joined_is) at

  pub observes_lost : (e d : Memory) → Observes app old new before after first (Err e)
      → Observes app old new before after whole (Err d)
  observes_lost e d a state stands =
      let at : after ≤ before + ((first state).bodies + missing_readers app old.kept.session state) = a state stands in
      let more : (first state).bodies ≤ (joined_by (first state) (first state).outcome next).bodies = bodies_by (first state) (first state).outcome next in
      let same : (whole state).bodies ≡ (joined (first state) next).bodies = ap (λ (r : StatementsResult). r.bodies) (is state) in
      omega (at, more, same, arith)

-- a step without a body may stand anywhere
observes_anywhere : (app : Shape) (old new : Working) (step : SessionState → StatementsResult) (result : Result Outcome Memory)
    → Observes app old new 0 0 step result → (k : ℕ) → Observes app old new k k step result
observes_anywhere app old new step (Ok o) a k state stands =
    let at : Observed app old new 0 0 state (step state) o = a state stands in
    let p = at.stepped.bound in
    record { stepped = record { stands = at.stepped.stands; bound = omega (p, arith) }; comes = at.comes; told = at.told }
observes_anywhere app old new step (Err e) a k state stands = omega arith

-- ---- steps without a body

pub does_moved : (step : SessionState → SessionState) (old new : Working) → Moved step old new
    → Does (λ state. done_result (step state)) old new (Ok (Val v.Null))
does_moved step old new m = record {
  app = m.app;
  observes = λ state stands.
      let f : Follows (shape_of old.app) old.kept new.kept state (step state) = m.moves state stands in
      let p = f.missing in
      record {
        stepped = record { stands = f.stands; bound = omega (p, arith) };
        comes = refl;
        told = m.made ∙ told_nothing old.made;
      };
  ready = m.ready;
  running = m.running;
  queues = queues_none old new m.boards m.jobs;
}

-- what is kept is as it was, and messages are told
pub does_told : (old new : Working) (messages : List Pair) → new.app ≡ old.app → new.kept ≡ old.kept → IsReady new
    → new.jobs ≡ old.jobs → new.made ≡ with_told messages old.made
    → Does (λ state. record { state = state; bodies = 0; messages = messages; outcome = Val v.Null }) old new (Ok (Val v.Null))
does_told old new messages app kept ready jobs made = record {
  app = app;
  observes = λ state stands. record {
    stepped = record {
      stands = subst (λ k. StandsWholly (shape_of old.app) k state) (sym kept) stands;
      bound = subst (λ (k : KeptFlush). 0 + missing_readers (shape_of old.app) k.session state ≤ 0 + (0 + missing_readers (shape_of old.app) old.kept.session state)) (sym kept) (omega arith);
    };
    comes = refl;
    told = made;
  };
  ready = ready;
  running = ap (λ (k : KeptFlush). k.session.running) kept;
  queues = queues_none old new (ap (λ (k : KeptFlush). k.boards) kept) jobs;
}

pub does_done : (w : Working) → IsReady w → Does done_result w w (Ok (Val v.Null))
does_done w ready = does_told w w [] refl refl ready refl (told_nothing w.made)

pub does_bare : (w : Working) (o : Outcome) → IsReady w → Does (bare_result o) w w (Ok o)
does_bare w o ready = record {
  app = refl;
  observes = λ state stands. record {
    stepped = record { stands = stands; bound = omega arith };
    comes = refl;
    told = told_nothing w.made;
  };
  ready = ready;
  running = refl;
  queues = queues_none w w refl refl;
}

pub does_lost : (step : SessionState → StatementsResult) (old new : Working) (e : Memory) → new.app ≡ old.app
    → new.kept.session.running ≡ old.kept.session.running → Does step old new (Err e)
does_lost step old new e app running =
    record { app = app; observes = λ state stands. omega arith; ready = tt; running = running; queues = tt }

does_alike : (step other : SessionState → StatementsResult) (old new : Working) (result : Result Outcome Memory)
    → ((state : SessionState) → StandsWholly (shape_of old.app) old.kept state → other state ≡ step state)
    → Does step old new result → Does other old new result
does_alike step other old new result alike d = record {
  app = d.app;
  observes = λ state stands. subst (λ r. ObservesIn (shape_of old.app) old new 0 0 state r result) (sym (alike state stands)) (d.observes state stands);
  ready = d.ready;
  running = d.running;
  queues = d.queues;
}

-- one more message
pub does_telling : (old seen : Working) (name wanted : List ℕ) (value : Value) (messages : List Pair) → seen ≡ old → IsReady old
    → name ≡ wanted → messages ≡ seen.made.batch.messages ++ record { name = name; value = value } ∷ []
    → Does (λ state. record { state = state; bodies = 0; messages = record { name = wanted; value = value } ∷ []; outcome = Val v.Null })
    old (record seen { made = record { runs = seen.made.runs; batch = record { outputs = seen.made.batch.outputs; messages = messages } } })
    (Ok (Val v.Null))
does_telling old seen name wanted value messages same ready named pushed =
    subst (λ (w : Working). messages ≡ w.made.batch.messages ++ record { name = name; value = value } ∷ []
    → Does (λ state. record { state = state; bodies = 0; messages = record { name = wanted; value = value } ∷ []; outcome = Val v.Null })
    old (record w { made = record { runs = w.made.runs; batch = record { outputs = w.made.batch.outputs; messages = messages } } })
    (Ok (Val v.Null)))
    (sym same)
    (λ is. does_told old (record old { made = record { runs = old.made.runs; batch = record { outputs = old.made.batch.outputs; messages = messages } } })
    (record { name = wanted; value = value } ∷ []) refl refl (record { whole = ready.whole; waiting = ready.waiting }) refl
    (ap (λ (m : List Pair). record { runs = old.made.runs; batch = record { outputs = old.made.batch.outputs; messages = m } })
    (is ∙ ap (λ (text : List ℕ). old.made.batch.messages ++ record { name = text; value = value } ∷ []) named)))
    pushed

-- ---- freezing

frozen_as_it_is : (x : SourceValue) → ((y : Value) → x ≡ Plain y → ⊥) → frozen_value x ≡ x
frozen_as_it_is (Plain y) other = absurd (other y refl)
frozen_as_it_is (Frozen y) other = refl
frozen_as_it_is (Task seen) other = refl

same_change : (s : ℕ) (x : SourceValue) (state : SessionState) → value_at state.values s ≡ x → change s x state ≡ state
same_change s x state is =
    ap (λ b. if b then state else with_source_value s x state)
    (ap (λ y. source_eq y x) is ∙ source_eq-itself x)

value_stands : (w : Working) (s : ℕ) (x : SourceValue) → slice_get w.kept.session.values s ≡ Some x → (state : SessionState)
    → StandsWholly (shape_of w.app) w.kept state → value_at state.values s ≡ x
value_stands w s x is state stands =
    ap (λ values. value_at values s) (sym stands.session.values) ∙ ap (λ found. unwrap_or found (Plain v.Null)) is

pub does_frozen_already : (s : ℕ) (x : SourceValue) (w : Working) → slice_get w.kept.session.values s ≡ Some x
    → ((y : Value) → x ≡ Plain y → ⊥) → IsReady w
    → Does (λ state. done_result (change s (frozen_value (value_at state.values s)) state)) w w (Ok (Val v.Null))
does_frozen_already s x w is other ready =
    does_alike done_result (λ state. done_result (change s (frozen_value (value_at state.values s)) state)) w w (Ok (Val v.Null))
    (λ state stands.
    let found : value_at state.values s ≡ x = value_stands w s x is state stands in
    let stays : frozen_value (value_at state.values s) ≡ x = ap frozen_value found ∙ frozen_as_it_is x other in
    ap (λ y. done_result (change s y state)) stays ∙ ap done_result (same_change s x state found))
    (does_done w ready)

pub does_frozen : (s : ℕ) (x : Value) (old new : Working) → slice_get old.kept.session.values s ≡ Some (Plain x)
    → Moved (change s (Frozen x)) old new
    → Does (λ state. done_result (change s (frozen_value (value_at state.values s)) state)) old new (Ok (Val v.Null))
does_frozen s x old new is moved =
    does_alike (λ state. done_result (change s (Frozen x) state)) (λ state. done_result (change s (frozen_value (value_at state.values s)) state)) old new (Ok (Val v.Null))
    (λ state stands. ap (λ y. done_result (change s (frozen_value y) state)) (value_stands old s (Plain x) is state stands))
    (does_moved (change s (Frozen x)) old new moved)

-- ---- conditions that stay

pub asks_on : (app app' asked asked' : Shape) (out out' : List Lent) → app' ≡ app → asked' ≡ asked → out' ≡ []
    → MayAsk app asked out → MayAsk app' asked' out'
asks_on app app' asked asked' out out' same asks none may = record { of_app = asks ∙ may.of_app ∙ sym same; none_out = none }

acts_on : (n : ℕ) (old new : Working) → new.app ≡ old.app → new.kept.session.running ≡ old.kept.session.running → IsReady new
    → MayAct n old → MayAct n new
acts_on n old new same running ready may = record {
  ready = ready;
  runs = running ∙ may.runs;
  observer = ap (λ h. is_observer_at (reader (shape_of h) n)) same ∙ may.observer;
}

on_ok : {T E : Type 0} {P Q : Type 0} (result : Result T E) → (P → Q) → OnOk result P → OnOk result Q
on_ok (Ok x) so h = so h
on_ok (Err e) so h = tt

within_joined : (app : Shape) (count more before between after : ℕ) → IsWithin app count before between → IsWithin app more between after
    → IsWithin app (count + more) before after
within_joined app count more before between after a b =
    let spread : length (readers app) * (count + more) ≡ length (readers app) * count + length (readers app) * more = omega arith in
    omega (a, b, spread, arith)

within_more : (app : Shape) (count more before after : ℕ) → count ≤ more → IsWithin app count before after → IsWithin app more before after
within_more app count more before after less a =
    let grows : length (readers app) * count ≤ length (readers app) * more = mul-le (length (readers app)) count (length (readers app)) more (omega arith) less in
    omega (a, grows, arith)

within_none : (app : Shape) (count before : ℕ) → IsWithin app count before before
within_none app count before = omega arith

-- ---- calls on the observer that runs

module _ {S : Type 0} (follows : S → S → Type 0) (out : S → List Lent) (stays : (a : S) → follows a a)
    (chains : (a b c : S) → follows b a → follows c b → follows c a) (n : ℕ) where
  -- a step without a body evaluates no term
  pub acts_doing : (step : SessionState → StatementsResult) (old new : Working) (asker : S) (before : ℕ) (result : Result Outcome Memory)
      → (count : ℕ) → MayAct n old → out asker ≡ [] → Does step old new result
      → Acts follows out n count step old new asker asker before before result
  acts_doing step old new asker before result count may none d = record {
    app = d.app;
    observes = observes_anywhere (shape_of old.app) old new step result d.observes before;
    within = within_none (shape_of old.app) count before;
    goes_on = on_ok result (λ ready. acts_on n old new d.app d.running ready may) d.ready;
    queues = d.queues;
    succeeds = stays asker;
    leaves = none;
  }

  -- the same, of another step that is alike in each state
  pub acts_alike : (step other : SessionState → StatementsResult) → ((state : SessionState) → other state ≡ step state)
      → (count more : ℕ) → count ≤ more → (old new : Working) (a b : S) (before after : ℕ) (result : Result Outcome Memory)
      → Acts follows out n count step old new a b before after result → Acts follows out n more other old new a b before after result
  acts_alike step other alike count more less old new a b before after result h = record {
    app = h.app;
    observes = λ state stands. subst (λ r. ObservesIn (shape_of old.app) old new before after state r result) (sym (alike state)) (h.observes state stands);
    within = within_more (shape_of old.app) count more before after less h.within;
    goes_on = h.goes_on;
    queues = h.queues;
    succeeds = h.succeeds;
    leaves = h.leaves;
  }

  module _ (first whole : SessionState → StatementsResult) (next : Value → SessionState → StatementsResult)
      (is : IsJoined first next whole) (count more : ℕ) (old : Working) (a : S) (before : ℕ) where
    -- a step with its value, and then another one
    pub acts_joined : (mid new : Working) (b d : S) (between after : ℕ) (x : Value) (result : Result Outcome Memory)
        → Acts follows out n count first old mid a b before between (Ok (Val x))
        → Acts follows out n more (next x) mid new b d between after result
        → Acts follows out n (count + more) whole old new a d before after result
    acts_joined mid new b d between after x result f s =
        let same : mid.app ≡ old.app = f.app in
        let seen : Observes (shape_of old.app) mid new between after (next x) result = subst (λ h. Observes (shape_of h) mid new between after (next x) result) same s.observes in
        let bounded : IsWithin (shape_of old.app) more between after = subst (λ h. IsWithin (shape_of h) more between after) same s.within in
        record {
          app = s.app ∙ same;
          observes = observes_on (shape_of old.app) old mid new before between after first whole next is x result f.observes seen;
          within = within_joined (shape_of old.app) count more before between after f.within bounded;
          goes_on = s.goes_on;
          queues = on_ok result (λ q. queues_joined old mid new f.queues q) s.queues;
          succeeds = chains a b d f.succeeds s.succeeds;
          leaves = s.leaves;
        }

    -- a step with its value, and then what runs no body
    pub acts_done_with : (mid new : Working) (b : S) (between : ℕ) (x : Value) (result : Result Outcome Memory)
        → Acts follows out n count first old mid a b before between (Ok (Val x)) → Does (next x) mid new result
        → Acts follows out n (count + more) whole old new a b before between result
    acts_done_with mid new b between x result f d =
        acts_joined mid new b b between between x result f (acts_doing (next x) mid new b between result more f.goes_on f.leaves d)

    -- a failure is all that is left
    pub acts_failure : (new : Working) (b : S) (after : ℕ) (o : Outcome) → IsFailure o
        → Acts follows out n count first old new a b before after (Ok o)
        → Acts follows out n (count + more) whole old new a b before after (Ok o)
    acts_failure new b after o failed f = record {
      app = f.app;
      observes = observes_failure (shape_of old.app) old new before after first whole next is o failed f.observes;
      within = within_more (shape_of old.app) count (count + more) before after (omega arith) f.within;
      goes_on = f.goes_on;
      queues = f.queues;
      succeeds = f.succeeds;
      leaves = f.leaves;
    }

    pub acts_lost : (new : Working) (b : S) (after : ℕ) (e d : Memory)
        → Acts follows out n count first old new a b before after (Err e)
        → Acts follows out n (count + more) whole old new a b before after (Err d)
    acts_lost new b after e d f = record {
      app = f.app;
      observes = observes_lost (shape_of old.app) old new before after first whole next is e d f.observes;
      within = within_more (shape_of old.app) count (count + more) before after (omega arith) f.within;
      goes_on = tt;
      queues = tt;
      succeeds = f.succeeds;
      leaves = f.leaves;
    }

  -- a statement that begins with a term
  module _ (isolated : Bool) (t : Tree) (old : Working) (a : S) (before : ℕ) (whole : SessionState → StatementsResult)
      (next : Value → SessionState → StatementsResult)
      (is : (state : SessionState) → whole state ≡ with_value (read_by_observer (shape_of old.app) n isolated t state) next) where
    begun : IsJoined (run_statement (shape_of old.app) n isolated (perform t)) next whole
    begun state = is state ∙ value_joined (read_by_observer (shape_of old.app) n isolated t state) next

    module _ (mid : Working) (b : S) (between : ℕ) (o : Outcome)
        (ran : Acts follows out n 1 (run_statement (shape_of old.app) n isolated (perform t)) old mid a b before between (Ok o)) where
      abbrev valued : (x : Value) → o ≡ Val x
          → Acts follows out n 1 (run_statement (shape_of old.app) n isolated (perform t)) old mid a b before between (Ok (Val x))
      valued x value = subst (λ p. Acts follows out n 1 (run_statement (shape_of old.app) n isolated (perform t)) old mid a b before between (Ok p)) value ran

      pub term_then_does : (x : Value) → o ≡ Val x → (new : Working) (result : Result Outcome Memory)
          → (mid.app ≡ old.app → Does (next x) mid new result)
          → Acts follows out n 1 whole old new a b before between result
      term_then_does x value new result d =
          acts_done_with (run_statement (shape_of old.app) n isolated (perform t)) whole next begun 1 0 old a before mid new b between x result (valued x value) (d ran.app)

      pub term_then_acts : (x : Value) → o ≡ Val x → (new : Working) (d : S) (after : ℕ) (result : Result Outcome Memory) (more most : ℕ)
          → more ≤ most → (mid.app ≡ old.app → Acts follows out n more (next x) mid new b d between after result)
          → Acts follows out n (suc most) whole old new a d before after result
      term_then_acts x value new d after result more most less h =
          acts_alike whole whole (λ state. refl) (1 + more) (suc most) (omega (less, arith)) old new a d before after result
          (acts_joined (run_statement (shape_of old.app) n isolated (perform t)) whole next begun 1 more old a before mid new b d between after x result (valued x value) (h ran.app))

      pub term_then_fails : IsFailure o → (most : ℕ) → Acts follows out n (suc most) whole old mid a b before between (Ok o)
      term_then_fails failed most =
          acts_alike whole whole (λ state. refl) (1 + most) (suc most) (omega arith) old mid a b before between (Ok o)
          (acts_failure (run_statement (shape_of old.app) n isolated (perform t)) whole next begun 1 most old a before mid b between o failed ran)

    pub term_then_lost : (mid : Working) (b : S) (between : ℕ) (e e' : Memory) (most : ℕ)
        → Acts follows out n 1 (run_statement (shape_of old.app) n isolated (perform t)) old mid a b before between (Err e)
        → Acts follows out n (suc most) whole old mid a b before between (Err e')
    term_then_lost mid b between e e' most ran =
        acts_alike whole whole (λ state. refl) (1 + most) (suc most) (omega arith) old mid a b before between (Err e')
        (acts_lost (run_statement (shape_of old.app) n isolated (perform t)) whole next begun 1 most old a before mid b between e e' ran)

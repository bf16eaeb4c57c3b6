-- What each step of a session leaves of a state that it stood for wholly.
use Rattle.std.proofs.Common.{◌≡◌, ◌≢◌, inl, inr, ◌⊎◌, ◌≤◌, ◌<◌, ℕ, ◌+◌, Bool, true, false, List, [], length, Option, Some, None, refl, sym, ap, ◌∙◌, subst, arith}
use Rattle.std.proofs.lemmas.Bool.Decides.{eqb_tells}
use Rattle.std.specs.Prelude.{slice_get, slice_set, unwrap_or}
use Rattle.rx_value.specs.declared.outcome.Outcome.{Outcome}
use Rattle.rx_value.specs.declared.source.SourceValue.{SourceValue}
use Rattle.app_tree.specs.Tree.{Tree, Node, input, value, task, reactive, event, text, plot, observe, on, Shape, perform}
use Rattle.app_tree.specs.Numbering.{readers, reader, is_output, is_observer}
use Rattle.app_laws.specs.Proper.{IsProper}
use Rattle.app_laws.proofs.KnownLists.{get_in}
use Rattle.session_model.specs.State.{SessionState, first_reader, reader_state, with_sources}
use Rattle.session_model.specs.declared.state.ReaderState.{ReaderState}
use Rattle.session_model.specs.Change.{change}
use Rattle.session_model.specs.Flush.{RunResult, is_observer_at, with_last, output_result, make_by, make_run}
use Rattle.session_model.specs.Observing.{StatementsResult, run_statement, read_by_observer}
use Rattle.session_model.specs.Run.{ReaderRun, run_reader}
use Rattle.session_model.specs.Standing.{KeptSession, KeptOutput, KeptFlush, first_output, kept_reader, kept_output, StandsForState, StandsWholly, missing_readers}
use Rattle.session_laws.proofs.States.{get_mapped, set_here, set_there, set_size, state_here, state_there, state_size}
use Rattle.session_steps.specs.Keeping.{IsAlike}
use Rattle.session_steps.specs.Bringing.{running, Brings, Begins}
use Rattle.session_steps.specs.Acting.{write_kept, begin_kept, finish_kept, Comes, ComesUntil}
use Rattle.session_steps.specs.StandLaws.{ComesTo, StandsWith}
use Rattle.session_steps.proofs.Alike.{alike_stands, finish_stands}
use Rattle.session_steps.proofs.CountedActs.{begin_is_bounded, finish_is_bounded, write_is_bounded}
use Rattle.session_steps.proofs.CountedLaws.{output_is_bounded, output_begins_bounded, term_is_bounded, term_begins_bounded}
use Rattle.session_steps.proofs.Observers.{begin_stands}
use Rattle.session_steps.proofs.Outputs.{output_stands}
use Rattle.session_steps.proofs.Terms.{term_stands}
use Rattle.session_steps.proofs.Written.{write_stands}
use Rattle.react_session.specs.Forcing.{is_output_at}
use Rattle.flush_cycle.specs.Flushing.{Stepped}
use Rattle.flush_cycle.specs.inner.Acting.{Follows}
use Rattle.flush_cycle.specs.inner.Statements.{IsTermOf}
use Rattle.flush_cycle.proofs.LeavesShown.{IsShownAlike, shown_refl, shown_written, shown_change, shown_observed, shown_run, same_map}
use Rattle.flush_cycle.proofs.StandsByKept.{IsKeptAlike, stands_alike, missing_alike, missing_in_any_order}

-- with the session after a step, and all else as it was
abbrev pub with_session : KeptSession → KeptFlush → KeptFlush
with_session after kept = record kept { session = after }

-- with the outcome of an output's run beside it
abbrev pub with_output : ℕ → Outcome → KeptSession → KeptFlush → KeptFlush
with_output n outcome after kept =
    record kept { session = after; outputs = slice_set kept.outputs n (record (kept_output kept n) { last = Some outcome }) }

-- ---- what they have in common

pub record IsNode (app : Shape) (n : ℕ) (kind : Node → Bool) : Type 0 where
  pub node : Node
  pub is : reader app n ≡ Some node
  pub kind_is : kind node ≡ true

observer_where : (app : Shape) (n : ℕ) (at : Option Node) → reader app n ≡ at → is_observer_at at ≡ true → IsNode app n is_observer
observer_where app n None is h = cc
observer_where app n (Some i) is h = record { node = i; is = is; kind_is = h }

observer_of : (app : Shape) (n : ℕ) → is_observer_at (reader app n) ≡ true → IsNode app n is_observer
observer_of app n h = observer_where app n (reader app n) refl h

output_where : (app : Shape) (n : ℕ) (at : Option Node) → reader app n ≡ at → is_output_at at ≡ true → IsNode app n is_output
output_where app n None is h = cc
output_where app n (Some i) is h = record { node = i; is = is; kind_is = h }

pub output_of : (app : Shape) (n : ℕ) → is_output_at (reader app n) ≡ true → IsNode app n is_output
output_of app n h = output_where app n (reader app n) refl h

-- no output is an observer
pub output_alone : (i : Node) → is_output i ≡ true → is_observer i ≡ false
output_alone (input name start) h = refl
output_alone (value name start) h = refl
output_alone (task name parameters body) h = refl
output_alone (reactive name keys body) h = refl
output_alone (event name flags e body) h = refl
output_alone (text name shown) h = refl
output_alone (plot name shown) h = refl
output_alone (observe name priority block) h = cc
output_alone (on name priority flags e block) h = cc

-- with the session after a step of it, in which nothing was touched that the flush looks after
stands_after : (app : Shape) (kept : KeptFlush) (after : KeptSession) (state next : SessionState) → StandsWholly app kept state
    → StandsForState app after next → IsShownAlike state next → StandsWholly app (record kept { session = after }) next
stands_after app kept after state next stands session alike = record {
  session = session;
  size = stands.size;
  boards = stands.boards ∙ sym alike.boards;
  shown = λ n. stands.shown n ∙ ap (λ (o : KeptOutput). o.shown) (sym (alike.readers n));
  last = λ n. stands.last n ∙ ap (λ (o : KeptOutput). o.last) (sym (alike.readers n));
}

within_both : (before bodies later counted earlier : ℕ) → bodies + later ≤ counted + earlier → (before + bodies) + later ≤ before + (counted + earlier)
within_both before bodies later counted earlier h = omega (h, arith)

-- ---- terms

pub record TermSteps (app : Shape) (kept : KeptFlush) (after : KeptSession) (bodies : ℕ) (state : SessionState)
    (r : StatementsResult) (outcome : Outcome) : Type 0 where
  pub stepped : (before : ℕ) → Stepped app kept (with_session after kept) before (before + bodies) state r.state r.bodies
  pub comes : outcome ≡ r.outcome
  pub silent : r.messages ≡ []

pub term_steps : (app : Shape) → IsProper app → (kept : KeptFlush) (after : KeptSession) (state : SessionState)
    → StandsWholly app kept state → (n : ℕ) → is_observer_at (reader app n) ≡ true → (isolated : Bool) (t : Tree)
    → IsTermOf app t → (bodies : List ℕ) (outcome : Outcome) → Comes app n isolated t bodies kept.session after outcome
    → TermSteps app kept after (length bodies) state (run_statement app n isolated (perform t) state) outcome
term_steps app proper kept after state stands n observer isolated t own bodies outcome comes =
    let i : IsNode app n is_observer = observer_of app n observer in
    let to : ComesTo app after outcome (read_by_observer app n isolated t state) =
    term_stands app proper kept.session after state stands.session n i.node i.is i.kind_is isolated t own.site own.sites own.reads bodies outcome comes in
    let bound = term_is_bounded app proper kept.session after state stands.session n i.node i.is i.kind_is isolated t own.site own.sites own.reads bodies outcome comes in
    record {
      stepped = λ before. record {
        stands = stands_after app kept after state (read_by_observer app n isolated t state).state stands to.stands (shown_observed app n isolated t state);
        bound = within_both before (length bodies) (missing_readers app after (read_by_observer app n isolated t state).state) (read_by_observer app n isolated t state).bodies (missing_readers app kept.session state) bound;
      };
      comes = to.comes;
      silent = refl;
    }

pub term_begun : (app : Shape) → IsProper app → (kept : KeptFlush) (after : KeptSession) (state : SessionState)
    → StandsWholly app kept state → (n : ℕ) → is_observer_at (reader app n) ≡ true → (isolated : Bool) (t : Tree)
    → IsTermOf app t → (bodies : List ℕ) → ComesUntil app n t bodies kept.session after
    → length bodies ≤ (run_statement app n isolated (perform t) state).bodies + missing_readers app kept.session state
term_begun app proper kept after state stands n observer isolated t own bodies comes =
    let i : IsNode app n is_observer = observer_of app n observer in
    term_begins_bounded app proper kept.session after state stands.session n i.node i.is i.kind_is isolated t own.site own.sites own.reads bodies comes

-- ---- outputs

pub record OutputSteps (app : Shape) (kept : KeptFlush) (n : ℕ) (after : KeptSession) (bodies : ℕ) (state : SessionState)
    (r : RunResult) (outcome : Outcome) : Type 0 where
  pub stepped : (before : ℕ) → Stepped app kept (with_output n outcome after kept) before (before + bodies) state r.state r.bodies
  pub comes : outcome ≡ r.run.outcome

-- its last outcome is nothing that a session keeps
last_kept : (n : ℕ) (outcome : Outcome) (state : SessionState) → IsKeptAlike state (with_last n outcome state)
last_kept n outcome state = record {
  values = refl;
  size = state_size state n (record (reader_state state n) { last = Some outcome });
  isolated = same_map (λ (r : ReaderState). r.isolated) first_reader state.readers n (record (reader_state state n) { last = Some outcome }) refl;
  readers = λ m. record {
    dependencies = at_each (λ r. r.dependencies) refl m;
    isolated = at_each (λ r. r.isolated) refl m;
  };
}
  where
    at_each : {A : Type 0} (f : ReaderState → A) → f (record (reader_state state n) { last = Some outcome }) ≡ f (reader_state state n) → (m : ℕ) → f (reader_state (with_last n outcome state) m) ≡ f (reader_state state m)
    at_each f h m =
        sym (get_mapped f first_reader (slice_set state.readers n (record (reader_state state n) { last = Some outcome })) m)
        ∙ ap (λ l. unwrap_or (slice_get l m) (f first_reader)) (same_map f first_reader state.readers n (record (reader_state state n) { last = Some outcome }) h)
        ∙ get_mapped f first_reader state.readers m

-- what is noted of the output's run is noted on both sides
module _ (app : Shape) (kept : KeptFlush) (n : ℕ) (outcome : Outcome) (after : KeptSession) (state : SessionState) (here : n < length kept.outputs) (there : n < length state.readers)
    (shown : (m : ℕ) → (kept_output kept m).shown ≡ (reader_state state m).shown) (last : (m : ℕ) → m ≢ n → (kept_output kept m).last ≡ (reader_state state m).last) where
  abbrev noted : KeptFlush
  noted = with_output n outcome after kept

  abbrev told : SessionState
  told = with_last n outcome state

  kept_is : kept_output noted n ≡ record (kept_output kept n) { last = Some outcome }
  kept_is = ap (λ o. unwrap_or o first_output) (set_here kept.outputs n (record (kept_output kept n) { last = Some outcome }) here)

  kept_others : (m : ℕ) → m ≢ n → kept_output noted m ≡ kept_output kept m
  kept_others m d = ap (λ o. unwrap_or o first_output) (set_there kept.outputs n m (record (kept_output kept n) { last = Some outcome }) d)

  state_is : reader_state told n ≡ record (reader_state state n) { last = Some outcome }
  state_is = state_here state n (record (reader_state state n) { last = Some outcome }) there

  state_others : (m : ℕ) → m ≢ n → reader_state told m ≡ reader_state state m
  state_others m d = state_there state n m (record (reader_state state n) { last = Some outcome }) d

  noted_shown : (m : ℕ) → (kept_output noted m).shown ≡ (reader_state told m).shown
  noted_shown m = elim (eqb_tells m n) [
    | inl p ↦ subst (λ z. (kept_output noted z).shown ≡ (reader_state told z).shown) (sym p.1) (ap (λ (o : KeptOutput). o.shown) kept_is ∙ shown n ∙ ap (λ (r : ReaderState). r.shown) (sym state_is))
    | inr p ↦ ap (λ (o : KeptOutput). o.shown) (kept_others m p.1) ∙ shown m ∙ ap (λ (r : ReaderState). r.shown) (sym (state_others m p.1))
  ]

  noted_last : (m : ℕ) → (kept_output noted m).last ≡ (reader_state told m).last
  noted_last m = elim (eqb_tells m n) [
    | inl p ↦ subst (λ z. (kept_output noted z).last ≡ (reader_state told z).last) (sym p.1) (ap (λ (o : KeptOutput). o.last) kept_is ∙ ap (λ (r : ReaderState). r.last) (sym state_is))
    | inr p ↦ ap (λ (o : KeptOutput). o.last) (kept_others m p.1) ∙ last m p.1 ∙ ap (λ (r : ReaderState). r.last) (sym (state_others m p.1))
  ]

output_noted : (app : Shape) → IsProper app → (kept : KeptFlush) (after : KeptSession) (state : SessionState)
    → StandsWholly app kept state → (n : ℕ) → IsNode app n is_output → (bodies : List ℕ)
    → Brings app running bodies n kept.session after → (outcome : Outcome) → outcome ≡ (kept_reader after n).outcome
    → OutputSteps app kept n after (length bodies) state (output_result n (run_reader app n state)) outcome
output_noted app proper kept after state stands n i bodies brings outcome keeps =
    let ran : ReaderRun = run_reader app n state in
    let with : StandsWith app n after ran.state ran.outcome = output_stands app proper kept.session after state stands.session n i.node i.is i.kind_is bodies brings in
    let bound = output_is_bounded app proper kept.session after state stands.session n i.node i.is i.kind_is bodies brings in
    let alike : IsShownAlike state ran.state = shown_run app n state in
    let comes : outcome ≡ ran.outcome = keeps ∙ with.keeps in
    let told : IsKeptAlike ran.state (with_last n ran.outcome ran.state) = last_kept n ran.outcome ran.state in
    let inside : n < length (readers app) = get_in (readers app) n i.node i.is in
    let here : n < length kept.outputs = subst (λ z. n < z) (sym stands.size) inside in
    let there : n < length ran.state.readers = subst (λ z. n < z) (sym with.stands.consistent.size) inside in
    let shown : (m : ℕ) → (kept_output kept m).shown ≡ (reader_state ran.state m).shown = λ m. stands.shown m ∙ ap (λ (o : KeptOutput). o.shown) (sym (alike.readers m)) in
    let last : (m : ℕ) → m ≢ n → (kept_output kept m).last ≡ (reader_state ran.state m).last = λ m d. stands.last m ∙ ap (λ (o : KeptOutput). o.last) (sym (alike.readers m)) in
    record {
      stepped = λ before. record {
        stands = subst (λ x. StandsWholly app (with_output n x after kept) (with_last n ran.outcome ran.state)) (sym comes) (record {
          session = stands_alike app ran.state (with_last n ran.outcome ran.state) told proper after with.stands;
          size = set_size kept.outputs n (record (kept_output kept n) { last = Some ran.outcome }) ∙ stands.size;
          boards = stands.boards ∙ sym alike.boards;
          shown = noted_shown app kept n ran.outcome after ran.state here there shown last;
          last = noted_last app kept n ran.outcome after ran.state here there shown last;
        });
        bound = within_both before (length bodies) (missing_readers app after (with_last n ran.outcome ran.state)) ran.bodies (missing_readers app kept.session state)
            (subst (λ z. length bodies + z ≤ ran.bodies + missing_readers app kept.session state) (sym (missing_alike app ran.state (with_last n ran.outcome ran.state) told after)) bound);
      };
      comes = comes;
    }

-- `outcome` is what the session keeps of the output
pub output_steps : (app : Shape) → IsProper app → (kept : KeptFlush) (after : KeptSession) (state : SessionState)
    → StandsWholly app kept state → (n : ℕ) → is_output_at (reader app n) ≡ true → (bodies : List ℕ)
    → Brings app running bodies n kept.session after → (outcome : Outcome) → outcome ≡ (kept_reader after n).outcome
    → OutputSteps app kept n after (length bodies) state (make_run app n state) outcome
output_steps app proper kept after state stands n output bodies brings outcome keeps =
    let i : IsNode app n is_output = output_of app n output in
    subst (λ b. OutputSteps app kept n after (length bodies) state (make_by b app n state) outcome) (sym (ap is_observer_at i.is ∙ output_alone i.node i.kind_is))
    (output_noted app proper kept after state stands n i bodies brings outcome keeps)

least_of : (bodies later most : ℕ) → bodies + later ≤ most → bodies ≤ most
least_of bodies later most h = omega (h, arith)

begun_by : (app : Shape) → IsProper app → (kept : KeptFlush) (after : KeptSession) (state : SessionState)
    → StandsWholly app kept state → (n : ℕ) → IsNode app n is_output → (bodies : List ℕ)
    → Brings app running bodies n kept.session after ⊎ Begins app running bodies n kept.session after
    → length bodies ≤ (run_reader app n state).bodies + missing_readers app kept.session state
begun_by app proper kept after state stands n i bodies (inl brings) =
    least_of (length bodies) (missing_readers app after (run_reader app n state).state) ((run_reader app n state).bodies + missing_readers app kept.session state)
    (output_is_bounded app proper kept.session after state stands.session n i.node i.is i.kind_is bodies brings)
begun_by app proper kept after state stands n i bodies (inr begins) = output_begins_bounded app proper kept.session after state stands.session n i.node i.is i.kind_is bodies begins

pub output_begun : (app : Shape) → IsProper app → (kept : KeptFlush) (after : KeptSession) (state : SessionState)
    → StandsWholly app kept state → (n : ℕ) → is_output_at (reader app n) ≡ true → (bodies : List ℕ)
    → Brings app running bodies n kept.session after ⊎ Begins app running bodies n kept.session after
    → length bodies ≤ (make_run app n state).bodies + missing_readers app kept.session state
output_begun app proper kept after state stands n output bodies begins =
    let i : IsNode app n is_output = output_of app n output in
    subst (λ b. length bodies ≤ (make_by b app n state).bodies + missing_readers app kept.session state) (sym (ap is_observer_at i.is ∙ output_alone i.node i.kind_is))
    (begun_by app proper kept after state stands n i bodies begins)

-- ---- writes, and the beginning and the end of an observer's run

follows_any : (app : Shape) (kept : KeptFlush) (session after : KeptSession) (state next : SessionState) → StandsWholly app kept state
    → StandsForState app session next → IsShownAlike state next → missing_readers app session next ≤ missing_readers app kept.session state
    → IsAlike session after → Follows app kept (with_session after kept) state next
follows_any app kept session after state next stands stands_next shown fewer alike = record {
  stands = stands_after app kept after state next stands (alike_stands app session after next stands_next alike) shown;
  missing = subst (λ z. z ≤ missing_readers app kept.session state) (sym (missing_in_any_order app session after alike next)) fewer;
}

pub write_follows : (app : Shape) → IsProper app → (kept : KeptFlush) (after : KeptSession) (state : SessionState)
    → StandsWholly app kept state → (s : ℕ) (x : SourceValue) → IsAlike (write_kept s x kept.session) after
    → Follows app kept (with_session after kept) state (change s x state)
write_follows app proper kept after state stands s x alike =
    follows_any app kept (write_kept s x kept.session) after state (change s x state) stands (write_stands app proper kept.session state stands.session s x) (shown_change s x state)
    (write_is_bounded app proper kept.session state stands.session s x) alike

pub begin_follows : (app : Shape) → IsProper app → (kept : KeptFlush) (after : KeptSession) (state : SessionState)
    → StandsWholly app kept state → (n : ℕ) → is_observer_at (reader app n) ≡ true
    → IsAlike (begin_kept n kept.session) after
    → Follows app kept (with_session after kept) state (with_sources n [] state)
begin_follows app proper kept after state stands n observer alike =
    let i : IsNode app n is_observer = observer_of app n observer in
    follows_any app kept (begin_kept n kept.session) after state (with_sources n [] state) stands (begin_stands app proper kept.session state stands.session n i.node i.is i.kind_is)
    (shown_written n (record (reader_state state n) { dependencies = Some (record { sources = []; changed = false }) }) state refl)
    (begin_is_bounded app proper kept.session state stands.session n i.node i.is i.kind_is) alike

equal_at_most : (a b : ℕ) → a ≡ b → a ≤ b
equal_at_most a b h = omega (h, arith)

pub finish_follows : (app : Shape) (kept : KeptFlush) (after : KeptSession) (state : SessionState)
    → StandsWholly app kept state → IsAlike (finish_kept kept.session) after
    → Follows app kept (with_session after kept) state state
finish_follows app kept after state stands alike =
    follows_any app kept (finish_kept kept.session) after state state stands (finish_stands app kept.session state stands.session) (shown_refl state)
    (equal_at_most (missing_readers app (finish_kept kept.session) state) (missing_readers app kept.session state) (finish_is_bounded app kept.session state)) alike

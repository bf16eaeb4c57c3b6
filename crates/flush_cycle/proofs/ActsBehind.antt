-- What an event term and the statements behind it leave together, and how many terms a reader has at most.
use Rattle.std.proofs.Common.{◌≡◌, ◌≤◌, ℕ, zero, suc, ◌+◌, ◌*◌, Bool, true, false, cond, List, [], ◌∷◌, filter, length, Option, Some, refl, sym, ap, ◌∙◌, subst, arith, append_assoc, append-nil}
use Rattle.std.specs.Prelude.{max, Result, Ok, Err, OnOk, slice_get}
use Rattle.std.proofs.lemmas.Nat.{mul-le}
use Rattle.rx_value.specs.declared.memory.Memory.{Memory}
use Rattle.rx_value.specs.declared.value.Value.{Value}
use Rattle.rx_value.specs.declared.outcome.Outcome.{Outcome}
use Rattle.rx_value.specs.declared.outcome.Outcome.TheVariants.{Val, Stop}
use Rattle.rx_value.specs.Results.{choose}
use Rattle.shiny_json.specs.declared.message.Pair.{Pair}
use Rattle.app_tree.specs.Held.{Held}
use Rattle.app_tree.specs.declared.item.Flags.{Flags}
use Rattle.app_tree.specs.Tree.{Tree, Acts as Block, perform, Node, Shape}
use Rattle.app_tree.specs.Numbering.{readers, reader, is_reader}
use Rattle.app_tree.specs.ObserverTerms.{observer_terms, most_terms, terms}
use Rattle.app_tree.specs.View.{shape_of}
use Rattle.term_eval.specs.Lent.{Lent}
use Rattle.session_model.specs.State.{SessionState}
use Rattle.session_model.specs.Flush.{RunResult}
use Rattle.session_model.specs.Reading.{TermResult}
use Rattle.session_model.specs.Observing.{StatementsResult, bare_result, then_result, result_of_term, with_value_by, read_by_observer, run_statement, run_block, do_on}
use Rattle.session_model.specs.Standing.{StandsWholly, missing_readers}
use Rattle.session_laws.proofs.Journeys.{some_is}
use Rattle.flush_cycle.specs.declared.report.Made.{Made}
use Rattle.flush_cycle.specs.Working.{Working}
use Rattle.flush_cycle.specs.inner.Acting.{MayAct, with_told, Observed, ObservesIn, Observes, IsWithin, Acts, Queues, Runs}
use Rattle.flush_cycle.specs.inner.Observing.{is_left_out, on_behind}
use Rattle.flush_cycle.proofs.Chaining.{stepped_on, queues_chain, queues_none}

abbrev with_messages : Made → List Pair → Made
with_messages made messages = record { runs = made.runs; batch = record { outputs = made.batch.outputs; messages = messages } }

-- ---- statements that are left out

pub acts_left_out : {S : Type 0} (follows : S → S → Type 0) (out : S → List Lent) (n count : ℕ) (flags : Flags) (first : Bool) (block : Block) (x : Value)
    (w : Working) (asker : S) (steps : ℕ) → is_left_out flags first x ≡ true → MayAct n w → follows asker asker → out asker ≡ []
    → Acts follows out n count (do_on (shape_of w.app) n first flags block x) w w asker asker steps steps (Ok Stop)
acts_left_out follows out n count flags first block x w asker steps left act stays none = record {
  app = refl;
  observes = λ state stands.
      let is : do_on (shape_of w.app) n first flags block x state ≡ bare_result Stop state =
      ap (λ b. choose b (bare_result Stop) (run_block (shape_of w.app) n true block) state) left in
      subst (λ r. Observed (shape_of w.app) w w steps steps state r Stop) (sym is)
      (record {
        stepped = record { stands = stands; bound = omega arith };
        comes = refl;
        told = sym (ap (with_messages w.made) (append-nil w.made.batch.messages));
      });
  within = omega arith;
  goes_on = act;
  queues = queues_none w w refl refl;
  succeeds = stays;
  leaves = none;
}

-- ---- the event term, and what is behind it

module _ {S : Type 0} (follows : S → S → Type 0) (out : S → List Lent) (chains : (a b c : S) → follows b a → follows c b → follows c a)
    (n count : ℕ) (flags : Flags) (first : Bool) (e : Tree) (block : Block) (x : Value) (old mid new : Working) (asker asker' asker'' : S)
    (before between after : ℕ)
    (term : Acts follows out n 1 (run_statement (shape_of old.app) n false (perform e)) old mid asker asker' before between (Ok (Val x))) where
  abbrev its_app : Shape
  its_app = shape_of old.app

  abbrev behind : SessionState → StatementsResult
  behind = do_on its_app n first flags block x

  module _ (state : SessionState) (stands : StandsWholly its_app old.kept state) where
    abbrev e_result : TermResult
    e_result = read_by_observer its_app n false e state

    e_observed : Observed its_app old mid before between state (result_of_term e_result) (Val x)
    e_observed = term.observes state stands

    behind_is : on_behind its_app n first flags e block state ≡ then_result (result_of_term e_result) (behind e_result.state)
    behind_is = ap (λ o. with_value_by e_result o (do_on its_app n first flags block)) (sym e_observed.comes)

    behind_observed : (result : Result Outcome Memory) → ObservesIn its_app mid new between after e_result.state (behind e_result.state) result
        → ObservesIn its_app old new before after state (on_behind its_app n first flags e block state) result
    behind_observed (Ok outcome) p =
        subst (λ r. Observed its_app old new before after state r outcome) (sym behind_is)
        (record {
          stepped = stepped_on its_app old.kept mid.kept new.kept before between after state e_result.state (behind e_result.state).state
              e_result.bodies (behind e_result.state).bodies e_observed.stepped p.stepped;
          comes = p.comes;
          told =
              p.told ∙ ap (with_told (behind e_result.state).messages) e_observed.told
              ∙ ap (with_messages old.made) (append_assoc old.made.batch.messages [] (behind e_result.state).messages);
        })
    behind_observed (Err m) p =
        let far = e_observed.stepped.bound in
        subst (λ (r : StatementsResult). after ≤ before + (r.bodies + missing_readers its_app old.kept.session state)) (sym behind_is)
        (let bound : after ≤ before + ((e_result.bodies + (behind e_result.state).bodies) + missing_readers its_app old.kept.session state) = omega (far, p, arith) in bound)

  queues_by : (result : Result Outcome Memory) → OnOk result (Queues mid new) → OnOk result (Queues old new)
  queues_by (Ok outcome) q = queues_chain old mid new term.queues q
  queues_by (Err m) q = tt

  more_times : (m k : ℕ) → m * suc k ≡ m + m * k
  more_times m k = omega arith

  pub acts_behind : (result : Result Outcome Memory)
      → Acts follows out n count (do_on (shape_of mid.app) n first flags block x) mid new asker' asker'' between after result
      → Acts follows out n (suc count) (on_behind its_app n first flags e block) old new asker asker'' before after result
  acts_behind result acts = record {
    app = acts.app ∙ term.app;
    observes = λ state stands.
        let observes : Observes its_app mid new between after behind result =
        subst (λ (h : Held). Observes (shape_of h) mid new between after (do_on (shape_of h) n first flags block x) result) term.app acts.observes in
        behind_observed state stands result (observes (e_result state stands).state (e_observed state stands).stepped.stands);
    within =
        let one = term.within in
        let more : after ≤ between + length (readers its_app) * count = subst (λ (h : Held). IsWithin (shape_of h) count between after) term.app acts.within in
        let all = more_times (length (readers its_app)) count in
        omega (one, more, all, arith);
    goes_on = acts.goes_on;
    queues = queues_by result acts.queues;
    succeeds = chains asker asker' asker'' term.succeeds acts.succeeds;
    leaves = acts.leaves;
  }

-- ---- how many terms

chosen_most : (x : Node) (more : List Node) (i : Node) → ((n : ℕ) → slice_get (filter is_reader more) n ≡ Some i → observer_terms i ≤ most_terms more)
    → (b : Bool) (n : ℕ) → slice_get (cond b (x ∷ filter is_reader more) (filter is_reader more)) n ≡ Some i
    → observer_terms i ≤ max (observer_terms x) (most_terms more)
chosen_most x more i rest true zero h = subst (λ z. observer_terms z ≤ max (observer_terms x) (most_terms more)) (some_is h) (omega arith)
chosen_most x more i rest true (suc n) h = let less = rest n h in omega (less, arith)
chosen_most x more i rest false n h = let less = rest n h in omega (less, arith)

reader_most : (items : List Node) (n : ℕ) (i : Node) → slice_get (filter is_reader items) n ≡ Some i → observer_terms i ≤ most_terms items
reader_most [] n i h = cc
reader_most (x ∷ more) n i h = chosen_most x more i (λ k at. reader_most more k i at) (is_reader x) n h

pub observer_terms_most : (app : Shape) (n : ℕ) (i : Node) → reader app n ≡ Some i → observer_terms i ≤ terms app
observer_terms_most app n i is = reader_most app.items n i is

some_terms : (items : List Node) → 1 ≤ most_terms items
some_terms [] = omega arith
some_terms (i ∷ more) = let rest = some_terms more in omega (rest, arith)

pub one_term : (app : Shape) → 1 ≤ terms app
one_term app = some_terms app.items

-- a run of a reader with fewer terms
pub runs_with_more : {S : Type 0} (follows : S → S → Type 0) (out : S → List Lent) (count more : ℕ) (step : SessionState → RunResult)
    (old new : Working) (asker asker' : S) (before after : ℕ) (result : Result (Option (List ℕ)) Memory) → count ≤ more
    → Runs follows out count step old new asker asker' before after result → Runs follows out more step old new asker asker' before after result
runs_with_more follows out count more step old new asker asker' before after result less runs = record {
  app = runs.app;
  runs = runs.runs;
  within =
      let within = runs.within in
      let times : length (readers (shape_of old.app)) * count ≤ length (readers (shape_of old.app)) * more = mul-le (length (readers (shape_of old.app))) count (length (readers (shape_of old.app))) more (omega arith) less in
      omega (within, times, arith);
  goes_on = runs.goes_on;
  queues = runs.queues;
  succeeds = runs.succeeds;
  leaves = runs.leaves;
}

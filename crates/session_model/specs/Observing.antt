-- A run of an observer: its statements in their order.
use Rattle.std.specs.Prelude.{ℕ, ◌+◌, ◌-◌, Bool, true, false, not, ◌&&◌, ◌||◌, List, [], ◌∷◌, ◌++◌, Option, Some, None, slice_get, codes}
use Rattle.rx_value.specs.declared.value.Value.{Value}
use Rattle.rx_value.specs.declared.value.Value.TheVariants as v
use Rattle.rx_value.specs.declared.outcome.Outcome.{Outcome}
use Rattle.rx_value.specs.declared.outcome.Outcome.TheVariants.{Val, Fail, Stop}
use Rattle.rx_value.specs.declared.failure.Failure.TheVariants.{NotACondition}
use Rattle.rx_value.specs.Failure.{failure_outcome}
use Rattle.rx_value.specs.Functions.{is_null}
use Rattle.rx_value.specs.declared.source.TaskView.TheVariants as view
use Rattle.rx_value.specs.declared.source.SourceValue.TheVariants.{Plain}
use Rattle.rx_value.specs.Results.{choose}
use Rattle.shiny_json.specs.declared.message.Pair.{Pair}
use Rattle.app_tree.specs.declared.term.Read.{Read}
use Rattle.app_tree.specs.declared.term.Read.TheVariants as read
use Rattle.app_tree.specs.declared.item.Flags.{Flags}
use Rattle.app_tree.specs.Tree.{Tree, Trees, no_trees, tree, Act, set, invoke, update, freeze, perform, branch, branch_else, Acts, no_acts, act, Node, observe, on, Shape}
use Rattle.app_tree.specs.Numbering.{name_of, reader, declared_sources}
use Rattle.app_tree.specs.Current.{value_at}
use Rattle.app_tree.specs.Fresh.{union, sources_of_read}
use Rattle.task_board.specs.declared.job.Invoked.{Invoked}
use Rattle.task_board.specs.declared.job.Invoked.TheVariants.{Started, Queued, QueueFull}
use Rattle.task_board.specs.Board.{AfterInvoke, board_at, invocation_result}
use Rattle.session_model.specs.declared.state.Dependencies.{Dependencies}
use Rattle.session_model.specs.State.{SessionState, reader_state, with_reader, sources_in, with_sources, has_run}
use Rattle.session_model.specs.Change.{change, frozen_value}
use Rattle.session_model.specs.Reading.{TermResult, read_term}
use Rattle.session_model.specs.Run.{passing_manner, visit_expression}
use Rattle.session_model.specs.Tasks.{first_task, with_board, see_task}

-- what statements have come to: the state, how many bodies were run, the input messages, and an outcome: a value where
-- the run goes on, and else the failure at which it ended. What was written before that stays
pub record StatementsResult : Type 0 where
  pub state : SessionState
  pub bodies : ℕ
  pub messages : List Pair
  pub outcome : Outcome

-- ---- what the observer depends on

-- of an expression that is read all that it depends on itself
abbrev pub sources_reached : Shape → SessionState → Read → List ℕ
sources_reached app state (read.Expr m) = sources_in (reader_state state m).dependencies
sources_reached app state r = sources_of_read app [] r

abbrev pub more_sources : List ℕ → Option Dependencies → Option Dependencies
more_sources sources None = None
more_sources sources (Some d) = Some (record d { sources = union d.sources sources })

-- observer n has reached these reads, beside what it had reached before
abbrev pub with_reads : Shape → ℕ → List Read → SessionState → SessionState
with_reads app n [] state = state
with_reads app n (r ∷ more) state =
    with_reads app n more
    (with_reader n
    (record (reader_state state n) {
      dependencies = more_sources (sources_reached app state r) (reader_state state n).dependencies;
    })
    state)

-- the reads of a term count, unless it is isolated, as the statements of an `on` are
abbrev pub with_reads_counted : Shape → ℕ → Bool → TermResult → TermResult
with_reads_counted app n true e = e
with_reads_counted app n false e = record e { state = with_reads app n e.outside e.state }

-- ---- one statement after another

abbrev pub bare_result : Outcome → SessionState → StatementsResult
bare_result outcome state = record { state = state; bodies = 0; messages = []; outcome = outcome }

-- the statement is done
abbrev pub done_result : SessionState → StatementsResult
done_result state = bare_result (Val v.Null) state

abbrev pub then_result : StatementsResult → StatementsResult → StatementsResult
then_result a next = record {
  state = next.state;
  bodies = a.bodies + next.bodies;
  messages = a.messages ++ next.messages;
  outcome = next.outcome;
}

abbrev pub then_statements_by : StatementsResult → Outcome → (SessionState → StatementsResult) → StatementsResult
then_statements_by a (Val x) next = then_result a (next a.state)
then_statements_by a _ next = a

-- goes on, or ends at a failure
abbrev pub then_statements : StatementsResult → (SessionState → StatementsResult) → StatementsResult
then_statements a next = then_statements_by a a.outcome next

abbrev pub result_of_term : TermResult → StatementsResult
result_of_term e = record { state = e.state; bodies = e.bodies; messages = []; outcome = e.outcome }

abbrev pub with_value_by : TermResult → Outcome → (Value → SessionState → StatementsResult) → StatementsResult
with_value_by e (Val x) next = then_result (result_of_term e) (next x e.state)
with_value_by e _ next = result_of_term e

-- goes on with a term's value
abbrev pub with_value : TermResult → (Value → SessionState → StatementsResult) → StatementsResult
with_value e next = with_value_by e e.outcome next

-- ---- what the statements do

abbrev pub name_of_source : Option Node → List ℕ
name_of_source None = []
name_of_source (Some i) = name_of i

-- the name of the input of source number s
abbrev pub input_name : Shape → ℕ → List ℕ
input_name app s = name_of_source (slice_get (declared_sources app.items) s)

-- the client is told a value for an input, which stays as it is until the client sends it
abbrev pub tell_input : Shape → ℕ → Value → SessionState → StatementsResult
tell_input app s x state = record (done_result state) { messages = record { name = input_name app s; value = x } ∷ [] }

-- a task that is started runs; on one that runs the invocation waits; and where as many wait as may, the statement
-- fails
abbrev pub after_invoke : Shape → ℕ → AfterInvoke → Invoked → SessionState → StatementsResult
after_invoke app t after (Started job) state =
    done_result (with_board t after.board (see_task app t view.Running state))
after_invoke app t after Queued state = done_result (with_board t after.board state)
after_invoke app t after QueueFull state = bare_result (Fail (codes "task queue is full")) state

abbrev pub invoke_task : Shape → ℕ → List Value → SessionState → StatementsResult
invoke_task app t args state =
    after_invoke app t
    (invocation_result t args (board_at state.boards t))
    (invocation_result t args (board_at state.boards t)).answer
    state

-- the block that the condition chooses
abbrev pub choose_block : (SessionState → StatementsResult) → (SessionState → StatementsResult) → Value → SessionState
    → StatementsResult
choose_block block other (v.Bool true) state = block state
choose_block block other (v.Bool false) state = other state
choose_block block other _ state = bare_result (failure_outcome NotACondition) state

-- ---- statements of observer n; `isolated` says that what they read does not count

abbrev pub read_by_observer : Shape → ℕ → Bool → Tree → SessionState → TermResult
read_by_observer app n isolated t state =
    with_reads_counted app n isolated (read_term app (passing_manner (visit_expression app)) t [] state)

-- goes on with the values of all the terms, behind those that are there
abbrev pub with_values : Shape → ℕ → Bool → Trees → List Value → (List Value → SessionState → StatementsResult)
    → SessionState → StatementsResult
with_values app n isolated no_trees done next state = next done state
with_values app n isolated (tree t more) done next state =
    with_value (read_by_observer app n isolated t state) (λ x. with_values app n isolated more (done ++ x ∷ []) next)

abbrev mutual
  pub run_statement : Shape → ℕ → Bool → Act → SessionState → StatementsResult
  run_statement app n isolated (set s t) state =
      with_value (read_by_observer app n isolated t state) (λ x after. done_result (change s (Plain x) after))
  run_statement app n isolated (invoke s ts) state =
      with_values app n isolated ts [] (invoke_task app (s - first_task app)) state
  run_statement app n isolated (update s t) state =
      with_value (read_by_observer app n isolated t state) (tell_input app s)
  run_statement app n isolated (freeze s) state = done_result (change s (frozen_value (value_at state.values s)) state)
  run_statement app n isolated (perform t) state = result_of_term (read_by_observer app n isolated t state)
  run_statement app n isolated (branch t block) state =
      with_value (read_by_observer app n isolated t state) (choose_block (run_block app n isolated block) done_result)
  run_statement app n isolated (branch_else t block other) state =
      with_value (read_by_observer app n isolated t state)
      (choose_block (run_block app n isolated block) (run_block app n isolated other))

  pub run_block : Shape → ℕ → Bool → Acts → SessionState → StatementsResult
  run_block app n isolated no_acts state = done_result state
  run_block app n isolated (act a more) state =
      then_statements (run_statement app n isolated a state) (run_block app n isolated more)

-- ---- the run

-- what `on` does with the value of its event term: at NULL it stops, unless that is allowed, and it leaves out its
-- first run where it ignores that; what its statements read does not count
abbrev pub do_on : Shape → ℕ → Bool → Flags → Acts → Value → SessionState → StatementsResult
do_on app n first flags block x state =
    choose (is_null x && not flags.allow_null || first && flags.ignore_init)
    (bare_result Stop)
    (run_block app n true block)
    state

abbrev pub observe_node : Shape → ℕ → Bool → Option Node → SessionState → StatementsResult
observe_node app n first (Some (observe name priority block)) state = run_block app n false block state
observe_node app n first (Some (on name priority flags e block)) state =
    with_value (read_by_observer app n false e state) (do_on app n first flags block)
observe_node app n first _ state = done_result state

-- observer n runs: at first it depends on nothing
abbrev pub run_observer : Shape → ℕ → SessionState → StatementsResult
run_observer app n state =
    observe_node app n (not (has_run (reader_state state n))) (reader app n) (with_sources n [] state)

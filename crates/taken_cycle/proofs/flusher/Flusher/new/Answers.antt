use Rattle.std.proofs.Common.{rules, ◌≡◌, List, [], ◌∙◌, ap, sym, subst, map}
use Rattle.app_tree.specs.View.{node_of, shape_of}
use Rattle.app_tree.specs.Numbering.{readers, starting_values}
use Rattle.task_board.specs.Board.{TaskBoard}
use Rattle.session_model.specs.State.{SessionState, first_readers}
use Rattle.taken_cycle.specs.State.{AreThawed}
use Rattle.taken_cycle.proofs.Building.{no_boards}
use Rattle.taken_cycle.proofs.Thawing.{starting_thawed}
use Rattle.taken_cycle.proofs.flusher.Flusher.new.Goals as goal

pub invariant_of-result : goal.invariant_of-result
invariant_of-result c = (c.requires, subst AreThawed (sym c.in_ok-values.ensures) (starting_thawed (map node_of c.as_slice.result.now)))

pub returns-clause-state : goal.returns-clause-state
returns-clause-state c =
    let app = shape_of c.args.app.value in
    let values : c.in_ok-values.values.items ≡ starting_values app.items = search rules in
    let states : c.in_ok-readers.readers.items ≡ first_readers (readers app) = search rules in
    let of_boards : List TaskBoard → SessionState = λ boards. record { values = starting_values app.items; readers = first_readers (readers app); boards = boards } in
    (λ i. record { values = values i; readers = states i; boards = [] }) ∙ ap of_boards (sym (no_boards app.items c.requires))

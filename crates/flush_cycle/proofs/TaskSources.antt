-- A task by its number: its source, and its board.
use Rattle.std.proofs.Common.{◌≡◌, ◌≤◌, ◌<◌, ℕ, zero, suc, ◌+◌, List, [], ◌∷◌, ◌++◌, filter, length, Some, slice_get, arith, length-append}
use Rattle.app_tree.specs.Held.{Held}
use Rattle.app_tree.specs.View.{shape_of}
use Rattle.app_tree.specs.Tree.{Node, Shape}
use Rattle.app_tree.specs.Numbering.{is_input, is_value, is_task, declared_sources, starting_values}
use Rattle.app_tree.specs.declared.limits.TheConstants.{ITEM_LIMIT}
use Rattle.app_tree.proofs.FewItems.{few_items}
use Rattle.app_tree.proofs.SortLaws.{sources_counted, declared_counted, declared_within}
use Rattle.app_laws.specs.Proper.{IsProper}
use Rattle.session_model.specs.Tasks.{first_task}
use Rattle.task_board.specs.declared.job.Invocation.{Invocation}
use Rattle.task_board.specs.Board.{TaskBoard, board_at}
use Rattle.task_jobs.specs.FitsApp.{IsTaskOf}

among_declared : (items : List Node) → length (declared_sources items) ≡ length (filter is_input items) + length (filter is_value items) + length (filter is_task items)
among_declared items =
    let front = length-append (filter is_input items) (filter is_value items) in
    let all = length-append (filter is_input items ++ filter is_value items) (filter is_task items) in
    omega (front, all, arith)

-- it is one of the app's own
pub task_source : (app : Shape) (t : ℕ) → t < length (filter is_task app.items) → first_task app + t < length (starting_values app.items)
task_source app t inside =
    let declared = among_declared app.items in
    let all = sources_counted app.items in
    omega (inside, declared, all, arith)

-- and its number is small
pub task_number : (held : Held) → IsProper (shape_of held) → (t : ℕ) → t < length (filter is_task (shape_of held).items) → first_task (shape_of held) + t ≤ ITEM_LIMIT
task_number held proper t inside =
    let declared = among_declared (shape_of held).items in
    let sorted = declared_counted (shape_of held).items in
    let within = declared_within held.items in
    let few = few_items held proper.well_formed in
    omega (inside, declared, sorted, within, few, arith)

pub task_within : (items : List Node) (t count : ℕ) → IsTaskOf count (slice_get items t) → t < length items
task_within [] t count is = absurd is
task_within (i ∷ more) zero count is = omega arith
task_within (i ∷ more) (suc t) count is = let inside = task_within more t count is in omega (inside, arith)

-- a task that runs has a board
pub board_within : (boards : List TaskBoard) (t : ℕ) (i : Invocation) → (board_at boards t).running ≡ Some i → t < length boards
board_within [] t i runs = absurd cc
board_within (b ∷ boards) zero i runs = omega arith
board_within (b ∷ boards) (suc t) i runs = let inside = board_within boards t i runs in omega (inside, arith)

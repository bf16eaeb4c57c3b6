use Rattle.std.proofs.Common.{◌≡◌, IfOk, map, replicate, ap, ◌∙◌, subst}
use Rattle.app_tree.specs.View.{node_of}
use Rattle.task_board.specs.Board.{idle}
use Rattle.flush_cycle.proofs.FirstParts.{boards_first}
use Rattle.flush_cycle.proofs.starting.boards.Goals as goal

pub returns : goal.returns
returns c =
    subst (λ z. IfOk c.new.result (λ boards. boards ≡ z))
    (ap (λ k. replicate k idle) c.task_count.ensures.value ∙ boards_first (map node_of c.args.app.now.items)) c.new.ensures

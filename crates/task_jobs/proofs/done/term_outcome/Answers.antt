use Rattle.std.proofs.Common.{◌≡◌, ◌∙◌, sym, Some, None}
use Rattle.app_tree.specs.declared.term.Read.TheVariants.{Expr}
use Rattle.app_tree.specs.View.{tree_of}
use Rattle.app_tree.specs.Evaluate.{evaluate}
use Rattle.app_tree.specs.Tasks.{nothing_read}
use Rattle.task_jobs.proofs.NothingWanted.{nothing_wanted}
use Rattle.task_jobs.proofs.done.term_outcome.Goals as goal

-- a task's body wants nothing
pub unreachable-requires : goal.unreachable-requires
unreachable-requires c =
    let none = nothing_wanted (evaluate (tree_of c.args.body.now) nothing_read c.args.args.now).asked in
    let wanted : None ≡ Some (Expr c.in-Wants.field-0) = sym none ∙ c.in-Wants.ensures.gives.0 in
    absurd cc

use Rattle.std.proofs.Common.{◌≡◌, ◌∙◌, sym, Some, None}
use Rattle.app_tree.specs.declared.term.Read.TheVariants.{Expr}
use Rattle.app_tree.specs.View.{tree_of}
use Rattle.app_tree.specs.Evaluate.{evaluate}
use Rattle.fresh_eval.specs.inner.Answering.{answers_by}
use Rattle.fresh_eval.proofs.Evaluations.{nothing_wanted}
use Rattle.fresh_eval.proofs.evaluating.term_outcome.Goals as goal

-- a first run wants nothing
pub unreachable-requires : goal.unreachable-requires
unreachable-requires c =
    let reading = c.args.reading.now in
    let none = nothing_wanted reading.sources.now reading.known.now reading.ignored
    (evaluate (tree_of c.args.term.now) (answers_by reading.sources.now reading.known.now reading.ignored) c.new.result).asked in
    let wanted : None ≡ Some (Expr c.in-Wants.field-0) = sym none ∙ c.in-Wants.ensures.gives.0 in
    absurd cc

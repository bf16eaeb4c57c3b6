-- Worked examples of evaluations that stop at a wanted read.
use Rattle.std.specs.Prelude.{◌≡◌, ◌==◌, pos, [], ◌∷◌, Option, Some, None, if◌then◌else◌}
use Rattle.rx_value.specs.declared.operator.BinOp.TheVariants as op
use Rattle.rx_value.specs.declared.value.Value.TheVariants.{Int}
use Rattle.rx_value.specs.declared.outcome.Outcome.{Outcome}
use Rattle.rx_value.specs.declared.outcome.Outcome.TheVariants.{Val, Stop}
use Rattle.app_tree.specs.declared.term.Operator.TheVariants.{Strict}
use Rattle.app_tree.specs.declared.term.Read.{Read}
use Rattle.app_tree.specs.declared.term.Read.TheVariants as read
use Rattle.app_tree.specs.Tree.{Tree, get, isolate, binary}
use Rattle.app_tree.specs.Evaluate.{reads, enters, leaves, Evaluation, evaluate}
use Rattle.app_tree.specs.Wanted.{Answering, completed, first_wanted, up_to_wanted}

-- each source is 7, and expression 0 is 5; every other expression is wanted, and each site is evaluated
abbrev pub knows_one : Answering
knows_one = record { read = answer; site = λ site. None }
  where
    answer : Read → Option Outcome
    answer (read.Expr m) = if m == 0 then Some (Val (Int (pos 5))) else None
    answer _ = Some (Val (Int (pos 7)))

abbrev pub plus : Tree → Tree → Tree
plus a b = binary (Strict op.Add) a b

-- `e0() + isolate(e1()) + e2()`, where `e1` and `e2` are wanted
abbrev pub wants_two : Evaluation
wants_two = evaluate (plus (plus (get (read.Expr 0)) (isolate 0 (get (read.Expr 1)))) (get (read.Expr 2))) (completed knows_one) []

-- the first one is that of the site
abbrev pub WantsTheFirst : Type 0
WantsTheFirst = first_wanted knows_one wants_two.asked ≡ Some (read.Expr 1)

-- nothing behind it is asked, and the site isn't left
abbrev pub AsksUpToIt : Type 0
AsksUpToIt = up_to_wanted knows_one wants_two.asked ≡ reads (read.Expr 0) ∷ enters 0 ∷ reads (read.Expr 1) ∷ []

-- the evaluation that stands for it leaves the site, as at any failure
abbrev pub StopsThere : Type 0
StopsThere = wants_two.asked ≡ reads (read.Expr 0) ∷ enters 0 ∷ reads (read.Expr 1) ∷ leaves 0 Stop ∷ []

-- `e0() + input` wants nothing, and is 12
abbrev pub wants_none : Evaluation
wants_none = evaluate (plus (get (read.Expr 0)) (get (read.Input 0))) (completed knows_one) []

abbrev pub WantsNothing : Type 0
WantsNothing = first_wanted knows_one wants_none.asked ≡ None

abbrev pub ComesToItsValue : Type 0
ComesToItsValue = wants_none.outcome ≡ Val (Int (pos 12))

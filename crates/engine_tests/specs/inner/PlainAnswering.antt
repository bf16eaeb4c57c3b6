-- The answers of the tests' own reader.
use Rattle.std.specs.Prelude.{Option, Some, None, pos}
use Rattle.rx_value.specs.declared.value.Value.TheVariants.{Int}
use Rattle.rx_value.specs.declared.outcome.Outcome.{Outcome}
use Rattle.rx_value.specs.declared.outcome.Outcome.TheVariants.{Val, Stop}
use Rattle.app_tree.specs.declared.term.Read.{Read}
use Rattle.app_tree.specs.declared.term.Read.TheVariants as read
use Rattle.app_tree.specs.Wanted.{Answering}

-- an input is its number, an expression has to be run first, and what else is read has stopped
abbrev pub plain_answer : Read → Option Outcome
plain_answer (read.Input s) = Some (Val (Int (pos s)))
plain_answer (read.Expr m) = None
plain_answer r = Some Stop

-- each isolated site is evaluated
abbrev pub plain_answering : Answering
plain_answering = record { read = plain_answer; site = λ site. None }

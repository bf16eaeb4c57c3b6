-- How an evaluation ends early.
use Rattle.std.specs.Prelude.{◌≡◌, ⊤, Result, Ok, Err}
use Rattle.rx_value.specs.declared.value.Value.{Value}
use Rattle.rx_value.specs.declared.outcome.Outcome.{Outcome}
use Rattle.rx_value.specs.declared.outcome.Outcome.TheVariants as o
use Rattle.term_eval.specs.declared.ending.Halt.{Halt}
use Rattle.term_eval.specs.declared.ending.Halt.TheVariants as h
use Rattle.term_eval.specs.declared.ending.Early.{Early}
use Rattle.term_eval.specs.declared.ending.Early.TheVariants as early

abbrev pub halted_outcome : Halt → Outcome
halted_outcome (h.Fail t) = o.Fail t
halted_outcome h.Stop = o.Stop
halted_outcome h.Cancel = o.Cancel
halted_outcome h.Running = o.Running

-- the result is this outcome, unless memory is wanting
abbrev pub Comes : Outcome → Result Value Early → Type 0
Comes outcome (Ok x) = outcome ≡ o.Val x
Comes outcome (Err (early.Halted h)) = outcome ≡ halted_outcome h
Comes outcome (Err (early.Wants m)) = ⊥
Comes outcome (Err early.Memory) = ⊤

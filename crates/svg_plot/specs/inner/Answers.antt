-- What a call answers that writes a text of a limited length.
use Rattle.std.specs.Prelude.{◌≡◌, ℕ, ◌<◌, List, ◌++◌, length, MatchResult, Option, Some, None, Result, IfSome}
use Rattle.rx_value.specs.declared.limits.TheConstants.{TEXT_LIMIT}
use Rattle.rx_value.specs.declared.failure.Failure.{Failure}
use Rattle.rx_value.specs.declared.failure.Failure.TheVariants.{TextTooLong}
use Rattle.svg_plot.specs.declared.error.PlotError.{PlotError}
use Rattle.svg_plot.specs.declared.error.PlotError.TheVariants.{Failed, Memory}

-- what an error refuses; None for want of memory
abbrev pub refusal : PlotError → Option Failure
refusal (Failed failure) = Some failure
refusal Memory = None

-- the error says that the whole would be too long, unless it is want of memory
abbrev pub IsTooLongOrMemory : List ℕ → PlotError → Type 0
IsTooLongOrMemory whole e = IfSome (refusal e) (λ failure. (failure ≡ TextTooLong) × (TEXT_LIMIT < length whole))

-- a call puts a piece at the end of a text, from old to new, unless it stops early
abbrev pub Writes : List ℕ → List ℕ → List ℕ → Result (Unit {0}) PlotError → Type 0
Writes old piece new answer = MatchResult answer (λ _. new ≡ old ++ piece) (IsTooLongOrMemory (old ++ piece))

use Rattle.std.proofs.Common.{◌≡◌, ◌≤◌, drop}
use Rattle.rx_value.specs.declared.limits.TheConstants.{GREATEST_NUMBER}
use Rattle.app_tokens.specs.Scan.{value_after}
use Rattle.app_tokens.proofs.piece.number.Given as goal

abbrev pub invariant-loop-digit : goal.invariant-loop-digit
invariant-loop-digit l =
    record {
      spelled : value_after l.value (drop l.digit-index l.digits) ≡ value_after 0 l.digits;
      in_range : l.value ≤ GREATEST_NUMBER;
    }

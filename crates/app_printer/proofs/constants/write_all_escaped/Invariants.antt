use Rattle.std.proofs.Common.{◌≡◌, ◌++◌, encode_utf8_all}
use Rattle.app_printer.specs.Canonical.{escaped}
use Rattle.app_printer.proofs.constants.write_all_escaped.Given as goal

abbrev pub invariant-loop-character : goal.invariant-loop-character
invariant-loop-character l = l.out ≡ l.initial.out ++ escaped (encode_utf8_all l.yielded)

use Rattle.std.proofs.Common.{arith}
use Rattle.std.proofs.lemmas.Bool.Decides.{nat_tests}
use Rattle.std.proofs.lemmas.Grind.{common_steps}
use Rattle.app_printer.proofs.Escapes.{escaped-encode}
use Rattle.app_printer.proofs.constants.write_escaped.Goals as goal

pub returns-in_default : goal.returns-in_default
returns-in_default c = grind (arith, nat_tests, common_steps, escaped-encode)

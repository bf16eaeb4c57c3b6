use Rattle.std.proofs.Common.{◌≡◌, ◌++◌, drop}
use Rattle.session_model.specs.WrittenLines.{send_lines}
use Rattle.shiny_main.proofs.session.push_sends.Given as goal

abbrev pub invariant-loop-text : goal.invariant-loop-text
invariant-loop-text l = l.output ++ send_lines l.label (drop l.text-index l.texts) ≡ l.initial.output ++ send_lines l.label l.texts

use Rattle.std.proofs.Common.{◌≡◌, ◌≤◌, ◌+◌, ◌-◌, [], length}
use denote.Text.{Utf8}
use denote.Shadow.{shadow}
use Rattle.app_tokens.specs.Scan.{text_from}
use Rattle.app_tokens.proofs.text.text.Given as goal

-- the rest gives with the value so far what the whole inside gives
abbrev pub invariant-loop-value : goal.invariant-loop-value
invariant-loop-value l =
    record {
      utf8 : shadow (Utf8 l.rest);
      within : length l.rest ≤ length l.inside;
      said : text_from l.whole l.quote (l.quote + 1 + (length l.inside - length l.rest)) l.value l.rest
          ≡ text_from l.whole l.quote (l.quote + 1) [] l.inside;
    }

abbrev pub decreases-loop-value : goal.decreases-loop-value
decreases-loop-value l = length l.rest

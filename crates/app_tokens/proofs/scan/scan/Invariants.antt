use Rattle.std.proofs.Common.{◌≡◌, ◌≤◌, ◌-◌, length}
use denote.Text.{Utf8}
use denote.Shadow.{shadow}
use Rattle.app_tokens.specs.Scan.{tokens_from}
use Rattle.app_tokens.proofs.Pieces.{joined}
use Rattle.app_tokens.proofs.scan.scan.Given as goal

-- the tokens so far and those of the rest are the tokens of the text
abbrev pub invariant-loop-rest : goal.invariant-loop-rest
invariant-loop-rest l =
    record {
      utf8 : shadow (Utf8 l.rest);
      within : length l.rest ≤ length l.text;
      said : joined l.tokens.items (tokens_from l.whole 0 (length l.text - length l.rest) l.rest)
          ≡ tokens_from l.whole 0 0 l.text;
    }

abbrev pub decreases-loop-rest : goal.decreases-loop-rest
decreases-loop-rest l = length l.rest

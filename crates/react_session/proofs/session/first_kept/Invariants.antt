use Rattle.std.proofs.Common.{◌≡◌}
use Rattle.std.specs.Prelude.{replicate}
use Rattle.react_session.specs.Seen.{blank}
use Rattle.react_session.proofs.session.first_kept.Given as goal

abbrev pub invariant-loop-reader : goal.invariant-loop-reader
invariant-loop-reader l = l.kept.items ≡ replicate l._reader blank

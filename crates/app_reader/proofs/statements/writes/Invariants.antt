use Rattle.std.proofs.Common.{◌≤◌, length}
use Rattle.app_reader.specs.Statements.{is_write_next, further_write_at, writes_at}
use Rattle.app_reader.specs.inner.View.{deeds_of}
use Rattle.app_reader.specs.inner.Loop.{Leads}
use Rattle.app_reader.proofs.statements.writes.Given as goal

abbrev pub invariant-writes : goal.invariant-writes
invariant-writes l = record {
  leads : Leads (λ b. b.1) (λ b. is_write_next b.1) further_write_at (deeds_of l.writes, l.reader) (writes_at l.fn.reader);
  shorter : length l.reader.tokens ≤ length l.fn.reader.tokens;
}

abbrev pub decreases-writes : goal.decreases-writes
decreases-writes l = length l.reader.tokens

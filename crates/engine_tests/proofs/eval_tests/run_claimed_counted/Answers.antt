use Rattle.std.specs.Prelude.{map}
use Rattle.term_eval.specs.Tickets.{lent_for}
use Rattle.engine_tests.proofs.LeavesGivenUp.{alone_is_out}
use Rattle.engine_tests.proofs.eval_tests.run_claimed_counted.Goals as goal

pub abandon-requires : goal.abandon-requires
abandon-requires g c =
    alone_is_out (lent_for c.in-Go.leave.key) (map lent_for c.new-asker.result.claimed) (map lent_for c.claim.new.self.claimed)
    c.new-asker.ensures.none_out c.in-Go.ensures.gives.1

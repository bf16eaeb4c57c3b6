use Rattle.engine_tests.proofs.LeavesGivenUp.{alone_is_out, alone_given_up}
use Rattle.engine_tests.proofs.asker_tests.give_up.Goals as goal

pub abandon-requires : goal.abandon-requires
abandon-requires g c =
    alone_is_out (g.A.Asker.lent c.in-Go.leave) (g.A.Asker.out c.args.asker.now) (g.A.Asker.out c.claim.new.self) c.requires c.in-Go.ensures.gives.1

pub returns-in-Go : goal.returns-in-Go
returns-in-Go g c =
    alone_given_up (g.A.Asker.lent c.in-Go.leave) (g.A.Asker.out c.args.asker.now) (g.A.Asker.out c.claim.new.self) _
    c.requires c.in-Go.ensures.gives.1 c.abandon.ensures.back

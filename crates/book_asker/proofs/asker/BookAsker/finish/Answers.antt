use Rattle.book_asker.proofs.InFlight.{none_in_flight}
use Rattle.book_asker.proofs.asker.BookAsker.finish.Goals as goal

pub returns-clause-at_rest : goal.returns-clause-at_rest
returns-clause-at_rest c = record { keyed = c.args.self.keyed; none_in_flight = none_in_flight c.args.self.book.now.in_flight c.requires }

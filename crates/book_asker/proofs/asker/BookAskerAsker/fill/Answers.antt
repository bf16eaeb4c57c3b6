use Rattle.std.proofs.Common.{map, sym, ap, ◌∙◌}
use Rattle.app_tree.specs.View.{shape_of}
use Rattle.book_asker.specs.Leaves.{lent_of}
use Rattle.book_asker.proofs.InFlight.{number_out-leaves, without-leaves}
use Rattle.book_asker.proofs.Kept.{keyed_filled, flight_filled, owned_removed}
use Rattle.book_asker.proofs.asker.BookAskerAsker.fill.Goals as goal

pub fill-filled-requires : goal.fill-filled-requires
fill-filled-requires c = sym (number_out-leaves c.args.leave.key c.args.self.now.book.now.in_flight) ∙ c.requires.out

pub invariant_of-self : goal.invariant_of-self
invariant_of-self c =
    let a = c.args.self.now in
    let after = c.fill-filled.new.self in
    record {
      keyed = keyed_filled (shape_of a.app.now) a.book.now after c.args.leave.key 0 c.args.got.now c.fill-filled.result a.keyed c.requires.keyed c.fill-filled.ensures;
      owned = owned_removed a.book.now after c.args.leave.key 0 a.owned (flight_filled a.book.now after c.args.leave.key 0 c.args.got.now c.fill-filled.result c.fill-filled.ensures);
    }

pub returns-clause-back : goal.returns-clause-back
returns-clause-back c =
    let s = c.args.self.now.book.now in
    ap (map lent_of) (flight_filled s c.fill-filled.new.self c.args.leave.key 0 c.args.got.now c.fill-filled.result c.fill-filled.ensures) ∙ sym (without-leaves c.args.leave.key s.in_flight)

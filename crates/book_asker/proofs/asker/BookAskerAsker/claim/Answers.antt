use Rattle.std.proofs.Common.{sym, ap, ◌∙◌}
use Rattle.app_tree.specs.View.{shape_of}
use Rattle.book_asker.specs.Keyed.{IsKeyed}
use Rattle.book_asker.specs.Leaves.{leaves_out, IsOwnedBy}
use Rattle.book_asker.proofs.InFlight.{number_out-leaves}
use Rattle.book_asker.proofs.Kept.{keyed_claimed, owned_claimed, mine_flies, given_up, claimed_or_given_up, never_busy}
use Rattle.book_asker.proofs.asker.BookAskerAsker.claim.Goals as goal

pub invariant_of-self : goal.invariant_of-self
invariant_of-self c =
    let a = c.args.self.now in
    record {
      keyed = keyed_claimed (shape_of a.app.now) a.book.now c.claim.new.self c.args.key.now 0 c.claim.result a.keyed c.claim.ensures;
      owned = owned_claimed a.book.now c.claim.new.self c.args.key.now 0 c.claim.result a.owned c.claim.ensures;
    }

pub invariant_of-self-in-Mine : goal.invariant_of-self-in-Mine
invariant_of-self-in-Mine c =
    let a = c.args.self.now in
    let s = a.book.now in
    let t = c.claim.new.self in
    let u = c.leave_of.new.book in
    let k = c.args.key.now in
    let app = shape_of a.app.now in
    let back = given_up s t u k 0 c.claim.result c.claim.ensures c.in-Mine.is in
    record {
      keyed = claimed_or_given_up (IsKeyed app) s t u k c.leave_of.result back c.leave_of.ensures.some c.leave_of.ensures.none a.keyed (keyed_claimed app s t k 0 c.claim.result a.keyed c.claim.ensures);
      owned = claimed_or_given_up (IsOwnedBy 0) s t u k c.leave_of.result back c.leave_of.ensures.some c.leave_of.ensures.none a.owned (owned_claimed s t k 0 c.claim.result a.owned c.claim.ensures);
    }

pub leave_of-requires : goal.leave_of-requires
leave_of-requires c = mine_flies c.args.self.now.book.now c.claim.new.self c.args.key.now 0 c.claim.result c.claim.ensures c.in-Mine.is

pub unreachable-requires : goal.unreachable-requires
unreachable-requires c =
    let s = c.args.self.now.book.now in
    never_busy s c.claim.new.self c.args.key.now 0 c.in-Busy.field-0 c.claim.result c.claim.ensures c.in-Busy.is (sym (number_out-leaves c.args.key.now s.in_flight) ∙ c.requires)

pub returns-in-None-clause-asks : goal.returns-in-None-clause-asks
returns-in-None-clause-asks c = given_up c.args.self.now.book.now c.claim.new.self c.leave_of.new.book c.args.key.now 0 c.claim.result c.claim.ensures c.in-Mine.is c.in-None.ensures.none

pub returns-in-None-clause-gives : goal.returns-in-None-clause-gives
returns-in-None-clause-gives c = ap leaves_out (given_up c.args.self.now.book.now c.claim.new.self c.leave_of.new.book c.args.key.now 0 c.claim.result c.claim.ensures c.in-Mine.is c.in-None.ensures.none)

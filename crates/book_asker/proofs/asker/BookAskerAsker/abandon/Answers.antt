use Rattle.std.proofs.Common.{sym, ap, subst, ◌∙◌}
use Rattle.app_tree.specs.View.{shape_of}
use Rattle.cache_book.specs.Machine.{CacheState}
use Rattle.book_asker.specs.Keyed.{IsKeyed}
use Rattle.book_asker.proofs.Kept.{owned_removed}
use Rattle.book_asker.specs.Leaves.{leaves_out}
use Rattle.book_asker.proofs.InFlight.{number_out-leaves, without-leaves}
use Rattle.book_asker.proofs.asker.BookAskerAsker.abandon.Goals as goal

pub abandon-requires : goal.abandon-requires
abandon-requires c = sym (number_out-leaves c.args.leave.key c.args.self.now.book.now.in_flight) ∙ c.requires

pub invariant_of-self : goal.invariant_of-self
invariant_of-self c =
    let a = c.args.self.now in
    record {
      keyed = subst (IsKeyed (shape_of a.app.now)) (sym c.abandon.ensures) a.keyed;
      owned = owned_removed a.book.now c.abandon.new.self c.args.leave.key 0 a.owned (ap (λ (u : CacheState). u.in_flight) c.abandon.ensures);
    }

pub returns-clause-back : goal.returns-clause-back
returns-clause-back c = ap leaves_out c.abandon.ensures ∙ sym (without-leaves c.args.leave.key c.args.self.now.book.now.in_flight)

use Rattle.std.proofs.Common.{◌≡◌, ap, sym, ◌∙◌}
use Rattle.term_eval.specs.Lent.{IsFree, number_out}
use Rattle.book_asker.specs.Leaves.{leaves_out}
use Rattle.engine_tests.specs.inner.DrawnLeaves.{given_out}
use Rattle.engine_tests.proofs.DrawnOut.{free_given, just_lent, lent_and_back, lent_and_held}
use Rattle.engine_tests.proofs.drawn.DrawnAsker.ask.Goals as goal

pub claim-requires : goal.claim-requires
claim-requires c =
    let a = c.args.self.now in
    ap (number_out c.args.key.now) a.given ∙ free_given c.args.key.now a.held.entries c.requires

pub invariant_of-self-in-Ok : goal.invariant_of-self-in-Ok
invariant_of-self-in-Ok c =
    let a = c.args.self.now in
    let same : c.in-Go.leave.key ≡ c.in-Ok-Ok.held = c.in-Go.ensures.gives.0 ∙ sym c.in-Ok-Ok.ensures in
    record { given = lent_and_held c.in-Go.leave.key c.in-Ok-Ok.held a.held.entries c.hold.new.held.entries (leaves_out a.asker.book.now) (leaves_out c.claim.new.self.book.now) same a.given c.in-Go.ensures.gives.1 c.in-Ok.ensures.ok }

pub abandon-requires : goal.abandon-requires
abandon-requires c =
    let a = c.args.self.now in
    let free : IsFree c.args.key.now (leaves_out a.asker.book.now) = ap (number_out c.args.key.now) a.given ∙ free_given c.args.key.now a.held.entries c.requires in
    just_lent c.in-Go.leave.key c.args.key.now (leaves_out a.asker.book.now) (leaves_out c.claim.new.self.book.now) c.in-Go.ensures.gives.0 free c.in-Go.ensures.gives.1

pub invariant_of-self-in-Err : goal.invariant_of-self-in-Err
invariant_of-self-in-Err c =
    let a = c.args.self.now in
    let free : IsFree c.args.key.now (leaves_out a.asker.book.now) = ap (number_out c.args.key.now) a.given ∙ free_given c.args.key.now a.held.entries c.requires in
    let back = lent_and_back c.in-Go.leave.key c.args.key.now (leaves_out a.asker.book.now) (leaves_out c.claim.new.self.book.now) (leaves_out c.abandon.new.self.book.now) c.in-Go.ensures.gives.0 free c.in-Go.ensures.gives.1 c.abandon.ensures.back in
    record { given = back ∙ a.given ∙ ap given_out (sym c.in-Err.ensures.err) }

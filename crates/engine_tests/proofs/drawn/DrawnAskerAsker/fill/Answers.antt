use Rattle.std.proofs.Common.{◌≡◌, Option, Some, ap, sym, subst, ◌∙◌}
use Rattle.std.specs.Prelude.{is_some}
use Rattle.term_eval.specs.Lent.{number_out}
use Rattle.book_asker.specs.Leaves.{leaves_out}
use Rattle.book_asker.specs.declared.asker.BookLeave.{BookLeave}
use Rattle.book_asker.specs.declared.owner.TheConstants.{OWNER}
use Rattle.engine_tests.specs.inner.DrawnLeaves.{number_of, drawn_out, given_out}
use Rattle.engine_tests.proofs.DrawnOut.{of_given, without_drawn, held_is_out, held_comes_back, free_comes_back}
use Rattle.engine_tests.proofs.drawn.DrawnAskerAsker.fill.Goals as goal

pub fill-requires-clause-out : goal.fill-requires-clause-out
fill-requires-clause-out c =
    let a = c.args.self.now in
    let k = c.args.leave.key in
    let out : number_out k (drawn_out a.held.entries) ≡ Some OWNER =
    subst (λ (given : Option BookLeave). number_out k (drawn_out a.held.entries) ≡ Some (number_of (is_some given))) c.in-Some.is c.requires.out in
    let same = of_given (λ (leave : BookLeave). leave.key ≡ k) c.args.leave.given c.in-Some.leave c.in-Some.is c.args.leave.same in
    held_is_out c.in-Some.leave.key k a.held.entries (leaves_out a.asker.book.now) same a.given out

pub invariant_of-self : goal.invariant_of-self
invariant_of-self c =
    let a = c.args.self.now in
    let k = c.args.leave.key in
    let out : number_out k (drawn_out a.held.entries) ≡ Some OWNER =
    subst (λ (given : Option BookLeave). number_out k (drawn_out a.held.entries) ≡ Some (number_of (is_some given))) c.in-Some.is c.requires.out in
    let same = of_given (λ (leave : BookLeave). leave.key ≡ k) c.args.leave.given c.in-Some.leave c.in-Some.is c.args.leave.same in
    record { given = held_comes_back c.in-Some.leave.key k a.held.entries c.shift_remove-given.new.self.entries (leaves_out a.asker.book.now) (leaves_out c.fill.new.self.book.now) same a.given out c.shift_remove-given.ensures.entries c.fill.ensures.back }

pub returns-in-Some-clause-back : goal.returns-in-Some-clause-back
returns-in-Some-clause-back c = ap drawn_out c.shift_remove-given.ensures.entries ∙ without_drawn c.args.leave.key c.args.self.now.held.entries

pub invariant_of-self-in-None : goal.invariant_of-self-in-None
invariant_of-self-in-None c =
    let a = c.args.self.now in
    let k = c.args.leave.key in
    let out : number_out k (drawn_out a.held.entries) ≡ Some 1 =
    subst (λ (given : Option BookLeave). number_out k (drawn_out a.held.entries) ≡ Some (number_of (is_some given))) c.in-None.is c.requires.out in
    record { given = a.given ∙ sym (free_comes_back k a.held.entries out) ∙ ap given_out (sym c.shift_remove-given.ensures.entries) }

pub returns-clause-back : goal.returns-clause-back
returns-clause-back c = ap drawn_out c.shift_remove-given.ensures.entries ∙ without_drawn c.args.leave.key c.args.self.now.held.entries

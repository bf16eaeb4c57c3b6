use Rattle.std.proofs.Common.{ap, sym, ◌∙◌}
use Rattle.engine_tests.specs.inner.DrawnLeaves.{given_out}
use Rattle.engine_tests.proofs.DrawnOut.{free_behind}
use Rattle.engine_tests.proofs.drawn.DrawnAsker.pass_by.Goals as goal

pub invariant_of-self : goal.invariant_of-self
invariant_of-self c =
    let a = c.args.self.now in
    record { given = a.given ∙ sym (free_behind a.held.entries c.in-Ok-Ok.held) ∙ ap given_out (sym c.in-Ok.ensures.ok) }

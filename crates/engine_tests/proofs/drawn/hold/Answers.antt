use Rattle.std.proofs.Common.{◌∙◌}
use Rattle.rx_value.specs.Value.{key_eq}
use Rattle.indexmap.proofs.CallerLemmas.{insert_entry-new}
use Rattle.engine_tests.proofs.DrawnOut.{free_held}
use Rattle.engine_tests.proofs.drawn.hold.Goals as goal
use Rattle.engine_tests.proofs.drawn.hold.Goals.{in-Ok, in-Err}

pub returns-clause-ok : goal.returns-clause-ok
returns-clause-ok c =
    let last = insert_entry-new key_eq c.args.held.now c.args.key c.args.given (free_held c.args.key c.args.held.now.entries c.requires) in
    elim c.match-insert.branch [
      | in-Ok w ↦ rw w.result-is (w.in-Ok.ensures.entries ∙ last)
      | in-Err w ↦ rw w.result-is tt
    ]

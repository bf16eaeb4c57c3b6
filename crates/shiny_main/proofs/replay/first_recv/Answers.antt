use Rattle.std.proofs.Common.{◌≡◌, ◌∙◌, ap, sym, true, Some}
use Rattle.app_tree.specs.View.{shape_of}
use Rattle.session_model.specs.TakenLines.{taken_pairs}
use Rattle.shiny_main.proofs.Taking.{first_goes}
use Rattle.shiny_main.proofs.replay.first_recv.Goals as goal

pub returns-in_ok-answered-in-Some : goal.returns-in_ok-answered-in-Some
returns-in_ok-answered-in-Some c =
    let app = shape_of c.args.app.now.value in
    let form : taken_pairs app true c.args.text.now ≡ Some c.in-Some.pairs =
    ap (λ a. taken_pairs (shape_of a) true c.args.text.now) (sym c.deref.ensures) ∙ sym c.in_ok-pairs.ensures ∙ c.in-Some.is in
    first_goes app c.args.number c.args.label.now c.args.text.now c.in-Some.pairs c.in_ok-answered-in-Some.answered c.if-number-gt-TAKEN_LINE_LIMIT.false form c.in_ok-answered-in-Some.ensures

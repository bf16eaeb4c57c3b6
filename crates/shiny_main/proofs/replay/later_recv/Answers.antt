use Rattle.std.proofs.Common.{◌≡◌, ◌∙◌, [], ◌∷◌, sym, false, Some}
use Rattle.app_tree.specs.View.{shape_of}
use Rattle.session_model.specs.Transcript.{Open, recv}
use Rattle.session_model.specs.TakenLines.{taken_pairs, taken_line}
use Rattle.shiny_main.specs.declared.replay.Taken.{Taken}
use Rattle.shiny_main.specs.inner.Replaying.{HoldsOpen, IsShort, Updates, TakesLine}
use Rattle.shiny_main.proofs.Taking.{later_takes, if_ok, label_is}
use Rattle.shiny_main.proofs.replay.later_recv.Goals as goal

pub returns-in-Some : goal.returns-in-Some
returns-in-Some c =
    let app = shape_of c.args.app.now in
    let form : taken_pairs app false c.args.text.now ≡ Some c.in-Some.pairs = sym c.in_ok-pairs.ensures ∙ c.in-Some.is in
    let label = sym c.as_str.ensures ∙ label_is c.as_str.result.now c.as_str-2.result.now c.ne.result c.ne.ensures c.if-ne.false ∙ c.as_str-2.ensures in
    let takes : Taken → Type 0 = λ t. (s : Open) → HoldsOpen app s c.args.session → IsShort c.args.number s → TakesLine app c.args.number (s ∷ []) (taken_line app c.args.number (s ∷ []) (Some (recv c.args.label.now c.args.text.now))) t in
    if_ok (Updates c.args.session c.in-Some.pairs) takes c.update.result
    (λ t u s holds short. later_takes app c.args.number s c.args.session c.args.label.now c.args.text.now c.in-Some.pairs t c.if-number-gt-TAKEN_LINE_LIMIT.false (label ∙ holds.label) form holds short u) c.update.ensures

use Rattle.std.proofs.Common.{◌∙◌, ap, sym, true, false}
use Rattle.std.proofs.lemmas.Str.{is_utf8-from_IsUtf8}
use Rattle.shiny_main.specs.inner.Spoken.{spoken_in}
use Rattle.shiny_main.proofs.SpokenLines.{is_not_utf8, spoken-by}
use Rattle.shiny_main.proofs.line.said_by.Goals as goal

pub returns-in-Ok : goal.returns-in-Ok
returns-in-Ok c =
    let utf8 = is_utf8-from_IsUtf8 c.args.line.now c.in-Ok.ensures.cases.1 in
    c.said_in.ensures ∙ ap spoken_in c.in-Ok.ensures.cases.0 ∙ sym (spoken-by c.args.line.now true c.if-line-gt-LINE_LIMIT.false utf8)

pub returns-in-Err : goal.returns-in-Err
returns-in-Err c = sym (spoken-by c.args.line.now false c.if-line-gt-LINE_LIMIT.false (is_not_utf8 c.args.line.now c.in-Err.ensures.cases.0))

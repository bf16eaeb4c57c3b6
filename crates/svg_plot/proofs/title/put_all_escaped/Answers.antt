use Rattle.std.proofs.Common.{refl, [], ◌∷◌, ◌++◌, length, drop}
use Rattle.std.specs.List.{flat_map}
use Rattle.std.specs.Str.{chars}
use Rattle.rx_value.specs.Plot.{xml_escaped}
use Rattle.std.proofs.lemmas.Iterator.{YieldsList-from_chars}
use Rattle.std.proofs.lemmas.Iterator.Consumers.{YieldsList-turn, YieldsList-end}
use Rattle.std.proofs.lemmas.Result.{err_from_is_err_and}
use Rattle.svg_plot.proofs.Escapes.{title-turn, title-end}
use Rattle.svg_plot.proofs.Stopped.{Writes-stopped}
use Rattle.svg_plot.proofs.title.put_all_escaped.Goals as goal

pub loop-character-preserved : goal.loop-character-preserved
loop-character-preserved c =
    let turn = YieldsList-turn (YieldsList-from_chars c.args.title.now c.utf8.title cc) c.loop-character.yielded _ c.loop-character.yielded_by _ _ c.in-Some.character c.in-Some.is c.next.ensures.steps in
    title-turn _ c.loop-character.yielded c.in-Some.character _ _ _ turn c.in_ok-put_escaped.ensures c.loop-character.invariant

pub returns-in_err-put_escaped : goal.returns-in_err-put_escaped
returns-in_err-put_escaped c =
    let turn = YieldsList-turn (YieldsList-from_chars c.args.title.now c.utf8.title cc) c.loop-character.yielded _ c.loop-character.yielded_by _ _ c.in-Some.character c.in-Some.is c.next.ensures.steps in
    let p = err_from_is_err_and c.from_residual.result c.from_residual.ensures.1 in
    Writes-stopped c.args.text.now c.loop-character.text (xml_escaped c.in-Some.character) (flat_map xml_escaped (drop (length (c.loop-character.yielded ++ c.in-Some.character ∷ [])) (chars c.args.title.now)))
    (flat_map xml_escaped (chars c.args.title.now)) c.put_escaped.new.text _ _ _ p.1 p.2 (title-turn _ c.loop-character.yielded c.in-Some.character _ _ _ turn refl c.loop-character.invariant) c.in_err-put_escaped.ensures

pub returns : goal.returns
returns c =
    let done = YieldsList-end (YieldsList-from_chars c.args.title.now c.utf8.title cc) c.loop-character.yielded _ c.loop-character.yielded_by _ _ c.in-None.is c.next.ensures.steps in
    title-end _ _ _ _ done.1 c.loop-character.invariant

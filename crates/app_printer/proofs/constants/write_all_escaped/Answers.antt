use Rattle.std.proofs.Common.{append_assoc, append-nil}
use Rattle.std.proofs.lemmas.Str.{encodes-append}
use Rattle.app_printer.proofs.Escapes.{escaped-append}
use Rattle.app_printer.proofs.constants.write_all_escaped.Goals as goal

pub loop-character-preserved : goal.loop-character-preserved
loop-character-preserved c =
    rw (encodes-append, escaped-append, append-nil, ← append_assoc, ← c.loop-character.invariant) c.in_ok-write_escaped.ensures

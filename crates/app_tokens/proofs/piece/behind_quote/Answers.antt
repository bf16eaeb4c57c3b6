use Rattle.std.proofs.lemmas.Str.{IsCharBoundary-after_ascii}
use Rattle.app_tokens.proofs.piece.behind_quote.Goals as goal

pub range_from-requires : goal.range_from-requires
range_from-requires c = λ _. IsCharBoundary-after_ascii c.args.rest.now 0 c.utf8.rest c.requires.some c.requires.ascii

use Rattle.app_check.proofs.LoadedNames.{answer_has_words}
use Rattle.app_check.proofs.checking.load.Goals as goal

pub returns-in-Ok-clause-words : goal.returns-in-Ok-clause-words
returns-in-Ok-clause-words c =
    answer_has_words c.args.bytes.now c.in-Ok.list c.app_of_tokens.result c.in-Ok.ensures.accepted c.app_of_tokens.ensures.accepted

use Rattle.std.proofs.Common.{◌≡◌, drop}
use Rattle.app_tokens.specs.Word.{word_in, entries}
use Rattle.app_tokens.proofs.word.word_in.Given as goal

-- no entry that was passed is spelled so
abbrev pub invariant-loop-reserved : goal.invariant-loop-reserved
invariant-loop-reserved l =
    word_in (entries (drop l.reserved-index l.table)) l.spelling ≡ word_in (entries l.table) l.spelling

use Rattle.std.proofs.Common.{◌≡◌, ◌∙◌, ap, rules, arith, length, pos, to_z, w64}
use Rattle.std.specs.Str.{chars}
use Rattle.std.proofs.lemmas.Str.{chars_from_encodes}
use Rattle.std.proofs.lemmas.Int.{ints}
use Rattle.rx_value.proofs.spelling.character_count.Goals as goal

pub returns : goal.returns
returns c =
    let count : c.count.result ≡ length (chars c.args.text.now) = search (rules, chars_from_encodes) in
    let cast : to_z w64 c.count.result ≡ pos c.count.result = omega (arith, ints) in
    cast ∙ ap (λ n. pos n) count

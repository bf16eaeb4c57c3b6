-- What a source in memory gives is the front of what it has left.
use Rattle.std.proofs.Common.{◌≡◌, ℕ, ◌+◌, List, ◌++◌, take, drop, sym, ap, ◌∙◌, take-append-drop}
use Rattle.std.proofs.lemmas.List.{drop-drop}

-- the bytes behind the given ones are those that were copied and then the rest
pub given-more : (bytes buf : List ℕ) (given count : ℕ) → take count buf ≡ take count (drop given bytes)
    → drop given bytes ≡ take count buf ++ drop (given + count) bytes
given-more bytes buf given count copied =
    sym (take-append-drop count (drop given bytes)) ∙ ap (λ l. l ++ drop count (drop given bytes)) (sym copied)
    ∙ ap (λ l. take count buf ++ l) (drop-drop count given bytes)

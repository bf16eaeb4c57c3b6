-- The words that aren't names are those of the table.
use Rattle.std.proofs.Common.{◌≡◌, ℕ, List, [], ◌∷◌, length, refl, arith, Bool, true, false, ◌||◌}
use Rattle.std.specs.Prelude.{bytes_eq, is_some, if◌then◌else◌, Some}
use Rattle.std.specs.List.{list_any, zip}
use Rattle.rx_value.specs.Names.{reserved_words, is_reserved}
use Rattle.app_tokens.specs.declared.word.Word.{Word}
use Rattle.app_tokens.specs.Word.{words, word_in, word_of}

word_in-zip : (spellings : List (List ℕ)) (table : List Word) (spelling : List ℕ) → length spellings ≡ length table
    → is_some (word_in (zip spellings table) spelling) ≡ list_any (λ reserved. bytes_eq reserved spelling) spellings
word_in-zip [] table spelling e = refl
word_in-zip (r ∷ more) [] spelling e = absurd (omega arith)
word_in-zip (r ∷ more) (w ∷ ws) spelling e = each (bytes_eq r spelling) (word_in-zip more ws spelling (omega arith))
  where
    each : (b : Bool) → is_some (word_in (zip more ws) spelling) ≡ list_any (λ reserved. bytes_eq reserved spelling) more
        → is_some (if b then Some w else word_in (zip more ws) spelling) ≡ (b || list_any (λ reserved. bytes_eq reserved spelling) more)
    each true h = refl
    each false h = h

pub word_of-is_reserved : (spelling : List ℕ) → is_some (word_of spelling) ≡ is_reserved spelling
unfolding word_of is_reserved
word_of-is_reserved spelling = word_in-zip reserved_words words spelling refl

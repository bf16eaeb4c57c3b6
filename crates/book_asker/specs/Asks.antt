-- What an asker's calls ask its cache.
use Rattle.std.specs.Prelude.{◌≡◌, ℕ}
use Rattle.rx_value.specs.declared.key.Key.{Key}
use Rattle.rx_value.specs.declared.outcome.Outcome.{Outcome}
use Rattle.term_eval.specs.declared.asker.Asked.{Asked}
use Rattle.term_eval.specs.declared.asker.Asked.TheVariants.{Hit, Go, Memory}
use Rattle.cache_book.specs.Machine.{CacheState, CacheReply, claims, fills, hit, mine, cache_reply, cache_after, IsReplyTo}

-- a claim of the key with this owner; without memory the cache is as before
abbrev pub AsksCache : {L : Type 0} → Key → ℕ → CacheState → Asked L → CacheState → Type 0
AsksCache key owner s (Hit outcome) after =
    (cache_reply s (claims key owner) ≡ hit outcome) × (after ≡ cache_after s (claims key owner) (hit outcome))
AsksCache key owner s (Go leave) after =
    (cache_reply s (claims key owner) ≡ mine) × (after ≡ cache_after s (claims key owner) mine)
AsksCache key owner s Memory after = after ≡ s

-- a fill with the outcome, that is answered in a way that it may be
pub record FillsCache (key : Key) (owner : ℕ) (outcome : Outcome) (s after : CacheState) : Type 0 where
  pub reply : CacheReply
  pub replies : IsReplyTo s (fills key owner outcome) reply
  pub leaves : after ≡ cache_after s (fills key owner outcome) reply

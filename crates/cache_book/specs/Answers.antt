-- How the answers of a cache's calls are answers of the cache machine, and what holds of every cache.
use Rattle.std.specs.Prelude.{◌≡◌, ℕ, ◌<◌, ◌≤◌, true, false, List, ◌∷◌, length, Option, Some, None, IfSome}
use Rattle.std.specs.List.{IsDistinct}
use Rattle.std.specs.Map.{keys_of, lookup}
use Rattle.std.specs.Option.{option_map_or}
use Rattle.rx_value.specs.declared.key.Key.{Key}
use Rattle.rx_value.specs.declared.outcome.Outcome.{Outcome}
use Rattle.rx_value.specs.Value.{key_eq}
use Rattle.cache_book.specs.declared.answer.BookClaim.{BookClaim}
use Rattle.cache_book.specs.declared.answer.BookClaim.TheVariants as b
use Rattle.cache_book.specs.declared.answer.Filled.{Filled}
use Rattle.cache_book.specs.declared.answer.Filled.TheVariants as f
use Rattle.cache_book.specs.declared.limits.CacheLimits.{CacheLimits}
use Rattle.cache_book.specs.declared.limits.TheConstants.{ENTRY_LIMIT, BYTE_LIMIT}
use Rattle.cache_book.specs.Machine.{CacheState, CacheCall, CacheReply, hit, busy, mine, stored, dropped, too_heavy, cache_after, IsReplyTo, are_within, without_last, evicted_count}

-- a claim that found no memory is no call of the machine
abbrev pub reply_of_claim : BookClaim → Option CacheReply
reply_of_claim (b.Hit o) = Some (hit o)
reply_of_claim (b.Busy p) = Some (busy p)
reply_of_claim b.Mine = Some mine
reply_of_claim b.Memory = None

abbrev pub reply_of_fill : Filled → CacheReply
reply_of_fill (f.Stored d) = stored d
reply_of_fill f.Dropped = dropped
reply_of_fill f.TooHeavy = too_heavy

-- the machine may answer so, and holds afterwards what the cache does; without an answer nothing changes
pub record AnswersCall (s : CacheState) (call : CacheCall) (reply : Option CacheReply) (after : CacheState)
    : Type 0 where
  pub replies : IfSome reply (IsReplyTo s call)
  pub leaves : after ≡ option_map_or (cache_after s call) reply s

abbrev pub AreInRange : CacheLimits → Type 0
AreInRange limits =
    (0 < limits.entries) × (limits.entries ≤ ENTRY_LIMIT) × (0 < limits.bytes) × (limits.bytes ≤ BYTE_LIMIT)

-- d is the least number of entries that have to go from the back of es for the rest to fit
pub record IsLeastFit (limits : CacheLimits) (es : List (Key × Outcome)) (d : ℕ) : Type 0 where
  pub below : d < length es
  pub fit : are_within limits (without_last d es) ≡ true
  pub tight : (i : ℕ) → i < d → are_within limits (without_last i es) ≡ false

-- what became of an entry that is light enough, and of the earlier entries es
abbrev pub Stores : CacheLimits → Key × Outcome → List (Key × Outcome) → Filled → List (Key × Outcome) → Type 0
Stores limits e es (f.Stored d) after =
    (d ≡ evicted_count limits e es) × (after ≡ e ∷ without_last d es) × (are_within limits after ≡ true)
Stores limits e es f.Dropped after = after ≡ es
Stores limits e es f.TooHeavy after = ⊥

-- No key that is in flight is kept.
pub record AreApart (in_flight : List (Key × ℕ)) (entries : List (Key × Outcome)) : Type 0 where
  pub apart : (k : Key) (p : ℕ) → lookup (key_eq k) in_flight ≡ Some p → lookup (key_eq k) entries ≡ None

-- What holds of every cache: the entries are within the limits, no key is kept twice or is twice in
-- flight, and no key that is in flight is kept.
pub record IsSound (s : CacheState) : Type 0 where
  pub in_range : AreInRange s.limits
  pub within : are_within s.limits s.entries ≡ true
  pub kept_once : IsDistinct key_eq (keys_of s.entries)
  pub in_flight_once : IsDistinct key_eq (keys_of s.in_flight)
  pub apart : AreApart s.in_flight s.entries

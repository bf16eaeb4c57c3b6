-- The cache machine: what a cache answers to each call, and what it holds afterwards. It is plain
-- data, so that a history of calls and answers can be followed without any cache.
use Rattle.std.specs.Prelude.{◌≡◌, ℕ, ◌-◌, Bool, ◌&&◌, List, [], ◌∷◌, ◌++◌, zero, suc, Option, Some, None, if◌then◌else◌, length, take, sum_by, nat_le, nat_lt, ⊤}
use Rattle.std.specs.Map.{lookup, remove_entry}
use Rattle.rx_value.specs.declared.key.Key.{Key}
use Rattle.rx_value.specs.declared.outcome.Outcome.{Outcome}
use Rattle.rx_value.specs.Value.{key_eq}
use Rattle.rx_value.specs.Weight.{entry_weight}
use Rattle.cache_book.specs.declared.limits.CacheLimits.{CacheLimits}

-- the limits, the entries with the one that was used last in front, and the keys whose outcomes are
-- being worked out, each with its owner, in the order of their claims
pub record CacheState : Type 0 where
  pub limits : CacheLimits
  pub entries : List (Key × Outcome)
  pub in_flight : List (Key × ℕ)

-- A claim asks for the outcome of a key. Who gets the key answers the claim later, by a fill with the
-- outcome or by an abandon.
pub data CacheCall : Type 0 where
  claims : Key → ℕ → CacheCall
  fills : Key → ℕ → Outcome → CacheCall
  abandons : Key → ℕ → CacheCall

pub data CacheReply : Type 0 where
  -- of a claim: the outcome that is kept; the owner of the key, which is in flight; or the key is the
  -- caller's
  hit : Outcome → CacheReply
  busy : ℕ → CacheReply
  mine : CacheReply
  -- of a fill: kept, with this many earlier entries dropped; not kept for want of memory; or heavier
  -- than all entries together may be
  stored : ℕ → CacheReply
  dropped : CacheReply
  too_heavy : CacheReply
  -- of an abandon
  abandoned : CacheReply

abbrev pub empty_cache : CacheLimits → CacheState
empty_cache limits = record { limits = limits; entries = []; in_flight = [] }

-- the outcome that is kept under the key
abbrev pub kept_outcome : CacheState → Key → Option Outcome
kept_outcome s k = lookup (key_eq k) s.entries

-- who has the key in flight
abbrev pub owner_in_flight : CacheState → Key → Option ℕ
owner_in_flight s k = lookup (key_eq k) s.in_flight

abbrev pub total_weight : List (Key × Outcome) → ℕ
total_weight es = sum_by (λ e. entry_weight e.0 e.1) es

abbrev pub are_within : CacheLimits → List (Key × Outcome) → Bool
are_within limits es = nat_le (length es) limits.entries && nat_le (total_weight es) limits.bytes

abbrev pub without_last : ℕ → List (Key × Outcome) → List (Key × Outcome)
without_last d es = take (length es - d) es

-- the least number below n that passes the test, or n
abbrev pub least : (ℕ → Bool) → ℕ → ℕ
least test zero = zero
least test (suc n) = if test 0 then 0 else suc (least (λ d. test (suc d)) n)

-- the least number of earlier entries that have to go from the back for this entry to go in front
abbrev pub evicted_count : CacheLimits → Key × Outcome → List (Key × Outcome) → ℕ
evicted_count limits e es = least (λ d. are_within limits (e ∷ without_last d es)) (length es)

abbrev pub claim_reply : Option Outcome → Option ℕ → CacheReply
claim_reply (Some o) p = hit o
claim_reply None (Some p) = busy p
claim_reply None None = mine

-- the answer to a call where there is memory
abbrev pub cache_reply : CacheState → CacheCall → CacheReply
cache_reply s (claims k p) = claim_reply (kept_outcome s k) (owner_in_flight s k)
cache_reply s (fills k p o) =
    if nat_lt s.limits.bytes (entry_weight k o) then too_heavy else stored (evicted_count s.limits (k, o) s.entries)
cache_reply s (abandons k p) = abandoned

abbrev pub IsStored : CacheReply → Type 0
IsStored (stored d) = ⊤
IsStored _ = ⊥

-- An answer that may be given: the one above, or that there was no memory to keep the outcome, in the
-- place of its being kept.
abbrev pub IsReplyTo : CacheState → CacheCall → CacheReply → Type 0
IsReplyTo s call dropped = IsStored (cache_reply s call)
IsReplyTo s call reply = reply ≡ cache_reply s call

-- A fill or an abandon is for a key that its caller has in flight.
abbrev pub IsAllowed : CacheState → CacheCall → Type 0
IsAllowed s (claims k p) = ⊤
IsAllowed s (fills k p o) = owner_in_flight s k ≡ Some p
IsAllowed s (abandons k p) = owner_in_flight s k ≡ Some p

-- the key leaves flight
abbrev pub without_flight : Key → CacheState → CacheState
without_flight k s = record s { in_flight = remove_entry (key_eq k) s.in_flight }

-- the entries once the outcome of k, which is kept, was used
abbrev pub entries_after_use : Key → Outcome → List (Key × Outcome) → List (Key × Outcome)
entries_after_use k o es = (k, o) ∷ remove_entry (key_eq k) es

-- what the cache holds after a call that was answered so
abbrev pub cache_after : CacheState → CacheCall → CacheReply → CacheState
cache_after s (claims k p) (hit o) = record s { entries = entries_after_use k o s.entries }
cache_after s (claims k p) mine = record s { in_flight = s.in_flight ++ (k, p) ∷ [] }
cache_after s (claims k p) _ = s
cache_after s (fills k p o) (stored d) = record (without_flight k s) { entries = (k, o) ∷ without_last d s.entries }
cache_after s (fills k p o) _ = without_flight k s
cache_after s (abandons k p) _ = without_flight k s

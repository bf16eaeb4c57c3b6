-- A fill answers as the machine may.
use Rattle.std.proofs.Common.{◌≡◌, ℕ, ◌<◌, ◌≤◌, true, List, Some, refl, sym, ap, subst, ◌∙◌}
use Rattle.std.specs.Map.{remove_entry}
use Rattle.std.proofs.lemmas.Bool.{le-ltb, lt-ltb}
use Rattle.rx_value.specs.declared.key.Key.{Key}
use Rattle.rx_value.specs.declared.outcome.Outcome.{Outcome}
use Rattle.rx_value.specs.Value.{key_eq}
use Rattle.rx_value.specs.Weight.{entry_weight}
use Rattle.cache_book.specs.declared.answer.Filled.{Filled}
use Rattle.cache_book.specs.declared.answer.Filled.TheVariants as f
use Rattle.cache_book.specs.Machine.{CacheState, fills, stored, too_heavy, without_flight, are_within}
use Rattle.cache_book.specs.Answers.{AnswersCall, Stores, AreApart, reply_of_fill}
use Rattle.cache_book.proofs.Apart.{HasLanded, apart_landed, apart_stored}

pub refused : (s : CacheState) (k : Key) (p : ℕ) (o : Outcome) → s.limits.bytes < entry_weight k o
    → AnswersCall s (fills k p o) (Some too_heavy) (without_flight k s)
refused s k p o heavy = record {
  replies = rw (lt-ltb s.limits.bytes (entry_weight k o) heavy) refl;
  leaves = refl;
}

abbrev pub filled_state : CacheState → List (Key × Outcome) → Key → CacheState
filled_state s es k = record { limits = s.limits; entries = es; in_flight = remove_entry (key_eq k) s.in_flight }

pub answered : (s : CacheState) (k : Key) (p : ℕ) (o : Outcome) (r : Filled) (es : List (Key × Outcome)) → entry_weight k o ≤ s.limits.bytes
    → Stores s.limits (k, o) s.entries r es → AnswersCall s (fills k p o) (Some (reply_of_fill r)) (filled_state s es k)
answered s k p o (f.Stored d) es light kept = record {
  replies = rw (le-ltb s.limits.bytes (entry_weight k o) light) (ap stored kept.0);
  leaves = ap (λ (l : List (Key × Outcome)). filled_state s l k) kept.1;
}
answered s k p o f.Dropped es light kept = record {
  replies = rw (le-ltb s.limits.bytes (entry_weight k o) light) tt;
  leaves = ap (λ (l : List (Key × Outcome)). filled_state s l k) kept;
}
answered s k p o f.TooHeavy es light kept = absurd kept

-- what stays true of the entries and of what is in flight
pub kept_within : (s : CacheState) (k : Key) (o : Outcome) (r : Filled) (es : List (Key × Outcome)) → are_within s.limits s.entries ≡ true
    → Stores s.limits (k, o) s.entries r es → are_within s.limits es ≡ true
kept_within s k o (f.Stored d) es within kept = kept.2
kept_within s k o f.Dropped es within kept = ap (are_within s.limits) kept ∙ within
kept_within s k o f.TooHeavy es within kept = absurd kept

pub kept_apart : (s : CacheState) (k : Key) (o : Outcome) (r : Filled) (es : List (Key × Outcome)) (gone : List (Key × ℕ)) → HasLanded k s.in_flight gone
    → AreApart s.in_flight s.entries → Stores s.limits (k, o) s.entries r es → AreApart gone es
kept_apart s k o (f.Stored d) es gone u a kept =
    subst (λ (l : List (Key × Outcome)). AreApart gone l) (sym kept.1) (apart_stored s.in_flight gone s.entries k o d u a)
kept_apart s k o f.Dropped es gone u a kept =
    subst (λ (l : List (Key × Outcome)). AreApart gone l) (sym kept) (apart_landed s.in_flight gone s.entries k u a)
kept_apart s k o f.TooHeavy es gone u a kept = absurd kept

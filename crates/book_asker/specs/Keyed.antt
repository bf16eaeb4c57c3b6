-- A cache that keeps an app's outcomes.
use Rattle.std.specs.Prelude.{◌≡◌, [], Some}
use Rattle.rx_value.specs.declared.key.Key.{Key}
use Rattle.rx_value.specs.declared.outcome.Outcome.{Outcome}
use Rattle.app_tree.specs.Tree.{Shape}
use Rattle.term_eval.specs.Claims.{key_outcome}
use Rattle.cache_book.specs.Machine.{CacheState, kept_outcome}

-- What is kept under a key is the outcome of that key.
abbrev pub IsKeyed : Shape → CacheState → Type 0
IsKeyed app s = (key : Key) (outcome : Outcome) → kept_outcome s key ≡ Some outcome → outcome ≡ key_outcome app key

-- and no key is in flight
pub record IsAtRest (app : Shape) (s : CacheState) : Type 0 where
  pub keyed : IsKeyed app s
  pub none_in_flight : s.in_flight ≡ []

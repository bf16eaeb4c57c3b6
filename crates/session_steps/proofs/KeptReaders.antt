-- What is kept for one reader is written, and what is kept for all others stays.
use Rattle.std.proofs.Common.{◌≡◌, ◌≢◌, ◌<◌, ℕ, length, ap}
use Rattle.std.specs.Prelude.{unwrap_or}
use Rattle.app_tree.specs.Fresh.{known_at}
use Rattle.session_model.specs.Standing.{KeptReader, KeptSession, first_kept, kept_reader}
use Rattle.session_steps.specs.Keeping.{known_of_kept, kept_known, with_kept}
use Rattle.session_laws.proofs.States.{set_here, set_there, set_size, get_mapped}

pub kept_here : (S : KeptSession) (n : ℕ) (r : KeptReader) → n < length S.readers → kept_reader (with_kept n r S) n ≡ r
kept_here S n r h = ap (λ x. unwrap_or x first_kept) (set_here S.readers n r h)

pub kept_there : (S : KeptSession) (n m : ℕ) (r : KeptReader) → m ≢ n → kept_reader (with_kept n r S) m ≡ kept_reader S m
kept_there S n m r h = ap (λ x. unwrap_or x first_kept) (set_there S.readers n m r h)

pub kept_size : (S : KeptSession) (n : ℕ) (r : KeptReader) → length (with_kept n r S).readers ≡ length S.readers
kept_size S n r = set_size S.readers n r

-- what is known of a reader is what is kept for it
pub known_kept : (S : KeptSession) (m : ℕ) → known_at (kept_known S) m ≡ known_of_kept (kept_reader S m)
known_kept S m = get_mapped known_of_kept first_kept S.readers m

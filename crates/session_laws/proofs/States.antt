-- What is kept for one reader is written, and what is kept for all others stays.
use Rattle.std.proofs.Common.{◌≡◌, ◌≢◌, ◌<◌, ℕ, zero, suc, List, [], ◌∷◌, length, map, Some, refl, ap, arith}
use Rattle.std.specs.Prelude.{slice_get, slice_set, unwrap_or}
use Rattle.rx_value.specs.declared.outcome.Outcome.TheVariants as o
use Rattle.app_tree.specs.Fresh.{site_outcome, kept_sites}
use Rattle.session_model.specs.declared.state.ReaderState.{ReaderState}
use Rattle.session_model.specs.State.{SessionState, first_reader, isolated_of, reader_state, with_reader}
use Rattle.session_laws.specs.Now.{kept_site}

pub set_here : {A : Type 0} (xs : List A) (n : ℕ) (x : A) → n < length xs → slice_get (slice_set xs n x) n ≡ Some x
set_here [] n x h = absurd (omega (h, arith))
set_here (y ∷ xs) zero x h = refl
set_here (y ∷ xs) (suc n) x h = set_here xs n x (omega (h, arith))

pub set_there : {A : Type 0} (xs : List A) (n m : ℕ) (x : A) → m ≢ n → slice_get (slice_set xs n x) m ≡ slice_get xs m
set_there [] n m x h = refl
set_there (y ∷ xs) zero zero x h = absurd (h refl)
set_there (y ∷ xs) zero (suc m) x h = refl
set_there (y ∷ xs) (suc n) zero x h = refl
set_there (y ∷ xs) (suc n) (suc m) x h = set_there xs n m x (λ e. h (ap suc e))

pub set_size : {A : Type 0} (xs : List A) (n : ℕ) (x : A) → length (slice_set xs n x) ≡ length xs
set_size [] n x = refl
set_size (y ∷ xs) zero x = refl
set_size (y ∷ xs) (suc n) x = ap suc (set_size xs n x)

pub state_here : (state : SessionState) (n : ℕ) (r : ReaderState) → n < length state.readers → reader_state (with_reader n r state) n ≡ r
state_here state n r h = ap (λ x. unwrap_or x first_reader) (set_here state.readers n r h)

pub state_there : (state : SessionState) (n m : ℕ) (r : ReaderState) → m ≢ n → reader_state (with_reader n r state) m ≡ reader_state state m
state_there state n m r h = ap (λ x. unwrap_or x first_reader) (set_there state.readers n m r h)

pub state_size : (state : SessionState) (n : ℕ) (r : ReaderState) → length (with_reader n r state).readers ≡ length state.readers
state_size state n r = set_size state.readers n r

pub get_mapped : {A B : Type 0} (f : A → B) (d : A) (xs : List A) (n : ℕ) → unwrap_or (slice_get (map f xs) n) (f d) ≡ f (unwrap_or (slice_get xs n) d)
get_mapped f d [] n = refl
get_mapped f d (x ∷ xs) zero = refl
get_mapped f d (x ∷ xs) (suc n) = get_mapped f d xs n

-- the sites that a reader keeps, by what is kept for it
pub kept_is : (state : SessionState) (n s : ℕ) → kept_sites (isolated_of state) n s ≡ kept_site (reader_state state n) s
kept_is state n s = ap (λ l. Some (unwrap_or (site_outcome s l) o.Stop)) (get_mapped (λ (r : ReaderState). r.isolated) first_reader state.readers n)

-- What a session may do to make an expression alive, or to run a reader, with the readers whose bodies it runs.
use Rattle.std.specs.Prelude.{◌≡◌, ◌≢◌, ℕ, true, false, List, [], ◌++◌, length, Some, None, Ok}
use Rattle.rx_value.specs.declared.value.Value.{Value}
use Rattle.app_tree.specs.declared.term.Read.TheVariants as read
use Rattle.app_tree.specs.Tree.{Shape}
use Rattle.app_tree.specs.Numbering.{reader}
use Rattle.app_tree.specs.Cover.{Cached, cached_node}
use Rattle.app_tree.specs.Wanted.{first_wanted}
use Rattle.session_model.specs.Standing.{KeptSession, kept_reader}
use Rattle.session_steps.specs.Keeping.{lives, answering, wanted, bodies_run, keys_attempt, keys_attempted, run_kept, hit_kept, IsAlike, IsAlikeReader}

-- an expression is read, or a reader is run, alive or not
pub data Aim : Type 0 where
  reading : Aim
  running : Aim

-- An expression that is read is left as it is where it is alive, and else it is run. A reader that is run is evaluated on
-- what is kept. Where that wants an expression, this one is made alive first, and then the reader is evaluated anew. Where
-- it wants nothing, the run comes to its end. And where the keys of a cached reader want nothing and all come to values, a
-- cache may know what its body comes to, and the body is not evaluated.
pub data Brings (app : Shape) : Aim → List ℕ → ℕ → KeptSession → KeptSession → Type 0 where
  living : (n : ℕ) (s : KeptSession) → lives s n ≡ true → Brings app reading [] n s s
  dead : (bodies : List ℕ) (n : ℕ) (s s' : KeptSession) → lives s n ≡ false → Brings app running bodies n s s'
      → Brings app reading bodies n s s'
  ends : (n : ℕ) (s s' : KeptSession) → wanted app s n ≡ None → IsAlike (run_kept app n s) s'
      → Brings app running (bodies_run app s n) n s s'
  hits : (n : ℕ) (c : Cached) (xs : List Value) (s s' : KeptSession) → cached_node (reader app n) ≡ Some c
      → first_wanted (answering app s n) (keys_attempt app s n c).asked ≡ None → keys_attempted app s n c ≡ Ok xs
      → IsAlike (hit_kept app n c xs s) s' → Brings app running [] n s s'
  waits : (earlier later : List ℕ) (n m : ℕ) (s s' s'' : KeptSession) → wanted app s n ≡ Some (read.Expr m)
      → Brings app reading earlier m s s' → Brings app running later n s' s''
      → Brings app running (earlier ++ later) n s s''

-- ---- where memory is wanting on the way

-- as before but for reader n, which may be no longer alive
abbrev pub IsAlikeUnless : ℕ → KeptSession → KeptSession → ℕ → Type 0
IsAlikeUnless n s s' j = j ≢ n → IsAlikeReader (kept_reader s j) (kept_reader s' j)

pub record IsLost (n : ℕ) (s s' : KeptSession) : Type 0 where
  pub values : s'.values ≡ s.values
  pub size : length s'.readers ≡ length s.readers
  pub readers : (j : ℕ) → IsAlikeUnless n s s' j
  pub dead : lives s n ≡ false → lives s' n ≡ false
  pub running : s'.running ≡ s.running

-- A front of what would have been done: nothing more, or a body was run and what it came to was lost, or memory was wanting
-- as a wanted expression was made alive, or later.
pub data Begins (app : Shape) : Aim → List ℕ → ℕ → KeptSession → KeptSession → Type 0 where
  none : (aim : Aim) (n : ℕ) (s s' : KeptSession) → IsLost n s s' → Begins app aim [] n s s'
  dead : (bodies : List ℕ) (n : ℕ) (s s' : KeptSession) → lives s n ≡ false → Begins app running bodies n s s'
      → Begins app reading bodies n s s'
  lost : (n : ℕ) (s s' : KeptSession) → wanted app s n ≡ None → IsLost n s s' → Begins app running (bodies_run app s n) n s s'
  within : (bodies : List ℕ) (n m : ℕ) (s s' : KeptSession) → wanted app s n ≡ Some (read.Expr m)
      → Begins app reading bodies m s s' → Begins app running bodies n s s'
  later : (earlier more : List ℕ) (n m : ℕ) (s s' s'' : KeptSession) → wanted app s n ≡ Some (read.Expr m)
      → Brings app reading earlier m s s' → Begins app running more n s' s''
      → Begins app running (earlier ++ more) n s s''

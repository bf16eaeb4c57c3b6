-- A loop on its way through `while_next`.
use Rattle.std.specs.Prelude.{◌≡◌, ℕ, ◌<◌, Bool, length, Result}
use Rattle.app_tokens.specs.Tokens.{Tokens}
use Rattle.app_reader.specs.declared.error.ReadError.{ReadError}
use Rattle.app_reader.specs.State.{turns_of}

-- going on from b gives the total
pub record Leads {B : Type 0} (left : B → Tokens) (test : B → Bool) (step : B → Result B ReadError) (b : B) (total : Result B ReadError) : Type 0 where
  pub turns : ℕ
  pub enough : length (left b).tokens < turns
  pub gives : turns_of turns test step b ≡ total

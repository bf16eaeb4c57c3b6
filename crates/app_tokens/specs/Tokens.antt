-- The tokens of a file, and its length.
use Rattle.std.specs.Prelude.{ℕ, List}
use Rattle.app_tokens.specs.declared.token.Token.{Token}

pub record Tokens : Type 0 where
  pub tokens : List Token
  pub end : ℕ

-- The grammar of constants, priorities and the budget.
use Rattle.std.specs.Prelude.{ℕ, ℤ, pos, neg_ℤ, Bool, ◌||◌, List, [], ◌∷◌, ◌++◌, length, Result, Ok, nat_eq}
use Rattle.rx_value.specs.declared.limits.TheConstants.{LIST_LIMIT}
use Rattle.rx_value.specs.declared.value.Value.{Value}
use Rattle.rx_value.specs.declared.value.Value.TheVariants as v
use Rattle.app_tokens.specs.declared.word.Word.TheVariants as word
use Rattle.app_tokens.specs.declared.symbol.Symbol.TheVariants as symbol
use Rattle.app_tokens.specs.Tokens.{Tokens}
use Rattle.app_tree.specs.declared.limits.TheConstants.{BUDGET_DEFAULT}
use Rattle.app_tree.specs.Fits.{is_budget}
use Rattle.app_reader.specs.declared.error.ReadError.{ReadError}
use Rattle.rx_value.specs.Results.{◌>>=◌, choose}
use Rattle.app_reader.specs.State.{Reads, skip, is_word_next, is_symbol_next, is_text_next, unexpected, symbol_at, number_at, text_at, while_next}
use Rattle.app_reader.specs.Terms.{word_constant_at}

-- [ "-" ] INT
unfoldable pub signed_at : Reads ℤ
signed_at s =
    choose (is_symbol_next symbol.Minus s) (λ t. number_at (skip t) >>= λ n. Ok (neg_ℤ (pos n.0), n.1))
    (λ t. number_at t >>= λ n. Ok (pos n.0, n.1)) s

-- behind an optional "-"
abbrev pub behind_minus : Tokens → Tokens
behind_minus s = choose (is_symbol_next symbol.Minus s) skip (λ t. t) s

-- "," [ "-" ] INT, behind the numbers so far: of one more than a list may have the digits are refused
unfoldable pub further_number_at : List ℤ × Tokens → Result (List ℤ × Tokens) ReadError
further_number_at b =
    choose (nat_eq (length b.0) LIST_LIMIT) (λ t. unexpected (behind_minus t)) (λ t. signed_at t >>= λ n. Ok (b.0 ++ n.0 ∷ [], n.1)) (skip b.1)

-- [ "-" ] INT { "," [ "-" ] INT }
unfoldable pub numbers_at : Reads (List ℤ)
numbers_at s = do
  first ← signed_at s
  while_next (λ b. b.1) (λ b. is_symbol_next symbol.Comma b.1) further_number_at (first.0 ∷ [], first.1)

-- [ numbers ] before ")"
unfoldable pub optional_numbers_at : Reads (List ℤ)
optional_numbers_at s = choose (is_symbol_next symbol.Close s) (λ t. Ok ([], t)) numbers_at s

-- "c" "(" [ numbers ] ")"
unfoldable pub list_at : Reads Value
list_at s = do
  opening ← symbol_at symbol.Open (skip s)
  numbers ← optional_numbers_at opening.1
  close ← symbol_at symbol.Close numbers.1
  Ok (v.Ints numbers.0, close.1)

abbrev pub is_constant_word_next : Tokens → Bool
is_constant_word_next s = is_word_next word.True s || is_word_next word.False s || is_word_next word.Null s

-- [ "-" ] INT | TEXT | "TRUE" | "FALSE" | "NULL" | "c" "(" .. ")"
unfoldable pub constant_at : Reads Value
constant_at s =
    choose (is_text_next s) (λ t. text_at t >>= λ text. Ok (v.Text text.0, text.1))
    (choose (is_word_next word.C s) list_at
    (choose (is_constant_word_next s) word_constant_at
    (λ t. signed_at t >>= λ n. Ok (v.Int n.0, n.1)))) s

-- [ "priority" [ "-" ] INT ], and 0 without it
unfoldable pub priority_at : Reads ℤ
priority_at s = choose (is_word_next word.Priority s) (λ t. signed_at (skip t)) (λ t. Ok (pos 0, t)) s

-- a budget; another number is refused where it stands
unfoldable pub limit_at : Reads ℕ
limit_at s = number_at s >>= λ n. choose (is_budget n.0) (λ t. Ok (n.0, n.1)) unexpected s

-- [ "budget" limit ";" ], and the usual budget without it
unfoldable pub budget_at : Reads ℕ
budget_at s =
    choose (is_word_next word.Budget s) (λ t. limit_at (skip t) >>= λ n. symbol_at symbol.Semicolon n.1 >>= λ semicolon. Ok (n.0, semicolon.1))
    (λ t. Ok (BUDGET_DEFAULT, t)) s

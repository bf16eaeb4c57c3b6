-- A whole file, and one with bytes that are no UTF-8.
use Rattle.std.proofs.Common.{◌≡◌, ℕ, ◌<◌, ◌==◌, List, length, take, refl, sym, ap, ◌∙◌, arith, Bool, true, false, Result, Ok, Err}
use Rattle.std.specs.Str.{IsUtf8}
use Rattle.std.specs.Str.Lossy.{utf8_valid_len}
use Rattle.std.specs.Result.{IfOk, IfErr, OnOk}
use Rattle.std.proofs.lemmas.Str.{utf8_valid_len-IsUtf8}
use Rattle.std.proofs.lemmas.List.{take_all}
use Rattle.app_tokens.specs.declared.token.Token.{Token}
use Rattle.app_tokens.specs.declared.error.TokenError.{TokenError}
use Rattle.app_tokens.specs.declared.error.TokenError.TheVariants.{BadByte, OpenText, Memory}
use Rattle.app_tokens.specs.Tokens.{Tokens}
use Rattle.rx_value.specs.Results.{◌>>=◌, RefusesOrMemory}
use Rattle.app_tokens.specs.Scan.{tokens_from, tokens_of, refusal}

tokens_of-front : (bytes front : List ℕ) (n : ℕ) (whole : Bool) → utf8_valid_len bytes ≡ n → front ≡ take n bytes → (n == length bytes) ≡ whole
    → tokens_of bytes ≡ (tokens_from whole 0 0 front >>= λ ts. Ok (record { tokens = ts; end = length bytes }))
unfolding tokens_of
tokens_of-front bytes front n whole len is same = rw (len, same, ← is) refl

tokens_of-whole : (bytes text : List ℕ) → text ≡ bytes → IsUtf8 bytes
    → tokens_of bytes ≡ (tokens_from true 0 0 text >>= λ ts. Ok (record { tokens = ts; end = length bytes }))
tokens_of-whole bytes text same utf8 =
    tokens_of-front bytes text (length bytes) true (utf8_valid_len-IsUtf8 bytes utf8) (same ∙ sym (take_all (length bytes) bytes (omega arith))) (grind arith)

refused : (end : ℕ) (e : TokenError) (found : Result (List Token) TokenError) (said : Result Tokens TokenError)
    → said ≡ (found >>= λ ts. Ok (record { tokens = ts; end = end })) → RefusesOrMemory refusal e found → RefusesOrMemory refusal e said
refused end (BadByte p) found said is h = is ∙ ap (λ (r : Result (List Token) TokenError). r >>= λ ts. Ok (record { tokens = ts; end = end })) h
refused end (OpenText p) found said is h = is ∙ ap (λ (r : Result (List Token) TokenError). r >>= λ ts. Ok (record { tokens = ts; end = end })) h
refused end Memory found said is h = tt

-- a file that is UTF-8 throughout
pub whole_accepted : (bytes text : List ℕ) (r : Result Tokens TokenError) → text ≡ bytes → IsUtf8 bytes
    → IfOk r (λ list. tokens_from true 0 0 text ≡ Ok list.tokens) → IfOk r (λ list. list.end ≡ length text) → IfOk r (λ list. tokens_of bytes ≡ Ok list)
whole_accepted bytes text (Ok list) same utf8 said end =
    tokens_of-whole bytes text same utf8
    ∙ ap (λ (r : Result (List Token) TokenError). r >>= λ ts. Ok (record { tokens = ts; end = length bytes })) said
    ∙ ap (λ n. Ok (record { tokens = list.tokens; end = n })) (sym (ap length same) ∙ sym end)
whole_accepted bytes text (Err e) same utf8 said end = tt

pub whole_refused : (bytes text : List ℕ) (r : Result Tokens TokenError) → text ≡ bytes → IsUtf8 bytes
    → IfErr r (λ e. RefusesOrMemory refusal e (tokens_from true 0 0 text)) → IfErr r (λ e. RefusesOrMemory refusal e (tokens_of bytes))
whole_refused bytes text (Ok list) same utf8 said = tt
whole_refused bytes text (Err e) same utf8 said = refused (length bytes) e (tokens_from true 0 0 text) (tokens_of bytes) (tokens_of-whole bytes text same utf8) said

-- a file with a byte that is no UTF-8
pub broken_accepted : (P : Tokens → Type 0) (r : Result Tokens TokenError) → OnOk r (false ≡ true) → IfOk r P
broken_accepted P (Ok list) e = cc
broken_accepted P (Err e) h = tt

pub whole_end : (bytes text : List ℕ) (r : Result Tokens TokenError) → text ≡ bytes → IfOk r (λ list. list.end ≡ length text) → IfOk r (λ list. list.end ≡ length bytes)
whole_end bytes text (Ok list) same end = end ∙ ap length same
whole_end bytes text (Err e) same end = tt

pub whole_utf8 : (bytes : List ℕ) (r : Result Tokens TokenError) → IsUtf8 bytes → OnOk r (IsUtf8 bytes)
whole_utf8 bytes (Ok list) utf8 = utf8
whole_utf8 bytes (Err e) utf8 = tt

pub broken_refused : (bytes front : List ℕ) (n : ℕ) (r : Result Tokens TokenError) → utf8_valid_len bytes ≡ n → front ≡ take n bytes → n < length bytes
    → IfErr r (λ e. RefusesOrMemory refusal e (tokens_from false 0 0 front)) → IfErr r (λ e. RefusesOrMemory refusal e (tokens_of bytes))
broken_refused bytes front n (Ok list) len is short said = tt
broken_refused bytes front n (Err e) len is short said =
    refused (length bytes) e (tokens_from false 0 0 front) (tokens_of bytes) (tokens_of-front bytes front n false len is (grind arith)) said

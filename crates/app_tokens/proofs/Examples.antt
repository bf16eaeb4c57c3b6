-- Worked examples of the definition, each found by computing.
use Rattle.std.proofs.Common.{◌≡◌, refl, [], ◌∷◌, Ok, Err}
use Rattle.std.specs.Prelude.{codes}
use Rattle.std.specs.Str.{is_utf8, chars}
use Rattle.std.specs.Str.Lossy.{utf8_valid_len}
use Rattle.app_tokens.specs.declared.word.Word.TheVariants as word
use Rattle.app_tokens.specs.declared.symbol.Symbol.TheVariants as symbol
use Rattle.app_tokens.specs.declared.token.Kind.TheVariants as kind
use Rattle.app_tokens.specs.declared.error.TokenError.TheVariants.{BadByte, OpenText}
use Rattle.app_tokens.specs.Word.{word_of}
use Rattle.app_tokens.specs.Symbol.{symbol_of}
use Rattle.app_tokens.specs.Scan.{tokens_of, tokens_from, piece_of, word_piece, number_piece, text_piece, text_from, symbol_piece}

pub accepted : tokens_of (codes "input a = 1;") ≡ Ok (record {
  tokens =
      record { kind = kind.Word word.Input; place = 0; spelling = codes "input" }
      ∷ record { kind = kind.Name; place = 6; spelling = codes "a" }
      ∷ record { kind = kind.Symbol symbol.Assign; place = 8; spelling = codes "=" }
      ∷ record { kind = kind.Number 1; place = 10; spelling = codes "1" }
      ∷ record { kind = kind.Symbol symbol.Semicolon; place = 11; spelling = codes ";" } ∷ [];
  end = 12;
})
unfolding tokens_of tokens_from piece_of word_piece number_piece text_piece text_from symbol_piece word_of symbol_of utf8_valid_len is_utf8 chars lib.Utf8.encode
accepted = refl

pub bad_byte : tokens_of (codes "input a = @;") ≡ Err (BadByte 10)
unfolding tokens_of tokens_from piece_of word_piece number_piece text_piece text_from symbol_piece word_of symbol_of utf8_valid_len is_utf8 chars lib.Utf8.encode
bad_byte = refl

pub open_text : tokens_of (codes "text o { \"abc") ≡ Err (OpenText 9)
unfolding tokens_of tokens_from piece_of word_piece number_piece text_piece text_from symbol_piece word_of symbol_of utf8_valid_len is_utf8 chars lib.Utf8.encode
open_text = refl

-- a bad byte in a text comes before the text's missing end
pub bad_utf8 : tokens_of (97 ∷ 34 ∷ 98 ∷ 0xC3 ∷ 40 ∷ []) ≡ Err (BadByte 3)
unfolding tokens_of tokens_from piece_of word_piece number_piece text_piece text_from symbol_piece word_of symbol_of utf8_valid_len is_utf8 chars lib.Utf8.encode
bad_utf8 = refl

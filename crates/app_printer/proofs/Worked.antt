-- Worked examples of the definition, each found by computing.
use Rattle.std.proofs.Common.{◌≡◌, refl, Some}
use Rattle.std.specs.Str.{is_utf8, chars}
use Rattle.std.specs.Str.Lossy.{utf8_valid_len}
use Rattle.app_tokens.specs.Word.{word_of}
use Rattle.app_tokens.specs.Symbol.{symbol_of}
use Rattle.app_tokens.specs.Scan.{tokens_of, tokens_from, piece_of, word_piece, number_piece, text_piece, text_from, symbol_piece}
use Rattle.app_reader.specs.State.{word_at, symbol_at, name_at, number_at, text_at, turns_of}
use Rattle.app_reader.specs.Terms.{named_at, input_at, literal_at, bracketed_at, group_at, special_at, worded_at, atom_at, unary_in, operator_at, right_at, chain_at, once_at, operation_at, term_in, term_at, unary_at}
use Rattle.app_reader.specs.Constants.{signed_at, constant_at, priority_at, budget_at}
use Rattle.app_reader.specs.Statements.{writes_at, body_at}
use Rattle.app_reader.specs.Items.{flag_at, keys_at, start_at, input_form_at, output_at, text_form_at, named_item_at, worded_item_at, item_at, further_item_at, items_at, read_at}
use Rattle.std.specs.Fmt.{digits}
use Rattle.app_printer.specs.Canonical.{canonical_text}
use Rattle.app_printer.specs.Example.{small_app, small_text, small_file, rewritten, whole_app, whole_text}

pub small_is_written : canonical_text small_app ≡ small_text
unfolding digits
small_is_written = refl

pub file_is_rewritten : rewritten small_file ≡ Some small_text
unfolding digits tokens_of tokens_from piece_of word_piece number_piece text_piece text_from symbol_piece word_of symbol_of utf8_valid_len is_utf8 chars lib.Utf8.encode read_at budget_at items_at turns_of further_item_at item_at worded_item_at named_item_at input_form_at start_at constant_at signed_at text_form_at output_at priority_at flag_at keys_at body_at writes_at word_at name_at symbol_at number_at text_at term_at unary_at term_in operation_at chain_at once_at right_at operator_at unary_in atom_at named_at input_at literal_at bracketed_at group_at special_at worded_at
file_is_rewritten = refl

pub whole_is_written : canonical_text whole_app ≡ whole_text
unfolding digits
whole_is_written = refl

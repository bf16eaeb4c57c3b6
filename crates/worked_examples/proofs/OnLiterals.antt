-- What a proof unfolds to compute the app of a file and the replay of a transcript on literals.
use Rattle.std.specs.Prelude.{⊤}
use Rattle.std.specs.Fmt.{digits}
use Rattle.std.specs.Str.{is_utf8, chars}
use Rattle.std.specs.Str.Lossy.{utf8_valid_len}
use lib.Utf8.{encode}
use Rattle.base64.specs.Rfc4648.{encode_symbols}
use Rattle.rx_value.specs.Plot.{y_of, edge_of, x_of, rect, pair, circle, xml_escaped, opening}
use Rattle.serde_json.proofs.OnLiterals.{serde_json_on_literals}
use Rattle.app_tokens.specs.Scan.{word_piece, number_piece, text_from, text_piece, symbol_piece, piece_of, tokens_from, tokens_of}
use Rattle.app_tokens.specs.Symbol.{symbol_of}
use Rattle.app_tokens.specs.inner.Text.{pair_of}
use Rattle.app_tokens.specs.Word.{word_of}
use Rattle.app_reader.specs.Constants.{signed_at, further_number_at, numbers_at, optional_numbers_at, list_at, constant_at, priority_at, limit_at, budget_at}
use Rattle.app_reader.specs.Items.{flag_at, flags_at, cache_at, keys_at, further_name_at, names_at, optional_names_at, parameters_at, start_at, input_form_at, value_form_at, task_form_at, reactive_form_at, event_form_at, output_at, text_form_at, plot_form_at, observe_form_at, on_form_at, named_item_at, worded_item_at, item_at, further_item_at, items_at, read_at}
use Rattle.app_reader.specs.State.{word_at, symbol_at, name_at, number_at, text_at, turns_of}
use Rattle.app_reader.specs.Statements.{assigned_at, set_at, update_at, sent_at, invoke_at, freeze_at, deed_at, write_at, do_at, branch_at, statement_at, further_statement_at, statements_at, block_in, block_at, further_write_at, writes_at, body_at}
use Rattle.app_reader.specs.Terms.{named_at, input_at, read_at as read_at_of_terms, truth_at, word_constant_at, word_term_at, literal_at, bracketed_at, group_at, isolate_at, stop_at, cancels_at, require_at, part_at, inner_name_at, last_part_at, fold_start_at, inner_names_at, fold_at, further_at, listed_at, counted_at, optional_at, call_at, special_at, worded_at, atom_at, unary_in, operator_at, right_at, chain_at, once_at, operation_at, ways_at, choice_at, term_in, term_at, unary_at}

unfoldable pub files_on_literals : ⊤
unfolding serde_json_on_literals encode_symbols y_of edge_of x_of rect pair circle xml_escaped opening digits is_utf8 chars utf8_valid_len encode word_piece number_piece text_from text_piece symbol_piece piece_of tokens_from tokens_of symbol_of pair_of word_of signed_at further_number_at numbers_at optional_numbers_at list_at constant_at priority_at limit_at budget_at flag_at flags_at cache_at keys_at further_name_at names_at optional_names_at parameters_at start_at input_form_at value_form_at task_form_at reactive_form_at event_form_at output_at text_form_at plot_form_at observe_form_at on_form_at named_item_at worded_item_at item_at further_item_at items_at read_at word_at symbol_at name_at number_at text_at turns_of assigned_at set_at update_at sent_at invoke_at freeze_at deed_at write_at do_at branch_at statement_at further_statement_at statements_at block_in block_at further_write_at writes_at body_at named_at input_at read_at_of_terms truth_at word_constant_at word_term_at literal_at bracketed_at group_at isolate_at stop_at cancels_at require_at part_at inner_name_at last_part_at fold_start_at inner_names_at fold_at further_at listed_at counted_at optional_at call_at special_at worded_at atom_at unary_in operator_at right_at chain_at once_at operation_at ways_at choice_at term_in term_at unary_at
files_on_literals = tt

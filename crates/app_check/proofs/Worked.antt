-- Worked examples of the definition, each found by computing.
use Rattle.std.proofs.Common.{◌≡◌, refl, Ok, Err}
use Rattle.std.specs.Prelude.{codes}
use Rattle.std.specs.Fmt.{digits}
use Rattle.std.specs.Str.{is_utf8, chars}
use Rattle.std.specs.Str.Lossy.{utf8_valid_len}
use Rattle.app_tokens.specs.Word.{word_of}
use Rattle.app_tokens.specs.Symbol.{symbol_of}
use Rattle.app_tokens.specs.Scan.{tokens_of, tokens_from, piece_of, word_piece, number_piece, text_piece, text_from, symbol_piece}
use Rattle.app_reader.specs.State.{word_at, symbol_at, name_at, number_at, turns_of}
use Rattle.app_reader.specs.Terms.{word_constant_at, truth_at, further_at, choice_at, ways_at, named_at, input_at, literal_at, bracketed_at, isolate_at, part_at, inner_name_at, last_part_at, fold_start_at, inner_names_at, fold_at, listed_at, optional_at, call_at, special_at, worded_at, atom_at, unary_in, operator_at, right_at, chain_at, once_at, operation_at, term_in, term_at, unary_at}
use Rattle.app_reader.specs.Constants.{signed_at, constant_at, priority_at, budget_at}
use Rattle.app_reader.specs.Statements.{assigned_at, set_at, sent_at, invoke_at, deed_at, write_at, statement_at, further_statement_at, statements_at, block_in, block_at, further_write_at, writes_at, body_at}
use Rattle.app_reader.specs.Items.{cache_at, flag_at, keys_at, further_name_at, names_at, optional_names_at, parameters_at, start_at, input_form_at, value_form_at, task_form_at, reactive_form_at, output_at, text_form_at, observe_form_at, named_item_at, worded_item_at, item_at, further_item_at, items_at, read_at}
use Rattle.app_check.specs.declared.error.LoadError.TheVariants as error
use Rattle.app_check.specs.Load.{loaded}
use Rattle.app_check.specs.Example.{sum_shown, sum_shown_app, byte_of_no_token, text_without_end, sign_left_out, name_declared_twice, variable_unbound, argument_left_out, input_read_in_task, later_expression_read, isolate_in_last_part, write_in_expression, third_fold_inside, items_beyond_limit, input_beside_keys, input_isolated_in_cached, keys_of_expression, keys_of_expression_app}

pub sum_is_shown : loaded sum_shown ≡ Ok sum_shown_app
unfolding tokens_of tokens_from piece_of word_piece number_piece text_piece text_from symbol_piece word_of symbol_of utf8_valid_len is_utf8 chars lib.Utf8.encode read_at budget_at items_at turns_of further_item_at item_at worded_item_at named_item_at input_form_at start_at constant_at signed_at value_form_at reactive_form_at keys_at body_at writes_at text_form_at output_at priority_at flag_at name_at symbol_at term_at unary_at term_in operation_at chain_at once_at unary_in atom_at named_at literal_at number_at right_at operator_at input_at special_at worded_at
sum_is_shown = refl

pub bad_byte : loaded byte_of_no_token ≡ Err (error.BadByte 8)
unfolding tokens_of tokens_from piece_of word_piece number_piece text_piece text_from symbol_piece word_of symbol_of utf8_valid_len is_utf8 chars lib.Utf8.encode
bad_byte = refl

pub open_text : loaded text_without_end ≡ Err (error.OpenText 10)
unfolding tokens_of tokens_from piece_of word_piece number_piece text_piece text_from symbol_piece word_of symbol_of utf8_valid_len is_utf8 chars lib.Utf8.encode
open_text = refl

pub unexpected : loaded sign_left_out ≡ Err (error.Unexpected 8)
unfolding tokens_of tokens_from piece_of word_piece number_piece text_piece text_from symbol_piece word_of symbol_of utf8_valid_len is_utf8 chars lib.Utf8.encode read_at budget_at items_at turns_of further_item_at item_at worded_item_at named_item_at input_form_at start_at constant_at signed_at name_at symbol_at
unexpected = refl

pub name_twice : loaded name_declared_twice ≡ Err (error.NameTwice (codes "a") 19)
unfolding tokens_of tokens_from piece_of word_piece number_piece text_piece text_from symbol_piece word_of symbol_of utf8_valid_len is_utf8 chars lib.Utf8.encode read_at budget_at items_at turns_of further_item_at item_at worded_item_at named_item_at input_form_at start_at constant_at signed_at name_at symbol_at number_at
name_twice = refl

pub name_unknown : loaded variable_unbound ≡ Err (error.NameUnknown (codes "x") 9)
unfolding tokens_of tokens_from piece_of word_piece number_piece text_piece text_from symbol_piece word_of symbol_of utf8_valid_len is_utf8 chars lib.Utf8.encode read_at budget_at items_at turns_of further_item_at item_at worded_item_at named_item_at text_form_at output_at priority_at flag_at keys_at body_at writes_at name_at symbol_at term_at unary_at term_in operation_at chain_at once_at unary_in atom_at named_at literal_at number_at
name_unknown = refl

pub arg_count : loaded argument_left_out ≡ Err (error.ArgCount (codes "t") 35)
unfolding tokens_of tokens_from piece_of word_piece number_piece text_piece text_from symbol_piece word_of symbol_of utf8_valid_len is_utf8 chars lib.Utf8.encode read_at budget_at items_at turns_of further_item_at item_at worded_item_at named_item_at task_form_at parameters_at optional_names_at names_at further_name_at observe_form_at priority_at block_at block_in statements_at further_statement_at statement_at write_at deed_at invoke_at sent_at name_at symbol_at term_at unary_at term_in operation_at chain_at once_at unary_in atom_at named_at literal_at number_at optional_at
arg_count = refl

pub read_in_task : loaded input_read_in_task ≡ Err (error.ReadInTask 24)
unfolding tokens_of tokens_from piece_of word_piece number_piece text_piece text_from symbol_piece word_of symbol_of utf8_valid_len is_utf8 chars lib.Utf8.encode read_at budget_at items_at turns_of further_item_at item_at worded_item_at named_item_at input_form_at start_at constant_at signed_at task_form_at parameters_at optional_names_at names_at further_name_at name_at symbol_at term_at unary_at term_in operation_at chain_at once_at unary_in atom_at named_at literal_at number_at special_at worded_at input_at
read_in_task = refl

pub forward_read : loaded later_expression_read ≡ Err (error.ForwardRead (codes "b") 13)
unfolding tokens_of tokens_from piece_of word_piece number_piece text_piece text_from symbol_piece word_of symbol_of utf8_valid_len is_utf8 chars lib.Utf8.encode read_at budget_at items_at turns_of further_item_at item_at worded_item_at named_item_at reactive_form_at keys_at body_at writes_at name_at symbol_at term_at unary_at term_in operation_at chain_at once_at unary_in atom_at named_at literal_at number_at
forward_read = refl

pub isolate_in_fold : loaded isolate_in_last_part ≡ Err (error.IsolateInFold 29)
unfolding tokens_of tokens_from piece_of word_piece number_piece text_piece text_from symbol_piece word_of symbol_of utf8_valid_len is_utf8 chars lib.Utf8.encode read_at budget_at items_at turns_of further_item_at item_at worded_item_at named_item_at text_form_at output_at priority_at flag_at keys_at body_at writes_at name_at symbol_at term_at unary_at term_in operation_at chain_at once_at unary_in atom_at named_at literal_at number_at special_at worded_at fold_at fold_start_at part_at inner_names_at inner_name_at last_part_at call_at optional_at listed_at isolate_at bracketed_at
isolate_in_fold = refl

pub write_in_expr : loaded write_in_expression ≡ Err (error.WriteInExpr 26)
unfolding tokens_of tokens_from piece_of word_piece number_piece text_piece text_from symbol_piece word_of symbol_of utf8_valid_len is_utf8 chars lib.Utf8.encode read_at budget_at items_at turns_of further_item_at item_at worded_item_at named_item_at value_form_at start_at constant_at signed_at further_write_at write_at deed_at set_at assigned_at reactive_form_at keys_at body_at writes_at name_at symbol_at term_at unary_at term_in operation_at chain_at once_at unary_in atom_at named_at literal_at number_at
write_in_expr = refl

pub fold_too_deep : loaded third_fold_inside ≡ Err (error.FoldTooDeep 47)
unfolding tokens_of tokens_from piece_of word_piece number_piece text_piece text_from symbol_piece word_of symbol_of utf8_valid_len is_utf8 chars lib.Utf8.encode read_at budget_at items_at turns_of further_item_at item_at worded_item_at named_item_at text_form_at output_at priority_at flag_at keys_at body_at writes_at name_at symbol_at term_at unary_at term_in operation_at chain_at once_at unary_in atom_at named_at literal_at number_at special_at worded_at fold_at fold_start_at part_at inner_names_at inner_name_at last_part_at call_at optional_at listed_at
fold_too_deep = refl

pub too_many_items : loaded items_beyond_limit ≡ Err (error.TooManyItems 6500)
unfolding tokens_of tokens_from piece_of word_piece number_piece text_piece text_from symbol_piece word_of symbol_of utf8_valid_len is_utf8 chars lib.Utf8.encode read_at budget_at items_at turns_of further_item_at item_at worded_item_at named_item_at input_form_at start_at constant_at signed_at name_at symbol_at number_at digits
too_many_items = refl

pub uncovered : loaded input_beside_keys ≡ Err (error.Uncovered (codes "o") (codes "input$d") 47)
unfolding word_at word_constant_at truth_at further_at choice_at ways_at cache_at tokens_of tokens_from piece_of word_piece number_piece text_piece text_from symbol_piece word_of symbol_of utf8_valid_len is_utf8 chars lib.Utf8.encode read_at budget_at items_at turns_of further_item_at item_at worded_item_at named_item_at input_form_at start_at constant_at signed_at value_form_at reactive_form_at keys_at body_at writes_at text_form_at output_at priority_at flag_at name_at symbol_at term_at unary_at term_in operation_at chain_at once_at unary_in atom_at named_at literal_at number_at right_at operator_at input_at special_at worded_at task_form_at parameters_at optional_names_at names_at further_name_at observe_form_at block_at block_in statements_at further_statement_at statement_at write_at deed_at invoke_at sent_at optional_at fold_at fold_start_at part_at inner_names_at inner_name_at last_part_at call_at listed_at isolate_at bracketed_at further_write_at set_at assigned_at digits
uncovered = refl

pub isolate_in_cached : loaded input_isolated_in_cached ≡ Err (error.IsolateInCached (codes "o") 18)
unfolding word_at word_constant_at truth_at further_at choice_at ways_at cache_at tokens_of tokens_from piece_of word_piece number_piece text_piece text_from symbol_piece word_of symbol_of utf8_valid_len is_utf8 chars lib.Utf8.encode read_at budget_at items_at turns_of further_item_at item_at worded_item_at named_item_at input_form_at start_at constant_at signed_at value_form_at reactive_form_at keys_at body_at writes_at text_form_at output_at priority_at flag_at name_at symbol_at term_at unary_at term_in operation_at chain_at once_at unary_in atom_at named_at literal_at number_at right_at operator_at input_at special_at worded_at task_form_at parameters_at optional_names_at names_at further_name_at observe_form_at block_at block_in statements_at further_statement_at statement_at write_at deed_at invoke_at sent_at optional_at fold_at fold_start_at part_at inner_names_at inner_name_at last_part_at call_at listed_at isolate_at bracketed_at further_write_at set_at assigned_at digits
isolate_in_cached = refl

pub keys_cover : loaded keys_of_expression ≡ Ok keys_of_expression_app
unfolding word_at word_constant_at truth_at further_at choice_at ways_at cache_at tokens_of tokens_from piece_of word_piece number_piece text_piece text_from symbol_piece word_of symbol_of utf8_valid_len is_utf8 chars lib.Utf8.encode read_at budget_at items_at turns_of further_item_at item_at worded_item_at named_item_at input_form_at start_at constant_at signed_at value_form_at reactive_form_at keys_at body_at writes_at text_form_at output_at priority_at flag_at name_at symbol_at term_at unary_at term_in operation_at chain_at once_at unary_in atom_at named_at literal_at number_at right_at operator_at input_at special_at worded_at task_form_at parameters_at optional_names_at names_at further_name_at observe_form_at block_at block_in statements_at further_statement_at statement_at write_at deed_at invoke_at sent_at optional_at fold_at fold_start_at part_at inner_names_at inner_name_at last_part_at call_at listed_at isolate_at bracketed_at further_write_at set_at assigned_at digits
keys_cover = refl

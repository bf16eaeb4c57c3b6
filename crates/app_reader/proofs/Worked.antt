-- Worked examples of the definition, each found by computing.
use Rattle.std.proofs.Common.{◌≡◌, refl, Ok, Err, true, false}
use Rattle.std.specs.Str.{is_utf8, chars}
use Rattle.rx_value.specs.Names.{is_reserved}
use Rattle.app_tree.specs.Fits.{whole_fits, fits}
use Rattle.app_reader.specs.declared.error.ReadError.TheVariants as error
use Rattle.app_reader.specs.State.{word_at, symbol_at, name_at, number_at, text_at, turns_of}
use Rattle.app_reader.specs.Terms.{named_at, literal_at, bracketed_at, group_at, special_at, worded_at, atom_at, unary_in, operator_at, right_at, chain_at, once_at, operation_at, term_in, term_at, unary_at, truth_at, word_term_at, input_at, isolate_at, stop_at, cancels_at, require_at, listed_at, ways_at, choice_at}
use Rattle.app_reader.specs.Constants.{priority_at, budget_at, signed_at, further_number_at, numbers_at, optional_numbers_at, list_at, constant_at, limit_at}
use Rattle.app_reader.specs.Statements.{writes_at, body_at, assigned_at, set_at, deed_at, write_at, do_at, branch_at, statement_at, further_statement_at, statements_at, block_in, block_at}
use Rattle.app_reader.specs.Items.{flag_at, keys_at, start_at, input_form_at, output_at, text_form_at, named_item_at, worded_item_at, item_at, further_item_at, items_at, read_at, flags_at, cache_at, value_form_at, event_form_at, plot_form_at, observe_form_at}
use Rattle.app_reader.specs.Spelling.{canonical_spelling}
use Rattle.app_reader.specs.Spelled.{cached_text_tokens, cached_text, cached_text_spelling, statements_tokens, statements, zeros_tokens, zeros, zeros_spelling, sum_times, compared_twice, to_the_right, sum_of_ones, signs}
use Rattle.app_reader.specs.Example.{input_without_sign, brackets_opened, brackets_closed, grouped_output}

pub input_is_refused : read_at input_without_sign ≡ Err (error.Unexpected 8)
unfolding read_at budget_at items_at turns_of further_item_at item_at worded_item_at named_item_at input_form_at start_at name_at symbol_at
input_is_refused = refl

pub brackets_are_refused : read_at brackets_opened ≡ Err (error.TooDeep 73)
unfolding read_at budget_at items_at turns_of further_item_at item_at worded_item_at named_item_at text_form_at output_at priority_at flag_at keys_at body_at writes_at name_at symbol_at term_at unary_at term_in operation_at chain_at once_at unary_in atom_at group_at bracketed_at
brackets_are_refused = refl

pub brackets_are_read : read_at brackets_closed ≡ Ok grouped_output
unfolding read_at budget_at items_at turns_of further_item_at item_at worded_item_at named_item_at text_form_at output_at priority_at flag_at keys_at body_at writes_at name_at symbol_at term_at unary_at term_in operation_at chain_at once_at unary_in atom_at group_at bracketed_at literal_at number_at
brackets_are_read = refl

-- ---- drafts and their spellings

pub cached_text_fits : fits cached_text ≡ true
cached_text_fits = refl

pub cached_text_is_spelled : canonical_spelling cached_text ≡ cached_text_spelling
cached_text_is_spelled = refl

pub cached_text_is_read : read_at cached_text_tokens ≡ Ok cached_text
unfolding read_at budget_at limit_at items_at turns_of further_item_at item_at worded_item_at named_item_at value_form_at start_at constant_at list_at optional_numbers_at numbers_at further_number_at signed_at text_form_at output_at priority_at flag_at keys_at cache_at listed_at body_at writes_at name_at symbol_at number_at text_at word_at term_at unary_at term_in operation_at chain_at once_at unary_in atom_at named_at literal_at operator_at right_at
cached_text_is_read = refl

pub statements_fit : fits statements ≡ true
unfolding is_reserved
statements_fit = refl

pub statements_are_read : read_at statements_tokens ≡ Ok statements
unfolding read_at budget_at items_at turns_of further_item_at item_at worded_item_at named_item_at event_form_at flags_at flag_at observe_form_at priority_at body_at writes_at block_at block_in statements_at further_statement_at statement_at branch_at do_at write_at deed_at set_at assigned_at name_at symbol_at number_at word_at term_at unary_at term_in operation_at chain_at once_at unary_in atom_at named_at literal_at bracketed_at worded_at special_at input_at isolate_at require_at cancels_at word_term_at truth_at
statements_are_read = refl

pub zeros_fit : fits zeros ≡ true
unfolding is_utf8 chars lib.Utf8.encode
zeros_fit = refl

pub zeros_are_spelled : canonical_spelling zeros ≡ zeros_spelling
zeros_are_spelled = refl

pub zeros_are_read : read_at zeros_tokens ≡ Ok zeros
unfolding read_at budget_at items_at turns_of further_item_at item_at worded_item_at named_item_at input_form_at start_at constant_at signed_at plot_form_at output_at priority_at flag_at keys_at body_at writes_at name_at symbol_at number_at text_at word_at term_at unary_at term_in operation_at choice_at ways_at chain_at once_at unary_in atom_at literal_at bracketed_at worded_at special_at stop_at word_term_at truth_at
zeros_are_read = refl

pub sum_times_no : whole_fits sum_times ≡ false
sum_times_no = refl

pub compared_twice_no : whole_fits compared_twice ≡ false
compared_twice_no = refl

pub to_the_right_no : whole_fits to_the_right ≡ false
to_the_right_no = refl

pub operators_fit : whole_fits (sum_of_ones 64) ≡ true
operators_fit = refl

pub operators_no : whole_fits (sum_of_ones 65) ≡ false
operators_no = refl

pub signs_fit : whole_fits (signs 63) ≡ true
signs_fit = refl

pub signs_no : whole_fits (signs 64) ≡ false
signs_no = refl

-- The grammar of items and of whole app files.
use Rattle.std.specs.Prelude.{Bool, true, false, List, [], ◌∷◌, ◌++◌, Result, Ok}
use Rattle.rx_value.specs.declared.value.Value.{Value}
use Rattle.app_tokens.specs.declared.word.Word.{Word}
use Rattle.app_tokens.specs.declared.word.Word.TheVariants as word
use Rattle.app_tokens.specs.declared.symbol.Symbol.TheVariants as symbol
use Rattle.app_tokens.specs.Tokens.{Tokens}
use Rattle.app_tree.specs.declared.item.Flags.{Flags}
use Rattle.app_tree.specs.declared.draft_term.Name.{Name}
use Rattle.app_tree.specs.DraftTree.{DraftTree, WrittenOutput, WrittenForm, input, value, task, reactive, event, text, plot, observe, on, WrittenItem, DraftShape}
use Rattle.app_tree.specs.DraftView.{draft_trees, draft_acts}
use Rattle.app_reader.specs.declared.error.ReadError.{ReadError}
use Rattle.rx_value.specs.Results.{◌>>=◌, choose}
use Rattle.app_reader.specs.State.{Reads, choose_some, place_of, skip, is_word_next, is_symbol_next, is_name_next, is_more, next_word, unexpected, symbol_at, name_at, while_next}
use Rattle.app_reader.specs.Terms.{whole_term_at, bracketed_at, listed_at}
use Rattle.app_reader.specs.Constants.{constant_at, priority_at, budget_at}
use Rattle.app_reader.specs.Statements.{body_at, whole_block_at}

-- ---- parts of items

-- whether this word stands next; it is taken then
unfoldable pub flag_at : Word → Reads Bool
flag_at w s = choose (is_word_next w s) (λ t. Ok (true, skip t)) (λ t. Ok (false, t)) s

-- [ "ignoreInit" ] [ "allowNull" ]
unfoldable pub flags_at : Reads Flags
flags_at s = do
  init ← flag_at word.IgnoreInit s
  null ← flag_at word.AllowNull init.1
  Ok (record { ignore_init = init.0; allow_null = null.0 }, null.1)

-- "cache" "(" term { "," term } ")"
unfoldable pub cache_at : Reads (List DraftTree)
cache_at s = do
  opening ← symbol_at symbol.Open (skip s)
  all ← listed_at whole_term_at opening.1
  close ← symbol_at symbol.Close all.1
  Ok (all.0, close.1)

-- [ keys ]
unfoldable pub keys_at : Reads (List DraftTree)
keys_at s = choose (is_word_next word.Cache s) cache_at (λ t. Ok ([], t)) s

-- "," NAME, behind the names so far
unfoldable pub further_name_at : List Name × Tokens → Result (List Name × Tokens) ReadError
further_name_at b = name_at (skip b.1) >>= λ n. Ok (b.0 ++ n.0 ∷ [], n.1)

-- NAME { "," NAME }
unfoldable pub names_at : Reads (List Name)
names_at s = do
  first ← name_at s
  while_next (λ b. b.1) (λ b. is_symbol_next symbol.Comma b.1) further_name_at (first.0 ∷ [], first.1)

-- [ NAME { "," NAME } ]
unfoldable pub optional_names_at : Reads (List Name)
optional_names_at s = choose (is_name_next s) names_at (λ t. Ok ([], t)) s

-- "(" [ NAME { "," NAME } ] ")"
unfoldable pub parameters_at : Reads (List Name)
parameters_at s = do
  opening ← symbol_at symbol.Open s
  names ← optional_names_at opening.1
  close ← symbol_at symbol.Close names.1
  Ok (names.0, close.1)

-- ---- items, behind their names

-- "=" const ";"
unfoldable pub start_at : Reads Value
start_at s = do
  assign ← symbol_at symbol.Assign s
  k ← constant_at assign.1
  semicolon ← symbol_at symbol.Semicolon k.1
  Ok (k.0, semicolon.1)

unfoldable pub input_form_at : Reads WrittenForm
input_form_at s = start_at s >>= λ k. Ok (input k.0, k.1)

unfoldable pub value_form_at : Reads WrittenForm
value_form_at s = start_at s >>= λ k. Ok (value k.0, k.1)

-- parameters "{" term "}"
unfoldable pub task_form_at : Reads WrittenForm
task_form_at s = do
  parameters ← parameters_at s
  opening ← symbol_at symbol.OpenBrace parameters.1
  body ← whole_term_at opening.1
  close ← symbol_at symbol.CloseBrace body.1
  Ok (task parameters.0 body.0, close.1)

-- [ keys ] body
unfoldable pub reactive_form_at : Reads WrittenForm
reactive_form_at s = do
  keys ← keys_at s
  body ← body_at keys.1
  Ok (reactive (draft_trees keys.0) body.0, body.1)

-- flags "(" term ")" body
unfoldable pub event_form_at : Reads WrittenForm
event_form_at s = do
  flags ← flags_at s
  e ← bracketed_at whole_term_at flags.1
  body ← body_at e.1
  Ok (event flags.0 e.0 body.0, body.1)

-- [ prio ] [ "whileHidden" ] [ keys ] body
unfoldable pub output_at : Reads WrittenOutput
output_at s = do
  priority ← priority_at s
  hidden ← flag_at word.WhileHidden priority.1
  keys ← keys_at hidden.1
  body ← body_at keys.1
  Ok (record { priority = priority.0; while_hidden = hidden.0; keys = draft_trees keys.0; body = body.0 }, body.1)

unfoldable pub text_form_at : Reads WrittenForm
text_form_at s = output_at s >>= λ o. Ok (text o.0, o.1)

unfoldable pub plot_form_at : Reads WrittenForm
plot_form_at s = output_at s >>= λ o. Ok (plot o.0, o.1)

-- [ prio ] block
unfoldable pub observe_form_at : Reads WrittenForm
observe_form_at s = do
  priority ← priority_at s
  block ← whole_block_at priority.1
  Ok (observe priority.0 (draft_acts block.0), block.1)

-- [ prio ] flags "(" term ")" block
unfoldable pub on_form_at : Reads WrittenForm
on_form_at s = do
  priority ← priority_at s
  flags ← flags_at priority.1
  e ← bracketed_at whole_term_at flags.1
  block ← whole_block_at e.1
  Ok (on priority.0 flags.0 e.0 (draft_acts block.0), block.1)

-- ---- whole items

abbrev pub begins_item : Word → Bool
begins_item word.Input = true
begins_item word.Value = true
begins_item word.Task = true
begins_item word.Reactive = true
begins_item word.Event = true
begins_item word.Text = true
begins_item word.Plot = true
begins_item word.Observe = true
begins_item word.On = true
begins_item _ = false

-- what an item's first word asks for behind the name
abbrev pub form_at : Word → Reads WrittenForm
form_at word.Input = input_form_at
form_at word.Value = value_form_at
form_at word.Task = task_form_at
form_at word.Reactive = reactive_form_at
form_at word.Event = event_form_at
form_at word.Text = text_form_at
form_at word.Plot = plot_form_at
form_at word.Observe = observe_form_at
form_at word.On = on_form_at
form_at _ = unexpected

-- the item's first word, then its name, then what the word asks for
unfoldable pub named_item_at : Word → Reads WrittenItem
named_item_at w s = do
  n ← name_at (skip s)
  form ← form_at w n.1
  Ok (record { place = place_of s; name = n.0; form = form.0 }, form.1)

unfoldable pub worded_item_at : Word → Reads WrittenItem
worded_item_at w s = choose (begins_item w) (named_item_at w) unexpected s

unfoldable pub item_at : Reads WrittenItem
item_at s = choose_some (next_word s) worded_item_at unexpected s

-- an item, behind those so far
unfoldable pub further_item_at : List WrittenItem × Tokens → Result (List WrittenItem × Tokens) ReadError
further_item_at b = item_at b.1 >>= λ i. Ok (b.0 ++ i.0 ∷ [], i.1)

-- { item }, up to the end of the text
unfoldable pub items_at : Reads (List WrittenItem)
items_at s = while_next (λ b. b.1) (λ b. is_more b.1) further_item_at ([], s)

-- the draft that the tokens stand for, or their first refusal
unfoldable pub read_at : Tokens → Result DraftShape ReadError
read_at s = do
  budget ← budget_at s
  items ← items_at budget.1
  Ok (record { budget = budget.0; items = items.0 })

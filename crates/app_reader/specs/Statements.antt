-- The grammar of writes, statements, blocks and bodies.
--
-- Each whole term of a statement has its own levels, however deep its block stands; blocks count for themselves.
use Rattle.std.specs.Prelude.{ℕ, zero, suc, Bool, true, false, List, [], ◌∷◌, ◌++◌, Option, Some, None, Result, Ok}
use Rattle.app_tokens.specs.declared.word.Word.{Word}
use Rattle.app_tokens.specs.declared.word.Word.TheVariants as word
use Rattle.app_tokens.specs.declared.symbol.Symbol.TheVariants as symbol
use Rattle.app_tokens.specs.Tokens.{Tokens}
use Rattle.app_tree.specs.declared.limits.TheConstants.{LEVEL_LIMIT}
use Rattle.app_tree.specs.DraftTree.{DraftTree, DraftDeed, set, invoke, update, freeze, WrittenDeed, DraftAct, write, perform, branch, branch_else, WrittenBody}
use Rattle.app_tree.specs.DraftView.{draft_trees, draft_acts}
use Rattle.app_tree.specs.declared.draft_term.Name.{Name}
use Rattle.app_reader.specs.declared.error.ReadError.{ReadError}
use Rattle.rx_value.specs.Results.{◌>>=◌, choose}
use Rattle.app_reader.specs.State.{Reads, place_of, skip, is_word_next, next_word, unexpected, too_deep, symbol_at, name_at, while_next}
use Rattle.app_reader.specs.Terms.{whole_term_at, bracketed_at, optional_at}

-- ---- writes

-- NAME "=" term ";"
unfoldable pub assigned_at : Reads (Name × DraftTree)
assigned_at s = do
  n ← name_at s
  assign ← symbol_at symbol.Assign n.1
  t ← whole_term_at assign.1
  semicolon ← symbol_at symbol.Semicolon t.1
  Ok ((n.0, t.0), semicolon.1)

-- "set" NAME "=" term ";"
unfoldable pub set_at : Reads DraftDeed
set_at s = assigned_at (skip s) >>= λ a. Ok (set a.0.0 a.0.1, a.1)

-- "update" NAME "=" term ";"
unfoldable pub update_at : Reads DraftDeed
update_at s = assigned_at (skip s) >>= λ a. Ok (update a.0.0 a.0.1, a.1)

-- "(" [ term { "," term } ] ")"
unfoldable pub sent_at : Reads (List DraftTree)
sent_at s = do
  opening ← symbol_at symbol.Open s
  all ← optional_at whole_term_at opening.1
  close ← symbol_at symbol.Close all.1
  Ok (all.0, close.1)

-- "invoke" NAME "(" [ term { "," term } ] ")" ";"
unfoldable pub invoke_at : Reads DraftDeed
invoke_at s = do
  n ← name_at (skip s)
  all ← sent_at n.1
  semicolon ← symbol_at symbol.Semicolon all.1
  Ok (invoke n.0 (draft_trees all.0), semicolon.1)

-- "freeze" NAME ";"
unfoldable pub freeze_at : Reads DraftDeed
freeze_at s = do
  n ← name_at (skip s)
  semicolon ← symbol_at symbol.Semicolon n.1
  Ok (freeze n.0, semicolon.1)

unfoldable pub deed_at : Reads DraftDeed
deed_at s =
    choose (is_word_next word.Set s) set_at
    (choose (is_word_next word.Invoke s) invoke_at
    (choose (is_word_next word.Update s) update_at
    (choose (is_word_next word.Freeze s) freeze_at unexpected))) s

-- a write, with the place of its first word
unfoldable pub write_at : Reads WrittenDeed
write_at s = deed_at s >>= λ d. Ok (record { place = place_of s; deed = d.0 }, d.1)

abbrev pub begins_write : Word → Bool
begins_write word.Set = true
begins_write word.Invoke = true
begins_write word.Update = true
begins_write word.Freeze = true
begins_write _ = false

abbrev pub begins_statement : Word → Bool
begins_statement word.Set = true
begins_statement word.Invoke = true
begins_statement word.Update = true
begins_statement word.Freeze = true
begins_statement word.Do = true
begins_statement word.If = true
begins_statement _ = false

abbrev pub is_word_of : (Word → Bool) → Option Word → Bool
is_word_of test None = false
is_word_of test (Some w) = test w

abbrev pub is_write_next : Tokens → Bool
is_write_next s = is_word_of begins_write (next_word s)

abbrev pub is_statement_next : Tokens → Bool
is_statement_next s = is_word_of begins_statement (next_word s)

-- ---- statements and blocks

-- "do" term ";"
unfoldable pub do_at : Reads DraftAct
do_at s = do
  t ← whole_term_at (skip s)
  semicolon ← symbol_at symbol.Semicolon t.1
  Ok (perform t.0, semicolon.1)

-- "if" "(" term ")" block [ "else" block ], where the blocks are one level deeper
unfoldable pub branch_at : Reads (List DraftAct) → Reads DraftAct
branch_at block s = do
  condition ← bracketed_at whole_term_at (skip s)
  first ← block condition.1
  choose (is_word_next word.Else first.1)
      (λ t. block (skip t) >>= λ other. Ok (branch_else condition.0 (draft_acts first.0) (draft_acts other.0), other.1))
      (λ t. Ok (branch condition.0 (draft_acts first.0), t)) first.1

unfoldable pub statement_at : Reads (List DraftAct) → Reads DraftAct
statement_at block s =
    choose (is_word_next word.Do s) do_at
    (choose (is_word_next word.If s) (branch_at block) (λ t. write_at t >>= λ w. Ok (write w.0, w.1))) s

-- a statement, behind those so far
unfoldable pub further_statement_at : Reads (List DraftAct) → List DraftAct × Tokens → Result (List DraftAct × Tokens) ReadError
further_statement_at block b = statement_at block b.1 >>= λ a. Ok (b.0 ++ a.0 ∷ [], a.1)

-- { statement }
unfoldable pub statements_at : Reads (List DraftAct) → Reads (List DraftAct)
statements_at block s = while_next (λ b. b.1) (λ b. is_statement_next b.1) (further_statement_at block) ([], s)

-- "{" { statement } "}"
unfoldable pub block_in : Reads (List DraftAct) → Reads (List DraftAct)
block_in block s = do
  opening ← symbol_at symbol.OpenBrace s
  all ← statements_at block opening.1
  close ← symbol_at symbol.CloseBrace all.1
  Ok (all.0, close.1)

-- a block with so many levels
unfoldable pub block_at : ℕ → Reads (List DraftAct)
block_at zero s = too_deep s
block_at (suc n) s = block_in (block_at n) s

-- the block of an item
abbrev pub whole_block_at : Reads (List DraftAct)
whole_block_at = block_at LEVEL_LIMIT

-- ---- bodies

-- a write, behind those so far
unfoldable pub further_write_at : List WrittenDeed × Tokens → Result (List WrittenDeed × Tokens) ReadError
further_write_at b = write_at b.1 >>= λ w. Ok (b.0 ++ w.0 ∷ [], w.1)

-- { write }
unfoldable pub writes_at : Reads (List WrittenDeed)
writes_at s = while_next (λ b. b.1) (λ b. is_write_next b.1) further_write_at ([], s)

-- "{" { write } term "}"
unfoldable pub body_at : Reads WrittenBody
body_at s = do
  opening ← symbol_at symbol.OpenBrace s
  writes ← writes_at opening.1
  t ← whole_term_at writes.1
  close ← symbol_at symbol.CloseBrace t.1
  Ok (record { writes = writes.0; term = t.0 }, close.1)

-- How a draft is spelled: the tokens that stand for it, from its budget to its last item.
--
-- A token is told by its kind, a name also by its bytes, and where the draft has a place, also by that place. A draft is
-- spelled in one way but for three choices: a budget of 1,000 may be left out, a priority of 0 may be written, and a
-- zero may have a minus before it.
use Rattle.std.specs.Prelude.{◌≡◌, ℕ, zero, suc, ℤ, pos, negsuc, Bool, true, false, List, [], ◌∷◌, ◌⊎◌, nat_eq, if◌then◌else◌}
use Rattle.rx_value.specs.declared.value.Value.{Value}
use Rattle.rx_value.specs.declared.value.Value.TheVariants as v
use Rattle.rx_value.specs.declared.operator.BinOp.{BinOp}
use Rattle.rx_value.specs.declared.operator.BinOp.TheVariants as bin
use Rattle.rx_value.specs.declared.operator.UnOp.{UnOp}
use Rattle.rx_value.specs.declared.operator.UnOp.TheVariants as un
use Rattle.rx_value.specs.declared.function.Fun.{Fun}
use Rattle.rx_value.specs.declared.function.Fun.TheVariants as fun
use Rattle.rx_value.specs.declared.plot.Plot.{Plot}
use Rattle.rx_value.specs.declared.plot.Plot.TheVariants as drawn
use Rattle.app_tokens.specs.declared.token.Token.{Token}
use Rattle.app_tokens.specs.declared.token.Kind.{Kind}
use Rattle.app_tokens.specs.declared.token.Kind.TheVariants as kind
use Rattle.app_tokens.specs.declared.word.Word.{Word}
use Rattle.app_tokens.specs.declared.word.Word.TheVariants as word
use Rattle.app_tokens.specs.declared.symbol.Symbol.{Symbol}
use Rattle.app_tokens.specs.declared.symbol.Symbol.TheVariants as symbol
use Rattle.app_tree.specs.declared.limits.TheConstants.{BUDGET_DEFAULT}
use Rattle.app_tree.specs.declared.item.Flags.{Flags}
use Rattle.app_tree.specs.declared.term.Operator.{Operator}
use Rattle.app_tree.specs.declared.term.Operator.TheVariants as operator
use Rattle.app_tree.specs.declared.term.Function.{Function}
use Rattle.app_tree.specs.declared.term.Function.TheVariants as function
use Rattle.app_tree.specs.declared.draft_term.Name.{Name}
use Rattle.app_tree.specs.declared.draft_term.ReadForm.{ReadForm}
use Rattle.app_tree.specs.declared.draft_term.ReadForm.TheVariants as form
use Rattle.app_tree.specs.DraftTree.{DraftTree, constant, group, read, variable, isolate, stop, require, fold, unary, binary, choice, call, DraftTrees, no_trees, tree, DraftDeed, set, invoke, update, freeze, WrittenDeed, DraftAct, write, perform, branch, branch_else, DraftActs, no_acts, act, WrittenBody, WrittenOutput, WrittenForm, input, value, task, reactive, event, text, plot, observe, on, WrittenItem, DraftShape}

-- ---- tokens that are wanted

-- what a token has to be: of this kind; of this kind and at this place; this name, where it stands; or this name as the
-- first token of a read at this place
pub data Wanted : Type 0 where
  of_kind : Kind → Wanted
  at_place : Kind → ℕ → Wanted
  named : Name → Wanted
  called : ℕ → Name → Wanted

pub record IsNamed (n : Name) (t : Token) : Type 0 where
  pub is_name : t.kind ≡ kind.Name
  pub is_spelled : t.spelling ≡ n.text
  pub is_there : t.place ≡ n.place

abbrev pub IsWanted : Wanted → Token → Type 0
IsWanted (of_kind k) t = t.kind ≡ k
IsWanted (at_place k place) t = (t.kind ≡ k) × (t.place ≡ place)
IsWanted (named n) t = IsNamed n t
IsWanted (called place n) t = IsNamed n t × (t.place ≡ place)

-- what tokens have to be, one after the other to the last; where there is a choice, they may go either way
pub data Wording : Type 0 where
  ends : Wording
  next : Wanted → Wording → Wording
  either : Wording → Wording → Wording

-- the tokens are these, by some way through the choices
abbrev pub IsSpelledBy : Wording → List Token → Type 0
IsSpelledBy ends [] = Unit {0}
IsSpelledBy ends (t ∷ ts) = ⊥
IsSpelledBy (next w more) [] = ⊥
IsSpelledBy (next w more) (t ∷ ts) = IsWanted w t × IsSpelledBy more ts
IsSpelledBy (either one other) ts = IsSpelledBy one ts ⊎ IsSpelledBy other ts

-- the tokens by the first way of each choice
abbrev pub first_way : Wording → List Wanted
first_way ends = []
first_way (next w more) = w ∷ first_way more
first_way (either one other) = first_way one

abbrev pub AreWanted : List Wanted → List Token → Type 0
AreWanted [] [] = Unit {0}
AreWanted [] (t ∷ ts) = ⊥
AreWanted (w ∷ ws) [] = ⊥
AreWanted (w ∷ ws) (t ∷ ts) = IsWanted w t × AreWanted ws ts

-- ---- single tokens, each before the rest

abbrev pub a_word : Word → Wording → Wording
a_word w rest = next (of_kind (kind.Word w)) rest

abbrev pub a_word_at : Word → ℕ → Wording → Wording
a_word_at w place rest = next (at_place (kind.Word w) place) rest

abbrev pub a_symbol : Symbol → Wording → Wording
a_symbol x rest = next (of_kind (kind.Symbol x)) rest

abbrev pub a_number : ℕ → Wording → Wording
a_number n rest = next (of_kind (kind.Number n)) rest

abbrev pub a_name : Name → Wording → Wording
a_name n rest = next (named n) rest

-- ---- words and symbols

abbrev pub strict_symbol : BinOp → Symbol
strict_symbol bin.Add = symbol.Plus
strict_symbol bin.Subtract = symbol.Minus
strict_symbol bin.Multiply = symbol.Star
strict_symbol bin.Divide = symbol.Quotient
strict_symbol bin.Modulo = symbol.Remainder
strict_symbol bin.Equal = symbol.Equal
strict_symbol bin.NotEqual = symbol.NotEqual
strict_symbol bin.Less = symbol.Less
strict_symbol bin.LessOrEqual = symbol.AtMost
strict_symbol bin.Greater = symbol.Greater
strict_symbol bin.GreaterOrEqual = symbol.AtLeast

abbrev pub operator_symbol : Operator → Symbol
operator_symbol operator.Or = symbol.Or
operator_symbol operator.And = symbol.And
operator_symbol (operator.Strict op) = strict_symbol op

abbrev pub sign_symbol : UnOp → Symbol
sign_symbol un.Negate = symbol.Minus
sign_symbol un.Not = symbol.Not

abbrev pub fun_word : Fun → Word
fun_word fun.C = word.C
fun_word fun.Paste0 = word.Paste0
fun_word fun.Length = word.Length
fun_word fun.Nchar = word.Nchar
fun_word fun.Item = word.Item
fun_word fun.Sum = word.Sum
fun_word fun.Min = word.Min
fun_word fun.Max = word.Max
fun_word fun.Seq = word.Seq
fun_word fun.IsNull = word.IsNull
fun_word fun.AsInt = word.AsInt

abbrev pub plot_word : Plot → Word
plot_word drawn.Bars = word.Bars
plot_word drawn.Lines = word.Lines
plot_word drawn.Points = word.Points

abbrev pub function_word : Function → Word
function_word (function.Fun f) = fun_word f
function_word (function.Plot p) = plot_word p

-- ---- terms, each before the rest

-- a constant of a term is one token: a number with a sign and a list are terms of another form
abbrev pub literal_kind : Value → Kind
literal_kind v.Null = kind.Word word.Null
literal_kind (v.Bool true) = kind.Word word.True
literal_kind (v.Bool false) = kind.Word word.False
literal_kind (v.Int (pos n)) = kind.Number n
literal_kind (v.Int (negsuc n)) = kind.Number (suc n)
literal_kind (v.Text bytes) = kind.Text bytes
literal_kind (v.Ints numbers) = kind.Word word.C

-- WORD "(" NAME ")"
abbrev pub spell_named : Word → ℕ → Name → Wording → Wording
spell_named w place n rest = a_word_at w place (a_symbol symbol.Open (a_name n (a_symbol symbol.Close rest)))

-- "input" "$" NAME; NAME "(" ")"; or a word and a name in brackets
abbrev pub spell_read : ReadForm → ℕ → Name → Wording → Wording
spell_read form.Input place n rest = a_word_at word.Input place (a_symbol symbol.Dollar (a_name n rest))
spell_read form.Named place n rest = next (called place n) (a_symbol symbol.Open (a_symbol symbol.Close rest))
spell_read form.Status place n rest = spell_named word.Status place n rest
spell_read form.Result place n rest = spell_named word.Result place n rest
spell_read form.Width place n rest = spell_named word.Width place n rest
spell_read form.Height place n rest = spell_named word.Height place n rest

-- "," "cancelOutput", or nothing
abbrev pub spell_cancels : Bool → Wording → Wording
spell_cancels true rest = a_symbol symbol.Comma (a_word word.CancelOutput rest)
spell_cancels false rest = rest

-- a list of terms has a comma between each two
abbrev mutual
  pub spell_term : DraftTree → Wording → Wording
  spell_term (constant k) rest = next (of_kind (literal_kind k)) rest
  spell_term (group t) rest = a_symbol symbol.Open (spell_term t (a_symbol symbol.Close rest))
  spell_term (read form place n) rest = spell_read form place n rest
  spell_term (variable n) rest = a_name n rest
  spell_term (isolate place t) rest =
      a_word_at word.Isolate place (a_symbol symbol.Open (spell_term t (a_symbol symbol.Close rest)))
  spell_term (stop t) rest = a_word word.Stop (a_symbol symbol.Open (spell_term t (a_symbol symbol.Close rest)))
  spell_term (require t cancels) rest =
      a_word word.Req (a_symbol symbol.Open (spell_term t (spell_cancels cancels (a_symbol symbol.Close rest))))
  spell_term (fold place list start accumulator element body) rest =
      a_word_at word.Fold place (a_symbol symbol.Open
      (spell_term list (a_symbol symbol.Comma
      (spell_term start (a_symbol symbol.Comma
      (a_name accumulator (a_symbol symbol.Comma
      (a_name element (a_symbol symbol.Comma
      (spell_term body (a_symbol symbol.Close rest)))))))))))
  spell_term (unary op t) rest = a_symbol (sign_symbol op) (spell_term t rest)
  spell_term (binary op left right) rest = spell_term left (a_symbol (operator_symbol op) (spell_term right rest))
  spell_term (choice condition chosen otherwise) rest =
      a_word word.If (a_symbol symbol.Open (spell_term condition (a_symbol symbol.Close
      (spell_term chosen (a_word word.Else (spell_term otherwise rest))))))
  spell_term (call f ts) rest = a_word (function_word f) (a_symbol symbol.Open (spell_terms ts (a_symbol symbol.Close rest)))

  pub spell_terms : DraftTrees → Wording → Wording
  spell_terms no_trees rest = rest
  spell_terms (tree t ts) rest = spell_term t (spell_more ts rest)

  pub spell_more : DraftTrees → Wording → Wording
  spell_more no_trees rest = rest
  spell_more (tree t ts) rest = a_symbol symbol.Comma (spell_term t (spell_more ts rest))

-- ---- constants, priorities and the budget

-- a number with its sign; a zero may have a minus before it
abbrev pub spell_number : ℤ → Wording → Wording
spell_number (pos zero) rest = either (a_number 0 rest) (a_symbol symbol.Minus (a_number 0 rest))
spell_number (pos (suc n)) rest = a_number (suc n) rest
spell_number (negsuc n) rest = a_symbol symbol.Minus (a_number (suc n) rest)

abbrev pub spell_more_numbers : List ℤ → Wording → Wording
spell_more_numbers [] rest = rest
spell_more_numbers (z ∷ zs) rest = a_symbol symbol.Comma (spell_number z (spell_more_numbers zs rest))

abbrev pub spell_numbers : List ℤ → Wording → Wording
spell_numbers [] rest = rest
spell_numbers (z ∷ zs) rest = spell_number z (spell_more_numbers zs rest)

abbrev pub spell_constant : Value → Wording → Wording
spell_constant v.Null rest = a_word word.Null rest
spell_constant (v.Bool true) rest = a_word word.True rest
spell_constant (v.Bool false) rest = a_word word.False rest
spell_constant (v.Int z) rest = spell_number z rest
spell_constant (v.Text bytes) rest = next (of_kind (kind.Text bytes)) rest
spell_constant (v.Ints zs) rest = a_word word.C (a_symbol symbol.Open (spell_numbers zs (a_symbol symbol.Close rest)))

abbrev pub written_priority : ℤ → Wording → Wording
written_priority z rest = a_word word.Priority (spell_number z rest)

-- a priority of 0 may be left out
abbrev pub spell_priority : ℤ → Wording → Wording
spell_priority (pos zero) rest = either rest (written_priority (pos 0) rest)
spell_priority (pos (suc n)) rest = written_priority (pos (suc n)) rest
spell_priority (negsuc n) rest = written_priority (negsuc n) rest

abbrev pub written_budget : ℕ → Wording → Wording
written_budget n rest = a_word word.Budget (a_number n (a_symbol symbol.Semicolon rest))

-- a budget of 1,000 may be left out
abbrev pub spell_budget : ℕ → Wording → Wording
spell_budget n rest = if nat_eq n BUDGET_DEFAULT then either (written_budget n rest) rest else written_budget n rest

-- ---- writes and statements

abbrev pub deed_word : DraftDeed → Word
deed_word (set n t) = word.Set
deed_word (invoke n ts) = word.Invoke
deed_word (update n t) = word.Update
deed_word (freeze n) = word.Freeze

-- NAME "=" term ";"
abbrev pub spell_assigned : Name → DraftTree → Wording → Wording
spell_assigned n t rest = a_name n (a_symbol symbol.Assign (spell_term t (a_symbol symbol.Semicolon rest)))

-- what stands behind the first word of a write
abbrev pub spell_deed : DraftDeed → Wording → Wording
spell_deed (set n t) rest = spell_assigned n t rest
spell_deed (invoke n ts) rest =
    a_name n (a_symbol symbol.Open (spell_terms ts (a_symbol symbol.Close (a_symbol symbol.Semicolon rest))))
spell_deed (update n t) rest = spell_assigned n t rest
spell_deed (freeze n) rest = a_name n (a_symbol symbol.Semicolon rest)

abbrev pub spell_write : WrittenDeed → Wording → Wording
spell_write w rest = a_word_at (deed_word w.deed) w.place (spell_deed w.deed rest)

abbrev pub spell_writes : List WrittenDeed → Wording → Wording
spell_writes [] rest = rest
spell_writes (w ∷ ws) rest = spell_write w (spell_writes ws rest)

-- "if" "(" term ")"
abbrev pub spell_condition : DraftTree → Wording → Wording
spell_condition t rest = a_word word.If (a_symbol symbol.Open (spell_term t (a_symbol symbol.Close rest)))

-- the blocks of an `if` statement stand in braces
abbrev mutual
  pub spell_act : DraftAct → Wording → Wording
  spell_act (write w) rest = spell_write w rest
  spell_act (perform t) rest = a_word word.Do (spell_term t (a_symbol symbol.Semicolon rest))
  spell_act (branch t block) rest =
      spell_condition t (a_symbol symbol.OpenBrace (spell_acts block (a_symbol symbol.CloseBrace rest)))
  spell_act (branch_else t block other) rest =
      spell_condition t (a_symbol symbol.OpenBrace (spell_acts block (a_symbol symbol.CloseBrace
      (a_word word.Else (a_symbol symbol.OpenBrace (spell_acts other (a_symbol symbol.CloseBrace rest)))))))

  pub spell_acts : DraftActs → Wording → Wording
  spell_acts no_acts rest = rest
  spell_acts (act a more) rest = spell_act a (spell_acts more rest)

abbrev pub spell_block : DraftActs → Wording → Wording
spell_block block rest = a_symbol symbol.OpenBrace (spell_acts block (a_symbol symbol.CloseBrace rest))

abbrev pub spell_body : WrittenBody → Wording → Wording
spell_body body rest =
    a_symbol symbol.OpenBrace (spell_writes body.writes (spell_term body.term (a_symbol symbol.CloseBrace rest)))

-- ---- items

abbrev pub spell_flag : Word → Bool → Wording → Wording
spell_flag w true rest = a_word w rest
spell_flag w false rest = rest

abbrev pub spell_flags : Flags → Wording → Wording
spell_flags flags rest = spell_flag word.IgnoreInit flags.ignore_init (spell_flag word.AllowNull flags.allow_null rest)

-- an item without keys is not cached
abbrev pub spell_keys : DraftTrees → Wording → Wording
spell_keys no_trees rest = rest
spell_keys (tree t ts) rest =
    a_word word.Cache (a_symbol symbol.Open (spell_terms (tree t ts) (a_symbol symbol.Close rest)))

abbrev pub spell_more_names : List Name → Wording → Wording
spell_more_names [] rest = rest
spell_more_names (n ∷ ns) rest = a_symbol symbol.Comma (a_name n (spell_more_names ns rest))

abbrev pub spell_names : List Name → Wording → Wording
spell_names [] rest = rest
spell_names (n ∷ ns) rest = a_name n (spell_more_names ns rest)

-- "(" term ")"
abbrev pub spell_bracketed : DraftTree → Wording → Wording
spell_bracketed t rest = a_symbol symbol.Open (spell_term t (a_symbol symbol.Close rest))

-- "=" const ";"
abbrev pub spell_start : Value → Wording → Wording
spell_start k rest = a_symbol symbol.Assign (spell_constant k (a_symbol symbol.Semicolon rest))

abbrev pub spell_output : WrittenOutput → Wording → Wording
spell_output output rest =
    spell_priority output.priority (spell_flag word.WhileHidden output.while_hidden
    (spell_keys output.keys (spell_body output.body rest)))

abbrev pub form_word : WrittenForm → Word
form_word (input start) = word.Input
form_word (value start) = word.Value
form_word (task parameters body) = word.Task
form_word (reactive keys body) = word.Reactive
form_word (event flags e body) = word.Event
form_word (text output) = word.Text
form_word (plot output) = word.Plot
form_word (observe priority block) = word.Observe
form_word (on priority flags e block) = word.On

-- what stands behind the name of an item
abbrev pub spell_form : WrittenForm → Wording → Wording
spell_form (input start) rest = spell_start start rest
spell_form (value start) rest = spell_start start rest
spell_form (task parameters body) rest =
    a_symbol symbol.Open (spell_names parameters (a_symbol symbol.Close
    (a_symbol symbol.OpenBrace (spell_term body (a_symbol symbol.CloseBrace rest)))))
spell_form (reactive keys body) rest = spell_keys keys (spell_body body rest)
spell_form (event flags e body) rest = spell_flags flags (spell_bracketed e (spell_body body rest))
spell_form (text output) rest = spell_output output rest
spell_form (plot output) rest = spell_output output rest
spell_form (observe priority block) rest = spell_priority priority (spell_block block rest)
spell_form (on priority flags e block) rest =
    spell_priority priority (spell_flags flags (spell_bracketed e (spell_block block rest)))

abbrev pub spell_item : WrittenItem → Wording → Wording
spell_item item rest = a_word_at (form_word item.form) item.place (a_name item.name (spell_form item.form rest))

abbrev pub spell_items : List WrittenItem → Wording → Wording
spell_items [] rest = rest
spell_items (item ∷ items) rest = spell_item item (spell_items items rest)

-- ---- drafts

-- every way to spell a draft
abbrev pub spelling : DraftShape → Wording
spelling draft = spell_budget draft.budget (spell_items draft.items ends)

-- the tokens are a spelling of the draft
abbrev pub SpellsDraft : DraftShape → List Token → Type 0
SpellsDraft draft tokens = IsSpelledBy (spelling draft) tokens

-- the one that is printed: the budget is written, a priority where it isn't 0, and no zero has a sign
abbrev pub canonical_spelling : DraftShape → List Wanted
canonical_spelling draft = first_way (spelling draft)
